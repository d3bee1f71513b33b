-- The text of a refusal, and lines of a text. Assumes nothing.
use Rattle.std.specs.Prelude.{ℕ, ◌-◌, cond, List, [], length, take, Some, None, Option, ◌==◌, slice_index}
pub use Rattle.common.specs.Refusals.{refusal_text}

-- what comes behind a line, nothing where it is the last one
abbrev pub or_none : Option (List ℕ) → List ℕ
or_none None = []
or_none (Some rest) = rest

-- a line without one carriage return at its end
abbrev pub trimmed : List ℕ → List ℕ
trimmed line = cond (slice_index line (length line - 1) == 13) (take (length line - 1) line) line
