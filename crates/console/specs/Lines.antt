-- The text of an answer, byte by byte, and which text answers a line.
use Rattle.std.specs.Prelude.{◌≡◌, ℕ, Bool, true, false, List, ◌++◌, ℤ, Some, None, Ok, Err, vec_items, codes, decimal, Option, flat_map}
use Rattle.std.specs.Fmt.{signed_decimal}
use Rattle.common.specs.Refusals.{refusal_text}
use Rattle.console.specs.declared.answer.Recoding.{Recoding}
use Rattle.console.specs.Answers.{Answer, Answered}
use Rattle.console.specs.Requests.{Asked, requested}
use Rattle.lines.specs.declared.summary.Kind.{Kind}
use Rattle.lines.specs.declared.summary.Kind.TheVariants as kinds
use Rattle.lines.specs.Lines.{trimmed}

-- each word behind a space
abbrev pub spaced : List ℤ → List ℕ
spaced ws = flat_map (λ w. codes " " ++ signed_decimal w) ws

-- the check's verdict
abbrev pub verdict_text : Bool → List ℕ
verdict_text true = codes " yes"
verdict_text false = codes " no"

-- "ok", the draw, the correction, the words from word 0 up, and the verdict
abbrev pub recoding_text : Recoding → List ℕ
recoding_text c = codes "ok " ++ decimal c.draw ++ codes " " ++ signed_decimal c.correction ++ spaced (vec_items c.words) ++ verdict_text c.verdict

-- the text of an answer
abbrev pub answer_text : Answer → List ℕ
answer_text (Ok c) = recoding_text c
answer_text (Err e) = refusal_text e

-- how an answer is counted
abbrev pub kind_of : Answer → Kind
kind_of (Ok c) = kinds.Done
kind_of (Err e) = kinds.Refused

-- a line that can't be read is said to be so; one that can is answered by its answer's text
abbrev pub Said : Option Asked → Kind → List ℕ → List ℕ → Type 0
Said None kind before after = (kind ≡ kinds.Unreadable) × (after ≡ before ++ codes "unreadable\n")
Said (Some q) kind before after = (a : Answer) × (Answered q a) × (kind ≡ kind_of a) × (after ≡ before ++ answer_text a ++ codes "\n")

-- what a line, as it stands in the input, adds to the output, and how it is counted
abbrev pub LineAnswered : List ℕ → List ℕ → List ℕ → Kind → Type 0
LineAnswered line before after kind = Said (requested (trimmed line)) kind before after
