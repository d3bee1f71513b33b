-- What a program prints: the answers to the lines of its input, one after another, and then the counts. Assumes nothing.
use Rattle.std.specs.Prelude.{◌≡◌, ℕ, cond, List, [], ◌∷◌, ◌++◌, ◌==◌}
use Rattle.lines.specs.declared.summary.Kind.{Kind}
use Rattle.lines.specs.declared.summary.Summary.{Summary}
use Rattle.lines.specs.Summaries.{counted, counts_text}

-- a byte more at the beginning of the first line
abbrev pub before_lines : ℕ → List (List ℕ) → List (List ℕ)
before_lines c [] = (c ∷ []) ∷ []
before_lines c (line ∷ lines) = (c ∷ line) ∷ lines

-- the lines of a text, without their line feeds; behind the last line feed there is a line only where a byte is
unfoldable pub lines_of : List ℕ → List (List ℕ)
lines_of [] = []
lines_of (c ∷ cs) = cond (c == 10) ([] ∷ lines_of cs) (before_lines c (lines_of cs))

-- nothing done
abbrev pub none_done : Summary
none_done = record { done = 0; refused = 0; unreadable = 0 }

module _ (answers : List ℕ → List ℕ → Kind → Type 0) where
  -- the lines' answers, one after another, and the counts from a start on
  abbrev pub AllAnswered : List (List ℕ) → Summary → List ℕ → Summary → Type 0
  AllAnswered [] start said last = (said ≡ []) × (last ≡ start)
  AllAnswered (line ∷ lines) start said last =
      (first : List ℕ) × (kind : Kind) × (others : List ℕ) × answers line first kind × (said ≡ first ++ others) × AllAnswered lines (counted start kind) others last

  -- all that is printed for a text
  abbrev pub Printed : (words text said : List ℕ) → Type 0
  Printed words text said =
      (answered : List ℕ) × (last : Summary) × AllAnswered (lines_of text) none_done answered last × (said ≡ answered ++ counts_text words last.done last.refused last.unreadable)
