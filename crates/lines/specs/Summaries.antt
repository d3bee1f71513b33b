-- Counting lines by what became of them, and the text of the counts.
use Rattle.std.specs.Prelude.{ℕ, ◌+◌, ◌-◌, ◌^◌, min, List, ◌++◌, codes, decimal}
use Rattle.lines.specs.declared.summary.Kind.{Kind}
use Rattle.lines.specs.declared.summary.Kind.TheVariants.{Done, Refused, Unreadable}
use Rattle.lines.specs.declared.summary.Summary.{Summary}

-- one more, at most the greatest number of 64 bits
abbrev pub more : ℕ → ℕ
more n = min (n + 1) (2 ^ 64 - 1)

-- one line more of a kind
abbrev pub counted : Summary → Kind → Summary
counted s Done = record { done = more s.done; refused = s.refused; unreadable = s.unreadable }
counted s Refused = record { done = s.done; refused = more s.refused; unreadable = s.unreadable }
counted s Unreadable = record { done = s.done; refused = s.refused; unreadable = more s.unreadable }

-- the counts as a line, the first with the words for what was done
abbrev pub counts_text : (words : List ℕ) → (done refused unreadable : ℕ) → List ℕ
counts_text words done refused unreadable = decimal done ++ words ++ decimal refused ++ codes " refused, " ++ decimal unreadable ++ codes " unreadable\n"
