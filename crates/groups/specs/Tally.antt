-- The tally at set-up, and after each operation that is counted, and its text. Assumes nothing.
use Rattle.std.specs.Prelude.{ℕ, ◌+◌, ◌*◌, ◌%◌, ◌^◌, List, ◌++◌, codes, decimal}
use Rattle.groups.specs.declared.tally.Tally.{Tally}

-- nothing is counted yet
abbrev pub zero_tally : Tally
zero_tally = record { doublings = 0; additions = 0; trace = 0 }

-- an addition: one more of them modulo 2^64, and the trace is shifted left by one with 1 lowest
abbrev pub one_addition : Tally → Tally
one_addition t = record { doublings = t.doublings; additions = (t.additions + 1) % 2 ^ 64; trace = (2 * t.trace + 1) % 2 ^ 64 }

-- a doubling: one more of them modulo 2^64, and the trace is shifted left by one with 0 lowest
abbrev pub one_doubling : Tally → Tally
one_doubling t = record { doublings = (t.doublings + 1) % 2 ^ 64; additions = t.additions; trace = (2 * t.trace) % 2 ^ 64 }

-- doublings, additions and trace in decimal, with single spaces between them
abbrev pub tally_text : Tally → List ℕ
tally_text t = decimal t.doublings ++ codes " " ++ decimal t.additions ++ codes " " ++ decimal t.trace
