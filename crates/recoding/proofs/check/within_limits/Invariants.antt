use Rattle.std.proofs.Common.{map, take}
use Rattle.recoding.specs.Codings.{Within}
use Rattle.recoding.specs.Digits.{decoded}
use Rattle.recoding.proofs.check.within_limits.Given as goal

abbrev pub invariant-loop-word : goal.invariant-loop-word
invariant-loop-word l = Within l.lo l.hi (map decoded (take l.word-index l.words))
