use Rattle.std.proofs.Common.{◌≡◌}
use Rattle.steps.specs.Work.{many_rounds}
use Rattle.steps.proofs.plain.count_rounds.Given as goal

abbrev pub invariant-loop : goal.invariant-loop
invariant-loop l = l.counted ≡ many_rounds l.counter l.doublings l.initial.counted
