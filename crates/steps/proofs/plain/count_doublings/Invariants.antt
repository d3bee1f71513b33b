use Rattle.std.proofs.Common.{◌≡◌}
use Rattle.steps.specs.Work.{many_doublings}
use Rattle.steps.proofs.plain.count_doublings.Given as goal

abbrev pub invariant-loop : goal.invariant-loop
invariant-loop l = l.counted ≡ many_doublings l.counter l.initial.counted
