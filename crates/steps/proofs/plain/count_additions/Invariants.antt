use Rattle.std.proofs.Common.{◌≡◌}
use Rattle.steps.specs.Work.{many_additions}
use Rattle.steps.proofs.plain.count_additions.Given as goal

abbrev pub invariant-loop : goal.invariant-loop
invariant-loop l = l.counted ≡ many_additions l.counter l.initial.counted
