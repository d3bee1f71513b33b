use Rattle.std.proofs.Common.{◌≡◌}
use Rattle.steps.specs.Operations.{doublings}
use Rattle.steps.specs.Work.{many_doublings}
use Rattle.multiplier.proofs.operations.double_times.Given as goal

abbrev pub invariant-loop : goal.invariant-loop
invariant-loop g l =
    let d = g.D.GroupDevice in
    (l.result ≡ doublings (d.group l.initial.device) l.counter l.initial.result)
    × (d.group l.device ≡ d.group l.initial.device)
    × (d.tally l.device ≡ many_doublings l.counter (d.tally l.initial.device))
