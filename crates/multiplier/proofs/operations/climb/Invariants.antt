use Rattle.std.proofs.Common.{◌≡◌, ◌-◌, ◌/◌, ◌^◌}
use Rattle.steps.specs.Operations.{climbed}
use Rattle.steps.specs.Work.{many_rounds}
use Rattle.multiplier.proofs.operations.climb.Given as goal

abbrev pub invariant-loop-i : goal.invariant-loop-i
invariant-loop-i g l =
    let d = g.D.GroupDevice in
    (l.result ≡ climbed (d.group l.initial.device) l.base (l.bits - l.i) (l.s / 2 ^ l.i))
    × (d.group l.device ≡ d.group l.initial.device)
    × (d.tally l.device ≡ many_rounds (l.bits - l.i) 1 (d.tally l.initial.device))
