use Rattle.std.proofs.Common.{◌≡◌, ◌-◌, ◌≤◌, length}
use Rattle.inputs.specs.Draws.{first_draw}
use Rattle.inputs.proofs.draw.Draw.from_stream.Given as goal

abbrev pub invariant-loop-bytes : goal.invariant-loop-bytes
invariant-loop-bytes g l =
    (l.initial.stream.mark ≤ l.stream.mark)
    × (l.stream.bytes.now ≡ l.initial.stream.bytes.now)
    × (first_draw (g.R.SignRule.rule l.rule) l.sizes l.initial.stream.bytes.now l.initial.stream.mark
    ≡ first_draw (g.R.SignRule.rule l.rule) l.sizes l.initial.stream.bytes.now l.stream.mark)

abbrev pub decreases-loop-bytes : goal.decreases-loop-bytes
decreases-loop-bytes g l = length l.stream.bytes.now - l.stream.mark
