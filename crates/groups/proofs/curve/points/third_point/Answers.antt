use Rattle.std.proofs.Common.{◌+◌, ◌*◌}
use Rattle.groups.specs.Residues.{minus}
use Rattle.groups.proofs.Inverses.{minus_left, minus_rests}
use Rattle.groups.proofs.curve.points.third_point.Goals as goal

pub returns : goal.returns
returns c =
    let k = c.args.slope.value in
    let x = minus_rests (k * k) (c.args.x1.value + c.args.x2.value) in
    let y = minus_left (k * minus 11 c.args.x1.value c.sub-x.result.value) c.args.y1.value in
    cc
