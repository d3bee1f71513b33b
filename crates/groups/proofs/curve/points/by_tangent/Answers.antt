use Rattle.groups.proofs.Inverses.{slope}
use Rattle.groups.proofs.curve.points.by_tangent.Goals as goal

pub returns : goal.returns
returns c = let s = slope c.args.x.value c.args.y.value c.args.x.reduced c.args.y.reduced in cc
