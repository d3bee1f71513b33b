use Rattle.groups.specs.Points.{thirteen_points}
use Rattle.groups.proofs.curve.Curve.members.Goals as goal

pub returns : goal.returns
returns c = rw c.all_points.ensures thirteen_points
