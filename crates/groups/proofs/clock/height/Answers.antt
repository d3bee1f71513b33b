use Rattle.groups.specs.Clockwork.{one_division}
use Rattle.groups.proofs.clock.height.Goals as goal

pub returns : goal.returns
returns c = let y = one_division c.args.n.value c.args.p c.args.q c.requires.second in cc
