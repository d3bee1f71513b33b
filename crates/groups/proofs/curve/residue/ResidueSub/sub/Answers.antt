use Rattle.std.proofs.Common.{◌∙◌}
use Rattle.groups.proofs.Inverses.{minus_reduced}
use Rattle.groups.proofs.curve.residue.ResidueSub.sub.Goals as goal

pub returns : goal.returns
returns c = c.of.ensures ∙ minus_reduced c.args.self.value c.args.other.value c.args.self.reduced c.args.other.reduced
