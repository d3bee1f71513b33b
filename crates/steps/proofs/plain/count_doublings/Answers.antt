use Rattle.std.proofs.Common.{add-one, rules}
use Rattle.steps.proofs.plain.count_doublings.Goals as goal

pub loop-preserved : goal.loop-preserved
loop-preserved c = rw add-one (search rules)
