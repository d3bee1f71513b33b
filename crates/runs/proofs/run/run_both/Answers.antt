use Rattle.multiplier.proofs.Lawfully.{both_alike}
use Rattle.runs.proofs.run.run_both.Goals as goal

pub returns-clause-alike : goal.returns-clause-alike
returns-clause-alike g c = let each = c.run_each.ensures in both_alike _ _ _ _ _ _ _ _ each.first.lawful each.second.lawful
