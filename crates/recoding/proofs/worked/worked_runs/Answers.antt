use Rattle.recoding.proofs.Runs.{worked_runs_lem}
use Rattle.recoding.proofs.worked.worked_runs.Goals as goal

pub returns : goal.returns
returns c = record { hold = worked_runs_lem; count = c.runs.ensures }
