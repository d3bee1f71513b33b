use Rattle.runs.proofs.Going.{Going}
use Rattle.runs.proofs.run.run.Given as goal

abbrev pub invariant-loop-task : goal.invariant-loop-task
invariant-loop-task g l = Going g.R.SignRule.rule g.D.GroupDevice.group g.D.GroupDevice.tally l.initial.device l.initial.tasks l.device l.tasks l.task-index
