use Rattle.std.proofs.Common.{arith}
use Rattle.runs.proofs.Going.{going_none, going_more, going_all}
use Rattle.runs.proofs.run.run.Goals as goal

pub loop-task-init : goal.loop-task-init
loop-task-init g c = going_none _ _ _ _ (g.met.D.GroupDevice.lawful c.args.device.now) _

pub loop-task-preserved : goal.loop-task-preserved
loop-task-preserved g c =
    let one = c.run_one.ensures in
    going_more _ _ _ _ (g.met.D.GroupDevice.lawful c.args.device.now) _ c.loop-task.device c.loop-task.tasks c.loop-task.task-index c.run_one.new.device c.task-item.result c.run_one.new.task
    (omega arith) c.loop-task.invariant one.made one.ask one.words one.cells

pub returns : goal.returns
returns g c =
    going_all _ _ _ _ (g.met.D.GroupDevice.lawful c.args.device.now) _ c.loop-task.device c.loop-task.tasks c.loop-task.task-index (omega arith) c.loop-task.invariant
