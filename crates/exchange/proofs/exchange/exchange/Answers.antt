use Rattle.std.proofs.Common.{sym, ap, ◌∙◌}
use Rattle.exchange.specs.Exchanges.{brought, joined}
use Rattle.exchange.proofs.Exchanging.{ends, goes_through}
use Rattle.exchange.proofs.exchange.exchange.Goals as goal

pub returns-in-Err : goal.returns-in-Err
returns-in-Err g c =
    let d = g.D.GroupDevice in
    let ran = c.in_ok-tasks.ensures in
    ends d.group d.tally c.args.first.now c.args.second.now (brought c.args.sides.first) (brought c.args.sides.second) c.args.base
    c.in_ok-task.field-0 c.in_ok-task-2.field-0 c.run_round.new.first c.run_round.new.second c.in_ok-tasks.tasks.first c.in_ok-tasks.tasks.second
    ran.first ran.second c.in_ok-task.ensures c.in_ok-task-2.ensures c.answer.result c.answer-2.result c.answer.ensures c.answer-2.ensures
    c.in-Err.refused (sym c.in-Err.is ∙ c.both_answers.ensures)

pub returns : goal.returns
returns g c =
    let d = g.D.GroupDevice in
    let ran = c.in_ok-tasks.ensures in
    let again = c.in_ok-tasks-2.ensures in
    goes_through d.group d.tally c.args.first.now c.args.second.now (brought c.args.sides.first) (brought c.args.sides.second) c.args.base
    c.in_ok-task.field-0 c.in_ok-task-2.field-0 c.run_round.new.first c.run_round.new.second c.in_ok-tasks.tasks.first c.in_ok-tasks.tasks.second
    ran.first ran.second c.in_ok-task.ensures c.in_ok-task-2.ensures c.answer.result c.answer-2.result c.answer.ensures c.answer-2.ensures
    (g.met.D.GroupDevice.lawful c.args.first.now) c.in-Ok.handed (sym c.in-Ok.is ∙ c.both_answers.ensures)
    c.hand_over.result.first c.hand_over.result.second c.run_round-2.new.first c.run_round-2.new.second c.in_ok-tasks-2.tasks.first c.in_ok-tasks-2.tasks.second
    again.first again.second c.hand_over.ensures.first c.hand_over.ensures.second c.answer-3.result c.answer-4.result c.answer-3.ensures c.answer-4.ensures
    c.join.result (c.join.ensures ∙ ap (joined c.in-Ok.handed) c.both_answers-agreed.ensures)
