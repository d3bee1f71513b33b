use Rattle.exchange.specs.Exchanges.{brought}
use Rattle.exchange_lines.proofs.Answering.{told_by}
use Rattle.exchange_lines.proofs.answer.tell.Goals as goal

pub returns : goal.returns
returns g c =
    let d = g.D.GroupDevice in
    told_by d.group d.tally (brought c.args.sides.first) (brought c.args.sides.second) c.args.base c.args.first.now c.args.second.now c.exchange.new.first c.exchange.new.second
    c.in_ok-agreement.agreement c.in_ok-agreement.ensures c.tally.result c.tally-2.result c.plain.result c.plain-2.result
    c.tally.ensures c.tally-2.ensures c.plain.ensures c.plain-2.ensures
    c.with_tallies.result c.with_tallies.ensures
