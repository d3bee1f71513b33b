use Rattle.exchange.specs.Exchanges.{brought}
use Rattle.exchange_lines.proofs.Answering.{in_group}
use Rattle.exchange_lines.proofs.answer.answer_in.Goals as goal

pub returns : goal.returns
returns g c =
    let d = g.D.GroupDevice in
    let of = g.D.PairDevice in
    in_group d.group d.tally (of.fits c.args.modulus) (of.group_at c.args.modulus) (brought c.args.sides.first) (brought c.args.sides.second) (of.element_at c.args.base)
    c.in-Ok.devices.first c.in-Ok.devices.second c.in-Ok.ensures.0 c.in-Ok.ensures.1 c.element_at.result c.element_at.ensures.is
    c.in_ok-told.told c.in_ok-told.ensures c.as_pairs.result (c.as_pairs.ensures c.args.modulus)
