use Rattle.elements.specs.declared.kind.GroupKind.TheVariants.{Sums, Clock, Curve}
use Rattle.exchange_lines.specs.Requests.{view}
use Rattle.exchange_lines.proofs.Answering.{in_kind}
use Rattle.exchange_lines.proofs.request.Request.answer.Goals as goal

pub returns-in-Sums : goal.returns-in-Sums
returns-in-Sums c = in_kind (view c.args.self) Sums c.fixed_sizes.result c.fixed_sizes-2.result c.answer_in.result c.fixed_sizes.ensures c.fixed_sizes-2.ensures c.in-Sums.is c.answer_in.ensures

pub returns-in-Clock : goal.returns-in-Clock
returns-in-Clock c = in_kind (view c.args.self) Clock c.fixed_sizes.result c.fixed_sizes-2.result c.answer_in-in-Clock.result c.fixed_sizes.ensures c.fixed_sizes-2.ensures c.in-Clock.is c.answer_in-in-Clock.ensures

pub returns-in-Curve : goal.returns-in-Curve
returns-in-Curve c = in_kind (view c.args.self) Curve c.fixed_sizes.result c.fixed_sizes-2.result c.answer_in-in-Curve.result c.fixed_sizes.ensures c.fixed_sizes-2.ensures c.in-Curve.is c.answer_in-in-Curve.ensures
