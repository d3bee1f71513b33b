-- The answer to a line from the definitions of the groups. Assumes nothing.
use Rattle.std.specs.Prelude.{Bool, cond, Some, None, Ok, Err, Option, Result, ◌==◌}
use Rattle.common.specs.declared.refusal.Refusal.TheVariants.{Modulus}
use Rattle.elements.specs.Elements.{clock_element, coordinates, curve_element}
use Rattle.groups.specs.Clock.{clock}
use Rattle.groups.specs.Curve.{curve}
use Rattle.groups.specs.Groups.{Group, added, doubled, negated}
use Rattle.groups.specs.SetUp.{in_range}
use Rattle.groups.specs.Sums.{sums}
use Rattle.groups.specs.Tally.{one_addition, one_doubling, zero_tally}
use Rattle.groups.specs.declared.tally.Tally.{Tally}
use Rattle.groupcalc.specs.declared.answer.Report.{Report}
use Rattle.groupcalc.specs.declared.answer.Unanswered.{Unanswered}
use Rattle.groupcalc.specs.declared.answer.Unanswered.TheVariants.{Refused, Unreadable}
use Rattle.groupcalc.specs.declared.query.Query.{Query}

-- whether each belongs, their sum, the double and the negative of the first by the numbers of their codes, and the tally after an addition and a doubling
abbrev pub reported : {E : Type 0} → Group E → Tally → E → E → Report
reported g t a b = record {
  first = g.member a;
  second = g.member b;
  sum = coordinates (g.code (added g a b));
  double = coordinates (g.code (doubled g a));
  negative = coordinates (g.code (negated g a));
  tally = one_doubling (one_addition t);
}

-- what a new device reports where the modulus fits, and else the refusal of the modulus
abbrev pub asked : {E : Type 0} → Bool → Group E → E → E → Result Report Unanswered
asked fits g a b = cond fits (Ok (reported g zero_tally a b)) (Err (Refused Modulus))

-- what the sums modulo the query's modulus say, of the first number of each element
abbrev pub of_sums : Query → Result Report Unanswered
of_sums q = asked (in_range q.modulus) (sums q.modulus) q.first.x q.second.x

-- what the clock modulo the query's modulus says
abbrev pub of_clock : Query → Result Report Unanswered
of_clock q = asked (in_range q.modulus) (clock q.modulus) (clock_element q.first) (clock_element q.second)

-- what the curve says, where the query's modulus is 11
abbrev pub of_curve : Query → Result Report Unanswered
of_curve q = asked (q.modulus == 11) curve (curve_element q.first) (curve_element q.second)

-- the answer to a line: of group 1, 2 or 3, and else that it can't be read
abbrev pub answer : Option Query → Result Report Unanswered
answer None = Err Unreadable
answer (Some q) = cond (q.group == 1) (of_sums q) (cond (q.group == 2) (of_clock q) (cond (q.group == 3) (of_curve q) (Err Unreadable)))
