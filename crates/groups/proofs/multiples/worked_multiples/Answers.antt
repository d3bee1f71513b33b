use Rattle.groups.proofs.Examples.{curve_3, curve_5, curve_25725, clock_25725, sums_25725}
use Rattle.groups.proofs.multiples.worked_multiples.Goals as goal

pub returns : goal.returns
returns c = record {
  curve_3 = curve_3;
  curve_5 = curve_5;
  curve_25725 = curve_25725;
  clock_25725 = clock_25725;
  sums_25725 = sums_25725;
  shown = c.table.ensures;
}
