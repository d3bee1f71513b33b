use Rattle.runs.proofs.Products.{windows_30, enough, too_few, sums_25725, clock_25725, curve_25725, curve_3, curve_5, curve_3_5, curve_5_3}
use Rattle.runs.proofs.worked.worked_multiplications.Goals as goal

pub returns : goal.returns
returns c = record {
  windows = windows_30;
  enough = enough;
  too_few = too_few;
  sums_25725 = sums_25725;
  clock_25725 = clock_25725;
  curve_25725 = curve_25725;
  curve_3 = curve_3;
  curve_5 = curve_5;
  curve_3_5 = curve_3_5;
  curve_5_3 = curve_5_3;
  shown = c.table.ensures;
}
