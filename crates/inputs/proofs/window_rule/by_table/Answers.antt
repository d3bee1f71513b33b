use Rattle.std.proofs.Common.{◌+◌, ◌-◌, ◌^◌, ◌≤◌, pos, ◌-ℤ◌, ◌≤ℤ◌, sym, arith, pow_pos, pow_mono}
use Rattle.std.proofs.lemmas.Int.{ints}
use Rattle.inputs.specs.Tables.{table_high}
use Rattle.inputs.proofs.window_rule.by_table.Goals as goal

pub overflow_add-middle : goal.overflow_add-middle
overflow_add-middle c =
    let l : c.args.sizes.k + c.args.sizes.b - 1 ≤ 36 = omega arith in
    let p : 2 ^ (c.args.sizes.k + c.args.sizes.b - 1) ≤ 2 ^ 36 = pow_mono l in omega (arith, ints)

pub returns-else-h-middle-3 : goal.returns-else-h-middle-3
returns-else-h-middle-3 c =
    let l : c.args.sizes.k + c.args.sizes.b - 1 ≤ 36 = omega arith in
    let p : 2 ^ (c.args.sizes.k + c.args.sizes.b - 1) ≤ 2 ^ 36 = pow_mono l in
    let h : pos (2 ^ (c.args.sizes.k + c.args.sizes.b - 1)) ≤ℤ (c.args.h -ℤ pos c.args.shift) = omega (arith, ints) in
    sym (table_high (2 ^ (c.args.sizes.k + c.args.sizes.b - 1)) (c.args.h -ℤ pos c.args.shift) (pow_pos (c.args.sizes.k + c.args.sizes.b - 1)) h)
