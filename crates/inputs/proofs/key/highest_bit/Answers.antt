use Rattle.std.proofs.Common.{◌≡◌, ℕ, ◌+◌, ◌-◌, ◌*◌, ◌^◌, ◌<◌, List, get_or, take, Some, refl, subst, arith}
use lib.Count.{count_leading_zeros, leading_top}
use Rattle.inputs.specs.Keys.{scalar, Highest, TopWord}
use Rattle.inputs.proofs.Words.{highest_more, no_words, none_above, scalar_below, scalar_more}
use Rattle.inputs.proofs.key.highest_bit.Goals as goal

-- the highest bit of the top word is that of the number
found : (ws : List ℕ) (i : ℕ) → ((j : ℕ) → get_or ws j 0 < 2 ^ 32) → TopWord ws (Some i) →
    Highest (scalar ws) (Some (32 * i + 31 - count_leading_zeros 32 (get_or ws i 0)))
found ws i fits top =
    let x : ℕ = get_or ws i 0 in
    let t = leading_top 32 x (omega (arith, top.1)) (fits i) in
    let g : 32 * i + t.0 ≡ 32 * i + 31 - count_leading_zeros 32 x = omega arith in
    let v = highest_more (scalar (take i ws)) x (2 ^ (32 * i)) (32 * i) t.0 refl (scalar_below ws i fits) t.2 t.3 in
    rw (← (none_above ws i top.2)) (rw (scalar_more ws i top.0) (subst (λ (y : ℕ). Highest (scalar (take i ws) + x * 2 ^ (32 * i)) (Some y)) g v))

pub returns-in_err-i : goal.returns-in_err-i
returns-in_err-i c = rw c.from_residual.ensures (no_words c.args.key.now c.in_err-i.ensures)

pub returns : goal.returns
returns c = found c.args.key.now c.in_ok-i.i (λ j. (c.type_inv.key j).fits) c.in_ok-i.ensures
