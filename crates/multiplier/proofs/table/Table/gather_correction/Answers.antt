use Rattle.std.proofs.Common.{◌≡◌, ℕ, ◌-◌, ◌^◌, ◌≤◌, List, map, length, ℤ, nat_abs, sym, ap, ◌∙◌, subst, ap₂, arith, w32}
use Rattle.std.specs.List.{All}
use Rattle.std.proofs.lemmas.Int.{to_z-of_z}
use Rattle.std.proofs.lemmas.List.{length-take-le, map-id}
use Rattle.recoding.specs.declared.digit.Digit.{Digit}
use Rattle.steps.proofs.LowWindows.{correction_small_lem}
use Rattle.steps.specs.Corrections.{correction_count, correction_windows, low_windows}
use Rattle.steps.specs.Operations.{gathered}
use Rattle.steps.specs.Work.{many_rounds}
use Rattle.steps.specs.Work.{many_rounds}
use Rattle.multiplier.specs.Tables.{Reaches, itself, read_digit, turned_by, window_digit}
use Rattle.multiplier.proofs.Corrected.{count_most, small_reach, turned_are}
use Rattle.multiplier.proofs.table.Table.gather_correction.Goals as goal

-- the digits that are written are the windows of the correction
written : (k b n : ℕ) (c C : ℤ) (ds : List Digit) → ds ≡ map (λ w. window_digit (turned_by C w)) (low_windows k n (nat_abs C) 0) → n ≡ correction_count k b → C ≡ c → map itself ds ≡ map window_digit (correction_windows k b c)
written k b n c C ds is en ec =
    map-id ds ∙ is ∙ ap (λ (m : ℕ). map (λ w. window_digit (turned_by C w)) (low_windows k m (nat_abs C) 0)) en
    ∙ ap (λ (y : ℤ). map (λ w. window_digit (turned_by y w)) (low_windows k (correction_count k b) (nat_abs y) 0)) ec ∙ turned_are k b c

pub gather-requires : goal.gather-requires
gather-requires g c =
    let z = c.args.sizes in
    let count : ℕ = c.correction_count.result - 0 in
    let exact : count ≡ correction_count z.k z.b = omega (arith, c.correction_count.ensures) in
    let few : count ≤ 16 = omega (arith, exact, count_most z.k z.b z.k_least z.b_most) in
    let same = to_z-of_z w32 c.args.correction c.ranges.correction in
    let is = written z.k z.b _ c.args.correction _ c.code_correction.new.digits c.code_correction.ensures (length-take-le count _ few ∙ exact) same in
    let cells : ℕ = length c.args.self.now.cells.now in
    subst (All (Reaches cells c.args.small)) (sym is) (small_reach cells c.args.small (2 ^ (z.k - 1)) (correction_windows z.k z.b c.args.correction) c.requires (correction_small_lem z.k z.b (omega (arith, z.k_least)) c.args.correction))

pub returns : goal.returns
returns g c =
    let z = c.args.sizes in
    let d = g.D.GroupDevice in
    let count : ℕ = c.correction_count.result - 0 in
    let exact : count ≡ correction_count z.k z.b = omega (arith, c.correction_count.ensures) in
    let few : count ≤ 16 = omega (arith, exact, count_most z.k z.b z.k_least z.b_most) in
    let same = to_z-of_z w32 c.args.correction c.ranges.correction in
    let ds : List Digit = c.code_correction.new.digits in
    let is = written z.k z.b _ c.args.correction _ ds c.code_correction.ensures (length-take-le count _ few ∙ exact) same in
    let f = read_digit (d.group c.args.device.now) c.args.self.now.cells.now c.args.small in
    let G = d.group c.args.device.now in
    let all = c.gather.ensures in
    let long : length ds ≡ correction_count z.k z.b = c.code_correction.auto.digits ∙ length-take-le count _ few ∙ exact in
    record {
      value = all.value ∙ ap (λ (k : ℕ). gathered G k f (map itself ds)) c.window_width.ensures ∙ ap (gathered G z.k f) is;
      same = all.same;
      counted = all.counted ∙ ap₂ (λ (n k : ℕ). many_rounds n k (d.tally c.args.device.now)) long c.window_width.ensures;
    }
