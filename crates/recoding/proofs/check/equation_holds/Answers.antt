use Rattle.std.proofs.Common.{◌≡◌, ℕ, ◌+◌, ◌*◌, ◌/◌, ◌^◌, ◌<◌, eqb, List, [], map, length, get_or, drop, ℤ, pos, Decides, sym, ap, ◌∙◌, subst, arith, w32, w64, SFits, to_z, of_z, rules}
use Rattle.std.proofs.lemmas.List.{drop_all}
use Rattle.std.proofs.lemmas.Int.{ints, to_z-of_z, to_z_pos, of_z-to_z}
use Rattle.std.proofs.lemmas.Bool.{eqb-true, eq-eqb}
use Rattle.recoding.specs.declared.digit.Digit.{Digit}
use Rattle.recoding.specs.Digits.{decoded}
use Rattle.inputs.specs.Keys.{scalar, half}
use Rattle.recoding.proofs.Checking.{Rest, rest_start, start_rest, turn_on, turn_back, turn_fails, rest_end, end_rest}
use Rattle.recoding.proofs.Limits.{not_true}
use Rattle.recoding.proofs.Loop.{top_field}
use Rattle.recoding.proofs.Machine.{About}
use Rattle.recoding.proofs.check.equation_holds.Goals as goal

-- above all windows the carried word has to be what is left of e
same_number : {P : Type 0} (k b s e i x r : ℕ) (ds : List Digit) → x < 2 ^ 64 → r < 2 ^ 32 → ds ≡ [] → r ≡ e / 2 ^ (k * i) →
    (P → Rest k b s e i (to_z w64 x) ds) → (Rest k b s e i (to_z w64 x) ds → P) → Decides (eqb x r) P
same_number k b s e i x r ds f g n t on back = (
  (λ h. let v : x ≡ r = eqb-true x r h in
      back (subst (Rest k b s e i (to_z w64 x)) (sym n) (end_rest k b s e i (to_z w64 x) (ap (to_z w64) v ∙ to_z_pos w64 r (omega arith) ∙ ap pos t)))),
  (λ p. let v : to_z w64 x ≡ pos r = rest_end k b s e i (to_z w64 x) (subst (Rest k b s e i (to_z w64 x)) n (on p)) ∙ ap pos (sym t) in
      eq-eqb x r (sym (of_z-to_z w64 x f) ∙ ap (of_z w64) v)),
)

pub loop-i-init : goal.loop-i-init
loop-i-init c =
    let f : SFits w32 c.args.correction = c.ranges.correction in
    let e : to_z w64 (of_z w64 (to_z w32 (of_z w32 c.args.correction))) ≡ to_z w32 (of_z w32 c.args.correction) = omega (arith, ints) in
    let z = c.args.sizes in
    let ds = map decoded c.args.words.now in (
      (omega (arith, ints), omega (arith, ints)),
      (λ h. subst (λ (x : ℤ). Rest z.k z.b c.args.s (half c.args.key.now) 0 x ds) (sym e) (rest_start z.k z.b c.args.s (half c.args.key.now) (to_z w32 (of_z w32 c.args.correction)) ds h)),
      (λ r. start_rest z.k z.b c.args.s (half c.args.key.now) (to_z w32 (of_z w32 c.args.correction)) ds (subst (λ (x : ℤ). Rest z.k z.b c.args.s (half c.args.key.now) 0 x ds) e r)),
    )

pub returns-in_default : goal.returns-in_default
returns-in_default c =
    let f : SFits w32 c.args.correction = c.ranges.correction in
    let e : SFits w32 (get_or c.args.words.now c.loop-i.i (pos 0)) = search rules in
    let never = simp to_z-of_z at c.in_default.ensures.divided in
    let on = simp to_z-of_z at c.loop-i.invariant.1 in (
      not_true,
      λ h. absurd (turn_fails c.args.sizes.k c.args.sizes.b c.args.s (half c.args.key.now) c.loop-i.i c.window_bits-bits.result _ c.args.words.now (omega arith) c.window_bits-bits.ensures never (on h)),
    )

pub loop-i-preserved : goal.loop-i-preserved
loop-i-preserved c =
    let z = c.args.sizes in
    let f : SFits w32 c.args.correction = c.ranges.correction in
    let e : SFits w32 (get_or c.args.words.now c.loop-i.i (pos 0)) = search rules in
    let n : SFits w64 c.in-Some.next = search rules in
    let q = simp to_z-of_z at c.in-Some.ensures.divided in
    let on = turn_on z.k z.b c.args.s (half c.args.key.now) c.loop-i.i c.window_bits-bits.result _ c.args.words.now (omega arith) c.window_bits-bits.ensures c.in-Some.next q in
    let back = turn_back z.k z.b c.args.s (half c.args.key.now) c.loop-i.i c.window_bits-bits.result _ c.args.words.now (omega arith) c.window_bits-bits.ensures c.in-Some.next q in
    let m = to_z-of_z w64 c.in-Some.next n in
    let R : ℤ → Type 0 = λ x. Rest z.k z.b c.args.s (half c.args.key.now) (c.loop-i.i + 1) x (map decoded (drop (c.loop-i.i + 1) c.args.words.now)) in (
      subst (About (2 ^ 61)) (sym m) c.in-Some.ensures.small,
      (λ h. subst R (sym m) (on (c.loop-i.invariant.1 h))),
      (λ r. c.loop-i.invariant.2 (back (subst R m r))),
    )

pub returns : goal.returns
returns c =
    let d : ℕ = scalar c.args.key.now in
    let z = c.args.sizes in
    let n : length c.args.words.now ≡ z.m = c.requires.count in
    let f : SFits w32 c.args.correction = c.ranges.correction in
    let t = c.top_bits.ensures ∙ top_field d z.k z.b z.m c.requires.key in
    let i : c.loop-i.i ≡ z.m = omega arith in
    let ds : map decoded (drop c.loop-i.i c.args.words.now) ≡ [] = ap (map decoded) (drop_all c.loop-i.i c.args.words.now (omega arith)) in
    let top : c.top_bits.result ≡ d / 2 / 2 ^ (z.k * c.loop-i.i) = t ∙ ap (λ (m : ℕ). d / 2 / 2 ^ (z.k * m)) (sym i) in
    let on = simp to_z-of_z at c.loop-i.invariant.1 in
    let back = simp to_z-of_z at c.loop-i.invariant.2 in
    same_number z.k z.b c.args.s (d / 2) c.loop-i.i _ c.top_bits.result (map decoded (drop c.loop-i.i c.args.words.now)) c.loop-i.auto.carried.fits c.top_bits.type_inv ds top on back
