-- The curve has exactly thirteen points, and they are a lawful group: each law is one test over all points, which antt computes. Assumes nothing.
use Rattle.std.specs.Prelude.{◌≡◌, ℕ, suc, ◌<◌, Bool, true, false, cond, ◌&&◌, List, [], ◌∷◌, ◌==◌, nat_eq, nat_lt, slice_index_or, refl}
use Rattle.std.proofs.Common.{ap, sym, ◌∙◌, arith, ltb-true, eqb-true}
use Rattle.std.proofs.lemmas.Bool.{and_parts, cond-true}
use Rattle.groups.specs.Curve.{affine_sum, coded, curve, curve_negative, curve_points, inverse, on_curve}
use Rattle.groups.specs.Groups.{Lawful, Lists}
use Rattle.groups.specs.Residues.{minus}
use Rattle.groups.specs.declared.curve.CurvePoint.{CurvePoint}
use Rattle.groups.specs.declared.curve.CurvePoint.TheVariants.{Infinity, Affine}
use Rattle.groups.specs.Tested.{below, below_at}

-- whether two points are equal
same : CurvePoint → CurvePoint → Bool
same Infinity Infinity = true
same Infinity (Affine x y) = false
same (Affine x y) Infinity = false
same (Affine x y) (Affine z w) = x == z && y == w

same_is : (p q : CurvePoint) → same p q ≡ true → p ≡ q
unfolding same
same_is Infinity Infinity h = refl
same_is Infinity (Affine x y) h = let z : ◌≡◌ {A = ℕ} 0 1 = cc in absurd (omega arith)
same_is (Affine x y) Infinity h = let z : ◌≡◌ {A = ℕ} 0 1 = cc in absurd (omega arith)
same_is (Affine x y) (Affine z w) h =
    let parts = and_parts (x == z) (y == w) h in
    let p = eqb-true x z parts.0 in
    let q = eqb-true y w parts.1 in
    cc

-- the point at a place, and the first place of a point
nth : ℕ → CurvePoint
nth k = slice_index_or curve_points k Infinity

place_in : List CurvePoint → CurvePoint → ℕ
place_in [] p = 0
place_in (q ∷ qs) p = cond (same q p) 0 (suc (place_in qs p))

place : CurvePoint → ℕ
place p = place_in curve_points p

-- the point stands at its place
found : CurvePoint → Bool
found p = nat_lt (place p) 13 && same (nth (place p)) p

-- the pair is found, or is not on the curve
found_at : (x y : ℕ) → Bool
found_at x y = cond (on_curve (Affine x y)) (found (Affine x y)) true

only_test : below (λ k. on_curve (nth k)) 13 ≡ true
unfolding below nth
only_test = refl

each_test : below (λ x. below (found_at x) 11) 11 ≡ true
unfolding below found_at found place place_in nth same
each_test = refl

once_test : below (λ k. nat_eq (place (nth k)) k) 13 ≡ true
unfolding below place place_in nth same
once_test = refl

is_found : (p : CurvePoint) → on_curve p ≡ true → found p ≡ true
unfolding found place place_in nth same found_at
is_found Infinity h = refl
is_found (Affine x y) h =
    let x_in = and_parts (nat_lt x 11) _ h in
    let y_in = and_parts (nat_lt y 11) _ x_in.1 in
    let row = below_at (λ x. below (found_at x) 11) 11 each_test x (ltb-true x 11 x_in.0) in
    let here = below_at (found_at x) 11 row y (ltb-true y 11 y_in.0) in
    sym (cond-true (on_curve (Affine x y)) (found (Affine x y)) true h) ∙ here

-- a point on the curve has a place below 13, where it stands
placed : (p : CurvePoint) → on_curve p ≡ true → (place p < 13) × (nth (place p) ≡ p)
unfolding found
placed p h =
    let parts = and_parts (nat_lt (place p) 13) (same (nth (place p)) p) (is_found p h) in
    (ltb-true (place p) 13 parts.0, same_is (nth (place p)) p parts.1)

place_of : (k : ℕ) → k < 13 → place (nth k) ≡ k
place_of k h = eqb-true (place (nth k)) k (below_at (λ k. nat_eq (place (nth k)) k) 13 once_test k h)

pub thirteen_points : Lists curve curve_points
unfolding nth
thirteen_points = record {
  only = below_at (λ k. on_curve (nth k)) 13 only_test;
  each = λ p h. let here = placed p h in (place p, here.0, here.1);
  once = λ j k g h e. sym (place_of j g) ∙ ap place e ∙ place_of k h;
}

-- the test f passes at each point of the curve, at each pair and at each triple
everywhere : (CurvePoint → Bool) → Bool
everywhere f = below (λ k. f (nth k)) 13

at_one : (f : CurvePoint → Bool) → everywhere f ≡ true → (p : CurvePoint) → on_curve p ≡ true → f p ≡ true
unfolding everywhere
at_one f t p h =
    let here = placed p h in
    sym (ap f here.1) ∙ below_at (λ k. f (nth k)) 13 t (place p) here.0

at_two : (f : CurvePoint → CurvePoint → Bool) → everywhere (λ p. everywhere (f p)) ≡ true → (p q : CurvePoint) → on_curve p ≡ true → on_curve q ≡ true → f p q ≡ true
at_two f t p q hp hq = at_one (f p) (at_one (λ p. everywhere (f p)) t p hp) q hq

at_three : (f : CurvePoint → CurvePoint → CurvePoint → Bool) → everywhere (λ p. everywhere (λ q. everywhere (f p q))) ≡ true → (p q r : CurvePoint) → on_curve p ≡ true → on_curve q ≡ true → on_curve r ≡ true → f p q r ≡ true
at_three f t p q r hp hq hr = at_one (f p q) (at_two (λ p q. everywhere (f p q)) t p q hp hq) r hr

-- what each law asks of points
associates : CurvePoint → CurvePoint → CurvePoint → Bool
associates p q r = same (affine_sum (affine_sum p q) r) (affine_sum p (affine_sum q r))

cancels : CurvePoint → Bool
cancels p = same (affine_sum (curve_negative p) p) Infinity && same (affine_sum p (curve_negative p)) Infinity

assoc_test : everywhere (λ p. everywhere (λ q. everywhere (associates p q))) ≡ true
unfolding everywhere below nth same minus inverse associates
assoc_test = refl

sum_test : everywhere (λ p. everywhere (λ q. on_curve (affine_sum p q))) ≡ true
unfolding everywhere below nth minus inverse
sum_test = refl

negative_test : everywhere (λ p. on_curve (curve_negative p)) ≡ true
unfolding everywhere below nth
negative_test = refl

cancels_test : everywhere cancels ≡ true
unfolding everywhere below nth same minus inverse cancels
cancels_test = refl

right : (p : CurvePoint) → affine_sum p Infinity ≡ p
right Infinity = refl
right (Affine x y) = refl

-- a code tells the member
one_code : (p q : CurvePoint) → on_curve p ≡ true → on_curve q ≡ true → coded p ≡ coded q → p ≡ q
one_code Infinity Infinity f g e = refl
one_code Infinity (Affine x y) f g e = let i : x ≡ 11 = cc in absurd (omega (arith, ltb-true x 11 (and_parts (nat_lt x 11) _ g).0))
one_code (Affine x y) Infinity f g e = let i : x ≡ 11 = cc in absurd (omega (arith, ltb-true x 11 (and_parts (nat_lt x 11) _ f).0))
one_code (Affine x y) (Affine z w) f g e = cc

pub curve_lawful : Lawful curve
unfolding associates cancels
curve_lawful = record {
  neutral_in = refl;
  sum_in = at_two (λ p q. on_curve (affine_sum p q)) sum_test;
  double_in = λ p h. at_two (λ p q. on_curve (affine_sum p q)) sum_test p p h h;
  negative_in = at_one (λ p. on_curve (curve_negative p)) negative_test;
  sum_same = λ p q r s f g h i d e. let pr = one_code p r f h d in let qs = one_code q s g i e in cc;
  double_same = λ p q f g e. ap (λ r. coded (affine_sum r r)) (one_code p q f g e);
  negative_same = λ p q f g e. ap (λ r. coded (curve_negative r)) (one_code p q f g e);
  assoc = λ p q r f g h. ap coded (same_is _ _ (at_three associates assoc_test p q r f g h));
  left = λ p _. refl;
  right = λ p _. ap coded (right p);
  left_inverse = λ p h. ap coded (same_is _ _ (and_parts _ _ (at_one cancels cancels_test p h)).0);
  right_inverse = λ p h. ap coded (same_is _ _ (and_parts _ _ (at_one cancels cancels_test p h)).1);
  twice = λ p _. refl;
}
