-- What a chain of tests that names no refusal says.
use Rattle.std.proofs.Common.{◌≡◌, ℕ, ◌^◌, ◌<◌, ◌≤◌, Bool, true, false, cond, eqb, ltb, leb, List, length, Some, None, Option, refl, ap, arith}
use Rattle.common.specs.declared.refusal.Refusal.{Refusal}
use Rattle.common.specs.declared.refusal.Refusal.TheVariants.{KeyLength, KeyTooLarge, TooFewDigits, UnfitDraw}
use Rattle.std.proofs.lemmas.Bool.{ltb-false, leb-false, eqb-true, lt-ltb, le-ltb, eq-eqb, ne_eqb}
use Rattle.inputs.specs.declared.draw.Draw.{Draw}
use Rattle.inputs.specs.declared.sizes.Sizes.{Sizes}
use Rattle.recoding.specs.Codings.{digits_refusal, check_refusal, recode_refusal}
use Rattle.inputs.specs.Draws.{draw_refusal}
use Rattle.inputs.specs.Keys.{scalar, highest_bit, key_refusal}
use Rattle.inputs.specs.Rules.{Rule, Admitted}
use Rattle.inputs.specs.Sizes.{key_bits, outside}
use Rattle.inputs.specs.Tests.{or_else}

some_none : {e : Refusal} → Some e ≡ None → ⊥
some_none p = let z : ◌≡◌ {A = ℕ} 0 1 = cc in omega arith

-- both tests of a chain pass
pub both_pass : (a b : Option Refusal) → or_else a b ≡ None → (a ≡ None) × (b ≡ None)
both_pass None b p = (refl, p)
both_pass (Some e) b p = absurd (some_none p)

pub first_passes : (a b : Option Refusal) → a ≡ None → or_else a b ≡ b
first_passes a b p = ap (λ (o : Option Refusal). or_else o b) p

-- a test that passes was not met
unmet : (t : Bool) (e : Refusal) (o : Option Refusal) → cond t (Some e) o ≡ None → (t ≡ false) × (o ≡ None)
unmet true e o p = absurd (some_none p)
unmet false e o p = (refl, p)

met : (t : Bool) (e : Refusal) (o : Option Refusal) → cond t o (Some e) ≡ None → (t ≡ true) × (o ≡ None)
met true e o p = (refl, p)
met false e o p = absurd (some_none p)

pub key_below : (z : Sizes) (key : List ℕ) → key_refusal z key ≡ None → scalar key < 2 ^ key_bits z
key_below z key p =
    let q = unmet (outside (length key) 1 16) (KeyLength (length key)) (cond (leb (2 ^ key_bits z) (scalar key)) (Some (KeyTooLarge (highest_bit 512 (scalar key)))) None) p in
    let r = unmet (leb (2 ^ key_bits z) (scalar key)) (KeyTooLarge (highest_bit 512 (scalar key))) None q.1 in
    leb-false (2 ^ key_bits z) (scalar key) r.0

pub words_enough : (z : Sizes) (n : ℕ) → digits_refusal z n ≡ None → z.m ≤ n
words_enough z n p = ltb-false n z.m (unmet (ltb n z.m) (TooFewDigits n) None p).0

pub draw_fits : (R : Rule) (z : Sizes) (d : Draw) → draw_refusal R z d ≡ None → (d.width ≡ z.b) × (R.admits z.k z.b d.value ≡ true)
draw_fits R z d p =
    let q = met (eqb d.width z.b) UnfitDraw (cond (R.admits z.k z.b d.value) None (Some UnfitDraw)) p in
    (eqb-true d.width z.b q.0, (met (R.admits z.k z.b d.value) UnfitDraw None q.1).0)

-- what is lent to a recoding that is not refused
pub record Lent (R : Rule) (z : Sizes) (key : List ℕ) (n : ℕ) (d : Draw) : Type 0 where
  pub below : scalar key < 2 ^ key_bits z
  pub enough : z.m ≤ n
  pub admitted : Admitted R z.k z.b d.value

pub lent : (R : Rule) (z : Sizes) (key : List ℕ) (n : ℕ) (d : Draw) → recode_refusal R z key n d ≡ None → Lent R z key n d
lent R z key n d p =
    let q = both_pass (check_refusal z key n) (draw_refusal R z d) p in
    let r = both_pass (key_refusal z key) (digits_refusal z n) q.0 in
    let s = draw_fits R z d q.1 in
    record {
      below = key_below z key r.0;
      enough = words_enough z n r.1;
      admitted = (rw (← s.0) d.below, s.1);
    }

-- which refusal a failed test names
pub words_refused : (z : Sizes) (n : ℕ) → n < z.m → digits_refusal z n ≡ Some (TooFewDigits n)
words_refused z n h = rw (lt-ltb n z.m h)

pub words_taken : (z : Sizes) (n : ℕ) → z.m ≤ n → digits_refusal z n ≡ None
words_taken z n h = rw (le-ltb n z.m h)

pub draw_taken : (R : Rule) (z : Sizes) (d : Draw) → d.width ≡ z.b → R.admits z.k z.b d.value ≡ true → draw_refusal R z d ≡ None
draw_taken R z d e a = rw (eq-eqb d.width z.b e) (rw a)

pub width_refused : (R : Rule) (z : Sizes) (d : Draw) → (d.width ≡ z.b → ⊥) → draw_refusal R z d ≡ Some UnfitDraw
width_refused R z d n = rw (ne_eqb d.width z.b n)

pub value_refused : (R : Rule) (z : Sizes) (d : Draw) → d.width ≡ z.b → R.admits z.k z.b d.value ≡ false → draw_refusal R z d ≡ Some UnfitDraw
value_refused R z d e a = rw (eq-eqb d.width z.b e) (rw a)
