-- What each step of a multiplication stands for: a multiple of the base by a known factor, for members of a lawful group and by codes. Assumes nothing.
use Rattle.std.proofs.Common.{◌≡◌, ℕ, zero, suc, ◌+◌, ◌*◌, ◌/◌, ◌%◌, ◌^◌, ◌<◌, ◌≤◌, true, List, [], ◌∷◌, ℤ, pos, negsuc, ◌+ℤ◌, ◌*ℤ◌, neg_ℤ, sym, refl, ap, ◌∙◌, pow-suc, arith}
use lib.IntN.{+ℤ_assoc, +ℤ_comm, *ℤ_comm, *ℤ-negsuc, suc_ℤ-*ℤ}
use native.Mathlib.Nat.{div-add-mod}
use Rattle.std.proofs.lemmas.Int.{ints}
use Rattle.groups.specs.Groups.{Group, Lawful, added, doubled, negated}
use Rattle.groups.specs.Multiples.{multiple}
use Rattle.groups.proofs.Likeness.{Like, ◌⟫◌, sums, negatives, doubles}
use Rattle.groups.proofs.Times.{multiple_in, multiple_sum, multiple_negative}
use Rattle.inputs.specs.declared.sign.Sign.{Sign}
use Rattle.inputs.specs.declared.sign.Sign.TheVariants.{Plus, Minus}
use Rattle.inputs.specs.declared.sizes.Sizes.{Sizes}
use Rattle.inputs.specs.Rules.{Rule}
use Rattle.inputs.specs.Signs.{signed}
use Rattle.recoding.specs.declared.digit.Digit.{Digit}
use Rattle.recoding.specs.Codings.{Coding}
use Rattle.recoding.proofs.Equation.{total_value, value}
use Rattle.steps.specs.Corrections.{correction_windows}
use Rattle.steps.specs.Operations.{additions, chosen, climbed, doublings, gathered}
use Rattle.steps.specs.Steps.{digit_addend, multiplied, small_addend, small_entry, turned, window_entry}
use Rattle.steps.proofs.LowWindows.{correction_value, horner, times_negative}

-- x belongs, and has the code of z times a
pub record Is {E : Type 0} (g : Group E) (a : E) (z : ℤ) (x : E) : Type 0 where
  pub member : g.member x ≡ true
  pub code : g.code x ≡ g.code (multiple g z a)

-- what a device answers for members is the group's own operation
pub added_in : {E : Type 0} (g : Group E) (x y : E) → g.member x ≡ true → g.member y ≡ true → added g x y ≡ g.sum x y
added_in g x y h i = rw (h, i)

pub doubled_in : {E : Type 0} (g : Group E) (x : E) → g.member x ≡ true → doubled g x ≡ g.double x
doubled_in g x h = rw h

pub negated_in : {E : Type 0} (g : Group E) (x : E) → g.member x ≡ true → negated g x ≡ g.negative x
negated_in g x h = rw h

-- equal factors, and equal elements
pub by_factor : {E : Type 0} {g : Group E} {a x : E} {y z : ℤ} → y ≡ z → Is g a y x → Is g a z x
by_factor {E} {g} {a} {x} {y} {z} e h = record { member = h.member; code = h.code ∙ ap (λ (f : ℤ). g.code (multiple g f a)) e }

pub by_element : {E : Type 0} {g : Group E} {a x y : E} {z : ℤ} → x ≡ y → Is g a z y → Is g a z x
by_element {E} {g} {a} {x} {y} {z} e h = record { member = ap g.member e ∙ h.member; code = ap g.code e ∙ h.code }

-- equations of factors, over plain numbers
twice_as_many : (p q : ℕ) (z : ℤ) → q ≡ p * 2 → pos p *ℤ z +ℤ pos p *ℤ z ≡ pos q *ℤ z
twice_as_many p q (pos n) e = let r : q * n ≡ p * n + p * n = omega (arith, ap (λ (x : ℕ). x * n) e) in omega (arith, ints)
twice_as_many p q (negsuc n) e = let r : q * suc n ≡ p * suc n + p * suc n = omega (arith, ap (λ (x : ℕ). x * suc n) e) in omega (arith, ints)

one_more : (n : ℕ) (y z : ℤ) → (z +ℤ pos n *ℤ y) +ℤ y ≡ z +ℤ pos (suc n) *ℤ y
one_more n y z = +ℤ_assoc z (pos n *ℤ y) y ∙ ap (λ (x : ℤ). z +ℤ x) (sym (suc_ℤ-*ℤ (pos n) y))

upward : (h : ℕ) (u s : ℤ) → s +ℤ pos h *ℤ u ≡ u *ℤ pos h +ℤ s
upward h u s = +ℤ_comm s (pos h *ℤ u) ∙ ap (λ (x : ℤ). x +ℤ s) (*ℤ_comm (pos h) u)

downward : (h : ℕ) (u s : ℤ) → s +ℤ pos (suc h) *ℤ neg_ℤ u ≡ u *ℤ negsuc h +ℤ s
downward h u s =
    +ℤ_comm s (pos (suc h) *ℤ neg_ℤ u) ∙ ap (λ (x : ℤ). x +ℤ s) (times_negative (suc h) u ∙ ap neg_ℤ (*ℤ_comm (pos (suc h)) u) ∙ sym (*ℤ-negsuc u h))

-- a sign that turns a digit and its entry turns only the draw
turned_back : (u s : ℕ) (t : Sign) (w : ℤ) → signed t (pos u *ℤ signed t w +ℤ pos s) ≡ pos u *ℤ w +ℤ signed t (pos s)
turned_back u s Plus w = let one : pos 1 *ℤ w ≡ w = omega (arith, ints) in rw one (line (pos u *ℤ w))
  where
    line : (x : ℤ) → pos 1 *ℤ (x +ℤ pos s) ≡ x +ℤ pos 1 *ℤ pos s
    line x = omega (arith, ints)
turned_back u s Minus w =
    let turn : negsuc 0 *ℤ w ≡ neg_ℤ w = omega (arith, ints) in
    rw (turn, times_negative u w) (line (pos u *ℤ w))
  where
    line : (x : ℤ) → negsuc 0 *ℤ (neg_ℤ x +ℤ pos s) ≡ x +ℤ negsuc 0 *ℤ pos s
    line x = omega (arith, ints)

module _ {E : Type 0} (g : Group E) (law : Lawful g) (a : E) (a_in : g.member a ≡ true) where
  -- a member and its multiple as members of equal code, and back
  like : {z : ℤ} {x : E} → Is g a z x → Like g x (multiple g z a)
  like {z} {x} h = record { first = h.member; second = multiple_in g law a a_in z; codes = h.code }

  alike : {z : ℤ} {x : E} → Like g x (multiple g z a) → Is g a z x
  alike {z} {x} h = record { member = h.first; code = h.codes }

  pub neutral_is : Is g a (pos 0) g.neutral
  neutral_is = record { member = law.neutral_in; code = refl }

  pub base_is : Is g a (pos 1) a
  base_is = record { member = a_in; code = sym (law.left a a_in) }

  pub added_is : {y z : ℤ} {x w : E} → Is g a y x → Is g a z w → Is g a (y +ℤ z) (added g x w)
  added_is {y} {z} {x} {w} h i =
      by_element (added_in g x w h.member i.member) (alike (sums law (like h) (like i) ⟫ multiple_sum g law a a_in y z))

  pub doubled_is : {z : ℤ} {x : E} → Is g a z x → Is g a (z +ℤ z) (doubled g x)
  doubled_is {z} {x} h = by_element (doubled_in g x h.member) (alike (doubles law (like h) ⟫ multiple_sum g law a a_in z z))

  pub negated_is : {z : ℤ} {x : E} → Is g a z x → Is g a (neg_ℤ z) (negated g x)
  negated_is {z} {x} h = by_element (negated_in g x h.member) (alike (negatives law (like h) ⟫ multiple_negative g law a a_in z))

  -- n doublings multiply the factor by 2 ^ n
  pub doublings_is : (n : ℕ) {z : ℤ} {x : E} → Is g a z x → Is g a (pos (2 ^ n) *ℤ z) (doublings g n x)
  doublings_is zero {z} {x} h = let same : z ≡ pos (2 ^ 0) *ℤ z = omega (arith, ints) in by_factor same h
  doublings_is (suc n) {z} {x} h = by_factor (twice_as_many (2 ^ n) (2 ^ suc n) z (pow-suc 2 n)) (doubled_is (doublings_is n h))

  -- n additions of an element add n times its factor
  pub additions_is : (n : ℕ) {y z : ℤ} {x w : E} → Is g a y x → Is g a z w → Is g a (z +ℤ pos n *ℤ y) (additions g n x w)
  additions_is zero {y} {z} h i = let same : z ≡ z +ℤ pos 0 *ℤ y = omega (arith, ints) in by_factor same i
  additions_is (suc n) {y} {z} h i = by_factor (one_more n y z) (added_is (additions_is n h i) h)

  -- the base for the bit 1, neutral for the bit 0
  pub chosen_is : (bit : ℕ) → bit < 2 → Is g a (pos bit) (chosen g a bit)
  chosen_is zero h = neutral_is
  chosen_is (suc zero) h = base_is
  chosen_is (suc (suc n)) h = absurd (omega arith)

  -- a climb by the bits of s comes to s
  pub climbed_is : (n s : ℕ) → s < 2 ^ n → Is g a (pos s) (climbed g a n s)
  climbed_is zero s h = let none : 0 ≡ s = omega arith in by_factor (ap pos none) neutral_is
  climbed_is (suc n) s h =
      let parts : 2 * (s / 2) + s % 2 ≡ s = div-add-mod s 2 in
      let half : s / 2 < 2 ^ n = omega (arith, pow-suc 2 n) in
      let sum : (pos (s / 2) +ℤ pos (s / 2)) +ℤ pos (s % 2) ≡ pos s = omega (arith, ints) in
      by_factor sum (added_is (doubled_is (climbed_is n (s / 2) half)) (chosen_is (s % 2) (omega arith)))

  -- the table's entry for h: h times the factor of the unit, and the factor of sA
  pub window_entry_is : {u s : ℤ} {unitA sA : E} → Is g a u unitA → Is g a s sA → (h : ℤ) → Is g a (u *ℤ h +ℤ s) (window_entry g unitA sA h)
  window_entry_is {u} {s} unit start (pos h) = by_factor (upward h u s) (additions_is h unit start)
  window_entry_is {u} {s} unit start (negsuc h) = by_factor (downward h u s) (additions_is (suc h) (negated_is unit) start)

  -- the table's entry for n times the base
  pub small_entry_is : (n : ℕ) → Is g a (pos n) (small_entry g a n)
  small_entry_is zero = neutral_is
  small_entry_is (suc n) = let sum : pos 1 +ℤ pos n *ℤ pos 1 ≡ pos (suc n) = omega (arith, ints) in by_factor sum (additions_is n base_is base_is)

  pub turned_is : (t : Sign) {z : ℤ} {x : E} → Is g a z x → Is g a (signed t z) (turned g t x)
  turned_is Plus {z} h = let same : z ≡ pos 1 *ℤ z = omega (arith, ints) in by_factor same h
  turned_is Minus {z} h = let same : neg_ℤ z ≡ negsuc 0 *ℤ z = omega (arith, ints) in by_factor same (negated_is h)

  -- a digit adds itself by the unit, and the signed draw
  pub digit_addend_is : {u s : ℕ} {unitA sA : E} → Is g a (pos u) unitA → Is g a (pos s) sA → (d : Digit) → Is g a (pos u *ℤ d.value +ℤ signed d.sign (pos s)) (digit_addend g unitA sA d)
  digit_addend_is {u} {s} unit start d = by_factor (turned_back u s d.sign d.value) (turned_is d.sign (window_entry_is unit start (signed d.sign d.value)))

  -- a window of the correction adds itself
  pub small_addend_is : (z : ℤ) → Is g a z (small_addend g a z)
  small_addend_is (pos n) = small_entry_is n
  small_addend_is (negsuc n) = negated_is (small_entry_is (suc n))

  -- windows are gathered by Horner's rule
  pub gathered_is : {W : Type 0} (k : ℕ) (addend : W → E) (worth : W → ℤ) → ((w : W) → Is g a (worth w) (addend w)) → (ws : List W) → Is g a (horner k worth ws) (gathered g k addend ws)
  gathered_is k addend worth each [] = neutral_is
  gathered_is k addend worth each (w ∷ ws) =
      by_factor (+ℤ_comm (pos (2 ^ k) *ℤ horner k worth ws) (worth w)) (added_is (doublings_is k (gathered_is k addend worth each ws)) (each w))

-- what a digit is worth in its window
abbrev digit_worth : (b s : ℕ) → Digit → ℤ
digit_worth b s d = pos (2 ^ b) *ℤ d.value +ℤ signed d.sign (pos s)

-- the digits by Horner's rule
digits_value : (k b s : ℕ) (ds : List Digit) → horner k (digit_worth b s) ds ≡ value k b s ds
digits_value k b s [] = refl
digits_value k b s (d ∷ ds) = ap (λ (v : ℤ). digit_worth b s d +ℤ pos (2 ^ k) *ℤ v) (digits_value k b s ds)

-- what the steps answer is the number times the base, by any coding of its half
pub multiplied_is : {E : Type 0} (g : Group E) (law : Lawful g) (base : E) → g.member base ≡ true → (R : Rule) (z : Sizes) (d s : ℕ) (c : ℤ) (digits : List Digit) →
    Coding R z (d / 2) s c digits → Is g base (pos d) (multiplied g z.k z.b base s digits c (d % 2))
multiplied_is g law base base-in R z d s c digits coding =
    by_factor whole (added_is g law base base-in (doubled_is g law base base-in (added_is g law base base-in windows corrections)) (chosen_is g law base base-in (d % 2) bit))
  where
    bit : d % 2 < 2
    bit = omega arith

    unit : Is g base (pos (2 ^ z.b)) (doublings g z.b base)
    unit = let same : pos (2 ^ z.b) *ℤ pos 1 ≡ pos (2 ^ z.b) = omega (arith, ints) in by_factor same (doublings_is g law base base-in z.b (base_is g law base base-in))

    start : Is g base (pos s) (climbed g base z.b s)
    start = climbed_is g law base base-in z.b s coding.draw_bits

    windows : Is g base (value z.k z.b s digits) (gathered g z.k (digit_addend g (doublings g z.b base) (climbed g base z.b s)) digits)
    windows = by_factor (digits_value z.k z.b s digits) (gathered_is g law base base-in z.k (digit_addend g (doublings g z.b base) (climbed g base z.b s)) (digit_worth z.b s) (digit_addend_is g law base base-in unit start) digits)

    wide : 1 ≤ z.k
    wide = omega (arith, z.k_least)

    corrections : Is g base c (gathered g z.k (small_addend g base) (correction_windows z.k z.b c))
    corrections = by_factor (correction_value z.k z.b wide c coding.correction_least coding.correction_most) (gathered_is g law base base-in z.k (small_addend g base) (λ (w : ℤ). w) (small_addend_is g law base base-in) (correction_windows z.k z.b c))

    half : pos (d / 2) ≡ c +ℤ value z.k z.b s digits
    half = coding.equation ∙ ap (λ (v : ℤ). c +ℤ v) (total_value z.k z.b s digits)

    join : (v c : ℤ) (h r d : ℕ) → pos h ≡ c +ℤ v → 2 * h + r ≡ d → ((v +ℤ c) +ℤ (v +ℤ c)) +ℤ pos r ≡ pos d
    join v c h r d p q = omega (arith, ints)

    whole : ((value z.k z.b s digits +ℤ c) +ℤ (value z.k z.b s digits +ℤ c)) +ℤ pos (d % 2) ≡ pos d
    whole = join (value z.k z.b s digits) c (d / 2) (d % 2) d half (div-add-mod d 2)
