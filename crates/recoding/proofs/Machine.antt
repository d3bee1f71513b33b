-- Sums, differences and products of 64 bits that do not overflow.
use Rattle.std.proofs.Common.{◌≡◌, ℕ, ◌+◌, ◌^◌, ◌<◌, ◌≤◌, ℤ, pos, negsuc, ◌+ℤ◌, ◌-ℤ◌, ◌*ℤ◌, neg_ℤ, ◌≤ℤ◌, ◌<ℤ◌, ap, ◌∙◌, ap₂, arith, pow_mono, w64, SFits, to_z, of_z}
use lib.Signed.{quot_z}
use Rattle.std.proofs.lemmas.Int.{ints, to_z-of_z}
use Rattle.inputs.specs.declared.sign.Choice.{Choice}
use Rattle.inputs.specs.Rules.{remainder, digit, rest}
use Rattle.inputs.specs.Signs.{signed, carry_value}
use Rattle.recoding.proofs.Windows.{times_bound, Small, rest_small}

-- z is from -n to n
abbrev pub About : ℕ → ℤ → Type 0
About n z = (neg_ℤ (pos n) ≤ℤ z) × (z ≤ℤ pos n)

-- z as a word holds it
abbrev word : ℤ → ℤ
word z = to_z w64 (of_z w64 z)

-- h less a less b
pub differences : (h a b : ℤ) → About (2 ^ 36) h → About (2 ^ 32) a → About (2 ^ 36) b →
    SFits w64 (word h -ℤ word a) × SFits w64 (word (word h -ℤ word a) -ℤ word b) × (word (word (word h -ℤ word a) -ℤ word b) ≡ h -ℤ a -ℤ b)
differences h a b p q r = (omega (arith, ints), omega (arith, ints), omega (arith, ints))

-- a, t and g less some bits
pub sums : (a t g : ℤ) (bits : ℕ) → About (2 ^ 61) a → About (2 ^ 61) t → About (2 ^ 32) g → bits < 2 ^ 32 →
    SFits w64 (word (word a +ℤ word t) +ℤ word g) × SFits w64 (word (word (word a +ℤ word t) +ℤ word g) -ℤ to_z w64 bits)
    × (word (word (word (word a +ℤ word t) +ℤ word g) -ℤ to_z w64 bits) ≡ a +ℤ t +ℤ g -ℤ pos bits)
sums a t g bits p q r h = (omega (arith, ints, p, q, r), omega (arith, ints, p, q, r), omega (arith, ints, p, q, r))

-- z as often as a factor says
pub record Scaled (f z : ℤ) : Type 0 where
  pub fits : SFits w64 (word f *ℤ word z)
  pub is : word (word f *ℤ word z) ≡ f *ℤ z
  pub about : About (2 ^ 61) (f *ℤ z)

pub scaled_is : (f z : ℤ) → pos 0 ≤ℤ f → f ≤ℤ pos (2 ^ 30) → About (2 ^ 31) z → Scaled f z
scaled_is (negsuc n) z l h p = absurd (omega (arith, ints))
scaled_is (pos n) z l h p =
    let t = times_bound n (2 ^ 30) (2 ^ 31) z (omega (arith, ints)) p.0 p.1 in
    let g0 = to_z-of_z w64 (pos n) (omega (arith, ints)) in
    let g1 = to_z-of_z w64 z (omega (arith, ints, p)) in
    let s : SFits w64 (pos n *ℤ z) = omega (arith, ints) in
    record { fits = rw (g0, g1) s; is = rw (g0, g1) (to_z-of_z w64 (pos n *ℤ z) s); about = t }

-- the remainder of a window, from its parts as they were computed
pub record Remains (k b s : ℕ) (h g t : ℤ) (c : Choice) : Type 0 where
  pub fits : SFits w64 (word (word h -ℤ word g) -ℤ word t)
  pub is : word (word (word h -ℤ word g) -ℤ word t) ≡ remainder k b h s c
  pub about : About (2 ^ 40) (remainder k b h s c)

pub remains : (k b s : ℕ) (h P g t : ℤ) (c : Choice) → Small k b s h c → P ≡ pos (2 ^ (k + b)) → g ≡ signed c.sign (pos s) → t ≡ word P *ℤ carry_value c.carry →
    Remains k b s h g t c
remains k b s h P g t c S p eg et =
    let f : word P ≡ pos (2 ^ (k + b)) = ap word p ∙ to_z-of_z w64 (pos (2 ^ (k + b))) (omega (arith, ints, S.power_most)) in
    let u : t ≡ pos (2 ^ (k + b)) *ℤ carry_value c.carry = et ∙ ap (λ (x : ℤ). x *ℤ carry_value c.carry) f in
    let v = differences h (signed c.sign (pos s)) (pos (2 ^ (k + b)) *ℤ carry_value c.carry) (S.number_least, S.number_most) (S.shift_least, S.shift_most) (S.carry_least, S.carry_most) in
    record {
      fits = rw (eg, u) v.1;
      is = rw (eg, u) v.2;
      about = (omega (arith, ints, S), omega (arith, ints, S));
    }

-- the remainder that was computed is that of the rule's answer F
pub remainder_by : (k b s : ℕ) (h r : ℤ) (F : ℤ → Choice) (x : Choice) → SFits w64 h → x ≡ F (word h) → r ≡ remainder k b (word h) s x → r ≡ remainder k b h s (F h)
remainder_by k b s h r F x f e i = let g = to_z-of_z w64 h f in i ∙ ap₂ (λ (y : ℤ) (c : Choice). remainder k b y s c) g (e ∙ ap F g)

-- a window's digit and what it leaves, from its remainder r and the unit H as they were computed
module _ (k b s : ℕ) (h r H : ℤ) (c : Choice) (eH : H ≡ pos (2 ^ b)) (lb : b ≤ 30) (er : r ≡ remainder k b h s c) (ar : About (2 ^ 40) r) (ad : About (2 ^ 20) (digit k b h s c)) where
  pub digit_is : word (quot_z (word r) (word H)) ≡ digit k b h s c
  digit_is =
      let m : 2 ^ b ≤ 2 ^ 30 = pow_mono lb in
      let g0 = to_z-of_z w64 r (omega (arith, ints, ar)) in
      let g1 : word H ≡ pos (2 ^ b) = ap word eH ∙ to_z-of_z w64 (pos (2 ^ b)) (omega (arith, ints)) in
      ap₂ (λ (x y : ℤ). word (quot_z x y)) (g0 ∙ er) g1 ∙ to_z-of_z w64 (digit k b h s c) (omega (arith, ints, ad))

  line : (r p x : ℤ) (u : ℕ) → r -ℤ p ≡ x → (neg_ℤ (pos u) <ℤ x) × (x <ℤ pos u) → u ≤ 2 ^ 30 → About (2 ^ 40) r → SFits w64 p × SFits w64 (r -ℤ p)
  line r p x u e a c l = (omega (arith, ints, a, l), omega (arith, ints, a, l))

  pub left_is : (t : ℤ) → t ≡ word H *ℤ word (quot_z (word r) (word H)) → SFits w64 (word r -ℤ word t) × (word (word r -ℤ word t) ≡ rest k b h s c)
  left_is t et =
      let m : 2 ^ b ≤ 2 ^ 30 = pow_mono lb in
      let u : word H ≡ pos (2 ^ b) = ap word eH ∙ to_z-of_z w64 (pos (2 ^ b)) (omega (arith, ints)) in
      let e : t ≡ pos (2 ^ b) *ℤ digit k b h s c = et ∙ ap₂ (λ (x y : ℤ). x *ℤ y) u digit_is in
      let n = line r (pos (2 ^ b) *ℤ digit k b h s c) (rest k b h s c) (2 ^ b) (ap (λ (x : ℤ). x -ℤ pos (2 ^ b) *ℤ digit k b h s c) er) (rest_small k b s h c) (pow_mono lb) ar in
      let g0 = to_z-of_z w64 r (omega (arith, ints, ar)) in
      let g1 : word t ≡ pos (2 ^ b) *ℤ digit k b h s c = ap word e ∙ to_z-of_z w64 (pos (2 ^ b) *ℤ digit k b h s c) n.0 in
      (rw (g0, g1) n.1, rw (g0, g1) (to_z-of_z w64 _ n.1 ∙ ap (λ (x : ℤ). x -ℤ pos (2 ^ b) *ℤ digit k b h s c) er))
