-- What the loop of the recoding keeps.
use Rattle.std.proofs.Common.{◌≡◌, ℕ, zero, suc, ◌+◌, ◌-◌, ◌*◌, ◌/◌, ◌%◌, ◌^◌, ◌<◌, ◌≤◌, cond, ltb, List, [], ◌∷◌, ◌++◌, map, length, get_or, drop, ℤ, pos, negsuc, ◌+ℤ◌, ◌*ℤ◌, ◌≤ℤ◌, ◌<ℤ◌, sym, refl, ap, ◌∙◌, subst, ap₂, zero-le, le_trans, add-zero, mod-lt, mod-eq_of_lt, mul_comm, mul-zero, div-one, sub-one, arith, pow_pos, pow_mono, pow-add}
use native.Mathlib.Nat.{sub_self}
use Rattle.std.proofs.lemmas.Nat.{shr-shr, shr_below}
use Rattle.std.proofs.lemmas.List.{get_or-drop, take_at}
use Rattle.std.proofs.lemmas.Int.{ints}
use Rattle.recoding.specs.declared.digit.Digit.{Digit}
use Rattle.inputs.specs.declared.sign.Carry.{Carry}
use Rattle.inputs.specs.declared.sign.Choice.{Choice}
use Rattle.inputs.specs.declared.sign.Sign.{Sign}
use Rattle.inputs.specs.declared.sign.Sign.TheVariants.{Plus, Minus}
use Rattle.inputs.specs.declared.sizes.Sizes.{Sizes}
use Rattle.recoding.specs.Codings.{Coding, digits_in}
use Rattle.recoding.specs.Digits.{encoded, decoded, carried, raised}
use Rattle.inputs.specs.Keys.{bits_at}
use Rattle.inputs.specs.Rules.{Rule, Lawful, Admitted, Reached, digit, rest}
use Rattle.inputs.specs.Signs.{signed, carry_value}
use Rattle.inputs.specs.Sizes.{Widths, key_bits}
use Rattle.recoding.specs.Windows.{State, put, below, recoding}
use Rattle.recoding.proofs.Equation.{Good, Inner, after, good, windows_are, inner_within, total_value}
use Rattle.recoding.proofs.Machine.{About}
use Rattle.recoding.proofs.Windows.{below_range, digit_small, hi_small}

-- the bits of a key's half above all windows are all that is left of it there
pub top_field : (d k b m : ℕ) → d < 2 ^ (m * k + b) → bits_at (d / 2) b (k * m) ≡ d / 2 / 2 ^ (k * m)
top_field d k b m h = mod-eq_of_lt (rw (shr-shr d 1 (k * m)) (shr_below d b (1 + k * m) (le_trans h (pow_mono more))))
  where
    more : m * k + b ≤ b + (1 + k * m)
    more = omega arith

-- a digit's word
word_about : (w lo hi : ℤ) (g : Sign) → lo <ℤ signed g w → signed g w <ℤ hi → negsuc 3 ≤ℤ lo → hi ≤ℤ pos 64 → About (2 ^ 22) (encoded (record { value = w; sign = g }))
word_about w lo hi Plus a b c d = (omega (arith, ints), omega (arith, ints))
word_about w lo hi Minus a b c d = (omega (arith, ints), omega (arith, ints))

first_about : (lo hi : ℤ) (ds : List Digit) → Inner lo hi ds → negsuc 3 ≤ℤ lo → hi ≤ℤ pos 64 → About (2 ^ 22) (get_or (map encoded ds) 0 (pos 0))
first_about lo hi [] p a b = (omega (arith, ints), omega (arith, ints))
first_about lo hi (d ∷ ds) p a b = word_about d.value lo hi d.sign p.0 p.1 a b

word_more : (w t : ℤ) (g : Sign) → encoded (record { value = w +ℤ t; sign = g }) ≡ encoded (record { value = w; sign = g }) +ℤ pos 2 *ℤ t
word_more w t Plus = omega (arith, ints)
word_more w t Minus = omega (arith, ints)

raised_carried : (t : Carry) (ds : List Digit) → map encoded (carried t ds) ≡ raised t (map encoded ds)
raised_carried t [] = refl
raised_carried t (d ∷ ds) = ap (λ (z : ℤ). z ∷ map encoded ds) (word_more d.value (carry_value t) d.sign)

-- a word gives its digit back
decoded_encoded : (w : ℤ) (g : Sign) → decoded (encoded (record { value = w; sign = g })) ≡ record { value = w; sign = g }
decoded_encoded (pos n) Plus =
    let e : (2 * n + 0) / 2 ≡ n = omega arith in let f : (2 * n + 0) % 2 ≡ 0 = omega arith in
    ap₂ (λ (x y : ℕ). record { value = pos x; sign = cond (ltb 0 y) Minus Plus }) e f
decoded_encoded (pos n) Minus =
    let e : (2 * n + 1) / 2 ≡ n = omega arith in let f : (2 * n + 1) % 2 ≡ 1 = omega arith in
    ap₂ (λ (x y : ℕ). record { value = pos x; sign = cond (ltb 0 y) Minus Plus }) e f
decoded_encoded (negsuc n) Plus =
    let v : pos 2 *ℤ negsuc n +ℤ pos 0 ≡ negsuc (2 * n + 1) = omega (arith, ints) in
    let e : (2 * n + 1) / 2 ≡ n = omega arith in let f : (2 * n + 1) % 2 ≡ 1 = omega arith in
    ap decoded v ∙ ap₂ (λ (x y : ℕ). record { value = negsuc x; sign = cond (ltb 0 (1 - y)) Minus Plus }) e f
decoded_encoded (negsuc n) Minus =
    let v : pos 2 *ℤ negsuc n +ℤ pos 1 ≡ negsuc (2 * n) = omega (arith, ints) in
    let e : (2 * n) / 2 ≡ n = omega arith in let f : (2 * n) % 2 ≡ 0 = omega arith in
    ap decoded v ∙ ap₂ (λ (x y : ℕ). record { value = negsuc x; sign = cond (ltb 0 (1 - y)) Minus Plus }) e f

pub decode_all : (ds : List Digit) → map decoded (map encoded ds) ≡ ds
decode_all [] = refl
decode_all (d ∷ ds) = ap₂ (λ (x : Digit) (y : List Digit). x ∷ y) (decoded_encoded d.value d.sign) (decode_all ds)

-- where the recoding of e stands with the windows from i up done, and the number of the next window
abbrev pub standing : Rule → Sizes → (s e i : ℕ) → State
standing R z s e i = after R z.k z.b s e i (z.m - i)

abbrev pub number_at : Rule → Sizes → (s e i : ℕ) → ℤ
number_at R z s e i = below z.k (bits_at e z.k (z.k * (i - 1))) (standing R z s e i).left

pub widths : (z : Sizes) → Widths z.k z.b
widths z = (z.k_least, z.k_most, z.b_least, z.b_most)

module _ (R : Rule) (z : Sizes) (s d : ℕ) (L : Lawful R) (a : Admitted R z.k z.b s) (fits : d < 2 ^ key_bits z) where
  -- the rule's answer for the next window
  abbrev choice : ℕ → Choice
  choice i = R.choose z.k z.b (number_at R z s (d / 2) i) s

  good_at : (i : ℕ) → i ≤ z.m → Good R z.k z.b s (d / 2) i (standing R z s (d / 2) i)
  good_at i h = good R z.k z.b s (d / 2) (widths z) a L i (z.m - i) (subst (λ (x : ℕ). d / 2 < 2 ^ (z.k * x + z.b - 1)) same small)
    where
      same : z.m ≡ i + (z.m - i)
      same = omega arith

      one : key_bits z ≡ (z.k * z.m + z.b - 1) + 1
      one = omega arith

      small : d / 2 < 2 ^ (z.k * z.m + z.b - 1)
      small = shr_below d (z.k * z.m + z.b - 1) 1 (subst (λ (x : ℕ). d < 2 ^ x) one fits)

  pub left_about : (i : ℕ) → i ≤ z.m → About (2 ^ 30) (standing R z s (d / 2) i).left
  left_about i h = let g = good_at i h in let p : 2 ^ z.b ≤ 2 ^ 30 = pow_mono z.b_most in (omega (arith, ints, g.least), omega (arith, ints, g.most))

  pub reached_at : (i : ℕ) → i ≤ z.m → Reached z.k z.b (number_at R z s (d / 2) i)
  reached_at i h =
      let g = good_at i h in
      rw (pow-add 2 z.k z.b) (rw (mul_comm (2 ^ z.k) (2 ^ z.b))
      (below_range (2 ^ z.b) (2 ^ z.k) (bits_at (d / 2) z.k (z.k * (i - 1))) (standing R z s (d / 2) i).left (mod-lt (d / 2 / 2 ^ (z.k * (i - 1))) (pow_pos z.k)) g.least g.most))

  pub digit_about : (i : ℕ) → i ≤ z.m → About (2 ^ 20) (digit z.k z.b (number_at R z s (d / 2) i) s (choice i))
  digit_about i h = digit_small R z.k z.b s (number_at R z s (d / 2) i) L (widths z) a (reached_at i h)

  pub above_about : (i : ℕ) (ws : List ℤ) → i ≤ z.m → drop i ws ≡ map encoded (standing R z s (d / 2) i).digits → About (2 ^ 22) (get_or ws i (pos 0))
  above_about i ws h e = subst (λ (x : ℤ). About (2 ^ 22) x) same (first_about (R.lo z.k z.b) (R.hi z.k z.b) (standing R z s (d / 2) i).digits (good_at i h).inner (L.lo_least z.k z.b (widths z)) (hi_small R z.k z.b L (widths z)))
    where
      same : get_or (map encoded (standing R z s (d / 2) i).digits) 0 (pos 0) ≡ get_or ws i (pos 0)
      same = ap (λ (l : List ℤ). get_or l 0 (pos 0)) (sym e) ∙ get_or-drop i ws 0 (pos 0) ∙ ap (λ (n : ℕ). get_or ws n (pos 0)) (add-zero i)

  next_at : (i : ℕ) → 0 < i → i ≤ z.m → standing R z s (d / 2) (i - 1) ≡ put R z.k z.b s (number_at R z s (d / 2) i) (standing R z s (d / 2) i).digits
  next_at zero p h = elim p [ ]
  next_at (suc i) p h = let n : z.m - i ≡ suc (z.m - suc i) = omega arith in rw (sub-one (suc i)) (rw n)

  -- the start of the loop
  pub start : ((standing R z s (d / 2) z.m).digits ≡ []) × ((standing R z s (d / 2) z.m).left ≡ pos (d / 2 / 2 ^ (z.k * z.m)))
  start = rw (sub_self z.m) (refl, refl)

  -- the number of the window that a turn cuts
  pub number_is : (i bits : ℕ) (h x : ℤ) → x ≡ (standing R z s (d / 2) i).left → bits ≡ bits_at (d / 2) z.k (z.k * (i - 1)) → h ≡ below z.k bits x → h ≡ number_at R z s (d / 2) i
  number_is i bits h x q f e = e ∙ ap₂ (λ (n : ℕ) (v : ℤ). below z.k n v) f q

  -- the end of a turn
  pub again : (i : ℕ) → 0 < i → i ≤ z.m → (ws ws' : List ℤ) (h left word : ℤ) (x : Digit) (t : Carry) →
      h ≡ number_at R z s (d / 2) i → x.value ≡ digit z.k z.b h s (R.choose z.k z.b h s) → x.sign ≡ (R.choose z.k z.b h s).sign →
      t ≡ (R.choose z.k z.b h s).carry → left ≡ rest z.k z.b h s (R.choose z.k z.b h s) →
      word ≡ encoded x → drop i ws ≡ map encoded (standing R z s (d / 2) i).digits → drop (i - 1) ws' ≡ word ∷ raised t (drop (i - 1 + 1) ws) →
      (drop (i - 1) ws' ≡ map encoded (standing R z s (d / 2) (i - 1)).digits) × (left ≡ (standing R z s (d / 2) (i - 1)).left)
  again i p l ws ws' h left word x t eh ew eg et er eword ein eout =
      let back : i - 1 + 1 ≡ i = omega arith in
      let C : ℤ → Choice = λ y. R.choose z.k z.b y s in
      let fw = ew ∙ ap (λ (y : ℤ). digit z.k z.b y s (C y)) eh in
      let fg = eg ∙ ap (λ (y : ℤ). (C y).sign) eh in
      let ft = et ∙ ap (λ (y : ℤ). (C y).carry) eh in
      let fr = er ∙ ap (λ (y : ℤ). rest z.k z.b y s (C y)) eh in
      rw (next_at i p l) (
        eout ∙ ap₂ (λ (x : ℤ) (y : List ℤ). x ∷ y) (eword ∙ ap₂ (λ (v : ℤ) (g : Sign). encoded (record { value = v; sign = g })) fw fg)
            (ap₂ (λ (x : Carry) (y : List ℤ). raised x y) ft (ap (λ (n : ℕ). drop n ws) back ∙ ein) ∙ sym (raised_carried (choice i).carry (standing R z s (d / 2) i).digits)),
        fr,
      )

  -- the windows of the specification are all of them
  all_windows : recoding R z s (d / 2) ≡ standing R z s (d / 2) 0
  all_windows =
      windows_are R z.k z.b s (d / 2) 0 (z.m - 1) ∙ ap (λ (n : ℕ). after R z.k z.b s (d / 2) 0 n) whole
    where
      whole : suc (z.m - 1) ≡ z.m - 0
      whole = omega arith

  -- the end of the loop
  pub finish : (i : ℕ) (ws : List ℤ) (left : ℤ) → i ≤ 0 → drop i ws ≡ map encoded (standing R z s (d / 2) i).digits → left ≡ (standing R z s (d / 2) i).left →
      (ws ≡ map encoded (recoding R z s (d / 2)).digits) × (left ≡ (recoding R z s (d / 2)).left)
  finish zero ws left h p q =
      (p ∙ ap (λ (x : State). map encoded x.digits) (sym all_windows), q ∙ ap (λ (x : State). x.left) (sym all_windows))
  finish (suc i) ws left h p q = elim h [ ]

  -- what the steps give is a coding of the half
  pub coded : Coding R z (d / 2) s (recoding R z s (d / 2)).left (recoding R z s (d / 2)).digits
  coded = subst (λ (x : State). Coding R z (d / 2) s x.left x.digits) (sym all_windows) (record {
    draw_bits = a.0;
    admitted = a.1;
    correction_least = at.least;
    correction_most = at.most;
    limits = inner_within (R.lo z.k z.b) (R.hi z.k z.b) (standing R z s (d / 2) 0).digits at.inner;
    equation = ap pos (sym whole) ∙ at.sum ∙ ap (λ (y : ℤ). (standing R z s (d / 2) 0).left +ℤ y) (sym (total_value z.k z.b s (standing R z s (d / 2) 0).digits));
  })
    where
      at : Good R z.k z.b s (d / 2) 0 (standing R z s (d / 2) 0)
      at = good_at 0 zero-le

      whole : d / 2 / 2 ^ (z.k * 0) ≡ d / 2
      whole = rw (mul-zero z.k) (div-one (d / 2))

  -- the words of an accepted recoding are a coding of the half
  pub coding_in : (ws tail : List ℤ) (c : ℤ) → length ws ≡ z.m → ws ≡ map encoded (recoding R z s (d / 2)).digits → c ≡ (recoding R z s (d / 2)).left →
      Coding R z (d / 2) s c (digits_in z (ws ++ tail))
  coding_in ws tail c n e f =
      subst (λ (x : ℤ). Coding R z (d / 2) s x (digits_in z (ws ++ tail))) (sym f) (subst (λ (ds : List Digit). Coding R z (d / 2) s (recoding R z s (d / 2)).left ds) (sym held) coded)
    where
      held : digits_in z (ws ++ tail) ≡ (recoding R z s (d / 2)).digits
      held = ap (map decoded) (take_at ws tail z.m n ∙ e) ∙ decode_all (recoding R z s (d / 2)).digits
