-- The windows of a correction: what they come to, how large they are, how many. Assumes nothing.
use Rattle.std.proofs.Common.{◌≡◌, ℕ, zero, suc, ◌+◌, ◌-◌, ◌*◌, ◌/◌, ◌%◌, ◌^◌, ◌<◌, ◌≤◌, Bool, true, false, cond, ltb, List, [], ◌∷◌, map, length, ℤ, pos, negsuc, ◌+ℤ◌, ◌-ℤ◌, ◌*ℤ◌, neg_ℤ, nat_abs, ◌≤ℤ◌, ◌<ℤ◌, sym, refl, ap, ◌∙◌, mod-lt, mul_comm, pow-suc, mul-zero, div-add-mod', mul-suc, arith, pow_pos, pow_mono, pow-add, ltb-false, ltb-true}
use lib.IntN.{neg_ℤ-+ℤ}
use lib.ListN.{length-map}
use native.Mathlib.Nat.{div-add-mod, lt_of_mul-lt-mul_left, le_of_mul-le-mul_left}
use Rattle.std.proofs.lemmas.Int.{ints}
use Rattle.steps.specs.Corrections.{correction_count, correction_windows, gain, low_windows}

-- what a list comes to by Horner's rule with steps of k bits, each element standing for a number
abbrev pub horner : {W : Type 0} → (k : ℕ) → (W → ℤ) → List W → ℤ
horner k worth [] = pos 0
horner k worth (w ∷ ws) = worth w +ℤ pos (2 ^ k) *ℤ horner k worth ws

-- what windows come to
abbrev pub windows_value : (k : ℕ) → List ℤ → ℤ
windows_value k ws = horner k (λ (w : ℤ). w) ws

-- 2 ^ k is twice the half of it
pub two_halves : (k : ℕ) → 1 ≤ k → 2 ^ k ≡ 2 * 2 ^ (k - 1)
two_halves k one =
    let next : suc (k - 1) ≡ k = omega arith in
    ap (λ (j : ℕ). 2 ^ j) (sym next) ∙ pow-suc 2 (k - 1) ∙ mul_comm (2 ^ (k - 1)) 2

-- a window that loses 2 ^ k leaves room for the one that the next gains
fits_gained : (K H P q w : ℕ) → K ≡ 2 * H → 2 * (q * K + w) ≤ K * P → H < w → 2 * (q + 1) ≤ P
fits_gained K H P q w twice h over =
    let sum : K * (2 * q + 1) ≡ 2 * (q * K) + K = omega arith in
    let less : K * (2 * q + 1) < K * P = omega arith in
    let most : 2 * q + 1 < P = lt_of_mul-lt-mul_left K less in
    omega arith

fits_kept : (K P q w : ℕ) → 0 < K → 2 * (q * K + w) ≤ K * P → 2 * (q + 0) ≤ P
fits_kept K P q w some h =
    let sum : K * (2 * (q + 0)) ≡ 2 * (q * K) = omega arith in
    let less : K * (2 * (q + 0)) ≤ K * P = omega arith in
    le_of_mul-le-mul_left less some

-- one window: it and 2 ^ k times the rest come to the number
lost_sum : (K q r g x : ℕ) → q * K + r ≡ x → (pos (r + g) -ℤ pos K) +ℤ pos K *ℤ pos (q + 1) ≡ pos (x + g)
lost_sum K q r g x e = let p : K * (q + 1) ≡ q * K + K = omega arith in omega (arith, ints)

kept_sum : (K q r g x : ℕ) → q * K + r ≡ x → pos (r + g) +ℤ pos K *ℤ pos (q + 0) ≡ pos (x + g)
kept_sum K q r g x e = let p : K * (q + 0) ≡ q * K = omega arith in omega (arith, ints)

-- n windows come to the number where it has n windows, less one bit
pub low_value : (k n x gained : ℕ) → 1 ≤ k → gained ≤ 1 → 2 * (x + gained) ≤ 2 ^ (k * n) → windows_value k (low_windows k n x gained) ≡ pos (x + gained)
low_value k zero x gained one few h =
    let none : x + gained ≡ 0 = omega (arith, rw (mul-zero k) at h) in
    ap pos (sym none)
low_value k (suc n) x gained one few h = by (low_value k n (x / 2 ^ k)) (ltb (2 ^ (k - 1)) (x % 2 ^ k + gained)) refl
  where
    parts : x / 2 ^ k * 2 ^ k + x % 2 ^ k ≡ x
    parts = div-add-mod' x (2 ^ k)

    power : 2 ^ (k * suc n) ≡ 2 ^ k * 2 ^ (k * n)
    power = ap (λ (j : ℕ). 2 ^ j) (mul-suc k n) ∙ pow-add 2 (k * n) k ∙ mul_comm (2 ^ (k * n)) (2 ^ k)

    room : 2 * (x / 2 ^ k * 2 ^ k + (x % 2 ^ k + gained)) ≤ 2 ^ k * 2 ^ (k * n)
    room = omega (arith, rw power at h, parts)

    by : ((more : ℕ) → 1 ≤ k → more ≤ 1 → 2 * (x / 2 ^ k + more) ≤ 2 ^ (k * n) → windows_value k (low_windows k n (x / 2 ^ k) more) ≡ pos (x / 2 ^ k + more)) →
        (t : Bool) → ltb (2 ^ (k - 1)) (x % 2 ^ k + gained) ≡ t →
        cond t (pos (x % 2 ^ k + gained) -ℤ pos (2 ^ k)) (pos (x % 2 ^ k + gained)) +ℤ pos (2 ^ k) *ℤ windows_value k (low_windows k n (x / 2 ^ k) (cond t 1 0)) ≡ pos (x + gained)
    by above true e =
        let fits = fits_gained (2 ^ k) (2 ^ (k - 1)) (2 ^ (k * n)) (x / 2 ^ k) (x % 2 ^ k + gained) (two_halves k one) room (ltb-true (2 ^ (k - 1)) (x % 2 ^ k + gained) e) in
        rw (above 1 one (omega arith) fits) (lost_sum (2 ^ k) (x / 2 ^ k) (x % 2 ^ k) gained x parts)
    by above false e =
        let fits = fits_kept (2 ^ k) (2 ^ (k * n)) (x / 2 ^ k) (x % 2 ^ k + gained) (pow_pos k) room in
        rw (above 0 one (omega arith) fits) (kept_sum (2 ^ k) (x / 2 ^ k) (x % 2 ^ k) gained x parts)

-- the windows of a number of b bits
count_bits : (k b : ℕ) → 1 ≤ k → suc b ≤ k * correction_count k b
count_bits k b one =
    let parts = div-add-mod b k in
    let rest : b % k < k = mod-lt b one in
    let whole : k * (b / k + 1) ≡ k * (b / k) + k = omega arith in
    omega arith

whole_value : (k b x : ℕ) → 1 ≤ k → x < 2 ^ b → windows_value k (low_windows k (correction_count k b) x 0) ≡ pos x
whole_value k b x one small =
    let twice : 2 ^ suc b ≡ 2 ^ b * 2 = pow-suc 2 b in
    let most : 2 ^ suc b ≤ 2 ^ (k * correction_count k b) = pow_mono (count_bits k b one) in
    let alone : x + 0 ≡ x = omega arith in
    low_value k (correction_count k b) x 0 one (omega arith) (omega arith) ∙ ap pos alone

-- a sign goes out of a product
pub times_negative : (n : ℕ) (z : ℤ) → pos n *ℤ neg_ℤ z ≡ neg_ℤ (pos n *ℤ z)
times_negative n (pos zero) = omega (arith, ints)
times_negative n (pos (suc m)) = omega (arith, ints)
times_negative n (negsuc m) = omega (arith, ints)

-- windows with all signs turned come to the negative
negated_value : (k : ℕ) (ws : List ℤ) → windows_value k (map neg_ℤ ws) ≡ neg_ℤ (windows_value k ws)
negated_value k [] = refl
negated_value k (w ∷ ws) = rw (negated_value k ws, times_negative (2 ^ k) (windows_value k ws)) (sym (neg_ℤ-+ℤ w (pos (2 ^ k) *ℤ windows_value k ws)))

-- the windows of a correction come to it
pub correction_value : (k b : ℕ) → 1 ≤ k → (c : ℤ) → neg_ℤ (pos (2 ^ b)) <ℤ c → c <ℤ pos (2 ^ b) → windows_value k (correction_windows k b c) ≡ c
correction_value k b one (pos x) least most = whole_value k b x one (omega (arith, ints))
correction_value k b one (negsuc x) least most =
    negated_value k (low_windows k (correction_count k b) (suc x) 0) ∙ ap neg_ℤ (whole_value k b (suc x) one (omega (arith, ints)))

-- no window is larger than that, whatever its sign
abbrev pub SmallAll : ℕ → List ℤ → Type 0
SmallAll top [] = Unit {0}
SmallAll top (w ∷ ws) = (nat_abs w ≤ top) × SmallAll top ws

nat_abs_most : (top : ℕ) (z : ℤ) → neg_ℤ (pos top) ≤ℤ z → z ≤ℤ pos top → nat_abs z ≤ top
nat_abs_most top (pos n) least most = omega (arith, ints)
nat_abs_most top (negsuc n) least most = omega (arith, ints)

low_small : (k n x gained : ℕ) → 1 ≤ k → gained ≤ 1 → SmallAll (2 ^ (k - 1)) (low_windows k n x gained)
low_small k zero x gained one few = tt
low_small k (suc n) x gained one few = by (low_small k n (x / 2 ^ k)) (ltb (2 ^ (k - 1)) (x % 2 ^ k + gained)) refl
  where
    halves : 2 ^ k ≡ 2 * 2 ^ (k - 1)
    halves = two_halves k one

    rest : x % 2 ^ k < 2 ^ k
    rest = mod-lt x (pow_pos k)

    by : ((more : ℕ) → 1 ≤ k → more ≤ 1 → SmallAll (2 ^ (k - 1)) (low_windows k n (x / 2 ^ k) more)) →
        (t : Bool) → ltb (2 ^ (k - 1)) (x % 2 ^ k + gained) ≡ t →
        (nat_abs (cond t (pos (x % 2 ^ k + gained) -ℤ pos (2 ^ k)) (pos (x % 2 ^ k + gained))) ≤ 2 ^ (k - 1)) × SmallAll (2 ^ (k - 1)) (low_windows k n (x / 2 ^ k) (cond t 1 0))
    by above true e =
        let over : 2 ^ (k - 1) < x % 2 ^ k + gained = ltb-true (2 ^ (k - 1)) (x % 2 ^ k + gained) e in (
          nat_abs_most (2 ^ (k - 1)) (pos (x % 2 ^ k + gained) -ℤ pos (2 ^ k)) (omega (arith, ints, halves, rest)) (omega (arith, ints, halves, rest)),
          above 1 one (omega arith),
        )
    by above false e = (ltb-false (2 ^ (k - 1)) (x % 2 ^ k + gained) e, above 0 one (omega arith))

negated_small : (top : ℕ) (ws : List ℤ) → SmallAll top ws → SmallAll top (map neg_ℤ ws)
negated_small top [] h = tt
negated_small top (pos zero ∷ ws) h = (h.0, negated_small top ws h.1)
negated_small top (pos (suc n) ∷ ws) h = (h.0, negated_small top ws h.1)
negated_small top (negsuc n ∷ ws) h = (h.0, negated_small top ws h.1)

-- a window of a correction is from -2 ^ (k - 1) to 2 ^ (k - 1)
pub correction_small_lem : (k b : ℕ) → 1 ≤ k → (c : ℤ) → SmallAll (2 ^ (k - 1)) (correction_windows k b c)
correction_small_lem k b one (pos x) = low_small k (correction_count k b) x 0 one (omega arith)
correction_small_lem k b one (negsuc x) =
    negated_small (2 ^ (k - 1)) (low_windows k (correction_count k b) (suc x) 0) (low_small k (correction_count k b) (suc x) 0 one (omega arith))

low_length : (k n x gained : ℕ) → length (low_windows k n x gained) ≡ n
low_length k zero x gained = refl
low_length k (suc n) x gained = ap suc (low_length k n (x / 2 ^ k) (gain k (x % 2 ^ k + gained)))

-- a correction has as many windows as the widths say
pub correction_length : (k b : ℕ) (c : ℤ) → length (correction_windows k b c) ≡ correction_count k b
correction_length k b (pos x) = low_length k (correction_count k b) x 0
correction_length k b (negsuc x) =
    length-map (low_windows k (correction_count k b) (suc x) 0) neg_ℤ ∙ low_length k (correction_count k b) (suc x) 0
