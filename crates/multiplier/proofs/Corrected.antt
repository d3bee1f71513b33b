-- The windows of a correction, one more of them written. Assumes nothing.
use Rattle.std.proofs.Common.{◌≡◌, ℕ, zero, suc, ◌+◌, ◌-◌, ◌*◌, ◌/◌, ◌%◌, ◌^◌, ◌<◌, ◌≤◌, List, [], ◌∷◌, ◌++◌, map, length, take, set, ℤ, pos, negsuc, ◌+ℤ◌, neg_ℤ, nat_abs, sym, refl, ap, ◌∙◌, append_assoc, mul-le-mul_left, div-mul-le_self, arith}
use Rattle.std.proofs.lemmas.List.{take_more_set, take_all, append-nil}
use Rattle.steps.specs.Corrections.{gain, lessened, low_windows, correction_windows, correction_count}
use Rattle.steps.proofs.LowWindows.{SmallAll}
use Rattle.multiplier.specs.Tables.{Reaches, turned_by, window_digit}
use Rattle.std.proofs.lemmas.Simd.{map-map}
use Rattle.std.specs.List.{All}
use Rattle.inputs.specs.Signs.{signed}

module _ {D : Type 0} (f : ℤ → D) (k n : ℕ) (all : List D) where
  pub coded_more : (i x gained q next : ℕ) (ws : List D) (w : D) → i < n → length ws ≡ n → w ≡ f (lessened k (x % 2 ^ k + gained)) → q ≡ x / 2 ^ k → next ≡ gain k (x % 2 ^ k + gained) →
      take i ws ++ map f (low_windows k (n - i) x gained) ≡ all → take (i + 1) (set ws i w) ++ map f (low_windows k (n - (i + 1)) q next) ≡ all
  coded_more i x gained q next ws w lt long ew eq en before =
      let r : ℕ = n - (i + 1) in
      let left : n - i ≡ suc r = omega arith in
      let here : take (i + 1) (set ws i w) ≡ take i ws ++ w ∷ [] = take_more_set ws i w (omega arith) in
      ap (λ (l : List D). l ++ map f (low_windows k r q next)) here
      ∙ append_assoc (take i ws) (w ∷ []) (map f (low_windows k r q next))
      ∙ ap (λ (v : D). take i ws ++ v ∷ map f (low_windows k r q next)) ew
      ∙ ap (λ (y : ℕ). take i ws ++ f (lessened k (x % 2 ^ k + gained)) ∷ map f (low_windows k r y next)) eq
      ∙ ap (λ (y : ℕ). take i ws ++ f (lessened k (x % 2 ^ k + gained)) ∷ map f (low_windows k r (x / 2 ^ k) y)) en
      ∙ ap (λ (m : ℕ). take i ws ++ map f (low_windows k m x gained)) (sym left)
      ∙ before

-- they are the windows of the correction
pub turned_are : (k b : ℕ) (c : ℤ) → map (λ w. window_digit (turned_by c w)) (low_windows k (correction_count k b) (nat_abs c) 0) ≡ map window_digit (correction_windows k b c)
turned_are k b (pos x) = refl
turned_are k b (negsuc x) = sym (map-map window_digit neg_ℤ (low_windows k (correction_count k b) (suc x) 0))

-- the entry of a window is that of its size
pub window_place : (small : ℕ) (w : ℤ) → nat_abs (pos small +ℤ signed (window_digit w).sign (window_digit w).value) ≡ small + nat_abs w
window_place small (pos n) = omega arith
window_place small (negsuc n) = omega arith

-- small windows reach their entries
reach_window : (cells small top : ℕ) (w : ℤ) → small + top < cells → nat_abs w ≤ top → Reaches cells small (window_digit w)
reach_window cells small top w room le = let at = window_place small w in omega (arith, at)

pub small_reach : (cells small top : ℕ) (ws : List ℤ) → small + top < cells → SmallAll top ws → All (Reaches cells small) (map window_digit ws)
small_reach cells small top [] room all i d lt = absurd (omega arith)
small_reach cells small top (w ∷ ws) room all zero d lt = reach_window cells small top w room all.0
small_reach cells small top (w ∷ ws) room all (suc i) d lt = small_reach cells small top ws room all.1 i d (omega arith)

-- a draw of at most 30 bits has at most 16 windows
pub count_most : (k b : ℕ) → 2 ≤ k → b ≤ 30 → correction_count k b ≤ 16
count_most k b wide few =
    let q : ℕ = b / k in
    let down : q * k ≤ b = div-mul-le_self b k in
    let twice : q * 2 ≤ q * k = mul-le-mul_left q wide in
    omega arith
