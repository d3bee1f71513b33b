-- What a built table reads: the entries of the steps. Assumes nothing.
use Rattle.std.proofs.Common.{◌≡◌, ℕ, zero, suc, ◌+◌, ◌-◌, ◌^◌, ◌<◌, ◌≤◌, List, [], ◌∷◌, ◌++◌, map, length, get_or, reverse, ℤ, pos, negsuc, ◌+ℤ◌, neg_ℤ, nat_abs, ◌≤ℤ◌, sym, refl, ap, ◌∙◌, subst, ap₂, arith, pow_pos}
use Rattle.std.proofs.lemmas.List.{get_or_append_left, get_or-append-add, get_or-reverse, length-append, length-reverse}
use Rattle.std.proofs.lemmas.Int.{ints}
use Rattle.groups.specs.Groups.{Group, added, doubled, negated}
use Rattle.inputs.specs.Signs.{signed}
use Rattle.recoding.specs.Codings.{Within}
use Rattle.recoding.specs.Digits.{decoded}
use Rattle.steps.proofs.LowWindows.{SmallAll, correction_small_lem}
use Rattle.steps.specs.Operations.{additions, chosen, climbed, doublings, gathered}
use Rattle.steps.specs.Corrections.{correction_windows}
use Rattle.steps.specs.Steps.{digit_addend, multiplied, small_addend, small_entry, turned, window_entry}
use Rattle.multiplier.specs.Tables.{Reaches, evaluated, read_digit, risen, small_cells, table_cells, window_cells, window_digit}
use Rattle.std.specs.List.{All}
use Rattle.recoding.specs.declared.digit.Digit.{Digit}
use Rattle.multiplier.proofs.Corrected.{window_place}
use Rattle.multiplier.proofs.Filling.{risen_at, risen_long}

-- a table, whatever cells are behind it
module _ {E : Type 0} (g : Group E) (down up top : ℕ) (unitA sA base : E) (behind : List E) (some : 1 ≤ top) where
  abbrev built : List E
  built = table_cells g down up top unitA sA base ++ behind

  abbrev below : List E
  below = reverse (risen g down (negated g unitA) sA)

  abbrev windows : List E
  windows = window_cells g down up unitA sA

  below_long : length below ≡ down
  below_long = length-reverse (risen g down (negated g unitA) sA) ∙ risen_long g down (negated g unitA) sA

  windows_long : length windows ≡ down + up + 1
  windows_long = omega (arith, length-append below (sA ∷ risen g up unitA sA), below_long, risen_long g up unitA sA)

  table_long : length (table_cells g down up top unitA sA base) ≡ down + up + 1 + (top + 1)
  table_long = omega (arith, some, length-append windows (small_cells g (top - 1) base), windows_long, risen_long g (top - 1) base base)

  in_table : (i : ℕ) (d : E) → i < down + up + 1 + (top + 1) → get_or built i d ≡ get_or (table_cells g down up top unitA sA base) i d
  in_table i d lt = get_or_append_left (table_cells g down up top unitA sA base) behind d i (omega (arith, lt, table_long))

  -- the entries for the digits
  entry_above : (j : ℕ) (d : E) → j ≤ up → get_or (sA ∷ risen g up unitA sA) j d ≡ additions g j unitA sA
  entry_above zero d le = refl
  entry_above (suc j) d le = risen_at g up j unitA sA d (omega arith)

  entry_below : (j : ℕ) (d : E) → suc j ≤ down → get_or below (down - suc j) d ≡ additions g (suc j) (negated g unitA) sA
  entry_below j d le =
      let rise = risen g down (negated g unitA) sA in
      let place : length rise - 1 - (down - suc j) ≡ j = omega (arith, risen_long g down (negated g unitA) sA) in
      get_or-reverse rise (down - suc j) d (omega (arith, risen_long g down (negated g unitA) sA)) ∙ ap (λ (i : ℕ). get_or rise i d) place ∙ risen_at g down j (negated g unitA) sA d (omega arith)

  -- the multiples of the base
  multiple_at : (n : ℕ) (d : E) → n ≤ top → get_or (small_cells g (top - 1) base) n d ≡ small_entry g base n
  multiple_at zero d le = refl
  multiple_at (suc zero) d le = refl
  multiple_at (suc (suc j)) d le = risen_at g (top - 1) j base base d (omega arith)

  multiple_read : (n : ℕ) (d : E) → n ≤ top → get_or built (down + up + 1 + n) d ≡ small_entry g base n
  multiple_read n d le =
      let place : down + up + 1 + n ≡ length windows + n = omega (arith, windows_long) in
      in_table (down + up + 1 + n) d (omega arith) ∙ ap (λ (i : ℕ). get_or (table_cells g down up top unitA sA base) i d) place ∙ get_or-append-add windows (small_cells g (top - 1) base) n d ∙ multiple_at n d le

  pub read_entry : (h : ℤ) → neg_ℤ (pos down) ≤ℤ h → h ≤ℤ pos up → get_or built (nat_abs (pos down +ℤ h)) g.neutral ≡ window_entry g unitA sA h
  read_entry (pos j) least most =
      let le : j ≤ up = omega (arith, ints) in
      let place : down + j ≡ length below + j = omega (arith, below_long) in
      in_table (down + j) g.neutral (omega arith) ∙ get_or_append_left windows _ g.neutral (down + j) (omega (arith, windows_long)) ∙ ap (λ (i : ℕ). get_or windows i g.neutral) place
      ∙ get_or-append-add below (sA ∷ risen g up unitA sA) j g.neutral ∙ entry_above j g.neutral le
  read_entry (negsuc j) least most =
      let le : suc j ≤ down = omega (arith, ints) in
      let difference : pos down +ℤ negsuc j ≡ pos (down - suc j) = omega (arith, ints) in
      ap (λ (z : ℤ). get_or built (nat_abs z) g.neutral) difference ∙ in_table (down - suc j) g.neutral (omega arith) ∙ get_or_append_left windows _ g.neutral (down - suc j) (omega (arith, windows_long))
      ∙ get_or_append_left below _ g.neutral (down - suc j) (omega (arith, below_long)) ∙ entry_below j g.neutral le

  read_window : (w : ℤ) → nat_abs w ≤ top → read_digit g built (down + up + 1) (window_digit w) ≡ small_addend g base w
  read_window (pos n) le = ap (λ (i : ℕ). get_or built i g.neutral) (window_place (down + up + 1) (pos n)) ∙ multiple_read n g.neutral le
  read_window (negsuc n) le = ap (negated g) (ap (λ (i : ℕ). get_or built i g.neutral) (window_place (down + up + 1) (negsuc n)) ∙ multiple_read (suc n) g.neutral le)

  -- rounds over words that add the same come to the same
  pub windows_gathered : (k : ℕ) (lo hi : ℤ) → neg_ℤ (pos down) ≡ lo → pos up ≡ hi → (ds : List Digit) → Within lo hi ds → gathered g k (read_digit g built down) ds ≡ gathered g k (digit_addend g unitA sA) ds
  windows_gathered k lo hi el eh [] all = refl
  windows_gathered k lo hi el eh (d ∷ ds) all =
      ap₂ (λ x y. added g (doublings g k x) y) (windows_gathered k lo hi el eh ds all.2)
      (ap (turned g d.sign) (read_entry (signed d.sign d.value) (omega (arith, ints, all.0, el)) (omega (arith, ints, all.1, eh))))

  pub correction_gathered : (k : ℕ) (ws : List ℤ) → SmallAll top ws → gathered g k (read_digit g built (down + up + 1)) (map window_digit ws) ≡ gathered g k (small_addend g base) ws
  correction_gathered k [] all = refl
  correction_gathered k (w ∷ ws) all = ap₂ (λ x y. added g (doublings g k x) y) (correction_gathered k ws all.1) (read_window w all.0)

-- so evaluation from a built table gives what the steps give, whatever cells are behind it
pub evaluated_is : {E : Type 0} (g : Group E) (behind : List E) (down up top k b s : ℕ) (base : E) → 1 ≤ k → top ≡ 2 ^ (k - 1) →
    (lo hi : ℤ) → neg_ℤ (pos down) ≡ lo → pos up ≡ hi → (ws : List ℤ) → Within lo hi (map decoded ws) → (c : ℤ) (bit : ℕ) →
    evaluated g (table_cells g down up top (doublings g b base) (climbed g base b s) base ++ behind) down (down + up + 1) k b base ws c bit ≡ multiplied g k b base s (map decoded ws) c bit
evaluated_is g behind down up top k b s base one is lo hi el eh ws all c bit =
    let some : 1 ≤ top = omega (arith, is, pow_pos (k - 1)) in
    let small : SmallAll top (correction_windows k b c) = subst (λ (n : ℕ). SmallAll n (correction_windows k b c)) (sym is) (correction_small_lem k b one c) in
    ap₂ (λ x y. added g (doubled g (added g x y)) (chosen g base bit))
    (windows_gathered g down up top (doublings g b base) (climbed g base b s) base behind some k lo hi el eh (map decoded ws) all)
    (correction_gathered g down up top (doublings g b base) (climbed g base b s) base behind some k (correction_windows k b c) small)

-- digits within the limits reach their entries
pub digits_reach : (cells down up : ℕ) (lo hi : ℤ) → neg_ℤ (pos down) ≡ lo → pos up ≡ hi → down + up < cells → (ds : List Digit) → Within lo hi ds → All (Reaches cells down) ds
digits_reach cells down up lo hi el eh room [] all i x lt = absurd (omega arith)
digits_reach cells down up lo hi el eh room (d ∷ ds) all (suc i) x lt = digits_reach cells down up lo hi el eh room ds all.2 i x (omega arith)
digits_reach cells down up lo hi el eh room (d ∷ ds) all zero x lt = reach (signed d.sign d.value) all.0 all.1
  where
    reach : (h : ℤ) → lo ≤ℤ h → h ≤ℤ hi → nat_abs (pos down +ℤ h) < cells
    reach (pos j) least most = omega (arith, ints, el, eh)
    reach (negsuc j) least most = let difference : pos down +ℤ negsuc j ≡ pos (down - suc j) = omega (arith, ints, el) in let same = ap nat_abs difference in omega (arith, same)
