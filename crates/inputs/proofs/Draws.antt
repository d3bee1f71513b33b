-- The first admitted draw.
use Rattle.std.proofs.Common.{◌≡◌, ℕ, zero, suc, ◌+◌, ◌-◌, ◌*◌, ◌/◌, ◌%◌, ◌^◌, ◌<◌, ◌≤◌, Bool, true, false, cond, List, length, take, drop, Some, None, sym, refl, ap, ◌∙◌, subst, ap₂, div-mul-le_self, add-one, arith}
use native.Mathlib.Nat.{div-eq_of_lt, add-mul-div_right}
use Rattle.std.proofs.lemmas.Nat.{le-div, one_shl}
use Rattle.inputs.specs.Draws.{lowest_first, draw_bytes, draw_at, behind, draws_left, Found, first_of, First}

pub draw_bytes_lem : (b : ℕ) → 1 ≤ b → b ≤ 30 → (1 ≤ draw_bytes b) × (draw_bytes b ≤ 4)
draw_bytes_lem b l h = (omega arith, omega arith)

module _ (bytes : List ℕ) (b mark : ℕ) (size : 0 < draw_bytes b) where
  left_more : mark + draw_bytes b ≤ length bytes → draws_left bytes b mark ≡ suc (draws_left bytes b (behind b mark))
  left_more h =
      let e : length bytes - mark ≡ (length bytes - (mark + draw_bytes b)) + 1 * draw_bytes b = omega arith in
      ap (λ (x : ℕ). x / draw_bytes b) e ∙ add-mul-div_right (length bytes - (mark + draw_bytes b)) 1 size ∙ add-one _

  left_none : length bytes < mark + draw_bytes b → draws_left bytes b mark ≡ 0
  left_none h = let l : length bytes - mark < draw_bytes b = omega arith in div-eq_of_lt l

  module _ (admits : ℕ → Bool) where
    -- the next draw is whole, and admitted or not; or it is not whole
    pub first_here : mark + draw_bytes b ≤ length bytes → admits (draw_at bytes b mark) ≡ true →
        first_of admits bytes b (draws_left bytes b mark) mark ≡ Some (record { value = draw_at bytes b mark; after = behind b mark })
    first_here h a = rw (left_more h) (rw a)

    pub first_later : mark + draw_bytes b ≤ length bytes → admits (draw_at bytes b mark) ≡ false →
        first_of admits bytes b (draws_left bytes b mark) mark ≡ first_of admits bytes b (draws_left bytes b (behind b mark)) (behind b mark)
    first_later h a = rw (left_more h) (rw a)

    pub first_none : length bytes < mark + draw_bytes b → first_of admits bytes b (draws_left bytes b mark) mark ≡ None
    first_none h = rw (left_none h)

module _ (admits : ℕ → Bool) (bytes : List ℕ) (b : ℕ) where
  -- the same place, one draw further on
  next_place : (mark j : ℕ) → behind b mark + j * draw_bytes b ≡ mark + suc j * draw_bytes b
  next_place mark j = omega arith

  first_place_lem : (mark : ℕ) → mark + 0 * draw_bytes b ≡ mark
  first_place_lem mark = omega arith

  not_none : {f : Found} → None ≡ Some f → ⊥
  not_none e = let z : ◌≡◌ {A = ℕ} 0 1 = cc in omega arith

  same_found : (f g : Found) → Some f ≡ Some g → f ≡ g
  same_found f g e = cc

  found_now : (mark : ℕ) (f : Found) → behind b mark ≤ length bytes → admits (draw_at bytes b mark) ≡ true → record { value = draw_at bytes b mark; after = behind b mark } ≡ f → First admits bytes b mark f.value f.after
  found_now mark f w a e = subst (λ (f : Found). First admits bytes b mark f.value f.after) e (record {
    count = 0;
    place = omega arith;
    within = w;
    here = ap (draw_at bytes b) (sym (first_place_lem mark));
    taken = a;
    skipped = λ j l. elim l [ ];
  })

  found_later : (mark : ℕ) (f : Found) → admits (draw_at bytes b mark) ≡ false → First admits bytes b (behind b mark) f.value f.after → First admits bytes b mark f.value f.after
  found_later mark f a w = record {
    count = suc w.count;
    place = w.place ∙ omega arith;
    within = w.within;
    here = w.here ∙ ap (draw_at bytes b) (next_place mark w.count);
    taken = w.taken;
    skipped = skipped;
  }
    where
      skipped : (j : ℕ) → j < suc w.count → admits (draw_at bytes b (mark + j * draw_bytes b)) ≡ false
      skipped zero l = ap (λ (p : ℕ). admits (draw_at bytes b p)) (first_place_lem mark) ∙ a
      skipped (suc j) l = ap (λ (p : ℕ). admits (draw_at bytes b p)) (sym (next_place mark j)) ∙ w.skipped j (omega arith)

  pub found_before : (count mark : ℕ) (f : Found) → mark + count * draw_bytes b ≤ length bytes → first_of admits bytes b count mark ≡ Some f → First admits bytes b mark f.value f.after
  found_before zero mark f w e = absurd (not_none e)
  found_before (suc count) mark f w e = by (admits (draw_at bytes b mark)) refl e (found_before count (behind b mark) f (omega arith))
    where
      by : (a : Bool) → admits (draw_at bytes b mark) ≡ a →
          cond a (Some (record { value = draw_at bytes b mark; after = behind b mark })) (first_of admits bytes b count (behind b mark)) ≡ Some f →
          (first_of admits bytes b count (behind b mark) ≡ Some f → First admits bytes b (behind b mark) f.value f.after) → First admits bytes b mark f.value f.after
      by true a e further = found_now mark f (omega arith) a (same_found (record { value = draw_at bytes b mark; after = behind b mark }) f e)
      by false a e further = found_later mark f a (further e)

  -- nothing is found only where none is admitted
  pub none_admitted : (count mark : ℕ) → first_of admits bytes b count mark ≡ None → (j : ℕ) → j < count → admits (draw_at bytes b (mark + j * draw_bytes b)) ≡ false
  none_admitted zero mark e j l = elim l [ ]
  none_admitted (suc count) mark e j l = by (admits (draw_at bytes b mark)) refl e (none_admitted count (behind b mark)) j l
    where
      by : (a : Bool) → admits (draw_at bytes b mark) ≡ a →
          cond a (Some (record { value = draw_at bytes b mark; after = behind b mark })) (first_of admits bytes b count (behind b mark)) ≡ None →
          (first_of admits bytes b count (behind b mark) ≡ None → (j : ℕ) → j < count → admits (draw_at bytes b (behind b mark + j * draw_bytes b)) ≡ false) →
          (j : ℕ) → j < suc count → admits (draw_at bytes b (mark + j * draw_bytes b)) ≡ false
      by true a e further j l = absurd (not_none (sym e))
      by false a e further zero l = ap (λ (p : ℕ). admits (draw_at bytes b p)) (first_place_lem mark) ∙ a
      by false a e further (suc j) l = ap (λ (p : ℕ). admits (draw_at bytes b p)) (sym (next_place mark j)) ∙ further e j (omega arith)

  pub whole_left : (mark : ℕ) → mark ≤ length bytes → mark + draws_left bytes b mark * draw_bytes b ≤ length bytes
  whole_left mark w = omega (arith, div-mul-le_self (length bytes - mark) (draw_bytes b))

  pub among_left : (mark j : ℕ) → 0 < draw_bytes b → mark + suc j * draw_bytes b ≤ length bytes → j < draws_left bytes b mark
  among_left mark j size w = le-div (suc j) (length bytes - mark) (draw_bytes b) size (omega arith)

-- a turn of the search: what was read is the whole draw at p
pub record Turn (bytes : List ℕ) (b p q v : ℕ) : Type 0 where
  pub whole : p + draw_bytes b ≤ length bytes
  pub value : v ≡ draw_at bytes b p
  pub on : q ≡ p + draw_bytes b

pub turn : (bs bs' part : List ℕ) (b w p q x : ℕ) → w ≡ b → b ≤ 30 → bs' ≡ bs →
    (p + draw_bytes w ≤ length bs') × (part ≡ take (draw_bytes w) (drop p bs')) × (q ≡ p + draw_bytes w) → x ≡ lowest_first part →
    Turn bs b p q (x % (1 * 2 ^ w % 2 ^ 32))
turn bs bs' part b w p q x e h f t i = record {
  whole = omega (arith, t.0, ap length f);
  value = ap₂ (λ (m n : ℕ). m % n)
      (i ∙ ap lowest_first t.1 ∙ ap₂ (λ (l : List ℕ) (y : ℕ). lowest_first (take (draw_bytes y) (drop p l))) f e)
      (one_shl w 32 (omega arith) ∙ ap (λ (n : ℕ). 2 ^ n) e);
  on = omega (arith, t.2);
}

module _ (admits : ℕ → Bool) (bytes : List ℕ) (b start p q v : ℕ) (size : 0 < draw_bytes b)
    (stands : first_of admits bytes b (draws_left bytes b start) start ≡ first_of admits bytes b (draws_left bytes b p) p)
    (r : Turn bytes b p q v) where
  pub search_ends : admits v ≡ true → first_of admits bytes b (draws_left bytes b start) start ≡ Some (record { value = v; after = q })
  search_ends a =
      stands ∙ first_here bytes b p size admits r.whole (ap admits (sym r.value) ∙ a) ∙ ap₂ (λ (x y : ℕ). Some (record { value = x; after = y })) (sym r.value) (sym r.on)

  pub search_goes_on : admits v ≡ false → first_of admits bytes b (draws_left bytes b start) start ≡ first_of admits bytes b (draws_left bytes b q) q
  search_goes_on a =
      stands ∙ first_later bytes b p size admits r.whole (ap admits (sym r.value) ∙ a) ∙ ap (λ (y : ℕ). first_of admits bytes b (draws_left bytes b y) y) (sym r.on)

-- the end of the bytes
pub search_fails : (admits : ℕ → Bool) (bs bs' : List ℕ) (b w start p : ℕ) → w ≡ b → bs' ≡ bs → 0 < draw_bytes b → length bs' < p + draw_bytes w →
    first_of admits bs b (draws_left bs b start) start ≡ first_of admits bs b (draws_left bs b p) p → first_of admits bs b (draws_left bs b start) start ≡ None
search_fails admits bs bs' b w start p e f size h stands = stands ∙ first_none bs b p size admits (omega (arith, h, ap length f))
