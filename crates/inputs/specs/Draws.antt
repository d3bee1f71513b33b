-- Draws: the number that stands at a mark of a stream, and the first one that a rule admits.
use Rattle.std.specs.Prelude.{◌≡◌, ℕ, zero, suc, ◌+◌, ◌-◌, ◌*◌, ◌/◌, ◌%◌, ◌^◌, ◌<◌, ◌≤◌, Bool, true, false, cond, List, [], ◌∷◌, length, take, drop, Some, None, Ok, Err, Option, Result, ◌==◌}
use Rattle.common.specs.declared.refusal.Refusal.{Refusal}
use Rattle.common.specs.declared.refusal.Refusal.TheVariants.{DrawsExhausted, UnfitDraw}
use Rattle.inputs.specs.declared.draw.Draw.{Draw}
use Rattle.inputs.specs.declared.sizes.Sizes.{Sizes}
use Rattle.inputs.specs.Rules.{Rule}

-- the number in bytes, lowest first
abbrev pub lowest_first : List ℕ → ℕ
lowest_first [] = 0
lowest_first (x ∷ xs) = x + 256 * lowest_first xs

-- the bytes that a draw of b bits takes
abbrev pub draw_bytes : ℕ → ℕ
draw_bytes b = (b + 7) / 8

-- the draw that stands at a mark: the low b bits of its bytes
abbrev pub draw_at : List ℕ → (b mark : ℕ) → ℕ
draw_at bytes b mark = lowest_first (take (draw_bytes b) (drop mark bytes)) % 2 ^ b

-- where the mark stands after a draw
abbrev pub behind : (b mark : ℕ) → ℕ
behind b mark = mark + draw_bytes b

-- how many whole draws are left from a mark on
abbrev pub draws_left : List ℕ → (b mark : ℕ) → ℕ
draws_left bytes b mark = (length bytes - mark) / draw_bytes b

-- a draw and the mark behind it
pub record Found : Type 0 where
  pub value : ℕ
  pub after : ℕ

-- the first admitted one of the next count draws
abbrev pub first_of : (ℕ → Bool) → List ℕ → (b count mark : ℕ) → Option Found
first_of admits bytes b zero mark = None
first_of admits bytes b (suc count) mark =
    cond (admits (draw_at bytes b mark)) (Some (record { value = draw_at bytes b mark; after = behind b mark })) (first_of admits bytes b count (behind b mark))

-- the first admitted one of all that are left
abbrev pub first_draw : Rule → Sizes → List ℕ → ℕ → Option Found
first_draw R z bytes mark = first_of (R.admits z.k z.b) bytes z.b (draws_left bytes z.b mark) mark

-- what drawing answers, and where it leaves the mark
abbrev pub Drawn : Rule → Sizes → List ℕ → ℕ → Result Draw Refusal → ℕ → Type 0
Drawn R z bytes mark (Ok d) after = (first_draw R z bytes mark ≡ Some (record { value = d.value; after = after })) × (d.width ≡ z.b)
Drawn R z bytes mark (Err e) after = (first_draw R z bytes mark ≡ None) × (e ≡ DrawsExhausted mark) × (after ≡ mark)

-- what 'first' means: a draw is taken where count whole draws before it are not admitted, and it itself is
pub record First (admits : ℕ → Bool) (bytes : List ℕ) (b mark value after : ℕ) : Type 0 where
  pub count : ℕ
  pub place : after ≡ mark + suc count * draw_bytes b
  pub within : after ≤ length bytes
  pub here : value ≡ draw_at bytes b (mark + count * draw_bytes b)
  pub taken : admits value ≡ true
  pub skipped : (j : ℕ) → j < count → admits (draw_at bytes b (mark + j * draw_bytes b)) ≡ false

-- and nothing is refused but where no whole draw that is left is admitted
abbrev pub FirstAdmitted : (ℕ → Bool) → List ℕ → (b mark : ℕ) → Result Draw Refusal → ℕ → Type 0
FirstAdmitted admits bytes b mark (Ok d) after = First admits bytes b mark d.value after
FirstAdmitted admits bytes b mark (Err e) after =
    (j : ℕ) → mark + suc j * draw_bytes b ≤ length bytes → admits (draw_at bytes b (mark + j * draw_bytes b)) ≡ false

-- the refusal of a draw for a recoding, or none: it has to be of the width and to be admitted
abbrev pub draw_refusal : Rule → Sizes → Draw → Option Refusal
draw_refusal R z d = cond (d.width == z.b) (cond (R.admits z.k z.b d.value) None (Some UnfitDraw)) (Some UnfitDraw)
