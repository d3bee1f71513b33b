-- A call of the multiplication: what was asked, what was answered, and what an answer means. Assumes nothing.
use Rattle.std.specs.Prelude.{◌≡◌, ℕ, ◌+◌, ◌-◌, ◌%◌, ◌^◌, Bool, true, false, cond, List, ◌++◌, drop, replicate, ℤ, ◌-ℤ◌, Some, None, Ok, Err, Option, Result, nat_lt, unsigned_abs}
use Rattle.common.specs.declared.refusal.Refusal.{Refusal}
use Rattle.common.specs.declared.refusal.Refusal.TheVariants.{TableTooShort, NotAMember, DrawsExhausted}
use Rattle.inputs.specs.declared.sizes.Sizes.{Sizes}
use Rattle.inputs.specs.Draws.{Found, first_draw}
use Rattle.inputs.specs.Keys.{scalar, half}
use Rattle.inputs.specs.Rules.{Rule}
use Rattle.inputs.specs.Tests.{or_else}
use Rattle.recoding.specs.Codings.{check_refusal}
use Rattle.recoding.specs.Windows.{recoding}
use Rattle.groups.specs.declared.tally.Tally.{Tally}
use Rattle.groups.specs.Groups.{Group}
use Rattle.groups.specs.Multiples.{times}
use Rattle.steps.specs.Steps.{multiplied}
use Rattle.steps.specs.Work.{work}

-- what was asked: the sign rule, the sizes, the key's words, the base, the bytes of the draws with the mark before the call, how many cells and digit words were lent; and what came of it: the answer, if there is one yet, and the mark after the call
pub record Call (E : Type 0) : Type 0 where
  pub rule : Rule
  pub sizes : Sizes
  pub key : List ℕ
  pub base : E
  pub bytes : List ℕ
  pub mark : ℕ
  pub cells : ℕ
  pub words : ℕ
  pub answer : Option (Result E Refusal)
  pub after : ℕ

-- the call with its answer
abbrev pub asked : {E : Type 0} → Rule → Sizes → (key : List ℕ) → E → (bytes : List ℕ) → (mark cells words : ℕ) → Result E Refusal → (after : ℕ) → Call E
asked R z key base bytes mark cells words r after =
    record { rule = R; sizes = z; key = key; base = base; bytes = bytes; mark = mark; cells = cells; words = words; answer = Some r; after = after }

-- c was accepted, and v is its answer
abbrev pub Accepted : {E : Type 0} → Call E → E → Type 0
Accepted c v = c.answer ≡ Some (Ok v)

-- the cells that a table has: one for each h from lo to hi, and one for each of 0A to 2 ^ (k - 1) A
abbrev pub cells_needed : Rule → Sizes → ℕ
cells_needed R z = (unsigned_abs (R.hi z.k z.b -ℤ R.lo z.k z.b) + 1) + (2 ^ (z.k - 1) + 1)

-- the refusals of too few cells, of a base that does not belong, of draws among which no admitted one is left
abbrev pub table_refusal : Rule → Sizes → ℕ → Option Refusal
table_refusal R z cells = cond (nat_lt cells (cells_needed R z)) (Some (TableTooShort cells)) None

abbrev pub base_refusal : Bool → Option Refusal
base_refusal member = cond member None (Some NotAMember)

abbrev pub draws_refusal : ℕ → Option Found → Option Refusal
draws_refusal mark None = Some (DrawsExhausted mark)
draws_refusal mark (Some f) = None

-- the number drawn, and the mark behind it
abbrev pub drawn_value : Option Found → ℕ
drawn_value None = 0
drawn_value (Some f) = f.value

abbrev pub drawn_mark : ℕ → Option Found → ℕ
drawn_mark mark None = mark
drawn_mark mark (Some f) = f.after

-- what a call's own draws give
abbrev pub draw_of : {E : Type 0} → Call E → Option Found
draw_of c = first_draw c.rule c.sizes c.bytes c.mark

module _ {E : Type 0} (g : Group E) where
  -- the first refusal that a call meets, or none: the key, the words, the table, the base, the draws
  abbrev pub refusal_of : Call E → Option Refusal
  refusal_of c =
      or_else (check_refusal c.sizes c.key c.words)
      (or_else (table_refusal c.rule c.sizes c.cells)
      (or_else (base_refusal (g.member c.base))
      (draws_refusal c.mark (draw_of c))))

  -- what the steps give for a key, from its recoding by the draw s
  abbrev pub keyed : Rule → Sizes → List ℕ → E → (s : ℕ) → E
  keyed R z key base s = multiplied g z.k z.b base s (recoding R z s (half key)).digits (recoding R z s (half key)).left (scalar key % 2)

  -- the very value of a call: by the first admitted one of its own draws
  abbrev pub value : Call E → E
  value c = keyed c.rule c.sizes c.key c.base (drawn_value (draw_of c))

-- by the refusal: a result, a mark, the cells
abbrev pub result_by : {E : Type 0} → Option Refusal → E → Result E Refusal
result_by None v = Ok v
result_by (Some e) v = Err e

abbrev pub unless_refused : {A : Type 0} → Option Refusal → (accepted found : A) → A
unless_refused None accepted found = accepted
unless_refused (Some e) accepted found = found

module _ {E : Type 0} (g : Group E) where
  -- the answer to a call, whatever it asks
  abbrev pub answer_of : Call E → Result E Refusal
  answer_of c = result_by (refusal_of g c) (value g c)

  -- the mark after a call: behind the draw, or where it was
  abbrev pub mark_after : Call E → ℕ
  mark_after c = unless_refused (refusal_of g c) (drawn_mark c.mark (draw_of c)) c.mark

  -- the cells after a call: the used ones neutral and the others untouched, or all as they were
  abbrev pub cells_after : Call E → List E → List E
  cells_after c cells = unless_refused (refusal_of g c) (replicate (cells_needed c.rule c.sizes) g.neutral ++ drop (cells_needed c.rule c.sizes) cells) cells

  -- v is the key of c times its base: it belongs, is the very value of the steps, and has the code of the multiple
  pub record Multiple (c : Call E) (v : E) : Type 0 where
    pub base_in : g.member c.base ≡ true
    pub member : g.member v ≡ true
    pub very : v ≡ value g c
    pub code : g.code v ≡ g.code (times g (scalar c.key) c.base)

  -- c has its answer, and an accepted one is the multiple that was asked for
  pub record Answered (c : Call E) : Type 0 where
    pub answer : c.answer ≡ Some (answer_of c)
    pub after : c.after ≡ mark_after c
    pub multiple : (v : E) → Accepted c v → Multiple c v

-- what the tally may know of a call: the limits of its rule, its sizes, and whether it was accepted
pub record Entry : Type 0 where
  pub lo : ℤ
  pub hi : ℤ
  pub k : ℕ
  pub b : ℕ
  pub m : ℕ
  pub accepted : Bool

abbrev pub is_accepted : {E : Type 0} → Option (Result E Refusal) → Bool
is_accepted None = false
is_accepted (Some (Ok v)) = true
is_accepted (Some (Err e)) = false

abbrev pub entry : {E : Type 0} → Call E → Entry
entry c = record {
  lo = c.rule.lo c.sizes.k c.sizes.b;
  hi = c.rule.hi c.sizes.k c.sizes.b;
  k = c.sizes.k;
  b = c.sizes.b;
  m = c.sizes.m;
  accepted = is_accepted c.answer;
}

-- one call more on the plain tally: the steps of an accepted one, nothing for a refused one
abbrev pub counted : Tally → Entry → Tally
counted t e = cond e.accepted (work e.lo e.hi e.k e.b e.m t) t

-- c was made on the device s, which it left as s'
pub record Made {S E : Type 0} (group : S → Group E) (tally : S → Tally) (s : S) (c : Call E) (s' : S) : Type 0 where
  pub same_group : group s' ≡ group s
  pub answered : Answered (group s) c
  pub counted : tally s' ≡ counted (tally s) (entry c)
  pub as_found : (e : Refusal) → c.answer ≡ Some (Err e) → s' ≡ s
