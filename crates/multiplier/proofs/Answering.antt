-- From the tests and the value of a call to what its answer means. Assumes nothing.
use Rattle.std.proofs.Common.{◌≡◌, ℕ, zero, suc, ◌-◌, ◌^◌, ◌<◌, ◌≤◌, Bool, true, false, cond, ltb, List, ◌++◌, drop, replicate, Some, None, Ok, Err, Option, sym, refl, ap, ◌∙◌, subst, ap₂, mod-lt, zero-add, arith, pow_pos}
use borrow.Rule.Slice.PartMut.{put_mid}
use Rattle.std.proofs.lemmas.Bool.{ltb-false}
use Rattle.std.proofs.lemmas.List.{length-replicate, take_all}
use Rattle.std.proofs.lemmas.Slice.{put_mid-paste}
use Rattle.common.specs.declared.refusal.Refusal.{Refusal}
use Rattle.common.specs.declared.refusal.Refusal.TheVariants.{TableTooShort}
use Rattle.groups.specs.Groups.{Group, Lawful}
use Rattle.groups.specs.declared.tally.Tally.{Tally}
use Rattle.inputs.specs.declared.draw.Draw.{Draw}
use Rattle.inputs.specs.declared.sizes.Sizes.{Sizes}
use Rattle.inputs.specs.Draws.{Found, behind, draw_at, draw_refusal, draws_left, first_draw, first_of}
use Rattle.inputs.specs.Keys.{key_refusal, scalar}
use Rattle.inputs.specs.Rules.{Admitted, Rule, Lawful as Rule-lawful}
use Rattle.inputs.specs.Tests.{or_else}
use Rattle.recoding.specs.Codings.{check_refusal, digits_refusal, recode_refusal}
use Rattle.recoding.proofs.Loop.{coded}
use Rattle.recoding.proofs.Tests.{both_pass, draw_taken, first_passes, key_below}
use Rattle.steps.proofs.Meaning.{multiplied_is}
use Rattle.multiplier.specs.Calls.{Accepted, Answered, Call, Made, Multiple, answer_of, base_refusal, cells_after, cells_needed, counted, draw_of, drawn_mark, drawn_value, draws_refusal, entry, is_accepted, mark_after, refusal_of, result_by, table_refusal, unless_refused, value}
use Rattle.steps.specs.Work.{work}
use Rattle.multiplier.proofs.Taken.{some_none}

-- a draw that was found is admitted and of its bits
pub found_admitted : (admits : ℕ → Bool) (bytes : List ℕ) (b count mark : ℕ) (f : Found) → first_of admits bytes b count mark ≡ Some f → (f.value < 2 ^ b) × (admits f.value ≡ true)
found_admitted admits bytes b zero mark f e = absurd (some_none (sym e))
found_admitted admits bytes b (suc count) mark f e = by (admits (draw_at bytes b mark)) refl e (found_admitted admits bytes b count (behind b mark) f)
  where
    by : (t : Bool) → admits (draw_at bytes b mark) ≡ t →
        cond t (Some (record { value = draw_at bytes b mark; after = behind b mark })) (first_of admits bytes b count (behind b mark)) ≡ Some f →
        (first_of admits bytes b count (behind b mark) ≡ Some f → (f.value < 2 ^ b) × (admits f.value ≡ true)) → (f.value < 2 ^ b) × (admits f.value ≡ true)
    by true t e rest =
        let here : draw_at bytes b mark ≡ f.value = cc in (subst (λ (x : ℕ). x < 2 ^ b) here (mod-lt _ (pow_pos b)), ap admits (sym here) ∙ t)
    by false t e rest = rest e

-- an accepted answer has passed the tests and is the value
by_refusal : {E : Type 0} (o : Option Refusal) (w v : E) → Some (result_by o w) ≡ Some (Ok v) → (o ≡ None) × (v ≡ w)
by_refusal None w v e = (refl, cc)
by_refusal (Some x) w v e = let z : ◌≡◌ {A = ℕ} 0 1 = cc in absurd (omega arith)

base_passes : (b : Bool) → base_refusal b ≡ None → b ≡ true
base_passes true e = refl
base_passes false e = absurd (some_none e)

drawn_passes : (mark : ℕ) (o : Option Found) (P : ℕ → Type 0) → draws_refusal mark o ≡ None → ((f : Found) → o ≡ Some f → P f.value) → P (drawn_value o)
drawn_passes mark None P e p = absurd (some_none e)
drawn_passes mark (Some f) P e p = p f refl

module _ {E : Type 0} (g : Group E) (law : Lawful g) (c : Call E) (rule-law : Rule-lawful c.rule) (right : c.answer ≡ Some (answer_of g c)) (goes : c.after ≡ mark_after g c) where
  accepts : (v : E) → Accepted c v → Multiple g c v
  accepts v e =
      let z = c.sizes in
      let s : ℕ = drawn_value (draw_of c) in
      let d : ℕ = scalar c.key in
      let all = by_refusal (refusal_of g c) (value g c) v (sym right ∙ e) in
      let one = both_pass (check_refusal z c.key c.words) _ all.0 in
      let two = both_pass (table_refusal c.rule z c.cells) _ one.1 in
      let three = both_pass (base_refusal (g.member c.base)) _ two.1 in
      let base_in = base_passes (g.member c.base) three.0 in
      let admitted : Admitted c.rule z.k z.b s = drawn_passes c.mark (draw_of c) (Admitted c.rule z.k z.b) three.1 (found_admitted (c.rule.admits z.k z.b) c.bytes z.b (draws_left c.bytes z.b c.mark) c.mark) in
      let below = key_below z c.key (both_pass (key_refusal z c.key) (digits_refusal z c.words) one.0).0 in
      let is = multiplied_is g law c.base base_in c.rule z d s _ _ (coded c.rule z s d rule-law admitted below) in
      record {
        base_in = base_in;
        member = ap g.member all.1 ∙ is.member;
        very = all.1;
        code = ap g.code all.1 ∙ is.code;
      }

  pub answered_is : Answered g c
  answered_is = record { answer = right; after = goes; multiple = accepts }

refused_first : (a b m d : Option Refusal) (e : Refusal) → or_else a (or_else b m) ≡ Some e → or_else a (or_else b (or_else m d)) ≡ Some e
refused_first (Some x) b m d e h = h
refused_first None (Some x) m d e h = h
refused_first None None (Some x) d e h = h
refused_first None None None d e h = absurd (some_none (sym h))

passed_first : (a b m d : Option Refusal) → or_else a (or_else b m) ≡ None → or_else a (or_else b (or_else m d)) ≡ d
passed_first (Some x) b m d h = absurd (some_none h)
passed_first None (Some x) m d h = absurd (some_none h)
passed_first None None (Some x) d h = absurd (some_none h)
passed_first None None None d h = refl

-- the tests before the draws, and then the draws
module _ {E : Type 0} (g : Group E) (c : Call E) where
  abbrev tests : Option Refusal
  tests = or_else (check_refusal c.sizes c.key c.words) (or_else (table_refusal c.rule c.sizes c.cells) (base_refusal (g.member c.base)))

  pub refused_early : (e : Refusal) → tests ≡ Some e → refusal_of g c ≡ Some e
  refused_early e h = refused_first (check_refusal c.sizes c.key c.words) (table_refusal c.rule c.sizes c.cells) (base_refusal (g.member c.base)) (draws_refusal c.mark (draw_of c)) e h

  pub then_draws : tests ≡ None → refusal_of g c ≡ draws_refusal c.mark (draw_of c)
  then_draws h = passed_first (check_refusal c.sizes c.key c.words) (table_refusal c.rule c.sizes c.cells) (base_refusal (g.member c.base)) (draws_refusal c.mark (draw_of c)) h

-- a refused call on a device, and an accepted one
module _ {S E : Type 0} (group : S → Group E) (tally : S → Tally) (s : S) (law : Lawful (group s)) (c : Call E) (rule-law : Rule-lawful c.rule) where
  pub made_refused : (e : Refusal) → c.answer ≡ Some (Err e) → refusal_of (group s) c ≡ Some e → c.after ≡ c.mark → Made group tally s c s
  made_refused e is refused stays = record {
    same_group = refl;
    answered = answered_is (group s) law c rule-law (is ∙ ap (λ (o : Option Refusal). Some (result_by o (value (group s) c))) (sym refused)) (stays ∙ ap (λ (o : Option Refusal). unless_refused o (drawn_mark c.mark (draw_of c)) c.mark) (sym refused));
    counted = ap (λ a. counted (tally s) (record { lo = (entry c).lo; hi = (entry c).hi; k = c.sizes.k; b = c.sizes.b; m = c.sizes.m; accepted = is_accepted a })) (sym is);
    as_found = λ x h. refl;
  }

  pub made_accepted : (v : E) (s' : S) → c.answer ≡ Some (Ok v) → refusal_of (group s) c ≡ None → v ≡ value (group s) c → c.after ≡ drawn_mark c.mark (draw_of c) → group s' ≡ group s →
      tally s' ≡ work (c.rule.lo c.sizes.k c.sizes.b) (c.rule.hi c.sizes.k c.sizes.b) c.sizes.k c.sizes.b c.sizes.m (tally s) → Made group tally s c s'
  made_accepted v s' is passed very goes same told = record {
    same_group = same;
    answered = answered_is (group s) law c rule-law (is ∙ ap (λ x. Some (Ok x)) very ∙ ap (λ (o : Option Refusal). Some (result_by o (value (group s) c))) (sym passed)) (goes ∙ ap (λ (o : Option Refusal). unless_refused o (drawn_mark c.mark (draw_of c)) c.mark) (sym passed));
    counted = told ∙ ap (λ a. counted (tally s) (record { lo = (entry c).lo; hi = (entry c).hi; k = c.sizes.k; b = c.sizes.b; m = c.sizes.m; accepted = is_accepted a })) (sym is);
    as_found = λ e h. let both : Some (Ok v) ≡ Some (Err e) = sym is ∙ h in let z : ◌≡◌ {A = ℕ} 0 1 = cc in absurd (omega arith);
  }

-- the cells after a refused call and after an accepted one
module _ {E : Type 0} (g : Group E) (c : Call E) (cells : List E) where
  pub cells_refused : (e : Refusal) → refusal_of g c ≡ Some e → cells ≡ cells_after g c cells
  cells_refused e refused = sym (ap (λ (o : Option Refusal). unless_refused o (replicate (cells_needed c.rule c.sizes) g.neutral ++ drop (cells_needed c.rule c.sizes) cells) cells) refused)

  -- the used cells stand in a part of the cells, which came back
  pub cells_accepted : (wiped : List E) (used : ℕ) → refusal_of g c ≡ None → used ≡ cells_needed c.rule c.sizes → wiped ≡ replicate (cells_needed c.rule c.sizes) g.neutral → put_mid 0 (used - 0) cells wiped ≡ cells_after g c cells
  cells_accepted wiped used passed same p =
      let n : ℕ = cells_needed c.rule c.sizes in
      let ws : List E = replicate n g.neutral in
      put_mid-paste 0 (used - 0) cells wiped ws n p (omega (arith, same)) (sym (length-replicate n g.neutral))
      ∙ ap₂ (λ (l : List E) (m : ℕ). l ++ drop m cells) (take_all n ws (omega (arith, length-replicate n g.neutral))) (zero-add n)
      ∙ sym (ap (λ (o : Option Refusal). unless_refused o (replicate n g.neutral ++ drop n cells) cells) passed)

table_passes : (R : Rule) (z : Sizes) (n : ℕ) → table_refusal R z n ≡ None → cells_needed R z ≤ n
table_passes R z n p = ltb-false n (cells_needed R z) (by (ltb n (cells_needed R z)) p)
  where
    by : (t : Bool) → cond t (Some (TableTooShort n)) None ≡ None → t ≡ false
    by true e = absurd (some_none e)
    by false e = refl

-- a call that passes its tests has cells enough
pub room : (a b : Option Refusal) (R : Rule) (z : Sizes) (n : ℕ) → or_else a (or_else (table_refusal R z n) b) ≡ None → cells_needed R z ≤ n
room a b R z n h = table_passes R z n (both_pass (table_refusal R z n) b (both_pass a _ h).1).0

-- a draw that was found can be recoded
pub draw_taken_here : (R : Rule) (z : Sizes) (key bytes : List ℕ) (n mark after : ℕ) (d : Draw) → check_refusal z key n ≡ None → first_draw R z bytes mark ≡ Some (record { value = d.value; after = after }) → d.width ≡ z.b → recode_refusal R z key n d ≡ None
draw_taken_here R z key bytes n mark after d passed found width =
    let admitted = found_admitted (R.admits z.k z.b) bytes z.b (draws_left bytes z.b mark) mark (record { value = d.value; after = after }) found in
    first_passes (check_refusal z key n) (draw_refusal R z d) passed ∙ draw_taken R z d width admitted.1
