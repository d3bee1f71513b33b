-- Calls of which none is accepted. Assumes nothing.
use Rattle.std.proofs.Common.{◌≡◌, ℕ, Bool, true, false, cond, List, [], ◌∷◌, ◌++◌, map, length, Some, Ok, Err, Option, Result, sym, refl, ap, ◌∙◌, arith}
use Rattle.std.proofs.lemmas.List.{map-append}
use Rattle.common.specs.declared.refusal.Refusal.{Refusal}
use Rattle.groups.specs.Groups.{Group}
use Rattle.groups.specs.declared.tally.Tally.{Tally}
use Rattle.multiplier.specs.Calls.{Call, Entry, Made, answer_of, entry, is_accepted}
use Rattle.multiplier.specs.Runs.{accepted}

split : {X : Type 0} (b : Bool) (x : X) (l m r : List X) → l ≡ m ++ r → cond b (x ∷ l) l ≡ cond b (x ∷ m) m ++ r
split true x l m r h = ap (λ l. x ∷ l) h
split false x l m r h = h

accepted_append : (es fs : List Entry) → accepted (es ++ fs) ≡ accepted es ++ accepted fs
accepted_append [] fs = refl
accepted_append (e ∷ es) fs = split e.accepted e (accepted (es ++ fs)) (accepted es) (accepted fs) (accepted_append es fs)

empty_left : {X : Type 0} (xs ys : List X) → xs ++ ys ≡ [] → xs ≡ []
empty_left [] ys e = refl
empty_left (x ∷ xs) ys e = let z : ◌≡◌ {A = ℕ} (length (x ∷ xs ++ ys)) 0 = ap length e in absurd (omega (arith, z))

empty_right : {X : Type 0} (xs ys : List X) → xs ++ ys ≡ [] → ys ≡ []
empty_right [] ys e = e
empty_right (x ∷ xs) ys e = let z : ◌≡◌ {A = ℕ} (length (x ∷ xs ++ ys)) 0 = ap length e in absurd (omega (arith, z))

-- no call before, and none of these
pub none_before : {E : Type 0} (cs ds : List (Call E)) → accepted (map entry (cs ++ ds)) ≡ [] → accepted (map entry cs) ≡ []
none_before cs ds e = empty_left (accepted (map entry cs)) (accepted (map entry ds)) (sym (accepted_append (map entry cs) (map entry ds)) ∙ sym (ap accepted (map-append entry cs ds)) ∙ e)

pub none_after : {E : Type 0} (cs ds : List (Call E)) → accepted (map entry (cs ++ ds)) ≡ [] → accepted (map entry ds) ≡ []
none_after cs ds e = empty_right (accepted (map entry cs)) (accepted (map entry ds)) (sym (accepted_append (map entry cs) (map entry ds)) ∙ sym (ap accepted (map-append entry cs ds)) ∙ e)

-- what a result that accepts nothing is
refused : {E : Type 0} (e : Entry) (answer : Option (Result E Refusal)) (r : Result E Refusal) → answer ≡ Some r → e.accepted ≡ is_accepted answer → accepted (e ∷ []) ≡ [] → (x : Refusal) × (answer ≡ Some (Err x))
refused e answer (Err x) h same none = (x, h)
refused e answer (Ok v) h same none =
    let yes : e.accepted ≡ true = same ∙ ap is_accepted h in
    let one : cond e.accepted (e ∷ []) [] ≡ e ∷ [] = ap (λ b. cond b (e ∷ []) []) yes in
    let z : ◌≡◌ {A = ℕ} 1 0 = ap length (sym one ∙ none) in
    absurd (omega (arith, z))

-- a call that is not accepted leaves the device as it was
pub refused_leaves : {S E : Type 0} (group : S → Group E) (tally : S → Tally) (s s' : S) (c : Call E) → Made group tally s c s' → accepted (map entry (c ∷ [])) ≡ [] → s' ≡ s
refused_leaves group tally s s' c made none =
    let x = refused (entry c) c.answer (answer_of (group s) c) made.answered.answer refl none in
    made.as_found x.0 x.1
