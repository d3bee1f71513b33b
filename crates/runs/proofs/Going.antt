-- A run that has come to its task i. Assumes nothing.
use Rattle.std.proofs.Common.{◌≡◌, ℕ, ◌+◌, ◌<◌, ◌≤◌, ◌≢◌, List, [], ◌∷◌, ◌++◌, map, length, get_or, take, set, sym, refl, ap, ◌∙◌, subst, arith}
use Rattle.std.proofs.lemmas.List.{take_more, take_more_set, take_all, get_or-set_other, length-set, map-append}
use Rattle.inputs.specs.Rules.{Rule}
use Rattle.groups.specs.Groups.{Group, Lawful}
use Rattle.groups.specs.declared.tally.Tally.{Tally}
use Rattle.multiplier.specs.Calls.{Answered, Made, entry}
use Rattle.multiplier.specs.Runs.{LawfulCalls, accepted}
use Rattle.multiplier.proofs.Lawfully.{goes_on_by, lawful_append, lawful_none, lawful_one}
use Rattle.runs.specs.Tasks.{LawfulRun, asks, call, calls, cells_left, cells_of, words_left, words_of}
use Rattle.runs.specs.declared.task.Task.{Task}
use Rattle.runs.proofs.Refusing.{none_after, none_before, refused_leaves}

-- the front of a mapped list with one more, as the loop writes it and as it was
module _ {X Y : Type 0} (f h : X → Y) (xs ys : List X) (i : ℕ) where
  more_same : (x z : X) → i < length xs → i < length ys → map f (take i ys) ≡ map h (take i xs) → f x ≡ h (get_or xs i z) → map f (take (i + 1) (set ys i x)) ≡ map h (take (i + 1) xs)
  more_same x z lt lt' e here =
      ap (map f) (take_more_set ys i x lt') ∙ map-append f (take i ys) (x ∷ [])
      ∙ ap (λ l. l ++ f x ∷ []) e ∙ ap (λ y. map h (take i xs) ++ y ∷ []) here
      ∙ sym (ap (map h) (take_more xs i z lt) ∙ map-append h (take i xs) (get_or xs i z ∷ []))

-- the device came from s to t, the first i tasks are done, and the others are as they were
pub record Going {S E R : Type 0} (rule : R → Rule) (group : S → Group E) (tally : S → Tally) (s : S) (os : List (Task E R)) (t : S) (os' : List (Task E R)) (i : ℕ) : Type 0 where
  pub same_group : group t ≡ group s
  pub as_many : length os' ≡ length os
  pub same_asks : asks (take i os') ≡ asks (take i os)
  pub words : map words_of (take i os') ≡ map words_left (take i os)
  pub cells : map cells_of (take i os') ≡ map (cells_left rule (group s)) (take i os)
  pub as_found : accepted (map entry (calls rule (take i os'))) ≡ [] → t ≡ s
  pub lawful : LawfulCalls (group s) (tally s) (calls rule (take i os')) (tally t)
  pub ahead : (k : ℕ) (d : Task E R) → i ≤ k → get_or os' k d ≡ get_or os k d

module _ {S E R : Type 0} (rule : R → Rule) (group : S → Group E) (tally : S → Tally) (s : S) (law : Lawful (group s)) (os : List (Task E R)) where
  pub going_none : Going rule group tally s os s os 0
  going_none = record {
    same_group = refl;
    as_many = refl;
    same_asks = refl;
    words = refl;
    cells = refl;
    as_found = λ none. refl;
    lawful = lawful_none (group s) law (tally s);
    ahead = λ k d h. refl;
  }

  pub going_more : (t : S) (os' : List (Task E R)) (i : ℕ) (t' : S) (z o' : Task E R) →
      i < length os → Going rule group tally s os t os' i →
      Made group tally t (call rule o') t' → o'.ask ≡ (get_or os' i z).ask → words_of o' ≡ words_left (get_or os' i z) → cells_of o' ≡ cells_left rule (group t) (get_or os' i z) →
      Going rule group tally s os t' (set os' i o') (i + 1)
  going_more t os' i t' z o' lt g made ask words cells =
      let lt' : i < length os' = omega (arith, g.as_many) in
      let here : get_or os' i z ≡ get_or os i z = g.ahead i z (omega arith) in
      let one : LawfulCalls (group s) (tally t) (call rule o' ∷ []) (tally t') = lawful_one (group s) law (tally t) (call rule o') (tally t') (subst (λ h. Answered h (call rule o')) g.same_group made.answered) made.counted in
      let list : calls rule (take i os') ++ call rule o' ∷ [] ≡ calls rule (take (i + 1) (set os' i o')) =
      sym (ap (calls rule) (take_more_set os' i o' lt') ∙ map-append (call rule) (take i os') (o' ∷ [])) in
      record {
        same_group = made.same_group ∙ g.same_group;
        as_many = length-set os' i o' ∙ g.as_many;
        same_asks = more_same (λ o. o.ask) (λ o. o.ask) os os' i o' z lt lt' g.same_asks (ask ∙ ap (λ o. o.ask) here);
        words = more_same words_of words_left os os' i o' z lt lt' g.words (words ∙ ap words_left here);
        cells = more_same cells_of (cells_left rule (group s)) os os' i o' z lt lt' g.cells (cells ∙ ap (λ h. cells_left rule h (get_or os' i z)) g.same_group ∙ ap (cells_left rule (group s)) here);
        as_found = λ none.
            let all : accepted (map entry (calls rule (take i os') ++ call rule o' ∷ [])) ≡ [] = ap (λ cs. accepted (map entry cs)) list ∙ none in
            refused_leaves group tally t t' (call rule o') made (none_after (calls rule (take i os')) (call rule o' ∷ []) all)
            ∙ g.as_found (none_before (calls rule (take i os')) (call rule o' ∷ []) all);
        lawful = subst (λ cs. LawfulCalls (group s) (tally s) cs (tally t')) list (lawful_append (group s) law (tally s) (tally t) (tally t') (calls rule (take i os')) (call rule o' ∷ []) g.lawful one);
        ahead = λ k d h. let ne : k ≢ i = omega arith in get_or-set_other os' i k o' d ne ∙ g.ahead k d (omega arith);
      }

  pub going_all : (t : S) (os' : List (Task E R)) (i : ℕ) → length os ≤ i → Going rule group tally s os t os' i → LawfulRun rule group tally s os t os'
  going_all t os' i le g =
      let all : take i os ≡ os = take_all i os le in
      let all' : take i os' ≡ os' = take_all i os' (omega (arith, g.as_many)) in
      let lawful : LawfulCalls (group s) (tally s) (calls rule os') (tally t) = subst (λ l. LawfulCalls (group s) (tally s) (calls rule l) (tally t)) all' g.lawful in
      record {
        same_group = g.same_group;
        same_asks = sym (ap asks all') ∙ g.same_asks ∙ ap asks all;
        words = sym (ap (map words_of) all') ∙ g.words ∙ ap (map words_left) all;
        cells = sym (ap (map cells_of) all') ∙ g.cells ∙ ap (map (cells_left rule (group s))) all;
        as_found = λ none. g.as_found (ap (λ l. accepted (map entry (calls rule l))) all' ∙ none);
        lawful = lawful;
        goes_on = goes_on_by (group s) law (tally s) (calls rule os') (tally t) lawful;
      }
