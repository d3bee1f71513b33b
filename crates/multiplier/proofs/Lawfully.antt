-- The law of a list of calls from its two parts, of lists that follow each other, and of two lists on two devices. Assumes nothing.
use Rattle.std.proofs.Common.{◌≡◌, ℕ, zero, suc, ◌⊎◌, List, [], ◌∷◌, ◌++◌, map, sym, refl, ap, ◌∙◌, subst, inl, inr, ⊎_elim, le_of_suc-le-suc, arith}
use Rattle.std.proofs.lemmas.List.{map-append}
use Rattle.groups.specs.Groups.{Group, Lawful}
use Rattle.groups.specs.declared.tally.Tally.{Tally}
use Rattle.multiplier.specs.Calls.{Call, Answered, entry, counted}
use Rattle.multiplier.specs.Runs.{At, AlikeRuns, GoesOn, LawfulCalls, plain}
use Rattle.multiplier.proofs.Agreeing.{agreed}
use Rattle.multiplier.proofs.Telling.{plain_alike, plain_append}

-- what stands in two lists together stands in one of them
apart : {X : Type 0} (xs ys : List X) (i : ℕ) (x : X) → At (xs ++ ys) i x → At xs i x ⊎ ((k : ℕ) × At ys k x)
apart [] ys i x at = inr (i, at)
apart (y ∷ xs) ys zero x (h, e) = inl (omega arith, e)
apart (y ∷ xs) ys (suc i) x (h, e) =
    ⊎_elim (λ a. inl (omega (arith, a.0), a.1)) (λ b. inr b) (apart xs ys i x (le_of_suc-le-suc h, e))

only : {X : Type 0} (i : ℕ) (x y : X) → At (x ∷ []) i y → x ≡ y
only zero x y at = at.1
only (suc i) x y at = absurd (omega (arith, at.0))

-- two plain tallies, one after the other
pub plain_joined : {E : Type 0} (t u v : Tally) (cs ds : List (Call E)) → u ≡ plain t (map entry cs) → v ≡ plain u (map entry ds) → v ≡ plain t (map entry (cs ++ ds))
plain_joined t u v cs ds p q =
    q ∙ ap (λ x. plain x (map entry ds)) p ∙ sym (plain_append t (map entry cs) (map entry ds)) ∙ ap (plain t) (sym (map-append entry cs ds))

module _ {E : Type 0} (g : Group E) (law : Lawful g) where
  -- right answers and the plain tally are enough
  pub lawful_by : (t : Tally) (cs : List (Call E)) (t' : Tally) → ((i : ℕ) (c : Call E) → At cs i c → Answered g c) → t' ≡ plain t (map entry cs) → LawfulCalls g t cs t'
  lawful_by t cs t' answers told = record {
    answers = answers;
    agree = λ i j p q a b c d v w ai bj cp dq x. agreed g law a b c d v w (answers i a ai) (answers j b bj) (answers p c cp) (answers q d dq) x;
    tally = told;
    alike = λ others e. told ∙ sym (plain_alike t others (map entry cs) e);
  }

  -- two lists, one after the other, are one
  pub lawful_append : (t u v : Tally) (cs ds : List (Call E)) → LawfulCalls g t cs u → LawfulCalls g u ds v → LawfulCalls g t (cs ++ ds) v
  lawful_append t u v cs ds p q =
      lawful_by t (cs ++ ds) v
      (λ i c at. ⊎_elim (λ a. p.answers i c a) (λ b. q.answers b.0 c b.1) (apart cs ds i c at))
      (plain_joined t u v cs ds p.tally q.tally)

  -- one call
  pub lawful_one : (t : Tally) (c : Call E) (t' : Tally) → Answered g c → t' ≡ counted t (entry c) → LawfulCalls g t (c ∷ []) t'
  lawful_one t c t' right told = lawful_by t (c ∷ []) t' (λ i d at. subst (Answered g) (only i c d at) right) told

  -- no call
  pub lawful_none : (t : Tally) → LawfulCalls g t [] t
  lawful_none t = lawful_by t [] t (λ i c at. absurd (omega (arith, at.0))) refl

  -- lawful calls go on from whatever came before
  pub goes_on_by : (t : Tally) (cs : List (Call E)) (t' : Tally) → LawfulCalls g t cs t' → GoesOn g t cs t'
  goes_on_by t cs t' p start past before = lawful_append start t t' past cs before p

-- two devices that came from one tally: where all their accepted calls are alike, so are their tallies
pub both_alike : {E F : Type 0} (g : Group E) (h : Group F) (t : Tally) (cs : List (Call E)) (t' u : Tally) (ds : List (Call F)) (u' : Tally) → LawfulCalls g t cs t' → LawfulCalls h u ds u' → AlikeRuns g h t cs t' u ds u'
both_alike g h t cs t' u ds u' p q start past other before before' alike =
    plain_joined start t t' past cs before.tally p.tally
    ∙ plain_alike start (map entry (past ++ cs)) (map entry (other ++ ds)) alike
    ∙ sym (plain_joined start u u' other ds before'.tally q.tally)
