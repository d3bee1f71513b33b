-- What the plain tally tells. Assumes nothing.
use Rattle.std.proofs.Common.{◌≡◌, Bool, true, false, List, [], ◌∷◌, ◌++◌, sym, refl, ap, ◌∙◌}
use Rattle.groups.specs.declared.tally.Tally.{Tally}
use Rattle.steps.specs.Work.{work}
use Rattle.multiplier.specs.Calls.{Entry, counted}
use Rattle.multiplier.specs.Runs.{plain, accepted}

-- entries one after another
pub plain_append : (t : Tally) (es fs : List Entry) → plain t (es ++ fs) ≡ plain (plain t es) fs
plain_append t [] fs = refl
plain_append t (x ∷ es) fs = plain_append (counted t x) es fs

by_test : (t : Tally) (e : Entry) (es : List Entry) (b : Bool) → e.accepted ≡ b → ((u : Tally) → plain u (accepted es) ≡ plain u es) → plain t (accepted (e ∷ es)) ≡ plain t (e ∷ es)
by_test t e es true h rest = rw h (rest (work e.lo e.hi e.k e.b e.m t))
by_test t e es false h rest = rw h (rest t)

-- the refused ones may be left out
pub plain_accepted : (t : Tally) (es : List Entry) → plain t (accepted es) ≡ plain t es
plain_accepted t [] = refl
plain_accepted t (e ∷ es) = by_test t e es e.accepted refl (λ u. plain_accepted u es)

-- entries whose accepted ones are the same tell the same
pub plain_alike : (t : Tally) (es fs : List Entry) → accepted es ≡ accepted fs → plain t es ≡ plain t fs
plain_alike t es fs e = sym (plain_accepted t es) ∙ ap (plain t) e ∙ plain_accepted t fs
