-- The law of calls that are made one after another on one device. Assumes nothing.
use Rattle.std.specs.Prelude.{◌≡◌, ℕ, ◌<◌, cond, List, [], ◌∷◌, ◌++◌, map, length, slice_index_or}
use Rattle.groups.specs.declared.tally.Tally.{Tally}
use Rattle.groups.specs.Groups.{Group}
use Rattle.inputs.specs.Keys.{scalar}
use Rattle.multiplier.specs.Calls.{Call, Accepted, Answered, Entry, entry, counted}

-- x stands in the list at i
abbrev pub At : {X : Type 0} → List X → ℕ → X → Type 0
At xs i x = (i < length xs) × (slice_index_or xs i x ≡ x)

-- the plain tally of the entries, from t on
abbrev pub plain : Tally → List Entry → Tally
plain t [] = t
plain t (e ∷ es) = plain (counted t e) es

-- the entries of the accepted calls, in their order
abbrev pub accepted : List Entry → List Entry
accepted [] = []
accepted (e ∷ es) = cond e.accepted (e ∷ accepted es) (accepted es)

module _ {E : Type 0} (g : Group E) where
  -- a and c take one base; b goes on from the answer of a, and d from that of c; the keys of c and d are those of b and a; v and w are the last answers
  pub record Crossed (a b c d : Call E) (v w : E) : Type 0 where
    pub a_answer : Accepted a b.base
    pub b_answer : Accepted b v
    pub c_answer : Accepted c d.base
    pub d_answer : Accepted d w
    pub one_base : g.code a.base ≡ g.code c.base
    pub first_key : scalar a.key ≡ scalar d.key
    pub second_key : scalar b.key ≡ scalar c.key

  -- the law of a list of calls that took the tally from t to t'
  pub record LawfulCalls (t : Tally) (cs : List (Call E)) (t' : Tally) : Type 0 where
    -- each call has the answer that it asks for, whatever came before it, and an accepted one is the multiple
    pub answers : (i : ℕ) (c : Call E) → At cs i c → Answered g c
    -- it does not matter which of two keys comes first, whatever the four rules, sizes and draws
    pub agree : (i j p q : ℕ) (a b c d : Call E) (v w : E) → At cs i a → At cs j b → At cs p c → At cs q d → Crossed a b c d v w → g.code v ≡ g.code w
    -- the tally is the plain tally of the list: nothing else moves it
    pub tally : t' ≡ plain t (map entry cs)
    -- so any list whose accepted calls are alike in limits and sizes ends with the same tally
    pub alike : (others : List Entry) → accepted others ≡ accepted (map entry cs) → t' ≡ plain t others

  -- the calls go on from whatever lawful calls took the device to t, so that the law is one on all that it has multiplied
  abbrev pub GoesOn : Tally → List (Call E) → Tally → Type 0
  GoesOn t cs t' = (start : Tally) (past : List (Call E)) → LawfulCalls start past t → LawfulCalls start (past ++ cs) t'

-- two devices, also of different groups, that came to t and u from one tally by lawful calls: where all their accepted calls are alike, their tallies are equal
abbrev pub AlikeRuns : {E F : Type 0} → Group E → Group F → (t : Tally) → List (Call E) → (t' u : Tally) → List (Call F) → (u' : Tally) → Type 0
AlikeRuns {E} {F} g h t cs t' u ds u' =
    (start : Tally) (past : List (Call E)) (other : List (Call F)) → LawfulCalls g start past t → LawfulCalls h start other u →
    accepted (map entry (past ++ cs)) ≡ accepted (map entry (other ++ ds)) → t' ≡ u'
