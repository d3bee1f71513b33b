-- Rounds over words from the last down, one more of them. Assumes nothing.
use Rattle.std.proofs.Common.{◌≡◌, ℕ, suc, List, [], ◌∷◌, ◌++◌, map, length, reverse, sym, ap, ◌∙◌, subst, append_assoc, arith}
use Rattle.std.proofs.lemmas.List.{reverse-append}
use Rattle.std.proofs.lemmas.Simd.{map-map}
use Rattle.std.specs.List.{All}
use Rattle.groups.specs.Groups.{Group, added}
use Rattle.steps.specs.Operations.{doublings, gathered}

-- the last word is the first of those that are turned around
last_first : {B : Type 0} (ys : List B) (w : B) → reverse (ys ++ w ∷ []) ≡ w ∷ reverse ys
last_first ys w = reverse-append ys (w ∷ [])

pub gathered_more : {E B D : Type 0} (g : Group E) (k : ℕ) (f : D → E) (h : B → D) (ys : List B) (w : B) (x y z : E) →
    x ≡ gathered g k f (map h (reverse ys)) → y ≡ f (h w) → z ≡ added g (doublings g k x) y → z ≡ gathered g k f (map h (reverse (ys ++ w ∷ [])))
gathered_more g k f h ys w x y z before addend sum =
    sum ∙ ap (λ v. added g (doublings g k v) y) before ∙ ap (added g (doublings g k (gathered g k f (map h (reverse ys))))) addend ∙ ap (λ l. gathered g k f (map h l)) (sym (last_first ys w))

-- the words that are left and those that are done are all of them
pub left_and_done : {B W : Type 0} (v : B → W) (left less ws : List W) (ys : List B) (w : B) → left ++ map v (reverse ys) ≡ ws → left ≡ less ++ v w ∷ [] → less ++ map v (reverse (ys ++ w ∷ [])) ≡ ws
left_and_done v left less ws ys w all one =
    ap (λ l. less ++ map v l) (last_first ys w) ∙ sym (append_assoc less (v w ∷ []) (map v (reverse ys))) ∙ ap (λ l. l ++ map v (reverse ys)) (sym one) ∙ all

at_last : {W D : Type 0} (P : D → Type 0) (h : W → D) (less done : List W) (w : W) → All P (map h ((less ++ w ∷ []) ++ done)) → P (h w)
at_last P h [] done w all = all 0 (h w) (omega arith)
at_last P h (x ∷ less) done w all = at_last P h less done w (λ k d lt. all (suc k) d (omega (arith, lt)))

-- what all words have the last of those that are left has
pub has_last : {W D : Type 0} (P : D → Type 0) (h : W → D) (left less done ws : List W) (w : W) → All P (map h ws) → left ++ done ≡ ws → left ≡ less ++ w ∷ [] → P (h w)
has_last P h left less done ws w each all one =
    at_last P h less done w (subst (λ l. All P (map h l)) (sym (ap (λ l. l ++ done) (sym one) ∙ all)) each)

-- and where none is left, all are done
pub all_done : {B W D : Type 0} (v : B → W) (h : W → D) (left ws : List W) (ys : List B) → left ++ map v (reverse ys) ≡ ws → length left ≡ 0 → map (λ y. h (v y)) (reverse ys) ≡ map h ws
all_done v h [] ws ys all none = sym (map-map h v (reverse ys)) ∙ ap (map h) all
all_done v h (x ∷ left) ws ys all none = absurd (omega (arith, none))
