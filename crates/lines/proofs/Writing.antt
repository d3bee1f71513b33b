-- What a writer holds after a line. Assumes nothing.
use Rattle.std.proofs.Common.{◌≡◌, ℕ, List, [], ◌∷◌, ◌++◌, IfSome, OnOk, codes, Option, Some, None, Result, Ok, Err, is_ok, sym, ◌∙◌}
use Rattle.std.proofs.lemmas.Bool.{true≢false}
use Rattle.std.proofs.lemmas.List.{append_assoc}
use Rattle.std.specs.Fmt.{WritesText, with_newline}
use Rattle.std.proofs.lemmas.Fmt.{contents_after_writes}

-- the text and the line feed stand behind what was there
pub line_written : {W : Type 0} (took : W → List ℕ → W → Type 0) (contents : W → List ℕ) → ((w : W) (text : List ℕ) (v : W) → took w text v → contents v ≡ contents w ++ text) →
    (w v : W) (o : Option (List ℕ)) → WritesText took w (with_newline o) v → IfSome o (λ text. contents v ≡ contents w ++ text ++ codes "\n")
line_written took contents gives w v None p = tt
line_written took contents gives w v (Some text) p = contents_after_writes took contents gives w (text ++ 10 ∷ []) v p ∙ sym (append_assoc (contents w) text (10 ∷ []))

-- where both calls end well or neither does, what the one that ends well says stands on the other
pub on_both : {X Y D F : Type 0} (r : Result X F) (s : Result Y D) (P Q : Type 0) → is_ok s ≡ is_ok r → (P → Q) → OnOk r P → OnOk s Q
on_both (Ok x) (Ok y) P Q e k p = k p
on_both (Ok x) (Err d) P Q e k p = tt
on_both (Err f) (Ok y) P Q e k p = absurd (true≢false e)
on_both (Err f) (Err d) P Q e k p = tt
