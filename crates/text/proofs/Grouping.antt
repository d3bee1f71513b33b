-- Digits that are read group by group, each into one element of a list. Assumes nothing.
use Rattle.std.proofs.Common.{◌≡◌, ℕ, suc, ◌+◌, ◌-◌, ◌/◌, ◌%◌, ◌<◌, ◌≤◌, min, List, [], ◌∷◌, ◌++◌, length, take, drop, Some, None, Option, sym, refl, ap, ◌∙◌, arith}
use Rattle.std.specs.Option.{option_map}
use Rattle.std.proofs.Math.Seq.{take-append_seam, drop-append_seam}
use Rattle.std.proofs.lemmas.List.{append-nil, append_assoc, length-append, length-take-le}
use Rattle.text.proofs.WordsNumber.{words_number_lem}
use Rattle.text.specs.Hex.{hex_number, bytes_of, words_in, words_of, words_number}
use Rattle.text.specs.Numerals.{and_then}

-- done came of the groups that were read, and rest gives the others
pub record Left (of : List ℕ → Option (List ℕ)) (text done rest : List ℕ) : Type 0 where
  pub whole : option_map (λ xs. done ++ xs) (of rest) ≡ of text

module _ (of : List ℕ → Option (List ℕ)) (text : List ℕ) where
  pub left_start : (done : List ℕ) → done ≡ [] → Left of text done text
  left_start done none =
      let same : (o : Option (List ℕ)) → option_map (λ xs. [] ++ xs) o ≡ o = λ o. elim o as (λ o. option_map (λ xs. [] ++ xs) o ≡ o) [ None ↦ refl | Some xs ↦ refl ] in
      record { whole = ap (λ l. option_map (λ xs. l ++ xs) (of text)) none ∙ same (of text) }

  module _ (done rest : List ℕ) (left : Left of text done rest) where
    pub left_more : (x : ℕ) (more after : List ℕ) → of rest ≡ option_map (λ xs. x ∷ xs) (of more) → after ≡ done ++ x ∷ [] → Left of text after more
    left_more x more after group pushed =
        let regroup : (o : Option (List ℕ)) → option_map (λ xs. (done ++ x ∷ []) ++ xs) o ≡ option_map (λ xs. done ++ xs) (option_map (λ xs. x ∷ xs) o) = λ o. elim o as (λ o. option_map (λ xs. (done ++ x ∷ []) ++ xs) o ≡ option_map (λ xs. done ++ xs) (option_map (λ xs. x ∷ xs) o)) [ None ↦ refl | Some xs ↦ ap Some (append_assoc done (x ∷ []) xs) ] in
        record { whole = ap (λ l. option_map (λ xs. l ++ xs) (of more)) pushed ∙ regroup (of more) ∙ ap (option_map (λ xs. done ++ xs)) (sym group) ∙ left.whole }

    pub left_none : of rest ≡ None → None ≡ of text
    left_none none = ap (option_map (λ xs. done ++ xs)) (sym none) ∙ left.whole

    left_all : of rest ≡ Some [] → Some done ≡ of text
    left_all all = ap Some (sym (append-nil done)) ∙ ap (option_map (λ xs. done ++ xs)) (sym all) ∙ left.whole

-- where a text is cut in two
cut_there : (k : ℕ) (front back text : List ℕ) → text ≡ front ++ back → length front ≡ k → (front ≡ take k text) × (back ≡ drop k text)
cut_there k front back text e l = (
  sym (take-append_seam front back) ∙ ap (λ n. take n (front ++ back)) l ∙ ap (take k) (sym e),
  sym (drop-append_seam front back) ∙ ap (λ n. drop n (front ++ back)) l ∙ ap (drop k) (sym e),
)

-- two digits, and the bytes of those behind them
two_digits : (rest pair more : List ℕ) (o : Option ℕ) → 2 ≤ length rest → pair ≡ take 2 rest → more ≡ drop 2 rest → hex_number pair ≡ o → bytes_of rest ≡ and_then o (λ b. option_map (λ bs. b ∷ bs) (bytes_of more))
unfolding bytes_of
two_digits [] pair more o h p m e = absurd (omega arith)
two_digits (c ∷ []) pair more o h p m e = absurd (omega arith)
two_digits (c ∷ d ∷ cs) pair more o h p m e =
    ap (λ o. and_then o (λ b. option_map (λ bs. b ∷ bs) (bytes_of cs))) (ap hex_number (sym p) ∙ e) ∙ ap (λ l. and_then o (λ b. option_map (λ bs. b ∷ bs) (bytes_of l))) (sym m)

pub bytes_group : (rest pair more : List ℕ) (size : ℕ) (o : Option ℕ) → size ≡ 2 → length rest % 2 ≡ 0 → rest ≡ pair ++ more → length pair ≡ min size (length rest) → 0 < length rest → hex_number pair ≡ o → bytes_of rest ≡ and_then o (λ b. option_map (λ bs. b ∷ bs) (bytes_of more))
bytes_group rest pair more size o two even e l some n =
    let cut = cut_there 2 pair more rest e (omega arith) in
    two_digits rest pair more o (omega arith) cut.0 cut.1 n

bytes_end : (rest : List ℕ) → length rest ≡ 0 → bytes_of rest ≡ Some []
unfolding bytes_of
bytes_end [] e = refl
bytes_end (c ∷ cs) e = absurd (omega arith)

-- digits in pairs are even in number
pub bytes_odd : (text : List ℕ) → (length text % 2 ≡ 0 → ⊥) → None ≡ bytes_of text
unfolding bytes_of
bytes_odd [] odd = absurd (odd refl)
bytes_odd (c ∷ []) odd = refl
bytes_odd (c ∷ d ∷ cs) odd =
    let further : None ≡ bytes_of cs = bytes_odd cs (λ e. odd (omega arith)) in
    let none : (o : Option ℕ) → None ≡ and_then o (λ b. option_map (λ bs. b ∷ bs) None) = λ o. elim o as (λ o. None ≡ and_then o (λ b. option_map (λ bs. b ∷ bs) None)) [ None ↦ refl | Some b ↦ refl ] in
    none (hex_number (c ∷ d ∷ [])) ∙ ap (λ l. and_then (hex_number (c ∷ d ∷ [])) (λ b. option_map (λ bs. b ∷ bs) l)) further

-- the last eight digits, and the words of those before them
eight_digits : (rest : List ℕ) (k : ℕ) (last more : List ℕ) (o : Option ℕ) → 0 < length rest → k ≡ length rest - 8 → last ≡ drop k rest → more ≡ take k rest → hex_number last ≡ o → words_of rest ≡ and_then o (λ w. option_map (λ ws. w ∷ ws) (words_of more))
unfolding words_of words_in
eight_digits rest k last more o some cut l m e =
    let front = take (length rest - 8) rest in
    let short = length-take-le (length rest - 8) rest (omega arith) in
    let count : (length rest + 7) / 8 ≡ suc ((length front + 7) / 8) = omega arith in
    let eight : hex_number (drop (length rest - 8) rest) ≡ o = ap (λ k. hex_number (drop k rest)) (sym cut) ∙ ap hex_number (sym l) ∙ e in
    let others : front ≡ more = ap (λ k. take k rest) (sym cut) ∙ sym m in
    ap (λ n. words_in n rest) count ∙ ap (λ o. and_then o (λ w. option_map (λ ws. w ∷ ws) (words_of front))) eight ∙ ap (λ l. and_then o (λ w. option_map (λ ws. w ∷ ws) (words_of l))) others

pub words_group : (rest last more : List ℕ) (size : ℕ) (o : Option ℕ) → size ≡ 8 → rest ≡ more ++ last → length last ≡ min size (length rest) → 0 < length rest → hex_number last ≡ o → words_of rest ≡ and_then o (λ w. option_map (λ ws. w ∷ ws) (words_of more))
words_group rest last more size o eight e l some n =
    let k = length rest - 8 in
    let cut = cut_there k more last rest e (omega (arith, ap length e, length-append more last)) in
    eight_digits rest k last more o some refl cut.1 cut.0 n

words_end : (rest : List ℕ) → length rest ≡ 0 → words_of rest ≡ Some []
unfolding words_of words_in
words_end [] e = refl
words_end (c ∷ cs) e = absurd (omega arith)

-- what the bytes are where no pair is left
pub record BytesLeft (text done rest : List ℕ) (size : ℕ) : Type 0 where
  pub left : Left bytes_of text done rest
  pub pairs : size ≡ 2
  pub even : length rest % 2 ≡ 0
  pub all : length rest ≡ 0 → Some done ≡ bytes_of text

pub bytes_left : {text done rest : List ℕ} {size : ℕ} → Left bytes_of text done rest → size ≡ 2 → length rest % 2 ≡ 0 → BytesLeft text done rest size
bytes_left {text} {done} {rest} left pairs even = record {
  left = left;
  pairs = pairs;
  even = even;
  all = λ e. left_all bytes_of text done rest left (bytes_end rest e);
}

-- what the words are where no digit is left
pub record WordsLeft (text done rest : List ℕ) (size : ℕ) : Type 0 where
  pub left : Left words_of text done rest
  pub eight : size ≡ 8
  pub all : length rest ≡ 0 → Some done ≡ words_of text
  pub number : length rest ≡ 0 → Some (words_number done) ≡ hex_number text

pub words_left : {text done rest : List ℕ} {size : ℕ} → Left words_of text done rest → size ≡ 8 → WordsLeft text done rest size
words_left {text} {done} {rest} left eight = record {
  left = left;
  eight = eight;
  all = λ e. left_all words_of text done rest left (words_end rest e);
  number = λ e. ap (option_map words_number) (left_all words_of text done rest left (words_end rest e)) ∙ words_number_lem text;
}
