-- A program that has answered some lines of a text, written some of the answers, and gathered the others. Assumes nothing.
use Rattle.std.proofs.Common.{◌≡◌, ℕ, ◌<◌, IfSome, OnOk, Ok, Err, Result, true, false, cond, eqb, List, [], ◌∷◌, ◌++◌, length, Some, None, Option, sym, refl, ap, ◌∙◌, subst, append_assoc, arith}
use Rattle.std.proofs.lemmas.List.{append-nil, nil_from_length}
use Rattle.std.specs.Io.KnownBytes.{Appends}
use Rattle.text.specs.Fields.{before, behind}
use Rattle.lines.specs.declared.summary.Kind.{Kind}
use Rattle.lines.specs.declared.summary.Summary.{Summary}
use Rattle.lines.specs.Lines.{or_none}
use Rattle.lines.specs.Programs.{AllAnswered, Printed, before_lines, lines_of, none_done}
use Rattle.lines.specs.Summaries.{counted, counts_text}

-- the first line, and the lines behind it
first_line : (text : List ℕ) → 0 < length text → lines_of text ≡ before 10 text ∷ lines_of (or_none (behind 10 text))
unfolding lines_of before behind
first_line [] some = absurd (omega arith)
first_line (c ∷ []) some = elim (eqb c 10) as (λ t. cond t ([] ∷ []) ((c ∷ []) ∷ []) ≡ cond t [] (c ∷ []) ∷ lines_of (or_none (cond t (Some []) None))) [ true ↦ refl | false ↦ refl ]
first_line (c ∷ d ∷ cs) some =
    let further : lines_of (d ∷ cs) ≡ before 10 (d ∷ cs) ∷ lines_of (or_none (behind 10 (d ∷ cs))) = first_line (d ∷ cs) (omega arith) in
    elim (eqb c 10) as (λ t. cond t ([] ∷ lines_of (d ∷ cs)) (before_lines c (lines_of (d ∷ cs))) ≡ cond t [] (c ∷ before 10 (d ∷ cs)) ∷ lines_of (or_none (cond t (Some (d ∷ cs)) (behind 10 (d ∷ cs))))) [ true ↦ refl | false ↦ ap (before_lines c) further ]

appends_more : (o p q : Option (List ℕ)) (xs ys : List ℕ) → Appends o p xs → Appends p q ys → Appends o q (xs ++ ys)
appends_more None p q xs ys h k = tt
appends_more (Some os) None q xs ys h k = absurd h
appends_more (Some os) (Some ps) None xs ys h k = absurd k
appends_more (Some os) (Some ps) (Some qs) xs ys h k = k ∙ ap (λ l. l ++ ys) h ∙ append_assoc os xs ys

module _ (answers : List ℕ → List ℕ → Kind → Type 0) where
  -- the answers done are written, those in out are not, and the lines of rest are left
  pub record Progress (old now : Option (List ℕ)) (text out rest : List ℕ) (summary : Summary) : Type 0 where
    pub done : List ℕ
    pub written : Appends old now done
    pub others : (said : List ℕ) (last : Summary) → AllAnswered answers (lines_of rest) summary said last → AllAnswered answers (lines_of text) none_done (done ++ out ++ said) last

  module _ (old now : Option (List ℕ)) (text out rest : List ℕ) (summary : Summary) (p : Progress old now text out rest summary) where
    pub progress_more : (line more said gathered left done : List ℕ) (kind : Kind) (next : Option (List ℕ)) → 0 < length rest → line ≡ before 10 rest → more ≡ or_none (behind 10 rest) →
        gathered ≡ out ++ said → answers line said kind → Appends now next done → gathered ≡ done ++ left → Progress old next text left more (counted summary kind)
    progress_more line more said gathered left done kind next some l m g a w e =
        let lines : line ∷ lines_of more ≡ lines_of rest = ap (λ x. x ∷ lines_of more) l ∙ ap (λ x. before 10 rest ∷ lines_of x) m ∙ sym (first_line rest some) in
        record {
          done = p.done ++ done;
          written = appends_more old now next p.done done p.written w;
          others = λ others last h.
              let all = p.others (said ++ others) last (subst (λ ls. AllAnswered answers ls summary (said ++ others) last) lines (said, kind, others, a, refl, h)) in
              let whole : p.done ++ (out ++ said ++ others) ≡ p.done ++ (done ++ left ++ others) = ap (λ l. p.done ++ (l ++ others)) (sym g ∙ e) in
              let same : p.done ++ out ++ (said ++ others) ≡ p.done ++ done ++ left ++ others = simp append_assoc (simp append_assoc at whole) in
              subst (λ l. AllAnswered answers (lines_of text) none_done l last) same all;
        }

    pub progress_all : length rest ≡ 0 → AllAnswered answers (lines_of text) none_done (p.done ++ out) summary
    unfolding lines_of
    progress_all e =
        let none : [] ≡ rest = sym (nil_from_length rest e) in
        subst (λ l. AllAnswered answers (lines_of text) none_done l summary) (append-nil (p.done ++ out)) (p.others [] summary (subst (λ r. AllAnswered answers (lines_of r) summary [] summary) none (refl, refl)))

  -- all that was read is answered, and then the counts are written
  pub printed : {E : Type 0} (r : Result (Unit {0}) E) (input : Option (List ℕ)) (start read text words out gathered last : List ℕ) (s : Summary) (old now next : Option (List ℕ)) →
      start ≡ [] → IfSome input (λ xs. read ≡ start ++ xs) → text ≡ read → ((done : List ℕ) × Appends old now done × AllAnswered answers (lines_of text) none_done (done ++ out) s) →
      gathered ≡ out ++ counts_text words s.done s.refused s.unreadable → last ≡ gathered → OnOk r (Appends now next last) →
      OnOk r (IfSome input (λ xs. (said : List ℕ) × Appends old next said × Printed answers words xs said))
  printed (Err e) input start read text words out gathered last s old now next none all whole answered counts same w = tt
  printed (Ok u) None start read text words out gathered last s old now next none all whole answered counts same w = tt
  printed (Ok u) (Some xs) start read text words out gathered last s old now next none all whole answered counts same w =
      let done = answered.0 in
      let told = counts_text words s.done s.refused s.unreadable in
      let input-is : text ≡ xs = whole ∙ all ∙ ap (λ l. l ++ xs) none in
      let said : done ++ last ≡ done ++ out ++ told = ap (λ l. done ++ l) (same ∙ counts) ∙ sym (append_assoc done out told) in
      (done ++ last, appends_more old now next done last answered.1 w, (done ++ out, s, subst (λ l. AllAnswered answers (lines_of l) none_done (done ++ out) s) input-is answered.2, said))
