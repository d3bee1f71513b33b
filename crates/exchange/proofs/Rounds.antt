-- One task on one device, out of the law of a run. Assumes nothing.
use Rattle.std.proofs.Common.{◌≡◌, ℕ, ◌≤◌, min, Bool, true, false, cond, ltb, List, [], ◌∷◌, ◌++◌, length, drop, replicate, Some, None, vec_items, Option, Result, sym, refl, ap, ◌∙◌, subst, arith, ltb-false}
use Rattle.common.specs.declared.refusal.Refusal.{Refusal}
use Rattle.common.specs.declared.refusal.Refusal.TheVariants.{TableTooShort}
use Rattle.exchange.specs.Exchanges.{Brought, Ran, answered, asking, posed}
use Rattle.groups.specs.declared.tally.Tally.{Tally}
use Rattle.groups.specs.Groups.{Group}
use Rattle.inputs.specs.declared.window_rule.WindowRule.{WindowRule}
use Rattle.inputs.specs.Rules.{rule_of}
use Rattle.inputs.specs.Tests.{or_else}
use Rattle.multiplier.specs.Calls.{Answered, Call, answer_of, base_refusal, cells_after, cells_needed, counted, draw_of, draws_refusal, entry, mark_after, refusal_of, table_refusal, unless_refused}
use Rattle.recoding.proofs.Tests.{both_pass}
use Rattle.recoding.specs.Codings.{check_refusal}
use Rattle.runs.specs.declared.task.Ask.{Ask}
use Rattle.runs.specs.declared.task.Task.{Task}
use Rattle.runs.specs.Tasks.{LawfulRun, call, cells_left, cells_of, words_left, words_of}
use Rattle.std.proofs.lemmas.List.{length-append, length-drop, length-map, length-replicate}

-- a table that is not refused is long enough
enough : (cells needed : ℕ) → cond (ltb cells needed) (Some (TableTooShort cells)) None ≡ None → needed ≤ cells
enough cells needed h = by (ltb cells needed) refl h
  where
    by : (b : Bool) → ltb cells needed ≡ b → cond b (Some (TableTooShort cells)) None ≡ None → needed ≤ cells
    by true e p = absurd (let z : ◌≡◌ {A = ℕ} 0 1 = cc in omega arith)
    by false e p = ltb-false cells needed e

-- what a call leaves of the cells is as long as they were
cells_kept : {E : Type 0} (g : Group E) (c : Call E) (cells : List E) → c.cells ≡ length cells → length (cells_after g c cells) ≡ length cells
cells_kept g c cells e = by (refusal_of g c) refl
  where
    n : ℕ
    n = cells_needed c.rule c.sizes

    by : (o : Option Refusal) → refusal_of g c ≡ o → length (unless_refused o (replicate (cells_needed c.rule c.sizes) g.neutral ++ drop (cells_needed c.rule c.sizes) cells) cells) ≡ length cells
    by None r =
        let rest : or_else (table_refusal c.rule c.sizes c.cells) (or_else (base_refusal (g.member c.base)) (draws_refusal c.mark (draw_of c))) ≡ None = (both_pass (check_refusal c.sizes c.key c.words) _ r).1 in
        let room : cells_needed c.rule c.sizes ≤ c.cells = enough c.cells (cells_needed c.rule c.sizes) (both_pass (table_refusal c.rule c.sizes c.cells) _ rest).0 in
        omega (arith, e, room, length-append (replicate (cells_needed c.rule c.sizes) g.neutral) (drop (cells_needed c.rule c.sizes) cells), length-replicate (cells_needed c.rule c.sizes) g.neutral, length-drop (cells_needed c.rule c.sizes) cells)
    by (Some x) r = refl

-- a call by what a task asks, and by the lengths of what it was lent
abbrev filled : {E : Type 0} → Ask E WindowRule → (cells words : ℕ) → Option (Result E Refusal) → ℕ → Call E
filled a cells words answer after = record {
  rule = rule_of a.rule;
  sizes = a.sizes;
  key = vec_items a.key;
  base = a.base;
  bytes = vec_items a.draws;
  mark = min a.mark (length (vec_items a.draws));
  cells = cells;
  words = words;
  answer = answer;
  after = after;
}

filled_same : {E : Type 0} {a a' : Ask E WindowRule} {cells cells' words words' : ℕ} (answer : Option (Result E Refusal)) (after : ℕ) → a' ≡ a → cells' ≡ cells → words' ≡ words → filled a' cells' words' answer after ≡ filled a cells words answer after
filled_same {E} {a} {a'} {cells} {cells'} {words} {words'} answer after ea ec ew =
    ap (λ (x : Ask E WindowRule). filled x cells' words' answer after) ea ∙ ap (λ (x : ℕ). filled a x words' answer after) ec ∙ ap (λ (x : ℕ). filled a cells x answer after) ew

-- what is left before the last one of one is nothing
only : {X : Type 0} (rest xs : List X) (x : X) → xs ≡ rest ++ x ∷ [] → length xs ≡ 1 → xs ≡ x ∷ []
only [] xs x e one = e
only (y ∷ rest) xs x e one = absurd (omega (arith, one, ap length e, length-append rest (x ∷ [])))

module _ {S E : Type 0} (group : S → Group E) (tally : S → Tally) (s : S) (o : Task E WindowRule) (s' : S) (o' : Task E WindowRule) where
  ran_one : LawfulRun rule_of group tally s (o ∷ []) s' (o' ∷ []) → Ran group tally s o s' o'
  ran_one run =
      let g : Group E = group s in
      let ask : o'.ask ≡ o.ask = let h = run.same_asks in cc in
      let words : words_of o' ≡ words_left o = let h = run.words in cc in
      let cells : cells_of o' ≡ cells_left rule_of g o = let h = run.cells in cc in
      let as_many_words : length (words_of o') ≡ length (words_of o) = ap length words ∙ length-replicate (length (words_of o)) _ in
      let as_many_cells : length (cells_of o') ≡ length (cells_of o) = ap length cells ∙ cells_kept g (call rule_of o) (cells_of o) refl in
      let right : Answered g (call rule_of o') = run.lawful.answers 0 (call rule_of o') (omega arith, refl) in
      let same : posed (call rule_of o') ≡ posed (call rule_of o) = filled_same None 0 ask as_many_cells as_many_words in
      let answer : o'.outcome ≡ Some (answer_of g (posed (call rule_of o))) = right.answer ∙ ap (λ (c : Call E). Some (answer_of g c)) same in
      let after : o'.mark ≡ mark_after g (posed (call rule_of o)) = right.after ∙ ap (λ (c : Call E). mark_after g c) same in
      let done : call rule_of o' ≡ answered g (posed (call rule_of o)) =
      filled_same o'.outcome o'.mark ask as_many_cells as_many_words
      ∙ ap (λ (r : Option (Result E Refusal)). filled o.ask (length (cells_of o)) (length (words_of o)) r o'.mark) answer
      ∙ ap (λ (m : ℕ). filled o.ask (length (cells_of o)) (length (words_of o)) (Some (answer_of g (posed (call rule_of o)))) m) after in
      record {
        same_group = run.same_group;
        done = done;
        right = subst (Answered g) done right;
        told = run.lawful.tally ∙ ap (λ (c : Call E). counted (tally s) (entry c)) done;
      }

  -- the only task of a list, and the last one of what the run left
  pub ran : (ts ts' rest : List (Task E WindowRule)) → ts ≡ o ∷ [] → LawfulRun rule_of group tally s ts s' ts' → ts' ≡ rest ++ o' ∷ [] → Ran group tally s o s' o'
  ran ts ts' rest e run e' =
      let alone : ts' ≡ o' ∷ [] = only rest ts' o' e' (sym (length-map ts' (λ x. x.ask)) ∙ ap length run.same_asks ∙ length-map ts (λ x. x.ask) ∙ ap length e) in
      ran_one (subst (λ (l : List (Task E WindowRule)). LawfulRun rule_of group tally s (o ∷ []) s' l) alone (subst (λ (l : List (Task E WindowRule)). LawfulRun rule_of group tally s l s' ts') e run))

-- a call of a side, lent so many cells and words
abbrev lent : {E : Type 0} → Brought → E → (cells words : ℕ) → Call E
lent p base cells words = record { rule = p.rule; sizes = p.sizes; key = p.key; base = base; bytes = p.draws; mark = min 0 (length p.draws); cells = cells; words = words; answer = None; after = 0 }

-- as many as it needs
pub lent_enough : {E : Type 0} (p : Brought) (base : E) (cells words : ℕ) → cells ≡ cells_needed p.rule p.sizes → words ≡ p.sizes.m → lent p base cells words ≡ asking p base 0
lent_enough p base cells words ec ew = ap (λ (x : ℕ). lent p base x words) ec ∙ ap (λ (x : ℕ). lent p base (cells_needed p.rule p.sizes) x) ew
