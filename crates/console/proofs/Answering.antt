-- The answer to a request, from what the recoding and the check said.
use Rattle.std.proofs.Common.{◌≡◌, ℕ, Bool, List, [], ◌++◌, map, length, drop, ℤ, pos, Some, None, Ok, Err, vec_items, Decides, Option, sym, ap, ◌∙◌, subst, ap₂, arith}
use Rattle.common.specs.declared.refusal.Refusal.{Refusal}
use Rattle.console.specs.declared.answer.Recoding.{Recoding}
use Rattle.console.specs.Answers.{Codes, Unless, Drawn}
use Rattle.console.specs.Requests.{Asked}
use Rattle.inputs.specs.declared.draw.Draw.{Draw}
use Rattle.inputs.specs.declared.sizes.Sizes.{Sizes}
use Rattle.inputs.specs.Draws.{draw_refusal}
use Rattle.inputs.specs.Keys.{half, key_refusal}
use Rattle.inputs.specs.Rules.{Rule, rule_of}
use Rattle.inputs.specs.Tests.{or_else}
use Rattle.recoding.specs.declared.coded.Coded as state
use Rattle.recoding.specs.declared.digit.Digit.{Digit}
use Rattle.recoding.specs.Codings.{Accepted, Coding, digits_in, digits_refusal, check_refusal, recode_refusal}
use Rattle.recoding.specs.Digits.{encoded, zeros}
use Rattle.recoding.specs.Windows.{State, recoding}
use Rattle.recoding.proofs.Tests.{both_pass, words_taken}
use Rattle.std.proofs.lemmas.List.{append-nil, drop_all, length-replicate}

module _ (z : Sizes) (q : Asked) (d : Draw) where
  abbrev R : Rule
  R = rule_of q.rule

  same_coding : {e e' s s' : ℕ} {c c' : ℤ} {ds ds' : List Digit} → e ≡ e' → s ≡ s' → c ≡ c' → ds ≡ ds' → Coding R z e s c ds → Coding R z e' s' c' ds'
  same_coding {e} {e'} {s} {s'} {c} {c'} {ds} {ds'} ee es ec ed h =
      subst (λ (y : ℕ). Coding R z y s' c' ds') ee (subst (λ (y : ℕ). Coding R z e y c' ds') es (subst (λ (y : ℤ). Coding R z e s y ds') ec (subst (λ (y : List Digit). Coding R z e s c y) ed h)))

  -- an accepted recoding r of the key, and the check's verdict v on it, as they were lent the key and the words
  module _ (key key' : List ℕ) (r : state.Coded) (before after words' : List ℤ) (ek : key ≡ q.key) (ek' : key' ≡ q.key) (room : before ≡ zeros z.m) (ew : words' ≡ after)
      (a : Accepted R z key d before r after) where
    taken : key_refusal z q.key ≡ None
    taken = ap (key_refusal z) (sym ek) ∙ (both_pass (key_refusal z key) (digits_refusal z (length before)) (both_pass (check_refusal z key (length before)) (draw_refusal R z d) a.untested).0).0

    none : drop z.m before ≡ []
    none = ap (drop z.m) room ∙ drop_all z.m (zeros z.m) (omega (arith, length-replicate z.m (pos 0)))

    pub recoded : (c : Recoding) (s : ℕ) (x : ℤ) (v : Bool) → s ≡ r.draw.value → x ≡ r.correction → Decides v (Coding R z (half key') s x (digits_in z words')) →
        c.draw ≡ s → c.correction ≡ x → vec_items c.words ≡ after → c.verdict ≡ v → Drawn z q d.value (Ok c)
    recoded c s x v es ex dv fd fc fw fv =
        let drawn : s ≡ d.value = es ∙ ap (λ (y : Draw). y.value) a.draw in
        let keyed = ap (λ (k : List ℕ). recoding R z d.value (half k)) ek in
        subst (λ (o : Option Refusal). Unless o (Codes z q d.value) (Ok c)) (sym taken) (record {
          draw = fd ∙ drawn;
          correction = fc ∙ ex ∙ a.correction ∙ ap (λ (y : State). y.left) keyed;
          words = fw ∙ a.words ∙ ap₂ (λ (y : State) (l : List ℤ). map encoded y.digits ++ l) keyed none ∙ append-nil _;
          verdict = fv ∙ dv.1 (same_coding (ap half (ek ∙ sym ek')) (sym drawn) (sym ex) (ap (digits_in z) (sym ew)) a.coding);
        })

  -- a refused one: with words enough and a fit draw, only the key can be refused
  pub refused : (e : Refusal) (key : List ℕ) (before : List ℤ) → key ≡ q.key → before ≡ zeros z.m → draw_refusal R z d ≡ None → recode_refusal R z key (length before) d ≡ Some e →
      Drawn z q d.value (Err e)
  refused e key before ek eb fit h =
      by (key_refusal z q.key) (ap (λ (k : List ℕ). or_else (or_else (key_refusal z k) None) None) (sym ek) ∙ ap₂ (λ (x y : Option Refusal). or_else (or_else (key_refusal z key) x) y) (sym enough) (sym fit) ∙ h)
    where
      enough : digits_refusal z (length before) ≡ None
      enough = words_taken z (length before) (omega (arith, ap length eb, length-replicate z.m (pos 0)))

      by : (k : Option Refusal) → or_else (or_else k None) None ≡ Some e → Unless k (Codes z q d.value) (Err e)
      by None p = absurd (let x : ◌≡◌ {A = ℕ} 0 1 = cc in omega arith)
      by (Some f) p = cc
