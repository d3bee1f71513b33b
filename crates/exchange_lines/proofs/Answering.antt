-- An answer in a group, from the exchange on two new devices. Assumes nothing.
use Rattle.std.proofs.Common.{◌≡◌, ℕ, Bool, IfOk, Ok, Err, Result, sym, refl, ap, ◌∙◌, subst, arith}
use Rattle.exchange_lines.specs.declared.answer.Told.{Told}
use Rattle.elements.specs.declared.element.Pair.{Pair}
use Rattle.exchange.specs.declared.exchange.Agreement.{Agreement}
use Rattle.exchange.specs.declared.exchange.Refused.{Refused}
use Rattle.exchange_lines.specs.declared.answer.Account.{Account}
use Rattle.elements.specs.declared.kind.GroupKind.{GroupKind}
use Rattle.exchange.specs.declared.exchange.Both.{Both}
use Rattle.exchange_lines.specs.Answers.{Answer, Answered, InGroup, InKind, SizedAs, Tells, ToldBy, account_at, account_of, answer_from, first_side, in_pairs, second_side, told_of, told_with}
use Rattle.elements.specs.Elements.{coordinates}
use Rattle.exchange.specs.Exchanges.{Agrees, Brought, Exchanged, exchanged, worked}
use Rattle.exchange_lines.specs.Requests.{Asked}
use Rattle.inputs.specs.declared.sizes.Sizes.{Sizes}
use Rattle.groups.specs.declared.tally.Tally.{Tally}
use Rattle.groups.specs.Groups.{Group}
use Rattle.groups.specs.SetUp.{Accepted}
use Rattle.groups.specs.Tally.{zero_tally}
use Rattle.std.proofs.lemmas.Bool.{cond-true}

-- what is told of an agreement, as two numbers each
abbrev pairs_of : {E : Type 0} → Group E → Brought → Brought → Agreement E → Told Pair
pairs_of g p q a =
    in_pairs (λ e. coordinates (g.code e)) (record { agreed = a.agreed.first; accounts = record { first = account_of p zero_tally a.handed.first; second = account_of q zero_tally a.handed.second } })

-- what is told of an agreement that keeps the law
tells : {E : Type 0} (g : Group E) (p q : Brought) (base : E) (x : Result (Agreement E) Refused) → ((a : Agreement E) → x ≡ Ok a → Agrees g p q base a) →
    (t : Told Pair) → answer_from (λ e. coordinates (g.code e)) (told_of p q zero_tally zero_tally x) ≡ Ok t → Tells g p q base t
tells g p q base (Err x) law t e = absurd (let z : ◌≡◌ {A = ℕ} 0 1 = cc in omega arith)
tells g p q base (Ok a) law t e =
    let l = law a refl in
    let k : pairs_of g p q a ≡ t = cc in
    subst (Tells g p q base) k (record {
      first_handed = ap coordinates l.first_handed;
      second_handed = ap coordinates l.second_handed;
      agreed = ap coordinates l.product;
      first_tally = refl;
      second_tally = refl;
    })

-- two tallies
abbrev two : (t t' : Tally) → Both Tally
two t t' = record { first = t; second = t' }

module _ {S E : Type 0} (group : S → Group E) (tally : S → Tally) (p q : Brought) (base : E) (s u s' u' : S) where
  -- an exchange that agreed, told with the tallies of both devices
  with_tallies_of : (a : Agreement E) → Exchanged group tally s u p q base s' u' (Ok a) → (t t' plain plain' : Tally) → t ≡ tally s' → t' ≡ tally u' → plain ≡ worked p (worked p zero_tally) → plain' ≡ worked q (worked q zero_tally) →
      told_with (two t t') (two plain plain') (Ok a) ≡ told_of p q (tally s) (tally u) (Ok a)
  with_tallies_of a x t t' plain plain' et et' ep ep' =
      ap (λ (k : Tally). told_with (two k t') (two plain plain') (Ok a)) (et ∙ x.first_work a refl)
      ∙ ap (λ (k : Tally). told_with (two (worked p (worked p (tally s))) k) (two plain plain') (Ok a)) (et' ∙ x.second_work a refl)
      ∙ ap (λ (k : Tally). told_with (two (worked p (worked p (tally s))) (worked q (worked q (tally u)))) (two k plain') (Ok a)) ep
      ∙ ap (λ (k : Tally). told_with (two (worked p (worked p (tally s))) (worked q (worked q (tally u)))) (two (worked p (worked p zero_tally)) k) (Ok a)) ep'

  -- an exchange is told with the tallies of both devices
  pub told_by : (r : Result (Agreement E) Refused) → Exchanged group tally s u p q base s' u' r → (t t' plain plain' : Tally) → t ≡ tally s' → t' ≡ tally u' → plain ≡ worked p (worked p zero_tally) → plain' ≡ worked q (worked q zero_tally) →
      (m : Result (Told E) Refused) → m ≡ told_with (two t t') (two plain plain') r → ToldBy group tally s u p q base m
  told_by (Err e) x t t' plain plain' et et' ep ep' m em = record {
    result = em ∙ ap (told_of p q (tally s) (tally u)) x.result;
    agrees = λ same b h. x.agrees same b (x.result ∙ h);
  }
  told_by (Ok a) x t t' plain plain' et et' ep ep' m em = record {
    result = em ∙ with_tallies_of a x t t' plain plain' et et' ep ep' ∙ ap (told_of p q (tally s) (tally u)) x.result;
    agrees = λ same b h. x.agrees same b (x.result ∙ h);
  }

module _ {S E : Type 0} (group : S → Group E) (tally : S → Tally) (fits : Bool) (g : Group E) (p q : Brought) (base : E) where
  -- two new devices of the group
  pub in_group : (s u : S) → Accepted group tally fits g s → Accepted group tally fits g u → (base' : E) → base' ≡ base → (r : Result (Told E) Refused) → ToldBy group tally s u p q base' r → (a : Answer) → a ≡ answer_from (λ e. coordinates (g.code e)) r → InGroup fits g p q base a
  in_group s u new new' base' eb r told' a e =
      let told : ToldBy group tally s u p q base r = subst (λ (x : E). ToldBy group tally s u p q x r) eb told' in
      let same : exchanged (group s) (group u) p q base ≡ exchanged g g p q base = ap (λ (k : Group E). exchanged k (group u) p q base) new.meaning ∙ ap (λ (k : Group E). exchanged g k p q base) new'.meaning in
      let result : r ≡ told_of p q zero_tally zero_tally (exchanged g g p q base) =
      told.result ∙ ap (λ (t : Tally). told_of p q t (tally u) (exchanged (group s) (group u) p q base)) new.untouched ∙ ap (λ (t : Tally). told_of p q zero_tally t (exchanged (group s) (group u) p q base)) new'.untouched
      ∙ ap (told_of p q zero_tally zero_tally) same in
      let whole : a ≡ answer_from (λ e. coordinates (g.code e)) (told_of p q zero_tally zero_tally (exchanged g g p q base)) = e ∙ ap (answer_from (λ e. coordinates (g.code e))) result in
      record {
        is = whole ∙ sym (cond-true fits _ _ new.fitting);
        law = λ t k.
            tells g p q base (exchanged g g p q base)
            (λ b h. subst (λ (x : Group E). Agrees x p q base b) new.meaning (told.agrees (new'.meaning ∙ sym new.meaning) b (same ∙ h)))
            t (sym whole ∙ k);
      }

-- an answer in the group that is asked for
pub in_kind : {X : Type 0} (q : Asked) (k : GroupKind) (z y : Sizes) (r : Result Answer X) → SizedAs 5 12 100 z → SizedAs 3 6 160 y → q.kind ≡ k → IfOk r (InKind k (first_side z q) (second_side y q) q) → IfOk r (Answered q)
in_kind q k z y (Err x) sz sy e m = m
in_kind q k z y (Ok a) sz sy e m = (z, y, sz, sy, subst (λ (j : GroupKind). InKind j (first_side z q) (second_side y q) q a) (sym e) m)
