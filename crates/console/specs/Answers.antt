-- How a request is answered: by the first refusal of its tests, or by the recoding, which the check accepts.
use Rattle.std.specs.Prelude.{◌≡◌, ℕ, true, map, Some, None, Ok, Err, vec_items, Option, Result}
use Rattle.common.specs.declared.refusal.Refusal.{Refusal}
use Rattle.common.specs.declared.refusal.Refusal.TheVariants.{DrawsExhausted}
use Rattle.console.specs.declared.answer.Recoding.{Recoding}
use Rattle.console.specs.Requests.{Asked}
use Rattle.inputs.specs.declared.sizes.Sizes.{Sizes}
use Rattle.inputs.specs.Draws.{Found, first_draw}
use Rattle.inputs.specs.Keys.{half, key_refusal}
use Rattle.inputs.specs.Rules.{rule_of}
use Rattle.inputs.specs.Sizes.{sizes_refusal}
use Rattle.recoding.specs.Digits.{encoded}
use Rattle.recoding.specs.Windows.{recoding}

-- an answer: a recoding, or why there is none
abbrev pub Answer : Type 0
Answer = Result Recoding Refusal

-- the answer is this refusal
abbrev pub Says : Refusal → Answer → Type 0
Says e (Err f) = f ≡ e
Says e (Ok c) = ⊥

-- the answer is the recoding by the draw s, and the check said yes
pub record Coded (z : Sizes) (q : Asked) (s : ℕ) (c : Recoding) : Type 0 where
  pub draw : c.draw ≡ s
  pub correction : c.correction ≡ (recoding (rule_of q.rule) z s (half q.key)).left
  pub words : vec_items c.words ≡ map encoded (recoding (rule_of q.rule) z s (half q.key)).digits
  pub verdict : c.verdict ≡ true

-- the answer is such a recoding
abbrev pub Codes : Sizes → Asked → ℕ → Answer → Type 0
Codes z q s (Ok c) = Coded z q s c
Codes z q s (Err e) = ⊥

-- a refusal, or what else is answered
abbrev pub Unless : Option Refusal → (Answer → Type 0) → Answer → Type 0
Unless (Some e) other a = Says e a
Unless None other a = other a

-- with the draw s the key is tested
abbrev pub Drawn : Sizes → Asked → ℕ → Answer → Type 0
Drawn z q s = Unless (key_refusal z q.key) (Codes z q s)

-- with the sizes z the first admitted draw is taken
abbrev pub ByDraw : Option Found → Sizes → Asked → Answer → Type 0
ByDraw None z q = Says (DrawsExhausted 0)
ByDraw (Some f) z q = Drawn z q f.value

-- with the sizes z, the draw is taken from the request's bytes
abbrev pub Sized : Sizes → Asked → Answer → Type 0
Sized z q = ByDraw (first_draw (rule_of q.rule) z q.draws 0) z q

-- the sizes are tested first
abbrev pub Answered : Asked → Answer → Type 0
Answered q = Unless (sizes_refusal q.k q.b q.m) (λ a. (z : Sizes) × (z.k ≡ q.k) × (z.b ≡ q.b) × (z.m ≡ q.m) × Sized z q a)
