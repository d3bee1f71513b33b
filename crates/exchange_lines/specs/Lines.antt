-- The text of an answer, byte by byte, and which text answers a line. Assumes nothing.
use Rattle.std.specs.Prelude.{◌≡◌, ℕ, List, ◌++◌, Some, None, Ok, Err, codes, Option}
use Rattle.lines.specs.Lines.{refusal_text, trimmed}
use Rattle.exchange_lines.specs.declared.answer.Account.{Account}
use Rattle.exchange_lines.specs.declared.answer.Told.{Told}
use Rattle.elements.specs.declared.element.Pair.{Pair}
use Rattle.elements.specs.Elements.{pair_text}
use Rattle.exchange.specs.declared.exchange.Party.{Party}
use Rattle.exchange.specs.declared.exchange.Party.TheVariants.{First, Second}
use Rattle.exchange.specs.declared.exchange.Refused.{Refused}
use Rattle.lines.specs.declared.summary.Kind.{Kind}
use Rattle.lines.specs.declared.summary.Kind.TheVariants as kinds
use Rattle.exchange_lines.specs.Answers.{Answer, Answered}
use Rattle.exchange_lines.specs.Requests.{Asked, requested}
use Rattle.groups.specs.Tally.{tally_text}

-- what a side handed over, its tally and the plain tally
abbrev pub account_text : Account Pair → List ℕ
account_text a = pair_text a.handed ++ codes " tally " ++ tally_text a.tally ++ codes " plain " ++ tally_text a.plain

-- the element that both agreed on, and both sides
abbrev pub told_text : Told Pair → List ℕ
told_text t = codes "agreed " ++ pair_text t.agreed ++ codes " machine " ++ account_text t.accounts.first ++ codes " chip " ++ account_text t.accounts.second

-- the name of each side
abbrev pub party_text : Party → List ℕ
party_text First = codes "machine"
party_text Second = codes "chip"

-- a refusal, and whose it is
abbrev pub refused_text : Refused → List ℕ
refused_text x = refusal_text x.refusal ++ codes " " ++ party_text x.party

-- the text of an answer
abbrev pub answer_text : Answer → List ℕ
answer_text (Ok t) = told_text t
answer_text (Err x) = refused_text x

-- how an answer is counted
abbrev pub kind_of : Answer → Kind
kind_of (Ok t) = kinds.Done
kind_of (Err x) = kinds.Refused

-- a line that can't be read is said to be so; one that can is answered by its answer's text
abbrev pub Said : Option Asked → Kind → List ℕ → List ℕ → Type 0
Said None kind before after = (kind ≡ kinds.Unreadable) × (after ≡ before ++ codes "unreadable\n")
Said (Some q) kind before after = (a : Answer) × (Answered q a) × (kind ≡ kind_of a) × (after ≡ before ++ answer_text a ++ codes "\n")

-- what a line, as it stands in the input, adds to the output, and how it is counted
abbrev pub LineAnswered : List ℕ → List ℕ → List ℕ → Kind → Type 0
LineAnswered line before after kind = Said (requested (trimmed line)) kind before after
