-- The text of an answer, byte by byte. Assumes nothing.
use Rattle.std.specs.Prelude.{ℕ, Bool, List, ◌++◌, codes, if◌then◌else◌}
use Rattle.common.specs.Refusals.{refusal_text}
use Rattle.elements.specs.Elements.{pair_text}
use Rattle.groups.specs.Tally.{tally_text}
use Rattle.groupcalc.specs.declared.answer.Report.{Report}
use Rattle.groupcalc.specs.declared.answer.Unanswered.{Unanswered}
use Rattle.groupcalc.specs.declared.answer.Unanswered.TheVariants.{Refused, Unreadable}

-- "true" or "false"
abbrev pub truth_text : Bool → List ℕ
truth_text b = if b then codes "true" else codes "false"

-- "ok", who belongs, the sum, the double, the negative, and the tally
abbrev pub report_text : Report → List ℕ
report_text r =
    codes "ok " ++ truth_text r.first ++ codes " " ++ truth_text r.second ++ codes " "
    ++ pair_text r.sum ++ codes " " ++ pair_text r.double ++ codes " " ++ pair_text r.negative ++ codes " " ++ tally_text r.tally

-- the text of the refusal, or "unreadable"
abbrev pub unanswered_text : Unanswered → List ℕ
unanswered_text (Refused e) = refusal_text e
unanswered_text Unreadable = codes "unreadable"
