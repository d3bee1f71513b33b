use Rattle.std.proofs.Common.{◌≡◌, ℕ, ◌<◌, List, ◌++◌, min, is_ok, length, Some, None, sym, ap, ◌∙◌, arith, length-append}
use Rattle.std.proofs.ResultArms.{chosen}
use Rattle.std.specs.Slice.Iter.{chunks_exact_rest, chunks_exact_size}
use Rattle.text.proofs.Grouping.{left_start, left_more, left_none, bytes_group, bytes_odd, bytes_left}
use Rattle.text.proofs.hex.hex_bytes.Goals as goal

pub returns-then-text-ne0 : goal.returns-then-text-ne0
returns-then-text-ne0 c = record { value = bytes_odd _ c.if-text-ne0.true }

-- a group that is whole is the first two of the digits that are left
first_two : (rest pair more : List ℕ) (size : ℕ) → size ≡ 2 → rest ≡ pair ++ more → length pair ≡ size → (length pair ≡ min size (length rest)) × (0 < length rest)
first_two rest pair more size two cut whole = (omega (arith, two, whole, ap length cut, length-append pair more), omega (arith, two, whole, ap length cut, length-append pair more))

pub loop-pair-init : goal.loop-pair-init
loop-pair-init c =
    let it = c.into_iter-pair-iterator.ensures.into_iter_gives in
    let rest = ap chunks_exact_rest it ∙ c.chunks_exact-pair-items.ensures.rest in
    rw rest (bytes_left (left_start _ _ _ c.new-bytes.ensures.items) (ap chunks_exact_size it ∙ c.chunks_exact-pair-items.ensures.size) c.if-text-ne0.false)

pub loop-pair-preserved : goal.loop-pair-preserved
loop-pair-preserved c =
    let p = c.loop-pair.invariant in
    let step = c.in-Some.ensures.steps in
    let two = first_two _ c.in-Some.pair.now _ _ p.pairs step.1.0 step.1.1 in
    bytes_left
    (left_more _ _ _ _ p.left c.in-Some-hex_number.byte _ _
    (bytes_group _ c.in-Some.pair.now _ _ (Some c.in-Some-hex_number.byte) p.pairs p.even step.1.0 two.0 two.1 (sym c.in-Some-hex_number.ensures.value))
    (chosen _ _ _ _ c.push.ensures.items (ap is_ok c.in_ok-push.was)))
    (step.0 ∙ p.pairs)
    (omega (arith, p.even, p.pairs, step.1.1, ap length step.1.0, length-append c.in-Some.pair.now (chunks_exact_rest c.next.new.self)))

pub returns-in_default : goal.returns-in_default
returns-in_default c =
    let p = c.loop-pair.invariant in
    let step = c.in-Some.ensures.steps in
    let two = first_two _ c.in-Some.pair.now _ _ p.pairs step.1.0 step.1.1 in
    record {
      value = left_none _ _ _ _ p.left (bytes_group _ c.in-Some.pair.now _ _ None p.pairs p.even step.1.0 two.0 two.1 (sym c.in_default.ensures.value));
    }
