use Rattle.std.proofs.Common.{ℕ, ◌≤◌, Bool, List, length, sym, ap, ◌∙◌, arith}
use Rattle.std.proofs.lemmas.List.{length-take}
use Rattle.common.specs.declared.refusal.Refusal.TheVariants.{DrawsExhausted}
use Rattle.inputs.specs.Draws.{draw_bytes}
use Rattle.inputs.proofs.Draws.{draw_bytes_lem, turn, search_ends, search_goes_on, search_fails, found_before, none_admitted, whole_left, among_left}
use Rattle.inputs.proofs.draw.Draw.from_stream.Goals as goal

pub lowest_first-requires : goal.lowest_first-requires
lowest_first-requires g c =
    let t = c.in-Some.ensures.taken in
    let e : length c.in-Some.bytes.now ≤ draw_bytes c.draw_width-width.result = rw t.1 (simp length-take (omega arith)) in
    omega arith

pub returns-then-admits : goal.returns-then-admits
returns-then-admits g c =
    let b : ℕ = c.args.sizes.b in
    let bs : List ℕ = c.args.stream.now.bytes.now in
    let start : ℕ = c.args.stream.now.mark in
    let admits : ℕ → Bool = (g.R.SignRule.rule c.args.rule.now).admits c.args.sizes.k b in
    let d = draw_bytes_lem b (omega arith) (omega arith) in
    let r = turn bs c.loop-bytes.stream.bytes.now c.in-Some.bytes.now b c.draw_width-width.result c.loop-bytes.stream.mark c.next_bytes.new.self.mark c.lowest_first.result c.draw_width-width.ensures (omega arith) c.loop-bytes.invariant.1 c.in-Some.ensures.taken c.lowest_first.ensures in
    let a = sym c.admits.ensures ∙ c.if-admits.true in
    let f = search_ends admits bs b start c.loop-bytes.stream.mark c.next_bytes.new.self.mark _ d.0 c.loop-bytes.invariant.2 r a in
    record {
      source = c.in-Some.ensures.source ∙ c.loop-bytes.invariant.1;
      first = found_before admits bs b _ start _ (whole_left admits bs b start (omega arith)) f;
      drawn = (f, c.draw_width-width.ensures);
    }

pub loop-bytes-preserved : goal.loop-bytes-preserved
loop-bytes-preserved g c =
    let b : ℕ = c.args.sizes.b in
    let bs : List ℕ = c.args.stream.now.bytes.now in
    let start : ℕ = c.args.stream.now.mark in
    let admits : ℕ → Bool = (g.R.SignRule.rule c.args.rule.now).admits c.args.sizes.k b in
    let d = draw_bytes_lem b (omega arith) (omega arith) in
    let r = turn bs c.loop-bytes.stream.bytes.now c.in-Some.bytes.now b c.draw_width-width.result c.loop-bytes.stream.mark c.next_bytes.new.self.mark c.lowest_first.result c.draw_width-width.ensures (omega arith) c.loop-bytes.invariant.1 c.in-Some.ensures.taken c.lowest_first.ensures in
    let a = sym c.admits.ensures ∙ c.if-admits.false in (
      omega (arith, r.on),
      c.in-Some.ensures.source ∙ c.loop-bytes.invariant.1,
      search_goes_on admits bs b start c.loop-bytes.stream.mark c.next_bytes.new.self.mark _ d.0 c.loop-bytes.invariant.2 r a,
    )

pub returns : goal.returns
returns g c =
    let b : ℕ = c.args.sizes.b in
    let bs : List ℕ = c.args.stream.now.bytes.now in
    let start : ℕ = c.args.stream.now.mark in
    let admits : ℕ → Bool = (g.R.SignRule.rule c.args.rule.now).admits c.args.sizes.k b in
    let d = draw_bytes_lem b (omega arith) (omega arith) in
    let f = search_fails admits bs c.loop-bytes.stream.bytes.now b c.draw_width-width.result start c.loop-bytes.stream.mark c.draw_width-width.ensures c.loop-bytes.invariant.1 d.0 c.in_default.ensures.taken.0 c.loop-bytes.invariant.2 in
    record {
      source = c.rewind.ensures.source ∙ c.in_default.ensures.source ∙ c.loop-bytes.invariant.1;
      first = λ j h. none_admitted admits bs b _ start f j (among_left admits bs b start j d.0 h);
      drawn = (f, ap DrawsExhausted c.mark-start.ensures, omega (arith, c.rewind.ensures.mark, c.mark-start.ensures, c.in_default.ensures.taken.1, c.loop-bytes.invariant.0));
    }
