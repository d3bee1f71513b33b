use Rattle.std.proofs.Common.{◌≡◌, ℕ, ℤ, sym, ap, ◌∙◌, subst, w32, rules}
use Rattle.std.proofs.lemmas.Int.{to_z-of_z}
use Rattle.groups.specs.declared.tally.Tally.{Tally}
use Rattle.inputs.specs.Rules.{Rule}
use Rattle.inputs.specs.Sizes.{Widths}
use Rattle.steps.specs.Work.{Counts, sums_work, table_work, work}
use Rattle.steps.proofs.Counting.{work_counts}
use Rattle.steps.proofs.plain.tally_after.Goals as goal

-- the table by the rule's own limits
table_by : {lo lo' hi hi' : ℤ} (k b : ℕ) (t r : Tally) → lo ≡ lo' → hi ≡ hi' → r ≡ table_work lo hi k b t → r ≡ table_work lo' hi' k b t
table_by {lo} {lo'} {hi} {hi'} k b t r el eh e = e ∙ ap (λ (x : ℤ). table_work x hi k b t) el ∙ ap (λ (x : ℤ). table_work lo' x k b t) eh

pub returns : goal.returns
returns g c =
    let R : Rule = g.R.SignRule.rule c.args.rule.now in
    let law = g.met.R.SignRule.lawful c.args.rule.now in
    let z = c.args.sizes in
    let widths : Widths z.k z.b = (z.k_least, z.k_most, z.b_least, z.b_most) in
    let lo = R.lo z.k z.b in
    let hi = R.hi z.k z.b in
    let t : Tally = c.args.tally in
    let lo-is = to_z-of_z w32 c.lo.result (search rules) ∙ c.lo.ensures in
    let hi-is = to_z-of_z w32 c.hi.result (search rules) ∙ c.hi.ensures in
    let table : c.count_table-table.result ≡ table_work lo hi z.k z.b t =
    table_by z.k z.b t c.count_table-table.result lo-is hi-is c.count_table-table.ensures in
    let all : c.count_sums.result ≡ work lo hi z.k z.b z.m t = c.count_sums.ensures ∙ ap (sums_work z.k z.b z.m) table in
    record {
      work = all;
      counts = subst (λ (r : Tally). Counts lo hi z.k z.b z.m t r) (sym all) (work_counts lo hi z.k z.b z.m (law.lo_most z.k z.b widths) (law.hi_least z.k z.b widths) t);
    }
