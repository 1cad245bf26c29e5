use Rattle.std.proofs.Common.{◌∙◌, Bool, List, ap, arith, false, get_or, length, ℕ}
use Rattle.crew_round.proofs.Counting.{line-begun, none-told}
use Rattle.crew_round.proofs.Places.{few-nodes}
use Rattle.crew_round.proofs.Tallies.{long-copies}
use Rattle.crew_round.specs.declared.line.Line.{Line}
use Rattle.crew_round.proofs.line.Line.of.Goals as goal

pub new-requires : goal.new-requires
new-requires c =
    let few = few-nodes (length c.args.net.now.bases) (length c.args.net.now.duties) c.base_count-bases.ensures.few c.duty_count-duties.ensures.few in
    let is = c.len.ensures in
    omega (arith, few, is)

pub fill-requires : goal.fill-requires
fill-requires c = record {
  long = c.in_ok-counts.ensures.long;
  undone = λ base counts at. (c.in_ok-counts.ensures.right base counts at).are.long;
  blocked = λ base counts at. (c.in_ok-counts.ensures.right base counts at).are.long_blocked;
  long_set = ap length c.in_ok-set.ensures ∙ (long-copies c.len.result false ∙ c.len.ensures);
}

pub returns-clause-line : goal.returns-clause-line
returns-clause-line c =
    let old : Line = record { counts = c.in_ok-counts.counts; set = c.in_ok-set.set; any = c.args.any } in
    let flag : ℕ → Bool = λ place. get_or c.args.flags.now place false in
    line-begun c.args.net.now c.args.carried.now c.args.cells.now flag old c.fill.new.self c.in_ok-counts.ensures.right c.in_ok-counts.ensures.long
    (ap length c.in_ok-set.ensures ∙ (long-copies c.len.result false ∙ c.len.ensures))
    (λ k. ap (λ (z : List Bool). get_or z k false) c.in_ok-set.ensures ∙ none-told c.len.result k)
    c.fill.ensures.stays (c.fill.ensures.grows flag c.in_ok-counts.ensures.right)
