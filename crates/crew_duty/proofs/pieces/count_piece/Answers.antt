use Rattle.std.proofs.Common.{◌≡◌, ◌<◌, ◌-◌, ◌∙◌, List, ℕ, arith, length, subst, take}
use Rattle.std.proofs.lemmas.List.{take_all}
use Rattle.crew_duty.specs.Machinery.Held.{held}
use Rattle.crew_duty.specs.Machinery.Counts.{AreCounts}
use Rattle.crew_pairing.specs.Machinery.Listing.{from_place}
use Rattle.crew_duty.proofs.Counts.{counts-more, sum-more, total-more}
use Rattle.crew_duty.proofs.Filling.{length-set, take-set}
use Rattle.crew_duty.proofs.pieces.count_piece.Goals as goal

pub loop-place-preserved : goal.loop-place-preserved
loop-place-preserved c =
    let F = from_place c.args.plan.now.settings.now (held c.args.plan.now) in
    let i = c.loop-place.place in
    let counts = c.loop-place.counts in
    let longer = c.in_ok-longer.longer in
    let total = c.loop-place.total in
    let inv = c.loop-place.invariant in
    let one = c.in_ok-longer.ensures.0 in
    let within : i < length counts = omega (arith, c.loop-place-test.true, inv.3) in
    let taken = take-set counts i (longer - total) within in
    let long = length-set counts i (longer - total) in
    (rw taken (counts-more F c.args.from i (take i counts) total longer inv.0 inv.1 inv.2 one), rw taken (sum-more F c.args.from i (take i counts) total longer inv.1 inv.2 one), total-more F c.args.from i total longer inv.2 one, long ∙ inv.3)

pub returns : goal.returns
returns c =
    let F = from_place c.args.plan.now.settings.now (held c.args.plan.now) in
    let i = c.loop-place.place in
    let counts = c.loop-place.counts in
    let inv = c.loop-place.invariant in
    let end : i ≡ length c.args.counts.now = omega (arith, c.loop-place-test.false, c.loop-place.auto.place-end, inv.3) in
    let all = take_all i counts (omega (arith, end, inv.3)) in
    subst (λ (n : ℕ). AreCounts F c.args.from n counts) end (subst (λ (ns : List ℕ). AreCounts F c.args.from i ns) all inv.0)
