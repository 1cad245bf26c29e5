use Rattle.std.proofs.Common.{◌≡◌, ◌+◌, ◌∙◌, ap, arith, length, min, ℕ}
use Rattle.crew_pairing.specs.Machinery.Listing.{from_place}
use Rattle.crew_duty.specs.Machinery.Held.{held}
use Rattle.crew_duty.proofs.Counts.{counts-more, sum-more, total-more}
use Rattle.crew_duty.proofs.beside.count_beside.Goals as goal

pub count_from-requires-clause-so_far : goal.count_from-requires-clause-so_far
count_from-requires-clause-so_far c = let inv = c.loop-place.invariant.all in omega (arith, inv)

pub loop-place-preserved : goal.loop-place-preserved
loop-place-preserved c =
    let F = from_place c.args.plan.now.settings.now (held c.args.plan.now) in
    let i = c.loop-place.place in
    let counts = c.loop-place.counts.items in
    let longer = c.in_ok-longer.longer in
    let total = c.loop-place.total in
    let inv = c.loop-place.invariant in
    let here : 0 + i ≡ i = omega arith in
    let one : longer ≡ min (total + length (F (0 + i))) 200_001 = c.in_ok-longer.ensures ∙ ap (λ (k : ℕ). min (total + length (F k)) 200_001) (omega arith) in
    let pushed = c.in_ok-push.ensures.items in
    record {
      counts = rw pushed (counts-more F 0 i counts total longer inv.counts inv.total inv.all one);
      total = rw pushed (sum-more F 0 i counts total longer inv.total inv.all one);
      all = total-more F 0 i total longer inv.all one;
    }
