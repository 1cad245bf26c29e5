use Rattle.std.proofs.Common.{◌≡◌, ◌+◌, ◌++◌, ◌∙◌, ℕ, ap, ap₂, sym, length, arith}
use Rattle.std.specs.List.{flat_map, range_with_len}
use Rattle.crew_pairing.specs.Machinery.Listing.{from_place}
use Rattle.crew_duty.specs.Machinery.Held.{held}
use Rattle.crew_duty.proofs.Counts.{all-more, exact-at}
use Rattle.crew_duty.proofs.beside.fill_beside.Goals as goal

pub loop-place-preserved : goal.loop-place-preserved
loop-place-preserved c =
    let F = from_place c.args.plan.now.settings.now (held c.args.plan.now) in
    let i = c.loop-place.place in
    let here : 0 + i ≡ i = omega arith in
    let more : flat_map F (range_with_len 0 (i + 1)) ≡ flat_map F (range_with_len 0 i) ++ F i = all-more F 0 i ∙ ap (λ (k : ℕ). flat_map F (range_with_len 0 i) ++ F k) here in
    c.in_ok-push.ensures.ok ∙ ap₂ ◌++◌ c.loop-place.invariant c.in_ok-block_beside.ensures ∙ sym more

pub block_beside-requires-clause-count : goal.block_beside-requires-clause-count
block_beside-requires-clause-count c =
    let F = from_place c.args.plan.now.settings.now (held c.args.plan.now) in
    let i = c.loop-place.place in
    let at = exact-at F 0 c.args.counts.now i 0 c.loop-place-test.true c.requires.counts in
    let here : 0 + i ≡ i = omega arith in
    at.0 ∙ ap (λ (k : ℕ). length (F k)) here

pub block_beside-requires-clause-room : goal.block_beside-requires-clause-room
block_beside-requires-clause-room c =
    let F = from_place c.args.plan.now.settings.now (held c.args.plan.now) in
    let at = exact-at F 0 c.args.counts.now c.loop-place.place 0 c.loop-place-test.true c.requires.counts in
    omega (arith, at.1, c.requires.few)

pub push-requires : goal.push-requires
push-requires c =
    let F = from_place c.args.plan.now.settings.now (held c.args.plan.now) in
    let i = c.loop-place.place in
    let at = exact-at F 0 c.args.counts.now i 0 c.loop-place-test.true c.requires.counts in
    let here : 0 + i ≡ i = omega arith in
    omega (arith, at.0, at.1, ap (λ (k : ℕ). length (F k)) here, c.requires.few, ap length c.loop-place.invariant, ap length c.in_ok-block_beside.ensures)
