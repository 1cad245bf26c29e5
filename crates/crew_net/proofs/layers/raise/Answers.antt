use Rattle.std.proofs.Common.{◌≡◌, ◌<◌, ◌≤◌, ◌+◌, ◌⊎◌, ◌∙◌, arith, take, get_or, length, max, set, ℕ, List, subst, sym}
use Rattle.std.proofs.lemmas.List.{length-set}
use Rattle.crew_resource.specs.Members.{Member}
use Rattle.crew_net.specs.Machinery.Raised.{IsRaised}
use Rattle.crew_resource.proofs.Members.{Member-get}
use Rattle.crew_net.proofs.Raised.{raise-from, raise-kept, raise-there}
use Rattle.crew_net.proofs.layers.raise.Goals as goal

pub bounds-places-rank : goal.bounds-places-rank
bounds-places-rank c = c.requires.ranks (get_or c.args.ranks.now c.loop-rank.rank-index 0) (Member-get c.args.ranks.now c.loop-rank.rank-index 0 c.loop-rank-test.true)

pub bounds-next-place : goal.bounds-next-place
bounds-next-place c =
    let within = c.requires.places (get_or c.args.ranks.now c.loop-rank.rank-index 0) (Member-get c.args.ranks.now c.loop-rank.rank-index 0 c.loop-rank-test.true) in
    let long = c.loop-rank.invariant.0 in
    omega (arith, within, long)

pub bounds-next-place-in-loop-rank : goal.bounds-next-place-in-loop-rank
bounds-next-place-in-loop-rank c =
    let within = c.requires.places (get_or c.args.ranks.now c.loop-rank.rank-index 0) (Member-get c.args.ranks.now c.loop-rank.rank-index 0 c.loop-rank-test.true) in
    let long = c.loop-rank.invariant.0 in
    omega (arith, within, long)

abbrev Raises : List ℕ → List ℕ → List ℕ → List ℕ → ℕ → Type 0
Raises first now places ranks layer =
    (length now ≡ length first)
    × ((k : ℕ) → get_or first k 0 ≤ get_or now k 0)
    × ((rank : ℕ) → Member ranks rank → layer ≤ get_or now (get_or places rank 0) 0)
    × ((k : ℕ) → (get_or now k 0 ≡ get_or first k 0) ⊎ IsRaised ranks places layer k (get_or now k 0))

pub loop-rank-preserved : goal.loop-rank-preserved
loop-rank-preserved c =
    let first = c.args.next.now in
    let next = c.loop-rank.next in
    let places = c.args.places.now in
    let ranks = c.args.ranks.now in
    let i = c.loop-rank.rank-index in
    let h = c.loop-rank-test.true in
    let place = get_or places (get_or ranks i 0) 0 in
    let within = c.requires.places (get_or ranks i 0) (Member-get ranks i 0 h) in
    let long = c.loop-rank.invariant.0 in
    let bound : place < length next = omega (arith, within, long) in
    let value : max (get_or next place 0) c.args.layer ≡ c.max.result = sym c.max.ensures in
    subst (λ (n : ℕ). Raises first (set next place n) places (take (i + 1) ranks) c.args.layer) value (
      length-set next place (max (get_or next place 0) c.args.layer) ∙ long,
      raise-kept first next places ranks i c.args.layer h bound c.loop-rank.invariant.1,
      raise-there first next places ranks i c.args.layer h bound c.loop-rank.invariant.2,
      raise-from first next places ranks i c.args.layer h bound c.loop-rank.invariant.3,
    )
