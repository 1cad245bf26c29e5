use Rattle.std.proofs.Common.{◌<◌, ◌∙◌, ◌||◌, List, Bool, arith, false, get_or, length, not, sym, subst, set, take, ℕ, true, ◌≡◌, ◌+◌, ◌⊎◌}
use Rattle.std.proofs.lemmas.List.{length-set}
use Rattle.crew_dirty.specs.Machinery.Marks.{IsMarkedBy}
use Rattle.crew_resource.proofs.Members.{Member-get}
use Rattle.crew_dirty.proofs.Flagged.{marks-from, marks-kept, marks-there}
use Rattle.crew_dirty.proofs.flags.mark.Goals as goal

pub bounds-places-rank : goal.bounds-places-rank
bounds-places-rank c = c.requires.ranks (get_or c.args.ranks.now c.loop-rank.rank-index 0) (Member-get c.args.ranks.now c.loop-rank.rank-index 0 c.loop-rank-test.true)

pub bounds-marks-place : goal.bounds-marks-place
bounds-marks-place c =
    let within = c.requires.places (get_or c.args.ranks.now c.loop-rank.rank-index 0) (Member-get c.args.ranks.now c.loop-rank.rank-index 0 c.loop-rank-test.true) in
    let long = c.loop-rank.invariant.0 in
    omega (arith, within, long)

pub bounds-marks-place-in-loop-rank : goal.bounds-marks-place-in-loop-rank
bounds-marks-place-in-loop-rank c =
    let within = c.requires.places (get_or c.args.ranks.now c.loop-rank.rank-index 0) (Member-get c.args.ranks.now c.loop-rank.rank-index 0 c.loop-rank-test.true) in
    let long = c.loop-rank.invariant.0 in
    omega (arith, within, long)

abbrev Marks : List Bool → List Bool → List ℕ → List ℕ → List Bool → ℕ → Type 0
Marks first now places ranks flags n =
    (length now ≡ length first)
    × ((k : ℕ) → get_or first k false ≡ true → get_or now k false ≡ true)
    × ((k : ℕ) → IsMarkedBy (take n ranks) places flags k → get_or now k false ≡ true)
    × ((k : ℕ) → get_or now k false ≡ true → (get_or first k false ≡ true) ⊎ IsMarkedBy (take n ranks) places flags k)

pub loop-rank-preserved : goal.loop-rank-preserved
loop-rank-preserved c =
    let first = c.args.marks.now in
    let marks = c.loop-rank.marks in
    let places = c.args.places.now in
    let ranks = c.args.ranks.now in
    let flags = c.args.flags.now in
    let i = c.loop-rank.rank-index in
    let h = c.loop-rank-test.true in
    let place = get_or places (get_or ranks i 0) 0 in
    let within = c.requires.places (get_or ranks i 0) (Member-get ranks i 0 h) in
    let long = c.loop-rank.invariant.0 in
    let bound : place < length marks = omega (arith, within, long) in
    let value = get_or marks place false || not (get_or flags (get_or ranks i 0) false) in
    subst (λ (b : Bool). Marks first (set marks place (get_or marks place false || not b)) places ranks flags (i + 1)) (sym c.flag-own.ensures) (
      length-set marks place value ∙ long,
      marks-kept first marks places ranks flags i h bound c.loop-rank.invariant.1,
      marks-there first marks places ranks flags i h bound c.loop-rank.invariant.2,
      marks-from first marks places ranks flags i h bound c.loop-rank.invariant.3,
    )
