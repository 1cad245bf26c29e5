use Rattle.std.proofs.Common.{◌≡◌, ◌∙◌, ◌<◌, ℕ, List, arith, get_or, length, subst, sym, ⊎_elim}
use Rattle.crew_net.specs.Nets.{Net}
use Rattle.crew_net.proofs.Slices.{set-long}
use Rattle.crew_pool.proofs.MergeLemmas.{Member-set_out}
use Rattle.crew_resource.proofs.Members.{Member-get, Member-get_or}
use Rattle.crew_sweep.specs.Machinery.Lanes.{IsLane}
use Rattle.crew_sweep.specs.Machinery.Passing.{IsPassable}
use Rattle.crew_sweep.proofs.Listing.{member-push}
use Rattle.crew_sweep.proofs.MadeAhead.{stands-at}
use Rattle.crew_sweep.proofs.lanes.give_positions.Goals as goal

-- a departure stands at the place, and has a number
numbered : (net : Net) (positions : List ℕ) → IsPassable net positions → (read airports : List ℕ) (position : ℕ) → read ≡ net.by_report → length airports ≡ length net.departures → position < length net.by_report
    → get_or read position 0 < length airports
numbered net positions passable read airports position same long within =
    subst (λ n. get_or read position 0 < n) (sym long) (subst (λ (ps : List ℕ). get_or ps position 0 < length net.departures) (sym same) (stands-at net positions passable position within))

pub bounds-airports-place : goal.bounds-airports-place
bounds-airports-place c =
    let g = c.args.ground.now in
    let test = c.loop-position-test.true in
    let end = c.requires.end in
    numbered g.net.now g.positions.now c.requires.ground.passable c.by_report.result.now c.args.airports.now c.loop-position.position c.by_report.ensures.places c.requires.airports (omega (arith, test, end))

pub index_mut-requires : goal.index_mut-requires
index_mut-requires c =
    let g = c.args.ground.now in
    let test = c.loop-position-test.true in
    let end = c.requires.end in
    let place = get_or c.by_report.result.now c.loop-position.position 0 in
    let within = numbered g.net.now g.positions.now c.requires.ground.passable c.by_report.result.now c.args.airports.now c.loop-position.position c.by_report.ensures.places c.requires.airports (omega (arith, test, end)) in
    let number : get_or c.args.airports.now place 0 < length c.loop-position.lanes.items =
    subst (λ n. get_or c.args.airports.now place 0 < n) (sym c.loop-position.invariant.0) (c.requires.numbers _ (Member-get c.args.airports.now place 0 within)) in
    omega (arith, number, c.loop-position.lanes.ok.0)

pub loop-position-preserved : goal.loop-position-preserved
loop-position-preserved c =
    let g = c.args.ground.now in
    let net = g.net.now in
    let test = c.loop-position-test.true in
    let end = c.requires.end in
    let position = c.loop-position.position in
    let here : position < length net.by_report = omega (arith, test, end) in
    let place = get_or c.by_report.result.now position 0 in
    let within = numbered net g.positions.now c.requires.ground.passable c.by_report.result.now c.args.airports.now position c.by_report.ensures.places c.requires.airports here in
    let n = get_or c.args.airports.now place 0 in
    let lanes = c.loop-position.lanes.items in
    let number : n < length lanes = subst (λ k. n < k) (sym c.loop-position.invariant.0) (c.requires.numbers _ (Member-get c.args.airports.now place 0 within)) in
    let was = c.index_mut.result.now in (
      set-long lanes n _ ∙ c.loop-position.invariant.0,
      λ walks made held all lane m.
          let each = c.loop-position.invariant.1 walks made held all in
          let old = each was (Member-get_or lanes n was number (sym c.index_mut.ensures.value)) in
          ⊎_elim {C = IsLane net walks made held lane} (each lane)
          (λ e. subst (IsLane net walks made held) (sym e) (record {
            over = old.over;
            within = member-push (λ k. k < length net.by_report) was.positions.items c.push.new.self.items position c.in_ok-push.ensures.items old.within here;
            ahead = old.ahead;
          }))
          (Member-set_out lanes n _ lane m),
    )
