use Rattle.std.proofs.Common.{◌≡◌, ◌<◌, ◌≤◌, ◌∙◌, ℕ, List, get_or, length, subst, sym, ⊎_elim}
use Rattle.crew_net.specs.Nets.{Net}
use Rattle.crew_net.proofs.Slices.{stands}
use Rattle.crew_pairing.specs.declared.vector.PairingVector.{PairingVector}
use Rattle.crew_pool.specs.declared.label_walk.LabelWalk.{LabelWalk}
use Rattle.crew_sweep.specs.Machinery.Parts.{AreHeld, IsPart}
use Rattle.crew_sweep.specs.Machinery.Passing.{IsMade, IsPassable}
use Rattle.crew_sweep.specs.Machinery.Sliding.{IsSliding}
use Rattle.crew_sweep.proofs.MadeAhead.{stands-at}
use Rattle.crew_sweep.proofs.slide.Slide.waiting_at.Goals as goal

abbrev Labels : Type 0
Labels = List (PairingVector × LabelWalk)

-- a departure stands at the place
there : (net : Net) (positions : List ℕ) → IsPassable net positions → (read : List ℕ) (position : ℕ) → read ≡ net.by_report → position < length net.by_report → get_or read position 0 < length net.departures
there net positions passable read position same within = subst (λ (ps : List ℕ). get_or ps position 0 < length net.departures) (sym same) (stands-at net positions passable position within)

pub window-window-requires : goal.window-window-requires
window-window-requires c =
    let g = c.args.ground.now in
    there g.net.now g.positions.now c.requires.ground.passable c.by_report.result.now c.args.position c.by_report.ensures.places c.requires.position

pub have_made-requires : goal.have_made-requires
have_made-requires c =
    let g = c.args.ground.now in
    let d = stands g.net.now.departures (get_or c.by_report.result.now c.args.position 0) (there g.net.now g.positions.now c.requires.ground.passable c.by_report.result.now c.args.position c.by_report.ensures.places c.requires.position) in
    subst (λ n. c.window-window.result.end ≤ n) (sym c.requires.pools.marks) (c.window-window.ensures d.0 d.1).within

pub shares_pool-requires-clause-place : goal.shares_pool-requires-clause-place
shares_pool-requires-clause-place c =
    let g = c.args.ground.now in
    there g.net.now g.positions.now c.requires.ground.passable c.by_report.result.now c.args.position c.by_report.ensures.places c.requires.position

pub slide_to-requires-clause-held : goal.slide_to-requires-clause-held
slide_to-requires-clause-held c = subst (λ (hs : List Labels). AreHeld c.args.passed.now.walks hs) (sym c.deref.ensures.value) (record { settled = c.requires.pools.settled; pending = c.requires.pools.pending })

pub slide_to-requires-clause-ordered : goal.slide_to-requires-clause-ordered
slide_to-requires-clause-ordered c =
    let g = c.args.ground.now in
    let d = stands g.net.now.departures (get_or c.by_report.result.now c.args.position 0) (there g.net.now g.positions.now c.requires.ground.passable c.by_report.result.now c.args.position c.by_report.ensures.places c.requires.position) in
    (c.window-window.ensures d.0 d.1).ordered

pub slide_to-requires-clause-within : goal.slide_to-requires-clause-within
slide_to-requires-clause-within c =
    let g = c.args.ground.now in
    let d = stands g.net.now.departures (get_or c.by_report.result.now c.args.position 0) (there g.net.now g.positions.now c.requires.ground.passable c.by_report.result.now c.args.position c.by_report.ensures.places c.requires.position) in
    subst (λ (hs : List Labels). c.window-window.result.end ≤ length hs) (sym c.deref.ensures.value) (subst (λ n. c.window-window.result.end ≤ n) (sym c.requires.pools.long) (c.window-window.ensures d.0 d.1).within)

pub slide_to-requires-clause-sliding : goal.slide_to-requires-clause-sliding
slide_to-requires-clause-sliding c = subst (λ (hs : List Labels). IsSliding c.args.passed.now.walks hs c.args.self.now) (sym c.deref.ensures.value) c.requires.over.sliding

pub returns-clause-over : goal.returns-clause-over
returns-clause-over c =
    let walks = c.args.passed.now.walks in
    let made = c.args.arrivals.now.made.items in
    let are-made = c.have_made.ensures c.if-not-have_made.false in
    record {
      sliding = subst (λ (hs : List Labels). IsSliding walks hs c.slide_to.new.self) c.deref.ensures.value c.in_ok-slide_to.ensures.sliding;
      covered = λ p covers. ⊎_elim {C = IsMade made p} (c.requires.over.covered p) (λ k. are-made p k.0 k.1) (c.in_ok-slide_to.ensures.covers p covers);
    }

pub returns-clause-ahead : goal.returns-clause-ahead
returns-clause-ahead c =
    let walks = c.args.passed.now.walks in
    let held = c.args.arrivals.now.pools.items in
    let w = c.window-window.result in
    let now = c.slide_to.new.self in
    let sliding = subst (λ (hs : List Labels). IsSliding walks hs now) c.deref.ensures.value c.in_ok-slide_to.ensures.sliding in
    let part : IsPart walks held w.from w.end now.pool = subst (λ v. IsPart walks held v.from v.end now.pool) c.in_ok-slide_to.ensures.window sliding.shown in
    record {
      window = c.window-window.ensures;
      are_made = c.have_made.ensures c.if-not-have_made.false;
      part = subst (λ (ls : Labels). IsPart walks held w.from w.end ls) (sym (c.in_ok-pool.ensures ∙ c.pool.ensures)) part;
    }
