use Rattle.std.proofs.Common.{◌∙◌, ◌≤◌, List, false, length, subst, sym}
use Rattle.std.proofs.lemmas.Result.{IfOk-weaker}
use Rattle.crew_net.proofs.Slices.{stands}
use Rattle.crew_pairing.specs.declared.vector.PairingVector.{PairingVector}
use Rattle.crew_pool.specs.Counted.{AreCounted}
use Rattle.crew_pool.specs.declared.label_walk.LabelWalk.{LabelWalk}
use Rattle.crew_sweep.specs.Machinery.Grounds.{Stands}
use Rattle.crew_sweep.specs.Machinery.Parts.{AreHeld, IsPart}
use Rattle.crew_sweep.specs.Machinery.Slides.{AreSliding}
use Rattle.crew_sweep.proofs.Aheads.{pooled-by}
use Rattle.crew_sweep.proofs.Redone.{on-ok-of}
use Rattle.crew_sweep.proofs.Shown.{passing-grown}
use Rattle.crew_sweep.proofs.Slidings.{stayed-itself, under-way-more}
use Rattle.crew_sweep.proofs.passing.Passing.pool_at.Goals as goal

abbrev Labels : Type 0
Labels = List (PairingVector × LabelWalk)

pub slide_to-requires-clause-held : goal.slide_to-requires-clause-held
slide_to-requires-clause-held c =
    let pools = c.requires.stands.pools in
    subst (λ (hs : List Labels). AreHeld c.args.self.now.passed.walks hs) (sym c.deref.ensures.value) (record { settled = pools.settled; pending = pools.pending })

pub slide_to-requires-clause-ordered : goal.slide_to-requires-clause-ordered
slide_to-requires-clause-ordered c =
    let g = stands c.args.ground.now.net.now.departures c.args.place c.requires.place in
    (c.requires.window g.0 g.1).ordered

pub slide_to-requires-clause-within : goal.slide_to-requires-clause-within
slide_to-requires-clause-within c =
    let g = stands c.args.ground.now.net.now.departures c.args.place c.requires.place in
    subst (λ (hs : List Labels). c.args.window.end ≤ length hs) (sym c.deref.ensures.value) (subst (λ n. c.args.window.end ≤ n) (sym c.requires.stands.pools.long) (c.requires.window g.0 g.1).within)

pub slide_to-requires-clause-sliding : goal.slide_to-requires-clause-sliding
slide_to-requires-clause-sliding c = subst (λ (hs : List Labels). AreSliding c.args.self.now.passed.walks hs c.args.self.now.slides) (sym c.deref.ensures.value) c.requires.stands.slides.sliding

pub pool_over-requires-clause-gathered : goal.pool_over-requires-clause-gathered
pool_over-requires-clause-gathered c =
    let slide = stands c.slide_to.new.self.slides.items c.in_ok-number.number c.in_ok-number.ensures.number in
    subst (λ (ls : Labels). AreCounted (λ (v : PairingVector). v.duties) c.args.self.now.passed.walks false ls) (sym (c.in_ok-waiting.ensures ∙ c.pool.ensures slide.0 slide.1)) (c.in_ok-number.ensures.part slide.0 slide.1).counts

pub returns-clause-pooled : goal.returns-clause-pooled
returns-clause-pooled c =
    let ground = c.args.ground.now in
    let held = c.args.self.now.arrivals.pools.items in
    let walks = c.args.self.now.passed.walks in
    let w = c.args.window in
    let g = stands ground.net.now.departures c.args.place c.requires.place in
    let slide = stands c.slide_to.new.self.slides.items c.in_ok-number.number c.in_ok-number.ensures.number in
    let part : IsPart walks held w.from w.end slide.0.pool = subst (λ (hs : List Labels). IsPart walks hs w.from w.end slide.0.pool) c.deref.ensures.value (c.in_ok-number.ensures.part slide.0 slide.1) in
    let waiting = subst (λ (ls : Labels). IsPart walks held w.from w.end ls) (sym (c.in_ok-waiting.ensures ∙ c.pool.ensures slide.0 slide.1)) part in
    IfOk-weaker c.pool_over.result _ _
    (λ pool. pooled-by ground.net.now ground.base ground.resource walks c.pool_over.new.walks c.args.place w held c.in_ok-waiting.waiting pool (c.requires.window g.0 g.1).ordered waiting)
    c.pool_over.ensures.pooled

pub returns-clause-stands : goal.returns-clause-stands
returns-clause-stands c =
    let ground = c.args.ground.now in
    let was = c.args.self.now in
    let made = was.arrivals.made.items in
    let held = was.arrivals.pools.items in
    let after = c.pool_over.new.walks in
    let pools = c.requires.stands.pools in
    let grown = c.pool_over.ensures.grown in
    let sliding = subst (λ (hs : List Labels). AreSliding was.passed.walks hs c.slide_to.new.self) c.deref.ensures.value c.in_ok-number.ensures.sliding in
    let all : Stands ground (record { room = c.pool_over.new.room; slides = c.slide_to.new.self; arrivals = was.arrivals; passed = record { walks = after; pools = was.passed.pools }; batch_end = was.batch_end }) = record {
      pools = passing-grown was.passed.walks after grown ground.net.now ground.base ground.resource was.passed.pools made held pools;
      slides = under-way-more ground.net.now was.passed.walks after grown made held made held (stayed-itself made held) was.slides c.slide_to.new.self pools.pending c.requires.stands.slides sliding c.slide_to.ensures.airports c.args.window
          c.requires.made c.in_ok-number.ensures.covers;
    } in
    on-ok-of c.pool_over.result all
