use Rattle.std.proofs.Common.{◌≡◌, ◌<◌, Bool, List, false, length, set, subst, sym}
use Rattle.crew_pairing.specs.declared.events.Arrival.{Arrival}
use Rattle.crew_pairing.specs.declared.vector.PairingVector.{PairingVector}
use Rattle.crew_pool.specs.declared.label_walk.LabelWalk.{LabelWalk}
use Rattle.crew_sweep.specs.Machinery.Grounds.{Stands}
use Rattle.crew_sweep.specs.Machinery.Passing.{IsPassing}
use Rattle.crew_sweep.specs.Machinery.Slides.{AreUnderWay}
use Rattle.crew_sweep.specs.declared.passing.Passing.{Passing}
use Rattle.crew_sweep.proofs.LettingGo.{passing-without, under-way-without}
use Rattle.crew_sweep.proofs.passing.Passing.let_go.Goals.{then-can_let_go, else-can_let_go}
use Rattle.crew_sweep.proofs.passing.Passing.let_go.Goals as goal

abbrev Labels : Type 0
Labels = List (PairingVector × LabelWalk)

pub loop-place-preserved : goal.loop-place-preserved
loop-place-preserved c =
    let ground = c.args.ground.now in
    let net = ground.net.now in
    let was = c.loop-place.self in
    let place = c.loop-place.place in
    let stands = c.loop-place.invariant.0 in
    elim c.if-can_let_go.branch [
      | then-can_let_go w ↦
          let arrivals = was.arrivals in
          let now = w.let_go.new.self in
          let walks = was.passed.walks in
          let pools = was.passed.pools in
          let within : place < length net.arrivals = subst (λ (xs : List Arrival). place < length xs) c.arrivals-place-end.ensures.events c.loop-place-test.true in
          let marked : place < length arrivals.made.items = subst (λ n. place < n) (sym stands.pools.marks) within in
          let free = c.can_let_go.ensures w.if-can_let_go.true in
          let all : Stands ground (record { room = was.room; slides = was.slides; arrivals = now; passed = was.passed; batch_end = was.batch_end }) = record {
            pools = subst (λ (bs : List Bool). IsPassing net ground.base ground.resource walks pools bs now.pools.items) (sym w.let_go.ensures.made)
                (subst (λ (hs : List Labels). IsPassing net ground.base ground.resource walks pools (set arrivals.made.items place false) hs) (sym w.let_go.ensures.pools)
                (passing-without net walks arrivals.made.items arrivals.pools.items place ground.base ground.resource pools marked stands.pools));
            slides = subst (λ (bs : List Bool). AreUnderWay net walks bs now.pools.items was.slides) (sym w.let_go.ensures.made)
                (subst (λ (hs : List Labels). AreUnderWay net walks (set arrivals.made.items place false) hs was.slides) (sym w.let_go.ensures.pools)
                (under-way-without net walks arrivals.made.items arrivals.pools.items place was.slides free stands.slides));
          } in
          subst (λ (p : Passing). Stands ground p × (p.passed ≡ c.args.self.now.passed)) (sym w.self-is) (all, c.loop-place.invariant.1)
      | else-can_let_go w ↦ subst (λ (p : Passing). Stands ground p × (p.passed ≡ c.args.self.now.passed)) (sym w.self-is) c.loop-place.invariant
    ]
