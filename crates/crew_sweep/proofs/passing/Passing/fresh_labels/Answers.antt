use Rattle.std.proofs.Common.{◌≡◌, List, map, subst, true}
use Rattle.crew_pairing.specs.declared.vector.PairingVector.{PairingVector}
use Rattle.crew_pool.specs.Counted.{AreCounted}
use Rattle.crew_pool.specs.LabelWalks.{shown}
use Rattle.crew_pool.specs.declared.label_walk.LabelWalk.{LabelWalk}
use Rattle.crew_sweep.specs.Machinery.Grounds.{Stands}
use Rattle.crew_sweep.specs.Machinery.Mending.{IsChangedPart, IsFresh}
use Rattle.crew_sweep.proofs.Gathering.{changed-grown, if-both}
use Rattle.crew_sweep.proofs.Redone.{on-ok-of}
use Rattle.crew_sweep.proofs.Shown.{passing-grown}
use Rattle.crew_sweep.proofs.Slidings.{under-way-grown}
use Rattle.crew_sweep.proofs.passing.Passing.fresh_labels.Goals as goal

abbrev Labels : Type 0
Labels = List (PairingVector × LabelWalk)

pub waiting_labels-requires : goal.waiting_labels-requires
waiting_labels-requires c l m = let counted = c.in_ok-part.ensures.counts l m in (counted.there, counted.stands)

pub returns-clause-stands : goal.returns-clause-stands
returns-clause-stands c =
    let g = c.args.ground.now in
    let made = c.make_changed.new.self in
    let stands = c.in_ok-make_changed.ensures.stands in
    let after = c.waiting_labels.new.walks in
    let grown = c.waiting_labels.ensures.grown in
    let all : Stands g (record made { room = c.gathered.new.room; passed = record { walks = after; pools = made.passed.pools } }) = record {
      pools = passing-grown made.passed.walks after grown g.net.now g.base g.resource made.passed.pools made.arrivals.made.items made.arrivals.pools.items stands.pools;
      slides = under-way-grown g.net.now made.passed.walks after grown made.arrivals.made.items made.arrivals.pools.items stands.pools.pending made.slides stands.slides;
    } in
    on-ok-of c.waiting_labels.result all

pub returns-clause-fresh : goal.returns-clause-fresh
returns-clause-fresh c =
    let t = c.args.twins.now in
    let changed = c.args.changed.now in
    let w = c.args.window in
    let made = c.make_changed.new.self in
    let stands = c.in_ok-make_changed.ensures.stands in
    let held = made.arrivals.pools.items in
    let before = made.passed.walks in
    let after = c.waiting_labels.new.walks in
    let part = subst (λ (hs : List Labels). IsChangedPart t changed before hs w.from w.end c.in_ok-part.part) c.deref.ensures.value c.in_ok-part.ensures in
    if-both c.waiting_labels.result (λ (whole : Labels). map (shown after) whole ≡ map (shown before) c.in_ok-part.part) (AreCounted (λ (v : PairingVector). v.duties) after true)
    (IsFresh t changed after made.arrivals.made.items held w) c.waiting_labels.ensures.same (c.waiting_labels.ensures.counts (λ (v : PairingVector). v.duties) part.counts)
    (λ whole same counts. record {
      local = changed-grown t changed before after c.waiting_labels.ensures.grown held stands.pools.pending w.from w.end c.in_ok-part.part whole part same;
      counts = counts;
      all_made = c.in_ok-make_changed.ensures.made;
    })
