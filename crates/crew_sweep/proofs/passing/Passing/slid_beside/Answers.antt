use Rattle.std.proofs.Common.{◌∙◌, List, ap, length, subst}
use Rattle.crew_resource.specs.Members.{Member}
use Rattle.crew_sweep.specs.Machinery.Slides.{IsOver}
use Rattle.crew_sweep.specs.declared.slide.Slide.{Slide}
use Rattle.crew_sweep.proofs.passing.Passing.slid_beside.Goals as goal

pub done_by_threads-requires-clause-groups : goal.done_by_threads-requires-clause-groups
done_by_threads-requires-clause-groups g c _ _ =
    let walks = c.args.self.now.passed.walks in
    let made = c.args.self.now.arrivals.made.items in
    let held = c.args.self.now.arrivals.pools.items in
    let slides = ap (λ v. v.items) c.apart-airports.ensures.slides in
    let under = c.requires.slides in
    let over : (slide : Slide) → Member c.apart-airports.result.1.items slide → IsOver walks made held slide = λ slide m.
    let known = subst (λ (ss : List Slide). Member ss slide) slides m in
    record { sliding = under.sliding.each slide known; covered = λ place covers. under.covered place (slide, known, covers) } in
    c.in_ok-groups.ensures walks made held over

pub returns-clause-slid : goal.returns-clause-slid
returns-clause-slid g c =
    let passing = c.args.self.now in
    let both = c.in_ok-groups-2.ensures c.args.ground.now passing c.in_ok-all.ensures in
    let airports = ap (λ v. length v.items) c.apart-airports.ensures.airports in
    c.in_ok-slid.ensures c.args.ground.now.net.now passing.passed.walks passing.arrivals.made.items passing.arrivals.pools.items (airports ∙ c.requires.slides.long) both.0

pub returns-clause-made : goal.returns-clause-made
returns-clause-made g c = (c.in_ok-groups-2.ensures c.args.ground.now c.args.self.now c.in_ok-all.ensures).1
