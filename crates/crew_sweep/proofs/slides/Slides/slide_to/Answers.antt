use Rattle.std.proofs.Common.{◌≡◌, ◌<◌, ◌≤◌, sym, subst, arith, inl, inr, ◌⊎◌, ⊎_elim}
use Rattle.crew_net.proofs.Slices.{set-long}
use Rattle.crew_pool.proofs.MergeLemmas.{Member-set_out}
use Rattle.crew_resource.proofs.Members.{Member-get_or}
use Rattle.crew_sweep.specs.Machinery.Parts.{IsPart}
use Rattle.crew_sweep.specs.Machinery.Sliding.{Covers, IsSliding}
use Rattle.crew_sweep.specs.Machinery.Slides.{CoverAny}
use Rattle.crew_sweep.specs.declared.slide.Slide.{Slide}
use Rattle.crew_sweep.proofs.Slidings.{set-got}
use Rattle.crew_sweep.proofs.slides.Slides.slide_to.Goals as goal

pub index_mut-slide-requires : goal.index_mut-slide-requires
index_mut-slide-requires c =
    let n = c.index-number.result.now in
    let within = c.requires.sliding.numbers n (Member-get_or c.args.self.now.airports.items c.args.departure n c.requires.departure (sym c.index-number.ensures)) in
    omega (arith, within, c.args.self.now.slides.ok.0)

pub slide_to-requires-clause-sliding : goal.slide_to-requires-clause-sliding
slide_to-requires-clause-sliding c =
    let n = c.index-number.result.now in
    let slide = c.index_mut-slide.result.now in
    let within = c.requires.sliding.numbers n (Member-get_or c.args.self.now.airports.items c.args.departure n c.requires.departure (sym c.index-number.ensures)) in
    c.requires.sliding.each slide (Member-get_or c.args.self.now.slides.items n slide within (sym c.index_mut-slide.ensures.value))

pub returns-clause-part : goal.returns-clause-part
returns-clause-part c slide at =
    let now = c.slide_to.new.self in
    let same : now ≡ slide = set-got c.args.self.now.slides.items c.index-number.result.now now slide at in
    let slides = c.in_ok-slide_to.ensures in
    let part : IsPart c.args.walks.now c.args.held.now c.args.window.from c.args.window.end now.pool =
    subst (λ w. IsPart c.args.walks.now c.args.held.now w.from w.end now.pool) slides.window slides.sliding.shown in
    subst (λ (s : Slide). IsPart c.args.walks.now c.args.held.now c.args.window.from c.args.window.end s.pool) same part

pub returns-clause-number : goal.returns-clause-number
returns-clause-number c =
    let n = c.index-number.result.now in
    let within = c.requires.sliding.numbers n (Member-get_or c.args.self.now.airports.items c.args.departure n c.requires.departure (sym c.index-number.ensures)) in
    let long = set-long c.args.self.now.slides.items n c.slide_to.new.self in
    omega (arith, within, long)

pub returns-clause-sliding : goal.returns-clause-sliding
returns-clause-sliding c =
    let n = c.index-number.result.now in
    let slides = c.args.self.now.slides.items in
    let long = set-long slides n c.slide_to.new.self in
    record {
      numbers = λ k m. let l = c.requires.sliding.numbers k m in omega (arith, l, long);
      each = λ s m. ⊎_elim {C = IsSliding c.args.walks.now c.args.held.now s} (c.requires.sliding.each s) (λ e. subst (λ (z : Slide). IsSliding c.args.walks.now c.args.held.now z) (sym e) c.in_ok-slide_to.ensures.sliding) (Member-set_out slides n c.slide_to.new.self s m);
    }

pub returns-clause-covers : goal.returns-clause-covers
returns-clause-covers c place covers =
    let Goal = CoverAny c.args.self.now place ⊎ ((c.args.window.from ≤ place) × (place < c.args.window.end)) in
    let n = c.index-number.result.now in
    let slides = c.args.self.now.slides.items in
    let was = c.index_mut-slide.result.now in
    let within = c.requires.sliding.numbers n (Member-get_or c.args.self.now.airports.items c.args.departure n c.requires.departure (sym c.index-number.ensures)) in
    let known = Member-get_or slides n was within (sym c.index_mut-slide.ensures.value) in
    ⊎_elim {C = Goal} (λ m. inl (covers.0, m, covers.2))
    (λ e. ⊎_elim {C = Goal} (λ old. inl (was, known, old)) (λ k. inr k) (c.in_ok-slide_to.ensures.covers place (subst (λ (s : Slide). Covers s place) e covers.2)))
    (Member-set_out slides n c.slide_to.new.self covers.0 covers.1)
