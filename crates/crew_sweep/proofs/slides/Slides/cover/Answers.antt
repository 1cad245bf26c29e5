use Rattle.std.proofs.Common.{◌<◌, List, arith, length, subst, sym}
use Rattle.crew_net.proofs.Numbers.{get-within}
use Rattle.crew_net.proofs.Slices.{member-place}
use Rattle.crew_sweep.specs.declared.slide.Slide.{Slide}
use Rattle.crew_sweep.proofs.slides.Slides.cover.Goals as goal

pub returns : goal.returns
returns c _ covers =
    let slides = c.args.self.now.slides.items in
    let at = member-place slides covers.0 covers.1 in
    let within : at.0 < length c.deref-slide-items.result.now = subst (λ (ss : List Slide). at.0 < length ss) (sym c.deref-slide-items.ensures.value) (get-within slides at.0 covers.0 at.1) in
    let past = c.loop-slide-test.false in
    c.loop-slide.invariant at.0 covers.0 (omega (arith, within, past)) at.1 covers.2
