use Rattle.std.proofs.Common.{◌∙◌, ◌∷◌, [], ap, arith, length, length-append, subst, sym}
use Rattle.crew_sweep.specs.Machinery.Slides.{AreIdle}
use Rattle.crew_sweep.proofs.Slidings.{idle-more}
use Rattle.crew_sweep.proofs.lanes.idle_slides.Goals as goal

pub loop-preserved : goal.loop-preserved
loop-preserved c =
    let before = c.loop.slides.items in
    let inv = c.loop.invariant in
    let more = c.in_ok-push.ensures.items in
    let longer = ap length more ∙ length-append before (c.new.result ∷ []) in
    let counted = inv.0 in
    (omega (arith, longer, counted), subst AreIdle (sym more) (idle-more before c.new.result inv.1 c.new.ensures.sliding c.new.ensures.nowhere))
