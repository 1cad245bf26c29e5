use Rattle.std.proofs.Common.{◌≡◌, ◌∙◌, ◌++◌, ap, arith, drop, length, sym, take}
use Rattle.std.proofs.Math.Seq.{take-append_seam}
use Rattle.std.proofs.lemmas.Result.{IfOk-weaker}
use Rattle.std.specs.Arc.{arc_value}
use Rattle.crew_fronts.specs.Fronts.{BaseFronts}
use Rattle.crew_plan.proofs.Placed.{each-made}
use Rattle.crew_plan.proofs.passes.pass_all.Goals as goal

pub returns : goal.returns
returns g c =
    let plan = c.args.plan.now in
    let xs = c.pass_in.new.passed in
    let rest = drop (length xs) c.in_ok-passed.passed.items in
    let long : c.in_ok-passed.passed.len ≡ length xs = omega (arith, c.pass_in.ensures.long, c.in_ok-passed.passed.ok.0, c.in_ok-passed.ensures, c.base_count.ensures) in
    let left : take c.in_ok-passed.passed.len (xs ++ rest) ≡ xs = ap (λ n. take n (xs ++ rest)) long ∙ take-append_seam xs rest in
    IfOk-weaker c.all_made.result _ _ (λ fronts made. each-made (arc_value {X = BaseFronts}) plan xs fronts.items c.pass_in.ensures.long c.pass_in.ensures.each (sym left ∙ made)) c.all_made.ensures
