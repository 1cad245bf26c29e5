use Rattle.std.proofs.Common.{◌≡◌, Bool, List, false, replicate, subst, sym}
use Rattle.crew_round.proofs.Tallies.{all-tallied}
use Rattle.crew_round.specs.Machinery.Cells.{AreTallied}
use Rattle.crew_round.specs.declared.mark.Mark.{Mark}
use Rattle.crew_round.specs.declared.mark.Mark.TheVariants.{Done}
use Rattle.crew_round.proofs.cells.Cells.all_done.Goals as goal

pub invariant_of-result : goal.invariant_of-result
invariant_of-result c =
    let n = c.args.count in
    let e : c.in_ok-undone.undone ≡ replicate n false = c.in_ok-undone.ensures in
    let m : c.in_ok-marks.marks.items ≡ replicate n Done = c.in_ok-marks.ensures.items_if_clones_equal (λ y q. q) in
    subst (λ (z : List Bool). AreTallied c.in_ok-marks.marks.items z n 0) (sym e) (subst (λ (z : List Mark). AreTallied z (replicate n false) n 0) (sym m) (all-tallied n))
