use Rattle.std.proofs.Common.{◌≡◌, ◌∙◌, ap, false, sym}
use Rattle.crew_solve.proofs.Marking.{marked, marks-more}
use Rattle.crew_solve.specs.Machinery.Floors.{may_begin}
use Rattle.crew_solve.specs.Machinery.Homes.{walk_by_key}
use Rattle.crew_solve.proofs.best.may_begin_with.Goals as goal

pub returns-then-is_marked-clause-may : goal.returns-then-is_marked-clause-may
returns-then-is_marked-clause-may c = sym (marked c.args.kept.now.beside c.args.sweep.now c.args.marks.now c.args.label c.requires.whole c.requires.marks (sym c.is_marked.ensures ∙ c.if-is_marked.true))

pub returns-then-may_begin-clause-may : goal.returns-then-may_begin-clause-may
returns-then-may_begin-clause-may c = sym c.if-may_begin.true ∙ (c.may_begin.ensures ∙ ap (may_begin c.args.kept.now.beside) c.new.ensures)

pub returns-clause-may : goal.returns-clause-may
returns-clause-may c = sym c.if-may_begin.false ∙ (c.may_begin.ensures ∙ ap (may_begin c.args.kept.now.beside) c.new.ensures)

pub returns-clause-marks : goal.returns-clause-marks
returns-clause-marks c =
    let beside = c.args.kept.now.beside in
    let b = c.args.sweep.now in
    let none : may_begin beside (walk_by_key b c.args.label) ≡ false = ap (may_begin beside) (sym c.new.ensures) ∙ (sym c.may_begin.ensures ∙ c.if-may_begin.false) in
    marks-more beside b c.args.marks.now _ c.args.label c.requires.whole c.requires.marks c.mark.ensures none
