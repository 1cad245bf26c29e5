use Rattle.std.proofs.Common.{sym, subst, ltb, List, map, ◌∷◌}
use Rattle.crew_front.specs.Machinery.Grades.{AreRising, AreGraded, HoldSame}
use Rattle.crew_front.specs.declared.buckets.Graded.{Graded}
use Rattle.crew_front.proofs.GradeLemmas.{AreRising-placed, AreGraded-placed, put_same}
use Rattle.crew_front.proofs.buckets.Buckets.put.Goals as goal

pub invariant_of-self-2 : goal.invariant_of-self-2
invariant_of-self-2 g c =
    let Slot = Graded g.row.R-Value.Denot in
    let xs = c.self.inside.values.items in
    let new : Slot = record { grade = c.grade-grade.result; value = c.args.value } in
    let grade_of = g.R.Resource.grade_of in
    subst (λ (ys : List Slot). AreRising (λ x. x.grade) ys × AreGraded (λ x. x.grade) (λ x. x.value) grade_of ys) (sym c.in_ok-file.ensures.ok) (
      AreRising-placed (λ (x : Slot). x.grade) new xs c.self.invariant.0,
      AreGraded-placed (λ (x : Slot). x.grade) (λ (x : Slot). x.value) g.R.Resource.below grade_of g.met.R.Resource.grading (λ x. ltb new.grade x.grade) new xs c.grade-grade.ensures c.self.invariant.1,
    )

pub returns-clause-ok : goal.returns-clause-ok
returns-clause-ok g c =
    let Slot = Graded g.row.R-Value.Denot in
    let xs = c.self.inside.values.items in
    let new : Slot = record { grade = c.grade-grade.result; value = c.args.value } in
    subst (λ (ys : List g.row.R-Value.Denot). HoldSame (c.args.value ∷ ys) (map (λ (x : Slot). x.value) c.file.new.values.items)) c.self.view_is
    (subst (λ (ys : List Slot). HoldSame (c.args.value ∷ map (λ (x : Slot). x.value) xs) (map (λ (x : Slot). x.value) ys)) (sym c.in_ok-file.ensures.ok) (put_same (λ (x : Slot). x.value) (λ x. ltb new.grade x.grade) new xs))
