use Rattle.std.proofs.Common.{◌≡◌, ◌∙◌, sym, ap, subst, ltb, map, not, length, arith, false, List}
use Rattle.std.specs.List.{filter}
use Rattle.std.proofs.lemmas.Bool.{false≢true, ltb-false, not-true}
use Rattle.crew_resource.specs.Members.{Member}
use Rattle.crew_front.specs.Machinery.Grades.{AreRising, AreGraded, Admitted}
use Rattle.crew_resource.specs.Entries.{placed}
use Rattle.crew_front.specs.declared.buckets.Graded.{Graded}
use Rattle.crew_resource.proofs.Members.{Member-map_out}
use Rattle.crew_front.proofs.GradeLemmas.{AreRising-filter, AreRising-placed, AreGraded-filter, AreGraded-placed, admitted, none_gone}
use Rattle.crew_front.proofs.EntryLemmas.{on_err, room}
use Rattle.crew_front.proofs.buckets.Buckets.admit.Goals as goal

pub file-requires : goal.file-requires
file-requires g c =
    let Slot = Graded g.row.R-Value.Denot in
    let test = λ (x : Slot). not (g.R.Resource.below c.args.value x.value) in
    let kept : c.drop_beaten.new.values.items ≡ filter test c.self.inside.values.items = c.drop_beaten.ensures.kept ∙ ap (filter test) c.in_ok-reserve.ensures.items in
    subst (λ (xs : List Slot). AreRising (λ x. x.grade) xs) (sym kept) (AreRising-filter (λ (x : Slot). x.grade) test c.self.inside.values.items c.self.invariant.0)

pub invariant_of-self-2 : goal.invariant_of-self-2
invariant_of-self-2 g c =
    let Slot = Graded g.row.R-Value.Denot in
    let test = λ (x : Slot). not (g.R.Resource.below c.args.value x.value) in
    let xs = c.self.inside.values.items in
    let new : Slot = record { grade = c.grade-grade.result; value = c.args.value } in
    let kept : c.drop_beaten.new.values.items ≡ filter test xs = c.drop_beaten.ensures.kept ∙ ap (filter test) c.in_ok-reserve.ensures.items in
    let is : c.file.new.values.items ≡ placed (λ x. ltb new.grade x.grade) new (filter test xs) =
    c.in_ok-file.ensures.ok ∙ ap (placed (λ (x : Slot). ltb new.grade x.grade) new) kept in
    let below = g.R.Resource.below in
    let grade_of = g.R.Resource.grade_of in
    subst (λ (ys : List Slot). AreRising (λ x. x.grade) ys × AreGraded (λ x. x.grade) (λ x. x.value) grade_of ys) (sym is) (
      AreRising-placed (λ (x : Slot). x.grade) new (filter test xs) (AreRising-filter (λ (x : Slot). x.grade) test xs c.self.invariant.0),
      AreGraded-placed (λ (x : Slot). x.grade) (λ (x : Slot). x.value) below grade_of g.met.R.Resource.grading (λ x. ltb new.grade x.grade) new (filter test xs) c.grade-grade.ensures
          (AreGraded-filter (λ (x : Slot). x.grade) (λ (x : Slot). x.value) below grade_of g.met.R.Resource.grading test xs c.self.invariant.1),
    )

pub returns-clause-ok : goal.returns-clause-ok
returns-clause-ok g c =
    let Slot = Graded g.row.R-Value.Denot in
    let test = λ (x : Slot). not (g.R.Resource.below c.args.value x.value) in
    let xs = c.self.inside.values.items in
    let new : Slot = record { grade = c.grade-grade.result; value = c.args.value } in
    let kept : c.drop_beaten.new.values.items ≡ filter test xs = c.drop_beaten.ensures.kept ∙ ap (filter test) c.in_ok-reserve.ensures.items in
    let is : c.file.new.values.items ≡ placed (λ x. ltb new.grade x.grade) new (filter test xs) =
    c.in_ok-file.ensures.ok ∙ ap (placed (λ (x : Slot). ltb new.grade x.grade) new) kept in
    let here = admitted (λ (x : Slot). x.grade) (λ (x : Slot). x.value) g.R.Resource.below g.R.Resource.grade_of g.met.R.Resource.grading (λ x. ltb new.grade x.grade) new xs in
    subst (λ (ys : List g.row.R-Value.Denot). Admitted g.R.Resource.below c.args.value ys (map (λ (x : Slot). x.value) c.file.new.values.items)) c.self.view_is
    (subst (λ (ys : List Slot). Admitted g.R.Resource.below c.args.value (map (λ (x : Slot). x.value) xs) (map (λ (x : Slot). x.value) ys)) (sym is) here)

pub returns-clause-none : goal.returns-clause-none
returns-clause-none g c f w m =
    let Slot = Graded g.row.R-Value.Denot in
    let below = g.R.Resource.below in
    let test = λ (x : Slot). not (below c.args.value x.value) in
    let xs = c.self.inside.values.items in
    let kept : c.drop_beaten.new.values.items ≡ filter test xs = c.drop_beaten.ensures.kept ∙ ap (filter test) c.in_ok-reserve.ensures.items in
    let k = Member-map_out (λ (x : Slot). x.value) xs w (subst (λ ws. Member ws w) (sym c.self.view_is) m) in
    let few = ltb-false c.len.result c.len-before.result f in
    let after : length (filter test xs) ≡ c.len.result = sym (ap length kept) ∙ (sym c.drop_beaten.new.values.ok.0 ∙ sym c.len.ensures) in
    let before : c.len-before.result ≡ length xs = c.len-before.ensures ∙ (c.reserve.new.self.ok.0 ∙ ap length c.in_ok-reserve.ensures.items) in
    subst (λ z. below c.args.value z ≡ false) k.2
    (not-true (below c.args.value k.0.value) (none_gone test xs (omega (arith, few, after, before)) k.0 k.1))

pub drop_beaten-requires : goal.drop_beaten-requires
drop_beaten-requires g c =
    let Slot = Graded g.row.R-Value.Denot in
    record {
      own = c.grade-grade.ensures;
      graded = subst (λ (xs : List Slot). AreGraded (λ x. x.grade) (λ x. x.value) g.R.Resource.grade_of xs) (sym c.in_ok-reserve.ensures.items) c.self.invariant.1;
    }

pub invariant_of-self : goal.invariant_of-self
invariant_of-self g c =
    let Slot = Graded g.row.R-Value.Denot in
    subst (λ (xs : List Slot). AreRising (λ x. x.grade) xs × AreGraded (λ x. x.grade) (λ x. x.value) g.R.Resource.grade_of xs) (sym c.in_err-reserve.ensures.items) c.self.invariant

pub returns-in_err-reserve-clause-err : goal.returns-in_err-reserve-clause-err
returns-in_err-reserve-clause-err g c =
    let Slot = Graded g.row.R-Value.Denot in
    let same : map (λ (x : Slot). x.value) c.reserve.new.self.items ≡ c.args.self.now = ap (map (λ (x : Slot). x.value)) c.in_err-reserve.ensures.items ∙ c.self.view_is in
    on_err c.from_residual.result (map (λ (x : Slot). x.value) c.reserve.new.self.items ≡ c.args.self.now) same

-- after the reserve there is room for the value
pub invariant_of-self-in_err-file : goal.invariant_of-self-in_err-file
invariant_of-self-in_err-file g c = absurd (false≢true (c.in_err-file.ensures.succeeds (room c.in_ok-reserve.ensures.ok c.drop_beaten.ensures.fewer c.drop_beaten.ensures.capacity)))

pub returns-in_err-file-clause-none : goal.returns-in_err-file-clause-none
returns-in_err-file-clause-none g c = absurd (false≢true (c.in_err-file.ensures.succeeds (room c.in_ok-reserve.ensures.ok c.drop_beaten.ensures.fewer c.drop_beaten.ensures.capacity)))

pub returns-in_err-file-clause-err : goal.returns-in_err-file-clause-err
returns-in_err-file-clause-err g c = absurd (false≢true (c.in_err-file.ensures.succeeds (room c.in_ok-reserve.ensures.ok c.drop_beaten.ensures.fewer c.drop_beaten.ensures.capacity)))
