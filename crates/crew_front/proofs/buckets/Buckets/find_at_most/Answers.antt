use Rattle.std.proofs.Common.{◌≡◌, ◌∙◌, sym, ap, subst, take, ltb, List, None, Some}
use Rattle.std.specs.List.{position, position_or_len}
use Rattle.crew_resource.specs.Members.{Member}
use Rattle.crew_front.specs.Machinery.Grades.{AreRising}
use Rattle.crew_front.specs.declared.buckets.Graded.{Graded}
use Rattle.crew_front.proofs.GradeLemmas.{none_found, found}
use Rattle.crew_front.proofs.buckets.Buckets.find_at_most.Goals as goal

pub returns-in_default : goal.returns-in_default
returns-in_default g c w m =
    let Slot = Graded g.row.R-Value.Denot in
    let below = g.R.Resource.below in
    let v = c.args.value.now in
    let xs = c.self.inside.values.items in
    let end : c.end_of-end.result ≡ position_or_len (λ (y : Slot). ltb (g.R.Resource.grade_of v) y.grade) xs =
    c.end_of-end.ensures ∙ (ap (λ n. position_or_len (λ (y : Slot). ltb n y.grade) c.deref.result.now) c.grade.ensures
    ∙ ap (position_or_len (λ (y : Slot). ltb (g.R.Resource.grade_of v) y.grade)) c.deref.ensures.value) in
    let none : position (λ (x : Slot). below x.value v) (take (position_or_len (λ (y : Slot). ltb (g.R.Resource.grade_of v) y.grade) xs) xs) ≡ None =
    sym (ap (λ n. position (λ (x : Slot). below x.value v) (take n xs)) end)
    ∙ (sym (ap (λ ys. position (λ (x : Slot). below x.value v) (take c.end_of-end.result ys)) c.deref-2.ensures.value)
    ∙ (sym c.first_at_most.ensures ∙ c.in_default.is)) in
    none_found (λ (x : Slot). x.grade) (λ (x : Slot). x.value) below g.R.Resource.grade_of g.met.R.Resource.grading v xs c.self.invariant.0 c.self.invariant.1 none
    w (subst (λ ws. Member ws w) (sym c.self.view_is) m)

pub returns : goal.returns
returns g c =
    let Slot = Graded g.row.R-Value.Denot in
    let below = g.R.Resource.below in
    let v = c.args.value.now in
    let xs = c.self.inside.values.items in
    let some : position (λ (x : Slot). below x.value v) (take c.end_of-end.result xs) ≡ Some c.in-Some.place =
    sym (ap (λ ys. position (λ (x : Slot). below x.value v) (take c.end_of-end.result ys)) c.deref-2.ensures.value)
    ∙ (sym c.first_at_most.ensures ∙ c.in-Some.is) in
    let k = found (λ (x : Slot). x.value) below v c.end_of-end.result xs c.in-Some.place c.index.result.now some c.index.ensures in
    (subst (λ ws. Member ws c.index.result.now.value) c.self.view_is k.0, k.1)

pub end_of-end-requires : goal.end_of-end-requires
end_of-end-requires g c =
    let Slot = Graded g.row.R-Value.Denot in
    subst (λ (xs : List Slot). AreRising (λ x. x.grade) xs) (sym c.deref.ensures.value) c.self.invariant.0
