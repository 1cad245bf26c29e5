use Rattle.std.proofs.Common.{◌≡◌, ◌<◌, ◌∙◌, ℕ, length, sym, subst}
use Rattle.std.specs.Prelude.{slice_get}
use Rattle.crew_board.proofs.Inside.{marked_of}
use Rattle.crew_board.proofs.Turned.{job-within, own-once, nowhere-other, nowhere-unclear}
use Rattle.crew_board.specs.Machinery.Held.{Marked}
use Rattle.crew_board.specs.Machinery.Turns.{IsNowhere, IsOwnPlace}
use Rattle.crew_job.specs.Grounds.{nodes_in}
use Rattle.crew_job.specs.Jobs.{IsJobOf, IsOwnAt, job_node}
use Rattle.crew_machine.specs.Crew.{DutyWork}
use Rattle.crew_round.specs.Marks.{AreDoneBefore}
use Rattle.crew_board.proofs.round.Round.own_place.Goals as goal

pub returns-then-not-is_clear-clause-own : goal.returns-then-not-is_clear-clause-own
returns-then-not-is_clear-clause-own c =
    let r = marked_of c.self.inside in
    let job = c.args.job.now in
    let place = c.in-Some.place in
    let ground = c.ground-ground.ensures.ground in
    let placed = c.ground-ground.ensures.placed in
    let at = subst (λ (z : Marked). slice_get (nodes_in z.ground.plan.net) place ≡ job_node job) (sym c.self.view_is) c.in-Some.ensures in
    let low = job-within r c.self.invariant.marked job ground placed place at in
    let off = c.if-not-is_clear.true in
    subst (λ (z : Marked). IsNowhere z job) c.self.view_is
    (nowhere-unclear r c.self.invariant.marked job ground placed place at (λ all. (let on = (c.is_clear.ensures.clear low).1 all in let clash = sym off ∙ on in let q : ⊥ = (cc) in q)))

pub is_own_at-own-requires-clause-before : goal.is_own_at-own-requires-clause-before
is_own_at-own-requires-clause-before c =
    let r = marked_of c.self.inside in
    let job = c.args.job.now in
    let place = c.in-Some.place in
    let ground = c.ground-ground.ensures.ground in
    let placed = c.ground-ground.ensures.placed in
    let at = subst (λ (z : Marked). slice_get (nodes_in z.ground.plan.net) place ≡ job_node job) (sym c.self.view_is) c.in-Some.ensures in
    let low = job-within r c.self.invariant.marked job ground placed place at in
    subst (λ (z : Marked). AreDoneBefore z.marks place) c.self.view_is ((c.is_clear.ensures.clear low).0 c.if-not-is_clear.false)

pub returns-then-own-clause-own : goal.returns-then-own-clause-own
returns-then-own-clause-own c =
    let r = marked_of c.self.inside in
    let job = c.args.job.now in
    let place = c.in-Some.place in
    let ground = c.ground-ground.ensures.ground in
    let placed = c.ground-ground.ensures.placed in
    let at = subst (λ (z : Marked). slice_get (nodes_in z.ground.plan.net) place ≡ job_node job) (sym c.self.view_is) c.in-Some.ensures in
    let low = job-within r c.self.invariant.marked job ground placed place at in
    let all = subst (λ (z : Marked). AreDoneBefore z.marks place) c.self.view_is ((c.is_clear.ensures.clear low).0 c.if-not-is_clear.false) in
    record { before = all; own = c.is_own_at-own.ensures.0 c.if-own.true }

pub returns-then-own-clause-low : goal.returns-then-own-clause-low
returns-then-own-clause-low c =
    let r = marked_of c.self.inside in
    let job = c.args.job.now in
    let place = c.in-Some.place in
    let ground = c.ground-ground.ensures.ground in
    let placed = c.ground-ground.ensures.placed in
    let at = subst (λ (z : Marked). slice_get (nodes_in z.ground.plan.net) place ≡ job_node job) (sym c.self.view_is) c.in-Some.ensures in
    let low = job-within r c.self.invariant.marked job ground placed place at in
    subst (λ (z : Marked). place < length z.marks.marks) c.self.view_is low

pub returns-then-own-clause-once : goal.returns-then-own-clause-once
returns-then-own-clause-once c =
    let r = marked_of c.self.inside in
    let job = c.args.job.now in
    let place = c.in-Some.place in
    let ground = c.ground-ground.ensures.ground in
    let placed = c.ground-ground.ensures.placed in
    let at = subst (λ (z : Marked). slice_get (nodes_in z.ground.plan.net) place ≡ job_node job) (sym c.self.view_is) c.in-Some.ensures in
    subst (λ (z : Marked). (k : ℕ) → IsOwnPlace z job k → place ≡ k) c.self.view_is
    (λ k. own-once r c.self.invariant.marked job ground placed place k at)

pub returns-else-own-clause-own : goal.returns-else-own-clause-own
returns-else-own-clause-own c =
    let r = marked_of c.self.inside in
    let job = c.args.job.now in
    let place = c.in-Some.place in
    let ground = c.ground-ground.ensures.ground in
    let placed = c.ground-ground.ensures.placed in
    let at = subst (λ (z : Marked). slice_get (nodes_in z.ground.plan.net) place ≡ job_node job) (sym c.self.view_is) c.in-Some.ensures in
    let other = λ (all : (work : DutyWork) → IsJobOf job work → IsOwnAt r.ground place work).
    (
    let on = c.is_own_at-own.ensures.1 (subst (λ (z : Marked). (work : DutyWork) → IsJobOf job work → IsOwnAt z.ground place work) c.self.view_is all) in
    let off = c.if-own.false in
    let clash = sym off ∙ on in
    let q : ⊥ = (cc) in q) in
    subst (λ (z : Marked). IsNowhere z job) c.self.view_is (nowhere-other r c.self.invariant.marked job ground placed place at other)
