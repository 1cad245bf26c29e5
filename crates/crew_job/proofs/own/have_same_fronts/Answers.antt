use Rattle.std.proofs.Common.{◌≡◌, ◌∙◌, ℕ, Some, ap, length, refl, sym, true, true≢false, arith}
use Rattle.std.specs.Prelude.{slice_get}
use borrow.Author.Count.{below_more}
use Rattle.crew_net.specs.Nets.{Net}
use Rattle.crew_pairing.specs.Pairings.{may_stand_after}
use Rattle.crew_pairing.specs.declared.duty.Duty.{Duty}
use Rattle.crew_resource.proofs.Members.{Member-at}
use Rattle.crew_job.proofs.FoundDuties.{each-place}
use Rattle.crew_job.specs.Machinery.Compared.{HasSameFront}
use Rattle.crew_job.proofs.own.have_same_fronts.Goals as goal

pub returns-then-not-has_same_front_at : goal.returns-then-not-has_same_front_at
returns-then-not-has_same_front_at c = (
  λ t. absurd (true≢false (sym t)),
  λ all. absurd (true≢false (sym (c.has_same_front_at.ensures.1 (λ e at may. all e (Member-at c.args.ground.now.plan.net.duties c.loop-rank.rank e at) may)) ∙ c.if-not-has_same_front_at.true)),
)

pub loop-rank-preserved : goal.loop-rank-preserved
loop-rank-preserved c =
    let job = c.args.job.now in
    let g = c.args.ground.now in
    λ k e l at may.
    below_more (λ (i : ℕ). (x : Duty) → slice_get g.plan.net.duties i ≡ Some x → may_stand_after g.settings x c.args.duty.now ≡ true → HasSameFront job.ground g (record { base = c.args.code; duty = x })) c.loop-rank.rank (λ i m x. c.loop-rank.invariant i x m) (c.has_same_front_at.ensures.0 c.if-not-has_same_front_at.false) k l e at may

pub returns : goal.returns
returns c =
    let job = c.args.job.now in
    let g = c.args.ground.now in
    let count = c.duty_count-count.ensures.count in
    let net = c.net.ensures.net in
    (λ _. each-place (λ (e : Duty). may_stand_after g.settings e c.args.duty.now ≡ true → HasSameFront job.ground g (record { base = c.args.code; duty = e })) g.plan.net.duties (λ k e l at. c.loop-rank.invariant k e (omega (arith, l, ap (λ (z : Net). length z.duties) net, count, c.loop-rank-test.false)) at), λ _. refl)
