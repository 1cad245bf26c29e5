use Rattle.std.proofs.Common.{◌≡◌, ◌∙◌, sym, arith, true, true≢false, refl}
use Rattle.crew_pairing.specs.Pairings.{may_stand_after}
use Rattle.crew_pairing.specs.declared.duty.Duty.{Duty}
use Rattle.crew_resource.proofs.Members.{Member-at}
use Rattle.crew_resource.specs.Members.{Member}
use Rattle.std.proofs.lemmas.Option.{get_or_from_slice_get}
use Rattle.crew_job.proofs.FoundDuties.{each-place, places-more-hold}
use Rattle.crew_job.proofs.before.are_all_before_in.Goals as goal

pub returns-then-not-is_there_if_before : goal.returns-then-not-is_there_if_before
returns-then-not-is_there_if_before c =
    let x = c.duty-before.result.now in
    let there : Member c.args.net.now.duties x = Member-at c.args.net.now.duties c.loop-rank.rank x c.duty-before.ensures in (
      λ t. absurd (true≢false (sym t)),
      λ all. absurd (true≢false (sym (c.is_there_if_before.ensures.1 (λ may. all x may there)) ∙ c.if-not-is_there_if_before.true)),
    )

pub loop-rank-preserved : goal.loop-rank-preserved
loop-rank-preserved c =
    let ds = c.args.net.now.duties in
    let x = c.duty-before.result.now in
    places-more-hold (λ (e : Duty). may_stand_after c.args.settings.now e c.args.duty.now ≡ true → Member c.args.other.now.duties e) ds c.loop-rank.rank x (sym (get_or_from_slice_get ds c.loop-rank.rank x x c.duty-before.ensures)) c.loop-rank.invariant (c.is_there_if_before.ensures.0 c.if-not-is_there_if_before.false)

pub returns : goal.returns
returns c =
    let ds = c.args.net.now.duties in
    let all : (e : Duty) → Member ds e → may_stand_after c.args.settings.now e c.args.duty.now ≡ true → Member c.args.other.now.duties e = each-place (λ (e : Duty). may_stand_after c.args.settings.now e c.args.duty.now ≡ true → Member c.args.other.now.duties e) ds (λ k e l at. c.loop-rank.invariant k e (omega (arith, l, c.loop-rank-test.false, c.duty_count-rank-end.ensures.count)) at) in
    (λ _ e may m. all e m may, λ _. refl)
