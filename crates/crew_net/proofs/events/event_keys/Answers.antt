use Rattle.std.proofs.Common.{◌≡◌, ◌<◌, ◌∙◌, ap, arith, get_or, length, of_z, subst, sym, to_z, w64}
use Rattle.std.proofs.lemmas.Int.{ints}
use Rattle.std.proofs.lemmas.List.{take_all}
use Rattle.crew_net.specs.Machinery.Held.{IsLeft, IsReached, arrive_at, leave_at}
use Rattle.crew_net.specs.Machinery.Moments.{keyed_slot}
use Rattle.crew_net.proofs.Keyed.{all-keys, keys-long, one-key-more}
use Rattle.crew_net.proofs.Named.{each-more}
use Rattle.crew_net.proofs.Slices.{get-at}
use Rattle.crew_resource.specs.Members.{Each}
use Rattle.crew_net.proofs.events.event_keys.Goals as goal

pub loop-rank-preserved : goal.loop-rank-preserved
loop-rank-preserved c =
    let duties = c.args.duties.now in
    let k = c.loop-rank.rank in
    let d = c.at-duty.result.now in
    let is : d ≡ get_or duties k d = sym (get-at duties k d d c.at-duty.ensures) in
    let within : k < length duties = omega (arith, c.loop-rank-test.true, c.len-rank-end.ensures) in
    let same : to_z w64 (of_z w64 c.leave_at.result) ≡ c.leave_at.result = omega (arith, ints, c.leave_at.ensures.bound.least, c.leave_at.ensures.bound.most) in
    let same' : to_z w64 (of_z w64 c.arrive_at.result) ≡ c.arrive_at.result = omega (arith, ints, c.arrive_at.ensures.bound.least, c.arrive_at.ensures.bound.most) in
    let left : keyed_slot c.slot_key.result ≡ record { at = leave_at (get_or duties k d); place = k } =
    c.slot_key.ensures ∙ (let at = same ∙ (c.leave_at.ensures.value ∙ ap leave_at is) in λ i. record { at = at i; place = k }) in
    let reached : keyed_slot c.slot_key-in-loop-rank.result ≡ record { at = arrive_at (get_or duties k d); place = k } =
    c.slot_key-in-loop-rank.ensures ∙ (let at = same' ∙ (c.arrive_at.ensures.value ∙ ap arrive_at is) in λ i. record { at = at i; place = k }) in (
      one-key-more leave_at duties k d within c.loop-rank.leave.items c.slot_key.result c.push.new.self.items c.loop-rank.invariant.0 left c.in_ok-push.ensures.items,
      one-key-more arrive_at duties k d within c.loop-rank.arrive.items c.slot_key-in-loop-rank.result c.push-in-loop-rank.new.self.items c.loop-rank.invariant.1 reached c.in_ok-push-2.ensures.items,
      each-more IsLeft duties k d within c.loop-rank.invariant.2 (subst IsLeft is c.leave_at.ensures.named),
      each-more IsReached duties k d within c.loop-rank.invariant.3 (subst IsReached is c.arrive_at.ensures.named),
    )

pub returns-clause-left : goal.returns-clause-left
returns-clause-left c = subst (Each IsLeft) (take_all c.loop-rank.rank c.args.duties.now (omega (arith, c.loop-rank-test.false, c.len-rank-end.ensures))) c.loop-rank.invariant.2

pub returns-clause-reached : goal.returns-clause-reached
returns-clause-reached c = subst (Each IsReached) (take_all c.loop-rank.rank c.args.duties.now (omega (arith, c.loop-rank-test.false, c.len-rank-end.ensures))) c.loop-rank.invariant.3

pub returns-clause-leave : goal.returns-clause-leave
returns-clause-leave c = all-keys leave_at c.args.duties.now _ c.loop-rank.leave.items c.loop-rank.invariant.0 (take_all c.loop-rank.rank c.args.duties.now (omega (arith, c.loop-rank-test.false, c.len-rank-end.ensures)))

pub returns-clause-arrive : goal.returns-clause-arrive
returns-clause-arrive c = all-keys arrive_at c.args.duties.now _ c.loop-rank.arrive.items c.loop-rank.invariant.1 (take_all c.loop-rank.rank c.args.duties.now (omega (arith, c.loop-rank-test.false, c.len-rank-end.ensures)))

pub returns-clause-long : goal.returns-clause-long
returns-clause-long c =
    let duties = c.args.duties.now in
    let all = take_all c.loop-rank.rank duties (omega (arith, c.loop-rank-test.false, c.len-rank-end.ensures)) in (
      keys-long leave_at duties c.loop-rank.leave.items (all-keys leave_at duties _ c.loop-rank.leave.items c.loop-rank.invariant.0 all),
      keys-long arrive_at duties c.loop-rank.arrive.items (all-keys arrive_at duties _ c.loop-rank.arrive.items c.loop-rank.invariant.1 all),
    )
