use Rattle.std.proofs.Common.{◌≡◌, ◌∷◌, [], arith, inl, inr, of_z, to_z, w64}
use Rattle.std.proofs.lemmas.Int.{ints}
use Rattle.crew_pairing.proofs.InList.{Member-left, Member-right}
use Rattle.crew_duty.proofs.changes.add_unless_same.Goals as goal

pub returns-in_ok-push-clause-told : goal.returns-in_ok-push-clause-told
returns-in_ok-push-clause-told c =
    let dep = c.args.flight.now.dep in
    let same : to_z w64 (of_z w64 c.get.result) ≡ dep = omega (arith, ints, c.get.ensures.value, c.get.ensures.range) in
    inr (rw c.in_ok-push.ensures.items (Member-right c.args.minutes.now.items (to_z w64 (of_z w64 c.get.result) ∷ []) dep (inl same)))

pub returns-in_ok-push-clause-kept : goal.returns-in_ok-push-clause-kept
returns-in_ok-push-clause-kept c = λ m h. rw c.in_ok-push.ensures.items (Member-left c.args.minutes.now.items (to_z w64 (of_z w64 c.get.result) ∷ []) m h)
