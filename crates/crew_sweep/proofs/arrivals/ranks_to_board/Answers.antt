use Rattle.std.proofs.Common.{◌<◌, ℕ, List, length, subst, sym}
use Rattle.std.proofs.lemmas.List.Sorted.{IsPermutation-sym}
use Rattle.std.proofs.lemmas.Result.{IfOk-weaker}
use Rattle.crew_net.proofs.ArrivalPlaces.{rank-within}
use Rattle.crew_net.proofs.Slices.{stands}
use Rattle.crew_pairing.specs.declared.duty.Duty.{Duty}
use Rattle.crew_pool.proofs.Permuted.{Member-permuted}
use Rattle.crew_resource.specs.Members.{Member}
use Rattle.crew_sweep.specs.Machinery.Boardings.{IsAsGood}
use Rattle.crew_sweep.proofs.AsGood.{as-good-through}
use Rattle.crew_sweep.proofs.arrivals.ranks_to_board.Goals as goal

pub without_worse-requires-clause-sound : goal.without_worse-requires-clause-sound
without_worse-requires-clause-sound c d m = c.requires.ground.passable.sound d (subst (λ (ds : List Duty). Member ds d) c.duties-duties.ensures m)

pub without_worse-requires-clause-ranks : goal.without_worse-requires-clause-ranks
without_worse-requires-clause-ranks c one m =
    let net = c.args.ground.now.net.now in
    let a = stands net.arrivals c.args.place c.requires.place in
    let sorted = subst (λ (rs : List ℕ). Member rs one) c.deref.ensures.value m in
    let arriving = Member-permuted c.in_ok-ranks.ranks.items c.arriving.result.now (IsPermutation-sym _ _ c.in_ok-ranks.ensures) one sorted in
    let there = rank-within a.0 net.duties one (subst (λ (rs : List ℕ). Member rs one) (c.arriving.ensures a.0 a.1) arriving) in
    subst (λ (ds : List Duty). one < length ds) (sym c.duties-duties.ensures) there

pub without_worse-requires-2-clause-sound : goal.without_worse-requires-2-clause-sound
without_worse-requires-2-clause-sound c d m = c.requires.ground.passable.sound d (subst (λ (ds : List Duty). Member ds d) c.duties-duties.ensures m)

pub without_worse-requires-2-clause-ranks : goal.without_worse-requires-2-clause-ranks
without_worse-requires-2-clause-ranks c one m =
    let net = c.args.ground.now.net.now in
    let a = stands net.arrivals c.args.place c.requires.place in
    let kept = c.in_ok-some.ensures.among one (subst (λ (rs : List ℕ). Member rs one) c.deref-2.ensures.value m) in
    let sorted = subst (λ (rs : List ℕ). Member rs one) c.deref.ensures.value kept in
    let arriving = Member-permuted c.in_ok-ranks.ranks.items c.arriving.result.now (IsPermutation-sym _ _ c.in_ok-ranks.ensures) one sorted in
    let there = rank-within a.0 net.duties one (subst (λ (rs : List ℕ). Member rs one) (c.arriving.ensures a.0 a.1) arriving) in
    subst (λ (ds : List Duty). one < length ds) (sym c.duties-duties.ensures) there

pub returns-clause-among : goal.returns-clause-among
returns-clause-among c =
    IfOk-weaker c.without_worse-2.result _ _ (λ kept among x at k m.
    let some = subst (λ (rs : List ℕ). Member rs k) c.deref-2.ensures.value (among k m) in
    let sorted = subst (λ (rs : List ℕ). Member rs k) c.deref.ensures.value (c.in_ok-some.ensures.among k some) in
    let arriving = Member-permuted c.in_ok-ranks.ranks.items c.arriving.result.now (IsPermutation-sym _ _ c.in_ok-ranks.ensures) k sorted in
    subst (λ (rs : List ℕ). Member rs k) (c.arriving.ensures x at) arriving) c.without_worse-2.ensures.among

pub returns-clause-as_good : goal.returns-clause-as_good
returns-clause-as_good c =
    let positions = c.args.ground.now.positions.now in
    let duties = c.duties-duties.result.now in
    IfOk-weaker c.without_worse-2.result _ _ (λ kept good x at rank m.
    let arriving = subst (λ (rs : List ℕ). Member rs rank) (sym (c.arriving.ensures x at)) m in
    let sorted = Member-permuted c.arriving.result.now c.in_ok-ranks.ranks.items c.in_ok-ranks.ensures rank arriving in
    let first = c.in_ok-some.ensures.as_good rank (subst (λ (rs : List ℕ). Member rs rank) (sym c.deref.ensures.value) sorted) in
    let second = good first.0 (subst (λ (rs : List ℕ). Member rs first.0) (sym c.deref-2.ensures.value) first.1) in (
      second.0,
      second.1,
      subst (λ (ds : List Duty). IsAsGood ds positions second.0 rank) c.duties-duties.ensures (as-good-through duties positions second.0 first.0 rank second.2 first.2),
    )) c.without_worse-2.ensures.as_good
