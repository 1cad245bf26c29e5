use Rattle.std.proofs.Common.{◌≡◌, [], List, subst, sym}
use Rattle.std.specs.Global.{Global}
use Rattle.std.specs.Prelude.{Vec}
use Rattle.std.proofs.lemmas.List.Sorted.{IsPermutation-sym}
use Rattle.crew_pool.proofs.Permuted.{Member-permuted}
use Rattle.crew_resource.specs.Members.{Member}
use Rattle.crew_sweep.specs.declared.lanes.Lane.{Lane}
use Rattle.crew_sweep.proofs.Listing.{member-next, member-push}
use Rattle.crew_sweep.proofs.lanes.grouped.Goals as goal

-- the lanes of a group are of the list
abbrev AreOf : List Lane → Vec Lane Global → Type 0
AreOf lanes group = (lane : Lane) → Member group.items lane → Member lanes lane

-- nothing is of an empty list
none-of : {A : Type 0} (P : A → Type 0) (xs : List A) → xs ≡ [] → (x : A) → Member xs x → P x
none-of {A} P xs is x m = absurd (subst (λ (ys : List A). Member ys x) is m)

pub loop-lane-init : goal.loop-lane-init
loop-lane-init c =
    let lanes = c.args.lanes.items in
    let sorted = c.sort_unstable_by_key.new.self.items in (
      none-of (AreOf lanes) c.in_ok-groups.groups.items c.in_ok-groups.ensures.items,
      none-of (Member lanes) c.new-group.result.items c.new-group.ensures.items,
      λ lane m. Member-permuted sorted lanes (IsPermutation-sym lanes sorted c.sort_unstable_by_key.ensures.permutation) lane (subst (λ (ls : List Lane). Member ls lane) c.into_iter-lane-iterator.ensures.into_iter_gives.0 m),
    )

pub loop-lane-preserved-in-Continue-branch-3 : goal.loop-lane-preserved-in-Continue-branch-3
loop-lane-preserved-in-Continue-branch-3 c =
    let lanes = c.args.lanes.items in
    let inv = c.loop-lane.invariant in
    let next = member-next (Member lanes) _ _ _ c.in-Some.ensures.steps.0 inv.2 in
    let group = member-push (Member lanes) _ _ _ c.in_ok-push.ensures.items inv.1 next.0 in (
      member-push (AreOf lanes) _ _ _ c.in_ok-push-2.ensures.items inv.0 (subst (AreOf lanes) (sym c.replace.ensures.value) group),
      subst (AreOf lanes) (sym c.replace.ensures.after) (none-of (Member lanes) c.new.result.items c.new.ensures.items),
      next.1,
    )

pub loop-lane-preserved : goal.loop-lane-preserved
loop-lane-preserved c =
    let lanes = c.args.lanes.items in
    let inv = c.loop-lane.invariant in
    let next = member-next (Member lanes) _ _ _ c.in-Some.ensures.steps.0 inv.2 in (inv.0, member-push (Member lanes) _ _ _ c.in_ok-push.ensures.items inv.1 next.0, next.1)

pub loop-init : goal.loop-init
loop-init c = member-push (AreOf c.args.lanes.items) _ _ _ c.in_ok-push-3.ensures.items c.loop-lane.invariant.0 c.loop-lane.invariant.1

pub loop-preserved : goal.loop-preserved
loop-preserved c = member-push (AreOf c.args.lanes.items) _ _ _ c.in_ok-push-4.ensures.items c.loop.invariant (none-of (Member c.args.lanes.items) c.new-in-loop.result.items c.new-in-loop.ensures.items)
