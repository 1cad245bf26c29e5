use Rattle.std.proofs.Common.{◌≡◌, ◌∙◌, ◌<◌, ℕ, List, ap, length, subst, sym, ⊎_elim}
use Rattle.std.specs.Global.{Global}
use Rattle.std.specs.Prelude.{Vec}
use Rattle.crew_resource.specs.Members.{Member}
use Rattle.crew_sweep.specs.Machinery.Ahead.{IsAhead}
use Rattle.crew_sweep.specs.Machinery.Lanes.{AreLanes, IsLane}
use Rattle.crew_sweep.specs.Machinery.Slides.{IsOver}
use Rattle.crew_sweep.specs.declared.lanes.Lane.{Lane}
use Rattle.crew_sweep.specs.declared.slide.Slide.{Slide}
use Rattle.crew_sweep.proofs.Listing.{member-next}
use Rattle.crew_sweep.proofs.lanes.slid_from.Goals as goal

pub loop-lanes-init : goal.loop-lanes-init
loop-lanes-init c = (
  c.in_ok-slides.ensures.long,
  λ net walks made held grouped. (
    λ slide m. let idle = c.in_ok-slides.ensures.idle slide m in record { sliding = idle.0 walks held; covered = λ place covers. absurd (idle.1 place covers) },
    λ w m. absurd (c.in_ok-ahead.ensures w m),
    subst (λ (gs : List (Vec Lane Global)). (group : Vec Lane Global) → Member gs group → AreLanes net walks made held group.items) (sym c.into_iter-lanes-iterator.ensures.into_iter_gives.0) grouped,
  ),
)

pub loop-lane-init : goal.loop-lane-init
loop-lane-init c = (
  c.loop-lanes.invariant.0,
  λ net walks made held grouped.
      let inv = c.loop-lanes.invariant.1 net walks made held grouped in
      let next = member-next (λ (group : Vec Lane Global). AreLanes net walks made held group.items) _ _ _ c.in-Some.ensures.steps.0 inv.2 in (
        inv.0,
        inv.1,
        next.1,
        subst (λ (ls : List Lane). AreLanes net walks made held ls) (sym c.into_iter-lane-iterator.ensures.into_iter_gives.0) next.0,
      ),
)

pub loop-lane-preserved : goal.loop-lane-preserved
loop-lane-preserved c = (
  c.put_lane.ensures.long ∙ c.loop-lane.invariant.0,
  λ net walks made held grouped.
      let inv = c.loop-lane.invariant.1 net walks made held grouped in
      let next = member-next (IsLane net walks made held) _ _ _ c.in-Some-lane.ensures.steps.0 inv.3 in (
        λ slide m. ⊎_elim {C = IsOver walks made held slide} (inv.0 slide) (λ e. subst (IsOver walks made held) (sym e) next.0.over) (c.put_lane.ensures.slides slide m),
        λ w m. ⊎_elim {C = IsAhead net walks made held w} (inv.1 w) (next.0.ahead w) (c.put_lane.ensures.ahead w m),
        inv.2,
        next.1,
      ),
)

pub loop-lanes-preserved : goal.loop-lanes-preserved
loop-lanes-preserved c = (
  c.loop-lane.invariant.0,
  λ net walks made held grouped. let inv = c.loop-lane.invariant.1 net walks made held grouped in (inv.0, inv.1, inv.2),
)

pub returns : goal.returns
returns c net walks made held long grouped =
    let all = c.loop-lanes.invariant in
    let inv = all.1 net walks made held grouped in
    let airports : c.of-slides.result.airports.items ≡ c.args.airports.items = ap (λ v. v.items) c.of-slides.ensures.airports in
    let slides : c.of-slides.result.slides.items ≡ c.loop-lanes.slides.items = ap (λ v. v.items) c.of-slides.ensures.slides in
    record {
      under_way = record {
        long = ap length airports ∙ long;
        sliding = record {
          numbers = λ n m. subst (λ (k : ℕ). n < k) (sym (ap length slides ∙ all.0)) (c.requires.numbers n (subst (λ (ns : List ℕ). Member ns n) airports m));
          each = λ slide m. (inv.0 slide (subst (λ (ss : List Slide). Member ss slide) slides m)).sliding;
        };
        covered = λ place covers. (inv.0 covers.0 (subst (λ (ss : List Slide). Member ss covers.0) slides covers.1)).covered place covers.2;
      };
      ahead = inv.1;
    }
