-- The fronts of all bases of a plan make its solution.
use Rattle.std.proofs.Common.{◌≡◌, ◌∙◌, ◌≤◌, ℕ, ℤ, List, None, length, map, sym, ap, subst}
use Rattle.std.specs.List.{flat_map}
use Rattle.crew_net.specs.Nets.{IsNetOf, Net}
use Rattle.crew_resource.specs.Members.{Each}
use Rattle.crew_solve.proofs.Solving.{base-keys, fronts-are, least-is-best}
use Rattle.crew_solve.proofs.Swept.{all-bases, all-nets, over-of, swept-all}
use Rattle.crew_solve.specs.Machinery.Homes.{home_of, least_of}
use Rattle.crew_solve.specs.Machinery.Solved.{IsSolved}
use Rattle.crew_solve.specs.Plans.{AreSweepsIn, IsSolutionIn, Plan}
use Rattle.crew_solve.specs.Solutions.{Solution, front_of}
use Rattle.crew_sweep.specs.Sweeps.{BaseSweep}
use Rattle.crew_vector.specs.Bests.{IsBest, IsScratch}

-- what the solution's type keeps
pub kept-in : (plan : Plan) (net : Net) (sweeps : List BaseSweep) → AreSweepsIn plan sweeps → map (λ (e : List ℕ × ℤ). e.0) plan.prices ≡ plan.net.bases → net ≡ plan.net → IsSolved net sweeps
kept-in plan net sweeps are bases is = record {
  bases = base-keys sweeps ∙ (ap (map (λ (e : List ℕ × ℤ). e.0)) (all-bases plan sweeps are) ∙ (bases ∙ ap (λ (n : Net). n.bases) (sym is)));
  nets = subst (λ (n : Net). Each (λ (b : BaseSweep). b.net ≡ n) sweeps) (sym is) (all-nets plan sweeps are);
}

-- and what it is of each timetable that the plan is of
pub in-plan : (plan : Plan) (solution : Solution) → AreSweepsIn plan solution.sweeps → length plan.net.duties ≤ 200_000 → solution.net ≡ plan.net → solution.best ≡ least_of None (flat_map home_of solution.sweeps)
    → IsSolutionIn plan solution
in-plan plan solution are few is best = record {
  network = λ s t of. (of.network.0, of.network.1, subst (IsNetOf s t of.network.0) (sym is) of.network.2);
  scratch = λ s t checked sound of.
      let net = plan.net in
      let over = over-of s t of.network.0 net checked sound of.network.1 of.network.2 few in
      let all = swept-all t plan solution.sweeps over of.prices are in
      let made : IsScratch net.settings t (front_of solution) solution.best = record {
        fronts = fronts-are t net solution.sweeps over all;
        best_is = subst (IsBest net.settings t) (sym best) (least-is-best t net solution.sweeps over all);
      } in
      subst (λ s. IsScratch s t (front_of solution) solution.best) of.network.2.settings made;
}
