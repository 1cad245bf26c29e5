use Rattle.std.proofs.Common.{◌≡◌, ◌∙◌, List, ℕ, None, Some, sym, ap, subst, map}
use Rattle.std.specs.Arc.{arc_value}
use Rattle.std.specs.Prelude.{slice_get, IsPermutation}
use Rattle.crew_net.specs.Nets.{Net}
use Rattle.crew_pairing.proofs.Tree.{Each-member}
use Rattle.crew_resource.proofs.Members.{Member-map_out}
use Rattle.crew_resource.specs.Members.{Member}
use Rattle.crew_solve.specs.Machinery.Solved.{IsSweepOf}
use Rattle.crew_solve.specs.Solutions.{IsFrontOf, Solution, front_among}
use Rattle.crew_net.proofs.Numbers.{get-within}
use Rattle.crew_sweep.specs.Sweeps.{BaseSweep}
use Rattle.crew_solve.proofs.solution.Solution.front.Goals as goal

pub returns-in_err-fronts : goal.returns-in_err-fronts
returns-in_err-fronts c =
    let sweeps : List BaseSweep = map arc_value c.self.inside.fronts.items in
    let none : IsFrontOf c.args.self.now c.args.base c.args.key.now None =
    λ d m w k.
    let held = subst (λ (l : List (List ℕ)). Member l c.args.base) (ap (λ (s : Solution). s.net.bases) (sym c.self.view_is) ∙ sym c.self.invariant.bases) m in
    let s = Member-map_out (λ (b : BaseSweep). b.base) sweeps c.args.base held in
    c.fronts_of.ensures.none c.in_err-fronts.was s.0 (subst (λ l. Member (map (arc_value {X = BaseSweep}) l) s.0) (sym c.deref-2.ensures.value) s.1) s.2 in
    subst (IsFrontOf c.args.self.now c.args.base c.args.key.now) (sym c.from_residual-in_err-fronts.ensures) none

pub front-requires : goal.front-requires
front-requires c =
    let b = c.deref-3.result.now in
    let found = subst (IsSweepOf (map arc_value c.deref-2.result.now) c.args.base) (sym c.deref-3.ensures) c.in_ok-fronts.ensures.found in
    let among = subst (λ l. Member (map (arc_value {X = BaseSweep}) l) b) c.deref-2.ensures.value found.among in
    let own = Each-member (λ (x : BaseSweep). x.net ≡ c.self.inside.net.value) _ b c.self.invariant.nets among in
    let d = c.in_ok-rank.ensures.0 in
    let there : slice_get b.net.duties c.in_ok-rank.rank ≡ Some d = ap (λ (n : Net). slice_get n.duties c.in_ok-rank.rank) (own ∙ sym c.deref.ensures) ∙ c.in_ok-rank.ensures.2 in
    get-within b.net.duties c.in_ok-rank.rank d there

pub returns : goal.returns
returns c =
    let b = c.deref-3.result.now in
    let found = subst (IsSweepOf (map arc_value c.deref-2.result.now) c.args.base) (sym c.deref-3.ensures) c.in_ok-fronts.ensures.found in
    let among = subst (λ l. Member (map (arc_value {X = BaseSweep}) l) b) c.deref-2.ensures.value found.among in
    let own = Each-member (λ (x : BaseSweep). x.net ≡ c.self.inside.net.value) _ b c.self.invariant.nets among in
    let d = c.in_ok-rank.ensures.0 in
    let node = c.in_ok-rank.ensures.1 in
    let there : slice_get b.net.duties c.in_ok-rank.rank ≡ Some d = ap (λ (n : Net). slice_get n.duties c.in_ok-rank.rank) (own ∙ sym c.deref.ensures) ∙ c.in_ok-rank.ensures.2 in
    let seen : c.deref.result.now ≡ c.args.self.now.net = c.deref.ensures ∙ ap (λ (s : Solution). s.net) c.self.view_is in
    let swept = ap (λ (s : Solution). s.sweeps) (sym c.self.view_is) ∙ ap (λ l. map (arc_value {X = BaseSweep}) l) (sym c.deref-2.ensures.value) in
    let front = ap (λ (l : List BaseSweep). front_among l c.args.base d) swept ∙ found.fronts d in
    let shown = c.front.ensures d there in (
      d,
      subst (λ (n : Net). Member n.bases c.args.base) seen node.base,
      subst (λ (n : Net). Member n.duties d) seen node.duty,
      node.key ∙ c.copy.ensures,
      subst (λ l. IsPermutation l c.front.result) (sym front) shown.0,
      shown.1,
    )
