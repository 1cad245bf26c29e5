use Rattle.std.proofs.Common.{◌≡◌, ◌∙◌, List, ℕ, None, Some, sym, ap, subst, map}
use Rattle.std.specs.Arc.{arc_value}
use Rattle.std.specs.Prelude.{slice_get}
use Rattle.crew_fronts.specs.Fronts.{BaseFronts}
use Rattle.crew_net.specs.Nets.{Net}
use Rattle.crew_pairing.proofs.Tree.{Each-member}
use Rattle.crew_plan.specs.Machinery.Kept.{AreThoseOf}
use Rattle.crew_plan.specs.Machinery.Kinds.{net_of}
use Rattle.crew_plan.specs.Solutions.{IsFrontOf, Solution, front_among}
use Rattle.crew_resource.proofs.Members.{Member-map_out}
use Rattle.crew_resource.specs.Members.{Member}
use Rattle.crew_net.proofs.Numbers.{get-within}
use Rattle.crew_plan.proofs.solution.Solution.front.Goals as goal

pub returns-in_err-fronts : goal.returns-in_err-fronts
returns-in_err-fronts c =
    let bases : List BaseFronts = map arc_value c.self.inside.bases.items in
    let none : IsFrontOf c.args.self.now c.args.base c.args.key.now None =
    λ d m w k.
    let held = subst (λ (l : List (List ℕ)). Member l c.args.base) (ap (λ (s : Solution). s.net.bases) (sym c.self.view_is) ∙ sym c.self.invariant.0.all) m in
    let s = Member-map_out (λ (b : BaseFronts). b.base) bases c.args.base held in
    c.fronts_of.ensures.none c.in_err-fronts.was s.0 (subst (λ l. Member (map (arc_value {X = BaseFronts}) l) s.0) (sym c.deref.ensures.value) s.1) s.2 in
    subst (IsFrontOf c.args.self.now c.args.base c.args.key.now) (sym c.from_residual-in_err-fronts.ensures) none

pub front-requires : goal.front-requires
front-requires c =
    let b = c.deref-2.result.now in
    let found = subst (AreThoseOf (map arc_value c.deref.result.now) c.args.base) (sym c.deref-2.ensures) c.in_ok-fronts.ensures.found in
    let among = subst (λ l. Member (map (arc_value {X = BaseFronts}) l) b) c.deref.ensures.value found.among in
    let own = Each-member (λ (x : BaseFronts). x.net ≡ net_of c.self.inside.made) _ b c.self.invariant.0.nets among in
    let net = own ∙ (ap (λ (s : Solution). s.net) c.self.view_is ∙ sym c.net.ensures) in
    let d = c.in_ok-rank.ensures.0 in
    let there : slice_get b.net.duties c.in_ok-rank.rank ≡ Some d = ap (λ (n : Net). slice_get n.duties c.in_ok-rank.rank) net ∙ c.in_ok-rank.ensures.2 in
    get-within b.net.duties c.in_ok-rank.rank d there

pub returns : goal.returns
returns c =
    let b = c.deref-2.result.now in
    let found = subst (AreThoseOf (map arc_value c.deref.result.now) c.args.base) (sym c.deref-2.ensures) c.in_ok-fronts.ensures.found in
    let among = subst (λ l. Member (map (arc_value {X = BaseFronts}) l) b) c.deref.ensures.value found.among in
    let own = Each-member (λ (x : BaseFronts). x.net ≡ net_of c.self.inside.made) _ b c.self.invariant.0.nets among in
    let net = own ∙ (ap (λ (s : Solution). s.net) c.self.view_is ∙ sym c.net.ensures) in
    let d = c.in_ok-rank.ensures.0 in
    let node = c.in_ok-rank.ensures.1 in
    let there : slice_get b.net.duties c.in_ok-rank.rank ≡ Some d = ap (λ (n : Net). slice_get n.duties c.in_ok-rank.rank) net ∙ c.in_ok-rank.ensures.2 in
    let all = ap (λ (s : Solution). s.bases) (sym c.self.view_is) ∙ ap (λ l. map (arc_value {X = BaseFronts}) l) (sym c.deref.ensures.value) in
    let front = ap (λ (l : List BaseFronts). front_among l c.args.base d) all ∙ found.fronts d in (
      d,
      subst (λ (n : Net). Member n.bases c.args.base) c.net.ensures node.base,
      subst (λ (n : Net). Member n.duties d) c.net.ensures node.duty,
      node.key ∙ c.copy.ensures,
      c.front.ensures.front d there ∙ sym front,
      c.front.ensures.rises,
    )
