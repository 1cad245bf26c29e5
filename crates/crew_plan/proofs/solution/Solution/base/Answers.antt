use Rattle.std.proofs.Common.{◌≡◌, ◌∙◌, List, ℕ, sym, ap, subst, map}
use Rattle.std.specs.Arc.{arc_value}
use Rattle.crew_fronts.specs.Fronts.{BaseFronts}
use Rattle.crew_pairing.proofs.Tree.{Each-member}
use Rattle.crew_plan.specs.Machinery.Kept.{AreThoseOf}
use Rattle.crew_plan.specs.Machinery.Kinds.{net_of}
use Rattle.crew_plan.specs.Solutions.{Solution}
use Rattle.crew_resource.proofs.Members.{Member-map_out}
use Rattle.crew_resource.specs.Members.{Member}
use Rattle.crew_plan.proofs.solution.Solution.base.Goals as goal

pub returns-in-Some-clause-own : goal.returns-in-Some-clause-own
returns-in-Some-clause-own c =
    let b = c.deref-in-Some.result.now in
    let found = subst (AreThoseOf (map arc_value c.deref.result.now) c.args.base) (sym c.deref-in-Some.ensures) c.in-Some.ensures.found in
    let among = subst (λ l. Member (map (arc_value {X = BaseFronts}) l) b) c.deref.ensures.value found.among in
    let own = Each-member (λ (x : BaseFronts). x.net ≡ net_of c.self.inside.made) _ b c.self.invariant.0.nets among in
    (found.own, own ∙ ap (λ (s : Solution). s.net) c.self.view_is)

pub returns-in-None-clause-none : goal.returns-in-None-clause-none
returns-in-None-clause-none c = λ _ m.
    let bases : List BaseFronts = map arc_value c.self.inside.bases.items in
    let held = subst (λ (l : List (List ℕ)). Member l c.args.base) (ap (λ (s : Solution). s.net.bases) (sym c.self.view_is) ∙ sym c.self.invariant.0.all) m in
    let s = Member-map_out (λ (b : BaseFronts). b.base) bases c.args.base held in
    c.fronts_of.ensures.none c.in-None.is s.0 (subst (λ l. Member (map (arc_value {X = BaseFronts}) l) s.0) (sym c.deref.ensures.value) s.1) s.2
