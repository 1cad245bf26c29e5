use Rattle.std.proofs.Common.{◌≡◌, ◌∙◌, List, ℕ, sym, ap, subst, map}
use Rattle.std.specs.Arc.{arc_value}
use Rattle.crew_pairing.proofs.Tree.{Each-member}
use Rattle.crew_resource.proofs.Members.{Member-map_out}
use Rattle.crew_resource.specs.Members.{Member}
use Rattle.crew_solve.specs.Machinery.Solved.{IsSweepOf}
use Rattle.crew_solve.specs.Solutions.{Solution, front_among}
use Rattle.crew_sweep.specs.Sweeps.{BaseSweep}
use Rattle.crew_solve.proofs.solution.Solution.base.Goals as goal

pub returns-in-Some-clause-own : goal.returns-in-Some-clause-own
returns-in-Some-clause-own c =
    let b = c.deref-in-Some.result.now in
    let found = subst (IsSweepOf (map arc_value c.deref.result.now) c.args.base) (sym c.deref-in-Some.ensures) c.in-Some.ensures.found in
    let among = subst (λ l. Member (map (arc_value {X = BaseSweep}) l) b) c.deref.ensures.value found.among in
    let own = Each-member (λ (x : BaseSweep). x.net ≡ c.self.inside.net.value) _ b c.self.invariant.nets among in
    (found.own, own ∙ ap (λ (s : Solution). s.net) c.self.view_is)

pub returns-in-Some-clause-fronts : goal.returns-in-Some-clause-fronts
returns-in-Some-clause-fronts c =
    let b = c.deref-in-Some.result.now in
    let found = subst (IsSweepOf (map arc_value c.deref.result.now) c.args.base) (sym c.deref-in-Some.ensures) c.in-Some.ensures.found in
    let swept = ap (λ (s : Solution). s.sweeps) (sym c.self.view_is) ∙ ap (λ l. map (arc_value {X = BaseSweep}) l) (sym c.deref.ensures.value) in
    λ d. ap (λ (l : List BaseSweep). front_among l c.args.base d) swept ∙ found.fronts d

pub returns-in-None-clause-none : goal.returns-in-None-clause-none
returns-in-None-clause-none c = λ _ m.
    let sweeps : List BaseSweep = map arc_value c.self.inside.fronts.items in
    let held = subst (λ (l : List (List ℕ)). Member l c.args.base) (ap (λ (s : Solution). s.net.bases) (sym c.self.view_is) ∙ sym c.self.invariant.bases) m in
    let s = Member-map_out (λ (b : BaseSweep). b.base) sweeps c.args.base held in
    c.fronts_of.ensures.none c.in-None.is s.0 (subst (λ l. Member (map (arc_value {X = BaseSweep}) l) s.0) (sym c.deref.ensures.value) s.1) s.2
