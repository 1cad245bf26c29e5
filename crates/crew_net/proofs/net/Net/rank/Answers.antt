use Rattle.std.proofs.Common.{◌≡◌, ◌∙◌, Bool, true, false, List, ℕ, refl, sym, ap, subst}
use Rattle.std.specs.List.{list_any}
use Rattle.std.specs.Ordering.{eq_by_cmp}
use Rattle.crew_flights.specs.Codes.{code_cmp}
use Rattle.crew_resource.proofs.Members.{list_any_false, list_any_true}
use Rattle.crew_pairing.specs.declared.duty.Duty.{Duty}
use Rattle.crew_net.specs.Machinery.Ranking.{IsRankOf}
use Rattle.crew_resource.specs.Members.{Member}
use Rattle.crew_net.specs.Nets.{IsNodeOf, IsRank, Net}
use Rattle.crew_net.proofs.Geometry.{code-equal, equal-code}
use Rattle.crew_net.proofs.Ranking.{is-rank}
use Rattle.crew_net.proofs.net.Net.rank.Goals as goal

pub returns-then-not-contains : goal.returns-then-not-contains
returns-then-not-contains c = λ d is.
    let n = c.self.inside in
    let base = c.args.node.now.base in
    let test : List ℕ → Bool = λ y. eq_by_cmp code_cmp y base in
    let any : list_any test n.bases.items ≡ false = ap (list_any test) (sym c.deref.ensures.value) ∙ (sym c.contains.ensures.value ∙ c.if-not-contains.true) in
    let here = subst (λ (net : Net). IsNodeOf net c.args.node.now d) (sym c.self.view_is) is in
    let no = list_any_false test n.bases.items any base here.base in
    let yes = equal-code base base refl in
    let z : ⊥ = (cc) in z

pub returns : goal.returns
returns c =
    let n = c.self.inside in
    let base = c.args.node.now.base in
    let test : List ℕ → Bool = λ y. eq_by_cmp code_cmp y base in
    let any : list_any test n.bases.items ≡ true = ap (list_any test) (sym c.deref.ensures.value) ∙ (sym c.contains.ensures.value ∙ c.if-not-contains.false) in
    let found = list_any_true test n.bases.items any in
    let member : Member n.bases.items base = subst (Member n.bases.items) (code-equal found.0 base found.2) found.1 in
    let rank = subst (λ (l : List Duty). IsRankOf l c.args.node.now.key c.rank_of.result) c.deref-2.ensures c.rank_of.ensures in
    let show : Net = record { settings = n.settings; bases = n.bases.items; duties = n.duties.value; departures = n.events.value.departures.items; arrivals = n.events.value.arrivals.items; by_report = n.events.value.by_report.items } in
    subst (λ (net : Net). IsRank net c.args.node.now c.rank_of.result) c.self.view_is (is-rank show c.args.node.now member c.rank_of.result rank)
