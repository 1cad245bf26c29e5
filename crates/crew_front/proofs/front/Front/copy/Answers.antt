use Rattle.std.proofs.Common.{◌≡◌, ◌∙◌, sym, subst, List, map, rules}
use Rattle.std.specs.Prelude.{IfOk}
use Rattle.std.proofs.lemmas.List.{take_all, take_more}
use Rattle.crew_pairing.specs.Legs.{Leg}
use Rattle.crew_resource.specs.Entries.{IsApart}
use Rattle.crew_front.proofs.front.Front.copy.Goals as goal

pub loop-entry-init : goal.loop-entry-init
loop-entry-init g c = c.new-entries.ensures.items

pub loop-entry-preserved : goal.loop-entry-preserved
loop-entry-preserved g c =
    let value = c.in_ok-value.ensures in
    let walk = c.in_ok-walk.ensures in
    let more = take_more c.deref-entry-items.result.now c.loop-entry.entry-index c.entry-item.result c.loop-entry-test.true in
    search rules

pub of_rising-requires : goal.of_rising-requires
of_rising-requires g c =
    let Entry = g.row.R-Value.Denot × List (List Leg) in
    let same = c.loop-entry.invariant ∙ (take_all c.loop-entry.entry-index c.deref-entry-items.result.now c.loop-entry-test.false ∙ c.deref-entry-items.ensures.value) in
    subst (λ (es : List Entry). IsApart g.R.Value.Ord.cmp g.R.Resource.below (map (λ e. e.0) es)) (sym same) c.self.invariant.0

pub returns : goal.returns
returns g c =
    let Entry = g.row.R-Value.Denot × List (List Leg) in
    let same = c.loop-entry.invariant ∙ (take_all c.loop-entry.entry-index c.deref-entry-items.result.now c.loop-entry-test.false ∙ (c.deref-entry-items.ensures.value ∙ c.self.view_is)) in
    subst (λ (es : List Entry). IfOk c.of_rising.result (λ front. front ≡ es)) same c.of_rising.ensures
