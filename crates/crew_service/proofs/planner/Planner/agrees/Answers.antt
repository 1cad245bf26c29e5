use Rattle.std.proofs.Common.{◌∙◌, Some, sym, ap, subst}
use Rattle.std.specs.Prelude.{slice_index_or}
use Rattle.boxcar.specs.Table.{Where}
use Rattle.crew_flights.specs.declared.entries.Entry.{Entry}
use Rattle.crew_service.proofs.Plans.{planned-entry}
use Rattle.crew_service.specs.Machinery.Kept.{IsPlanning}
use Rattle.crew_service.specs.Plans.{Planning}
use Rattle.crew_service.proofs.planner.Planner.agrees.Goals as goal

pub agree-requires-clause-place : goal.agree-requires-clause-place
agree-requires-clause-place g c =
    let r = c.index-own.result.now in
    let k = c.args.receipt.now.index in
    let own = c.index-own.ensures ∙ (ap (λ i. slice_index_or c.self.inside.receipts.items i r) c.place-place.ensures ∙ ap (λ (v : Planning). slice_index_or v.receipts k r) c.self.view_is) in
    let found = planned-entry c.args.self.now k r (subst IsPlanning c.self.view_is c.self.invariant) c.requires.below in
    ap (λ (z : Where Entry). z.index) own ∙ found.0

pub returns : goal.returns
returns g c =
    let r = c.index-own.result.now in
    let k = c.args.receipt.now.index in
    let own = c.index-own.ensures ∙ (ap (λ i. slice_index_or c.self.inside.receipts.items i r) c.place-place.ensures ∙ ap (λ (v : Planning). slice_index_or v.receipts k r) c.self.view_is) in
    let found = planned-entry c.args.self.now k r (subst IsPlanning c.self.view_is c.self.invariant) c.requires.below in
    found.1 ∙ (ap (λ (z : Where Entry). Some z.value) (sym own) ∙ ap (λ (e : Entry). Some e) c.agree.ensures)
