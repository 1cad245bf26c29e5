use Rattle.std.proofs.Common.{◌≡◌, ◌∙◌, ℕ, List, Err, ap, length, subst, sym}
use mathlib.Core.List.{IsPrefix}
use Rattle.crew_flights.specs.declared.entries.Entry.{Entry}
use Rattle.crew_service.specs.Plans.{entries_of}
use Rattle.crew_session.specs.Oddities.{IsToldBy, Made}
use Rattle.crew_session.specs.declared.engine_fault.EngineFault.{EngineFault}
use Rattle.crew_serve.proofs.Told.{length-places, prefix-entries, refused}
use Rattle.crew_serve.specs.Machinery.Threads.{Threading, made_by, places_of, settled_fault_of}
use Rattle.crew_serve.proofs.threaded.Threaded.next_view.Goals as goal

pub returns-in-Ok-clause-many : goal.returns-in-Ok-clause-many
returns-in-Ok-clause-many g c =
    subst (λ (t : Threading). length t.found.places ≡ length t.entries) c.self.view_is (length-places c.self.inside.receipts.items)

pub returns-in-Err-clause-many : goal.returns-in-Err-clause-many
returns-in-Err-clause-many g c =
    subst (λ (t : Threading). length t.found.places ≡ length t.entries) c.self.view_is (length-places c.self.inside.receipts.items)

pub returns-in-Ok-clause-reads : goal.returns-in-Ok-clause-reads
returns-in-Ok-clause-reads g c =
    let new = entries_of c.settle.new.self.receipts in
    subst (λ (l : List Entry). IsPrefix l new) (ap (λ (t : Threading). t.made.read) c.self.view_is)
    (prefix-entries c.self.inside.planner.receipts c.settle.new.self.receipts c.in-Ok.ensures.ok.read)

pub returns-in-Err-clause-reads : goal.returns-in-Err-clause-reads
returns-in-Err-clause-reads g c =
    let new = entries_of c.settle.new.self.receipts in
    subst (λ (l : List Entry). IsPrefix l new) (ap (λ (t : Threading). t.made.read) c.self.view_is)
    (prefix-entries c.self.inside.planner.receipts c.settle.new.self.receipts c.in-Err.ensures.err.read)

pub returns-in-Err-clause-fault : goal.returns-in-Err-clause-fault
returns-in-Err-clause-fault g c =
    let old = made_by c.self.inside.planner in
    let new = made_by c.settle.new.self in
    let fault = settled_fault_of c.in-Err.fault in
    let here = c.args.self.now in
    let told = refused c.self.inside.planner c.settle.new.self c.deref.result.now c.in-Err.fault c.in-Err.ensures.fault in
    let places : places_of c.deref.result.now ≡ here.found.places = ap places_of c.deref.ensures.value ∙ ap (λ (t : Threading). t.found.places) c.self.view_is in
    let there = subst (λ (l : List ℕ). IsToldBy old new l (Err fault)) places told in
    let from = subst (λ (m : Made). IsToldBy m new here.found.places (Err fault)) (ap (λ (t : Threading). t.made) c.self.view_is) there in
    subst (λ (f : EngineFault). IsToldBy here.made new here.found.places (Err f)) (sym c.of_settle.ensures) from
