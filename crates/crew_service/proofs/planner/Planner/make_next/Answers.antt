use Rattle.std.proofs.Common.{◌≡◌, ◌∙◌, IfErr, List, ap, subst}
use Rattle.crew_flights.specs.declared.entries.Entry.{Entry}
use Rattle.crew_service.specs.Machinery.Rounds.{IsRoundFault}
use Rattle.crew_service.specs.Plans.{Planning, entries_of}
use Rattle.crew_board.specs.crew_version.Versions.{Snapshot}
use Rattle.crew_service.proofs.planner.Planner.make_next.Goals as goal

pub returns-clause-fault : goal.returns-clause-fault
returns-clause-fault g c =
    let version : c.self.inside.version.value ≡ c.args.self.now.version = ap (λ (p : Planning). p.version) c.self.view_is in
    let entries : c.deref.result.now ≡ entries_of c.args.self.now.receipts = c.deref.ensures.value ∙ c.in_ok-entries.ensures.entries in
    subst (λ (v : Snapshot). IfErr c.next_over.result (IsRoundFault v (entries_of c.args.self.now.receipts))) version
    (subst (λ (es : List Entry). IfErr c.next_over.result (IsRoundFault c.self.inside.version.value es)) entries c.next_over.ensures.fault)
