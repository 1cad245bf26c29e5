use Rattle.std.proofs.Common.{◌∙◌, subst, sym}
use Rattle.std.specs.Arc.{arc_value}
use Rattle.crew_board.proofs.Answered.{refused-as}
use Rattle.crew_service.specs.Next.{IsNextOver}
use Rattle.crew_service.proofs.Settles.{on-err, on-ok, refused, settled, unpublished}
use Rattle.crew_service.specs.Faults.{IsSettleFault}
use Rattle.crew_service.specs.Machinery.Kept.{HasShown}
use Rattle.crew_service.specs.Plans.{Planning, entries_of}
use Rattle.crew_service.proofs.planner.Planner.settle.Goals as goal

pub returns-in_err-version-clause-fault : goal.returns-in_err-version-clause-fault
returns-in_err-version-clause-fault g c =
    let old = c.args.self.now in
    let mid = c.read_up_to.new.self in
    let wanted = c.args.receipts.now in
    let fault = c.in_err-version.field-0.0 in
    let h = refused old mid wanted c.read_up_to.ensures.read c.in_ok-read_up_to.ensures.ok fault c.in_err-version.ensures.fault in
    let here = subst (λ (p : Planning). IsSettleFault old wanted p fault) (sym c.in_err-version.ensures.same) h in
    refused-as (IsSettleFault old wanted c.make_next.new.self) c.from_residual-in_err-version.result fault c.from_residual-in_err-version.ensures.1 here

pub publish-requires : goal.publish-requires
publish-requires g c =
    let v = arc_value c.in_ok-version.version in
    subst (λ (q : Planning). IsNextOver q.version (entries_of q.receipts) v) (sym c.in_ok-version.ensures.same) c.in_ok-version.ensures.ok

pub returns-clause-ok : goal.returns-clause-ok
returns-clause-ok g c =
    let old = c.args.self.now in
    let mid = c.read_up_to.new.self in
    let new = c.publish.new.self in
    let v = arc_value c.in_ok-version.version in
    let all = settled old mid c.args.receipts.now c.read_up_to.ensures.read c.in_ok-read_up_to.ensures.ok v c.in_ok-version.ensures.ok new in
    on-ok c.publish.result c.publish.ensures.ok (λ h. all (subst (λ (q : Planning). HasShown q v new) c.in_ok-version.ensures.same h))

pub returns-clause-err : goal.returns-clause-err
returns-clause-err g c =
    let old = c.args.self.now in
    let mid = c.read_up_to.new.self in
    let new = c.publish.new.self in
    let none = unpublished old mid c.args.receipts.now c.read_up_to.ensures.read c.in_ok-read_up_to.ensures.ok new in
    on-err c.publish.result c.publish.ensures.err (λ e. none (e ∙ c.in_ok-version.ensures.same))
