use Rattle.std.proofs.Common.{arith}
use Rattle.crew_session.specs.Replay.{Performs, start}
use Rattle.crew_session.proofs.BeginFacts.{on-err}
use Rattle.crew_session.proofs.PlayerFacts.{performed, performed-begun}
use Rattle.crew_session.proofs.RecordFacts.{stopped-between, stopped-in, written-ended, written-more, written-over, written-start}
use Rattle.crew_session.proofs.schedule.perform_all.Goals as goal

pub records-init : goal.records-init
records-init g c = record { open_still = c.requires.is_open; stage = start c.args.settings.now; stands = c.requires.stands; so_far = written-start (Performs c.args.settings.now) _ _ _ }

pub records-preserved : goal.records-preserved
records-preserved g c =
    let was = c.records.invariant in
    let met = c.in_ok-meet.ensures.meets c.args.settings.now was.stage was.stands in
    record {
      open_still = c.in_ok-next_row.ensures.goes_on c.if-not-branch.false;
      stage = met.after;
      stands = met.stands;
      so_far = written-more (Performs c.args.settings.now) _ _ _ _ _ _ _ _ _ _ _ _ was.so_far (c.in_ok-next_row.ensures.row c.if-not-branch.false) met.written
          (performed c.args.settings.now _ _ _ _ _ _ _ _ c.demand_of-demand.ensures was.stands.zones c.read_step.ensures.value met.does);
    }

pub next_row-requires : goal.next_row-requires
next_row-requires g c = c.records.invariant.open_still

pub returns-then-not-branch-clause-ended : goal.returns-then-not-branch-clause-ended
returns-then-not-branch-clause-ended g c =
    written-ended (Performs c.args.settings.now) _ _ _ _ _ _ _ c.records.invariant.so_far (c.in_ok-next_row.ensures.end c.if-not-branch.true) (omega arith)

pub returns-then-branch-clause-ended : goal.returns-then-branch-clause-ended
returns-then-branch-clause-ended g c =
    written-over (Performs c.args.settings.now) _ _ _ _ _ _ _ _ _ c.records.invariant.so_far (c.in_ok-next_row-2.ensures.row c.if-branch.true) (omega arith)

pub returns-else-branch-clause-ended : goal.returns-else-branch-clause-ended
returns-else-branch-clause-ended g c =
    written-ended (Performs c.args.settings.now) _ _ _ _ _ _ _ c.records.invariant.so_far (c.in_ok-next_row-2.ensures.end c.if-branch.false) (omega arith)

pub returns-in_err-next_row-clause-begun : goal.returns-in_err-next_row-clause-begun
returns-in_err-next_row-clause-begun g c = on-err _ _ (stopped-between (Performs c.args.settings.now) _ _ _ _ _ _ _ c.records.invariant.so_far (omega arith))

pub returns-in_err-meet-clause-begun : goal.returns-in_err-meet-clause-begun
returns-in_err-meet-clause-begun g c =
    let was = c.records.invariant in
    on-err _ _ (stopped-in (Performs c.args.settings.now) _ _ _ _ _ _ _ _ _ _ was.so_far (c.in_ok-next_row.ensures.row c.if-not-branch.false)
    (performed-begun c.args.settings.now _ _ _ _ _ _ _ _ c.demand_of-demand.ensures was.stands.zones c.read_step.ensures.value (c.in_err-meet.ensures.begun c.args.settings.now was.stage was.stands)) (omega arith))

pub returns-in_err-next_row-2-clause-begun : goal.returns-in_err-next_row-2-clause-begun
returns-in_err-next_row-2-clause-begun g c = on-err _ _ (stopped-between (Performs c.args.settings.now) _ _ _ _ _ _ _ c.records.invariant.so_far (omega arith))
