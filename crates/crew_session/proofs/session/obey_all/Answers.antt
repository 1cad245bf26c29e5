use Rattle.std.proofs.Common.{◌≡◌, ℕ, List, arith, subst}
use Rattle.std.specs.Prelude.{Option}
use Rattle.crew_records.specs.Commands.{command_of}
use Rattle.crew_records.specs.Fields.{Fields}
use Rattle.crew_records.specs.declared.command.Command.{Command}
use Rattle.crew_rules.specs.declared.settings.Settings.{Settings}
use Rattle.crew_session.specs.Session.{Obeys, ObeysRow, State}
use Rattle.crew_session.specs.Texts.{BeginsOne}
use Rattle.crew_session.proofs.BeginFacts.{on-err}
use Rattle.crew_session.proofs.LeadFacts.{led-more, led-start}
use Rattle.crew_session.proofs.OddFacts.{handed-on, met-at, play-fault}
use Rattle.crew_session.proofs.RecordFacts.{stopped-between, stopped-in, written-ended, written-more, written-over, written-start}
use Rattle.crew_session.proofs.session.obey_all.Goals as goal

-- what a command does is what its record does
of-row : (s : Settings) (number : ℕ) (row : Fields) (command : Command) (a b : State) (text : List ℕ) → command ≡ command_of row → Obeys s number command a b text → ObeysRow s number row a b text
of-row s number row command a b text e h = subst (λ (c : Command). Obeys s number c a b text) e h

by-row : (s : Settings) (number : ℕ) (row : Fields) (command : Command) (a : State) (old new : Option (List ℕ)) → command ≡ command_of row
    → BeginsOne old new (λ text. (b : State) × Obeys s number command a b text) → BeginsOne old new (λ text. (b : State) × ObeysRow s number row a b text)
by-row s number row command a old new e h = subst (λ (c : Command). BeginsOne old new (λ text. (b : State) × Obeys s number c a b text)) e h

pub records-init : goal.records-init
records-init g c = record { open_still = c.requires.is_open; in_step = c.requires.in_step; late = omega (arith, c.requires.opening); led = led-start (ObeysRow c.args.settings.now) _ _; so_far = written-start (ObeysRow c.args.settings.now) _ _ _ }

pub records-preserved : goal.records-preserved
records-preserved g c =
    let told = c.in_ok-obey.ensures.obeys in
    let by_row = of-row c.args.settings.now _ _ _ _ _ _ c.read_command.ensures.value told.2 in
    record {
      open_still = c.in_ok-next_row.ensures.goes_on c.if-not-branch.false;
      in_step = c.in_ok-obey.ensures.in_step;
      late = c.in_ok-obey.ensures.late;
      led = led-more (ObeysRow c.args.settings.now) _ _ _ _ _ _ _ _ _ c.records.invariant.led (c.in_ok-next_row.ensures.row c.if-not-branch.false) by_row;
      so_far = written-more (ObeysRow c.args.settings.now) _ _ _ _ _ _ _ _ _ _ _ _ c.records.invariant.so_far (c.in_ok-next_row.ensures.row c.if-not-branch.false) told.1 by_row;
    }

pub obey-requires-clause-early : goal.obey-requires-clause-early
obey-requires-clause-early g c = omega (arith, c.records.invariant.late)

pub returns-then-not-branch-clause-ended : goal.returns-then-not-branch-clause-ended
returns-then-not-branch-clause-ended g c =
    written-ended (ObeysRow c.args.settings.now) _ _ _ _ _ _ _ c.records.invariant.so_far (c.in_ok-next_row.ensures.end c.if-not-branch.true) (omega arith)

pub returns-then-branch-clause-ended : goal.returns-then-branch-clause-ended
returns-then-branch-clause-ended g c =
    written-over (ObeysRow c.args.settings.now) _ _ _ _ _ _ _ _ _ c.records.invariant.so_far (c.in_ok-next_row-2.ensures.row c.if-branch.true) (omega arith)

pub returns-else-branch-clause-ended : goal.returns-else-branch-clause-ended
returns-else-branch-clause-ended g c =
    written-ended (ObeysRow c.args.settings.now) _ _ _ _ _ _ _ c.records.invariant.so_far (c.in_ok-next_row-2.ensures.end c.if-branch.false) (omega arith)

pub returns-in_err-next_row-clause-begun : goal.returns-in_err-next_row-clause-begun
returns-in_err-next_row-clause-begun g c = on-err _ _ (stopped-between (ObeysRow c.args.settings.now) _ _ _ _ _ _ _ c.records.invariant.so_far (omega arith))

pub returns-in_err-obey-clause-begun : goal.returns-in_err-obey-clause-begun
returns-in_err-obey-clause-begun g c =
    on-err _ _ (stopped-in (ObeysRow c.args.settings.now) _ _ _ _ _ _ _ _ _ _ c.records.invariant.so_far (c.in_ok-next_row.ensures.row c.if-not-branch.false)
    (by-row c.args.settings.now _ _ _ _ _ _ c.read_command.ensures.value c.in_err-obey.ensures.begun) (omega arith))

pub returns-in_err-next_row-2-clause-begun : goal.returns-in_err-next_row-2-clause-begun
returns-in_err-next_row-2-clause-begun g c = on-err _ _ (stopped-between (ObeysRow c.args.settings.now) _ _ _ _ _ _ _ c.records.invariant.so_far (omega arith))

pub returns-in_err-obey-clause-fault : goal.returns-in_err-obey-clause-fault
returns-in_err-obey-clause-fault g c =
    handed-on c.from_residual-in_err-obey.result c.in_err-obey.field-0.0 _ c.from_residual-in_err-obey.ensures.1
    (play-fault _ _ c.in_err-obey.field-0.0 (met-at c.args.settings.now g.E.Engine.MAY_BE_STRANGE _ _ _ _ _ _ _ _ _ c.records.invariant.led (c.in_ok-next_row.ensures.row c.if-not-branch.false) c.read_command.ensures.value (omega arith)) c.in_err-obey.ensures.fault)
