-- A job that can be handed out is a step.
use Rattle.std.proofs.Common.{◌≡◌, ℕ, [], ◌∷◌, ◌++◌, length, slice_set, Some, refl}
use Rattle.std.specs.List.{slice_get}
use Rattle.crew_machine.specs.Crew.{CrewRound, CrewState, DutyWork, crew, timetable_of}
use Rattle.crew_machine.specs.Rounds.{Claims, IsDone, IsReady, with_cells}
use Rattle.crew_machine.specs.Steps.{Claim, Claimed, HandsOut, Step}
use Rattle.crew_machine.specs.Worlds.{IsWorkOf}
use Rattle.crew_machine.specs.declared.rounds.Cell.TheVariants.{Waiting, Out}
use Rattle.crew_rules.specs.declared.settings.Settings.{Settings}

pub claim-step : (s : Settings) (state : CrewState) (round : CrewRound) (place : ℕ) (job : DutyWork) → state.board.round ≡ Some round → IsReady (crew s) (timetable_of round.entries) round.cells place job.node
    → slice_get round.cells place ≡ Some (job.node, Waiting) → IsWorkOf (crew s) (timetable_of round.entries) (IsDone (crew s) round.cells) job
    → (number : ℕ) × (handed : DutyWork) × (next : CrewState) × Step (crew s) state Claim (Claimed number handed) next
claim-step s state round place job is ready at work =
    let board = with_cells (crew s) state.board round (slice_set round.cells place (job.node, Out)) in
    let claims : Claims (crew s) state.board job board = record { round = round; is_open = is; place = place; ready = ready; own = (at, work); after = refl } in
    let next : CrewState = record { log = state.log; board = board; jobs = state.jobs ++ job ∷ []; published = state.published; seen = state.seen } in
    let out : HandsOut (crew s) state job next = record { board = board; claims = claims; after = refl } in
    (length state.jobs, job, next, (refl, out))
