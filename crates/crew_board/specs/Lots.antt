-- What the calls of a board for lots do: for each job of the lot the step that the call of one job is,
-- one after another.
use Rattle.std.specs.Prelude.{◌≡◌, ◌+◌, ◌<◌, ◌≤◌, ℕ, Bool, true, false, List, [], ◌∷◌, length}
use Rattle.crew_board.specs.Boards.{IsBoardOf, ShownBoard}
use Rattle.crew_board.specs.Calls.{HasBrought, HasGivenBack, HasHandedOut}
use Rattle.crew_board.specs.declared.tally.Tally.{Tally}
use Rattle.crew_job.specs.Jobs.{IsJobOf, Job}
use Rattle.crew_machine.specs.Crew.{CrewBoard, DutyWork, Entries, IsLocalOf, crew}
use Rattle.crew_machine.specs.Rounds.{NoneReady}
use Rattle.crew_machine.specs.declared.rounds.Brought.{Brought}
use Rattle.crew_machine.specs.declared.rounds.Brought.TheVariants.{Stale, Again, Stored}

-- ---- claim

-- the jobs are handed out in order, each that of the least node that is ready then
abbrev pub HandsOutEach : ShownBoard → CrewBoard → List Job → ShownBoard → CrewBoard → Type 0
HandsOutEach old b [] new after = (new ≡ old) × (after ≡ b)
HandsOutEach old b (job ∷ jobs) new after = (mid : ShownBoard) × (step : HasHandedOut old b job mid)
    × HandsOutEach mid step.after jobs new after

-- claim a lot: no more than so many jobs are handed out, and at least one where one is asked for and
-- a node is ready
pub record HasClaimedLot (old : ShownBoard) (b : CrewBoard) (most : ℕ) (lot : List Job)
    (new : ShownBoard) : Type 0 where
  pub after : CrewBoard
  pub each : HandsOutEach old b lot new after
  pub shows : IsBoardOf new after
  pub few : length lot ≤ most
  pub some : lot ≡ [] → 0 < most → NoneReady (crew old.sealed.settings) b

-- ---- bring

-- the works that jobs stand for, in order, each with what is local to it
abbrev pub AreResultsOf : List Job → List (DutyWork × Entries) → Type 0
AreResultsOf [] [] = Unit {0}
AreResultsOf [] (result ∷ results) = ⊥
AreResultsOf (job ∷ jobs) [] = ⊥
AreResultsOf (job ∷ jobs) (result ∷ results) = IsJobOf job result.0 × IsLocalOf result.0 result.1
    × AreResultsOf jobs results

-- the results are taken in, in order
abbrev pub BringsEach : ShownBoard → CrewBoard → List (DutyWork × Entries) → List Brought
    → ShownBoard → CrewBoard → Type 0
BringsEach old b [] [] new after = (new ≡ old) × (after ≡ b)
BringsEach old b [] (brought ∷ others) new after = ⊥
BringsEach old b (result ∷ results) [] new after = ⊥
BringsEach old b (result ∷ results) (brought ∷ others) new after = (mid : ShownBoard)
    × (step : HasBrought old b result.0 result.1 brought mid)
    × BringsEach mid step.after results others new after

-- how many results were stored, were there before, and were no node's own
abbrev pub counted : Brought → Tally → Tally
counted Stored t = record { stored = t.stored + 1; again = t.again; stale = t.stale }
counted Again t = record { stored = t.stored; again = t.again + 1; stale = t.stale }
counted Stale t = record { stored = t.stored; again = t.again; stale = t.stale + 1 }

abbrev pub tally_of : List Brought → Tally
tally_of [] = record { stored = 0; again = 0; stale = 0 }
tally_of (brought ∷ others) = counted brought (tally_of others)

-- bring a lot: what becomes of its results
pub record HasBroughtLot (old : ShownBoard) (b : CrewBoard) (results : List (DutyWork × Entries))
    (tally : Tally) (new : ShownBoard) : Type 0 where
  pub after : CrewBoard
  pub brought : List Brought
  pub each : BringsEach old b results brought new after
  pub shows : IsBoardOf new after
  pub counts : tally ≡ tally_of brought

-- ---- give back

-- the works that jobs stand for, in order
abbrev pub AreWorksOf : List Job → List DutyWork → Type 0
AreWorksOf [] [] = Unit {0}
AreWorksOf [] (work ∷ works) = ⊥
AreWorksOf (job ∷ jobs) [] = ⊥
AreWorksOf (job ∷ jobs) (work ∷ works) = IsJobOf job work × AreWorksOf jobs works

-- the jobs are taken back, in order
abbrev pub GivesBackEach : ShownBoard → CrewBoard → List DutyWork → List Bool → ShownBoard
    → CrewBoard → Type 0
GivesBackEach old b [] [] new after = (new ≡ old) × (after ≡ b)
GivesBackEach old b [] (freed ∷ others) new after = ⊥
GivesBackEach old b (work ∷ works) [] new after = ⊥
GivesBackEach old b (work ∷ works) (freed ∷ others) new after = (mid : ShownBoard)
    × (step : HasGivenBack old b work freed mid) × GivesBackEach mid step.after works others new after

-- how many of them wait again
abbrev pub freed_of : List Bool → ℕ
freed_of [] = 0
freed_of (true ∷ others) = freed_of others + 1
freed_of (false ∷ others) = freed_of others

-- give a lot back: how many of its nodes wait again
pub record HasGivenBackLot (old : ShownBoard) (b : CrewBoard) (works : List DutyWork) (count : ℕ)
    (new : ShownBoard) : Type 0 where
  pub after : CrewBoard
  pub freed : List Bool
  pub each : GivesBackEach old b works freed new after
  pub shows : IsBoardOf new after
  pub counts : count ≡ freed_of freed
