-- What each call of a board does: a step of the machine's board for which it stands.
use Rattle.std.specs.Prelude.{◌≡◌, ◌<◌, ℕ, Bool, List, Option, Some, None, slice_get}
use mathlib.Core.List.{IsPrefix}
use Rattle.crew_board.specs.Boards.{IsBoardOf, ShownBoard, shown_version}
use Rattle.crew_board.specs.declared.fault.BeginFault.{BeginFault}
use Rattle.crew_board.specs.declared.fault.BeginFault.TheVariants.{Busy, Ground}
use Rattle.crew_board.specs.declared.fault.SealFault.{SealFault}
use Rattle.crew_board.specs.declared.fault.SealFault.TheVariants as Seal
use Rattle.crew_flights.specs.declared.entries.Entry.{Entry}
use Rattle.crew_job.specs.Grounds.{ground_number}
use Rattle.crew_job.specs.Jobs.{IsJobOf, Job}
use Rattle.crew_job.specs.declared.fault.GroundFault.TheVariants as NoGround
use Rattle.crew_machine.specs.Choices.{BringsAll, ClaimsLeast}
use Rattle.crew_machine.specs.Crew.{CrewBoard, CrewRound, CrewVersion, DutyNode, DutyWork, Entries, crew}
use Rattle.crew_machine.specs.Rounds.{Abandons, ComesToTooMany, GivesBack, HasNoNumber, IsBusy, IsFirstUndone, IsShorter, IsUndone, NoneReady, Opens, Seals, last_number}
use Rattle.crew_machine.specs.declared.rounds.Brought.{Brought}
use Rattle.crew_machine.specs.declared.rounds.Cell.{Cell}
use Rattle.crew_job.specs.crew_version.Versions.{Snapshot}

-- begin: a round is open over these entries
pub record HasBegun (old : ShownBoard) (b : CrewBoard) (entries : List Entry) (new : ShownBoard) :
    Type 0 where
  pub after : CrewBoard
  pub opens : Opens (crew old.sealed.settings) b entries after
  pub shows : IsBoardOf new after

-- none is open, the entries begin with the sealed version's, and there is a number after its
pub record MayBegin (b : CrewBoard) (entries : List Entry) : Type 0 where
  pub none_open : b.round ≡ None
  pub begins : IsPrefix b.sealed.entries entries
  pub number_left : b.sealed.number < last_number

-- .. or why it isn't, the first that applies; want of memory, which no step tells, only where no
-- other cause is found before
abbrev pub IsBeginFault : ShownBoard → CrewBoard → List Entry → BeginFault → Type 0
IsBeginFault old b entries Busy = IsBusy (crew old.sealed.settings) b
IsBeginFault old b entries (Ground NoGround.ShorterLog) = IsShorter (crew old.sealed.settings) b
    entries
IsBeginFault old b entries (Ground NoGround.LastVersion) = HasNoNumber (crew old.sealed.settings) b
    entries
IsBeginFault old b entries (Ground NoGround.TooManyDuties) =
    ComesToTooMany (crew old.sealed.settings) b entries
IsBeginFault old b entries (Ground NoGround.Memory) = MayBegin b entries

-- claim: the least ready node is out, and its job is handed out
pub record HasHandedOut (old : ShownBoard) (b : CrewBoard) (job : Job) (new : ShownBoard) : Type
    0 where
  pub work : DutyWork
  pub of_job : IsJobOf job work
  pub after : CrewBoard
  pub claims : ClaimsLeast (crew old.sealed.settings) b work after
  pub shows : IsBoardOf new after

-- .. or no node is ready
abbrev pub HasClaimed : ShownBoard → CrewBoard → Option Job → ShownBoard → Type 0
HasClaimed old b None new = NoneReady (crew old.sealed.settings) b × (new ≡ old)
HasClaimed old b (Some job) new = HasHandedOut old b job new

-- bring: what becomes of a result, judged by what its job stands for
pub record HasBrought (old : ShownBoard) (b : CrewBoard) (work : DutyWork) (front : Entries)
    (brought : Brought) (new : ShownBoard) : Type 0 where
  pub after : CrewBoard
  pub brings : BringsAll (crew old.sealed.settings) b work front brought after
  pub shows : IsBoardOf new after

-- give back: exactly where the node is out and the job is its own now it waits again
pub record HasGivenBack (old : ShownBoard) (b : CrewBoard) (work : DutyWork) (freed : Bool)
    (new : ShownBoard) : Type 0 where
  pub after : CrewBoard
  pub gives_back : GivesBack (crew old.sealed.settings) b work freed after
  pub shows : IsBoardOf new after

-- abandon: whether a round was open; none is
pub record HasAbandoned (old : ShownBoard) (b : CrewBoard) (was_open : Bool) (new : ShownBoard) :
    Type 0 where
  pub after : CrewBoard
  pub abandons : Abandons (crew old.sealed.settings) b was_open after
  pub shows : IsBoardOf new after

-- seal: all nodes are done, and this is the version
pub record HasSealed (old : ShownBoard) (b : CrewBoard) (sealed : Snapshot) (new : ShownBoard) :
    Type 0 where
  pub version : CrewVersion
  pub version_shows : shown_version old.sealed.settings version ≡ sealed
  pub after : CrewBoard
  pub seals : Seals (crew old.sealed.settings) b version after
  pub shows : IsBoardOf new after

-- a round is open, and all its nodes are done
pub record HasAllDone (b : CrewBoard) : Type 0 where
  pub round : CrewRound
  pub is_open : b.round ≡ Some round
  pub done : (place : ℕ) (n : DutyNode) (c : Cell Entries)
      → slice_get round.cells place ≡ Some (n, c) → IsUndone c → ⊥

-- .. or why it isn't, want of memory only where it might have been: the node is the least that isn't done
abbrev pub IsSealFault : ShownBoard → CrewBoard → SealFault → Type 0
IsSealFault old b Seal.NoRound = b.round ≡ None
IsSealFault old b (Seal.NotDone node) = (n : DutyNode)
    × IsFirstUndone (crew old.sealed.settings) b n
    × (node ≡ record { base = n.base; key = n.duty.key })
IsSealFault old b Seal.Memory = HasAllDone b

-- the numbers of refusals
abbrev pub begin_number : BeginFault → Option ℕ
begin_number Busy = Some 50
begin_number (Ground fault) = ground_number fault

abbrev pub seal_number : SealFault → Option ℕ
seal_number Seal.NoRound = Some 53
seal_number (Seal.NotDone node) = Some 52
seal_number Seal.Memory = None
