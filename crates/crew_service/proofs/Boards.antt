-- What a board's calls tell a planner.
use Rattle.std.proofs.Common.{◌≡◌, ◌<◌, ◌∙◌, List, Some, None, sym, ap, subst}
use Rattle.std.specs.Option.{option_map}
use mathlib.Core.List.{IsPrefix}
use Rattle.crew_board.specs.Boards.{IsBoardOf, ShownBoard, ShownRound, shown_round}
use Rattle.crew_board.specs.Calls.{IsBeginFault}
use Rattle.crew_board.specs.declared.fault.BeginFault.{BeginFault}
use Rattle.crew_board.specs.declared.fault.BeginFault.TheVariants.{Busy, Ground}
use Rattle.crew_flights.specs.declared.entries.Entry.{Entry}
use Rattle.crew_board.specs.crew_job.declared.fault.GroundFault.TheVariants as NoGround
use Rattle.crew_board.specs.crew_machine.Crew.{CrewBoard}
use Rattle.crew_board.specs.crew_machine.Rounds.{last_number}
use Rattle.crew_service.specs.Machinery.Rounds.{IsRoundFault, fault_of}
use Rattle.crew_service.specs.declared.fault.SettleFault.{SettleFault}
use Rattle.crew_service.specs.declared.fault.SettleFault.TheVariants as Settle
use Rattle.crew_board.specs.crew_version.Versions.{Snapshot}

some-same : {A : Type 0} (x y : A) → Some x ≡ Some y → x ≡ y
some-same x y e = cc

no-some : {A : Type 0} (x : A) → Some x ≡ None → ⊥
no-some x e = absurd cc

-- a board without a round isn't busy
pub not-busy : (old : ShownBoard) (b : CrewBoard) (entries : List Entry) → old.round ≡ None → IsBoardOf old b → IsBeginFault old b entries Busy → ⊥
not-busy old b entries none is h = no-some (shown_round h.0) (sym (ap (option_map shown_round) h.1) ∙ (ap (λ (z : ShownBoard). z.round) is.shows ∙ none))

-- entries that begin with the sealed version's aren't too few
pub not-shorter : (old : ShownBoard) (b : CrewBoard) (entries : List Entry) → IsPrefix old.sealed.entries entries → IsBoardOf old b → IsBeginFault old b entries (Ground NoGround.ShorterLog) → ⊥
not-shorter old b entries begins is h = h.shorter (subst (λ (es : List Entry). IsPrefix es entries) (sym (ap (λ (z : ShownBoard). z.sealed.entries) is.shows)) begins)

-- what a refusal tells
pub refused : (old : ShownBoard) (b : CrewBoard) (entries : List Entry) (fault : BeginFault) (told : SettleFault) → IsBoardOf old b → IsBeginFault old b entries fault → fault_of fault ≡ Some told → IsRoundFault old.sealed entries told
refused old b entries Busy told is h e = absurd (no-some told (sym e))
refused old b entries (Ground NoGround.ShorterLog) told is h e = absurd (no-some told (sym e))
refused old b entries (Ground NoGround.LastVersion) told is h e =
    subst (IsRoundFault old.sealed entries) (some-same Settle.LastVersion told e) (sym (ap (λ (z : ShownBoard). z.sealed.number) is.shows) ∙ h.is_last)
refused old b entries (Ground NoGround.TooManyDuties) told is h e =
    subst (IsRoundFault old.sealed entries) (some-same Settle.TooManyDuties told e) (subst (λ n. n < last_number) (ap (λ (z : ShownBoard). z.sealed.number) is.shows) h.number_left, h.too_large)
refused old b entries (Ground NoGround.Memory) told is h e = subst (IsRoundFault old.sealed entries) (some-same Settle.Memory told e) tt
