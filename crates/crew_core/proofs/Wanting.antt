-- What holds where memory is wanted.
use Rattle.std.proofs.Common.{◌≡◌, ◌∙◌, ◌<◌, ◌↔◌, ℕ, Bool, false, IsTrue, List, Option, Some, None, Result, Ok, Err, OnErr, length, refl, sym, ap, subst}
use Rattle.std.proofs.lemmas.Option.{slice_get-map}
use Rattle.std.specs.List.{slice_get}
use Rattle.std.specs.Option.{option_map}
use Rattle.crew_board.specs.Boards.{ShownBoard, ShownRound, shown_round}
use Rattle.crew_board.specs.Calls.{HasAllDone, MayBegin}
use Rattle.crew_board.specs.Cells.{CrewCells, mark_of, marks_of}
use Rattle.crew_core.proofs.Kept.{sealed-shows}
use Rattle.crew_core.proofs.Stepped.{is-published, no-more}
use Rattle.crew_core.specs.Machines.{IsMachineOf, ShownMachine}
use Rattle.crew_core.specs.Memory.{MayClose, MayOpen, MayPublish}
use Rattle.crew_machine.proofs.Cells.{Some-same}
use Rattle.crew_machine.specs.Crew.{CrewState, DutyNode, Entries}
use Rattle.crew_machine.specs.Rounds.{IsUndone, last_number}
use Rattle.crew_machine.specs.Steps.{last_of}
use Rattle.crew_machine.specs.declared.rounds.Cell.{Cell}
use Rattle.crew_machine.specs.declared.rounds.Cell.TheVariants.{Waiting, Out, Done}
use Rattle.crew_board.specs.crew_round.declared.mark.Mark.{Mark}
use Rattle.crew_board.specs.crew_round.declared.mark.Mark.TheVariants as Marked
use Rattle.crew_board.specs.crew_version.Versions.{Snapshot}

-- where memory is wanted
pub err-told : {T E : Type 0} (P : Type 0) (result : Result T E) → P → OnErr result P
err-told P (Ok t) h = tt
err-told P (Err e) h = h

pub err-to : {T E : Type 0} (P Q : Type 0) (result : Result T E) → (P → Q) → OnErr result P → OnErr result Q
err-to P Q (Ok t) more h = tt
err-to P Q (Err e) more h = more h

-- ---- a round, all nodes of which are done

mark-done : (c : Cell Entries) → (IsUndone c → ⊥) → mark_of c ≡ Marked.Done
mark-done Waiting none = absurd (none tt)
mark-done Out none = absurd (none tt)
mark-done (Done front) none = refl

item-done : (o : Option (DutyNode × Cell Entries)) (mark : Mark) → ((n : DutyNode) (c : Cell Entries) → o ≡ Some (n, c) → IsUndone c → ⊥) → option_map (λ (c : DutyNode × Cell Entries). mark_of c.1) o ≡ Some mark → mark ≡ Marked.Done
item-done None mark done e = absurd (let b : ⊥ = (cc) in b)
item-done (Some item) mark done e = sym (Some-same (mark_of item.1) mark e) ∙ mark-done item.1 (done item.0 item.1 refl)

all-marked : (cells : CrewCells) → ((place : ℕ) (n : DutyNode) (c : Cell Entries) → slice_get cells place ≡ Some (n, c) → IsUndone c → ⊥) → (place : ℕ) (mark : Mark) → slice_get (marks_of cells) place ≡ Some mark → mark ≡ Marked.Done
all-marked cells done place mark at = item-done (slice_get cells place) mark (done place) (sym (slice_get-map (λ (c : DutyNode × Cell Entries). mark_of c.1) cells place) ∙ at)

-- ---- from what the board says of its state to what is shown

module _ (old : ShownMachine) (state : CrewState) (is : IsMachineOf old state) where
  pub may-open : MayBegin state.board old.log → MayOpen old.board
  may-open h = record {
    none_open = sym (ap (λ (z : ShownBoard). z.round) is.board.shows) ∙ ap (option_map shown_round) h.none_open;
    number_left = subst (λ n. n < last_number) (ap (λ (z : Snapshot). z.number) (sealed-shows old state is)) h.number_left;
  }

  pub may-close : HasAllDone state.board → MayClose old.board
  may-close h = record {
    round = shown_round h.round;
    is_open = sym (ap (λ (z : ShownBoard). z.round) is.board.shows) ∙ ap (option_map shown_round) h.is_open;
    done = all-marked h.round.cells h.done;
  }

  pub may-publish : (b : Bool) → IsTrue b ↔ (last_of state.published ≡ Some state.board.sealed) → b ≡ false → MayPublish old
  may-publish b told off last = no-more b (told.1 ((is-published old state is old.board.sealed last).0 refl)) off
