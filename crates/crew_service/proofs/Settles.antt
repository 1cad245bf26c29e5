-- What a settle does, step by step.
use Rattle.std.proofs.Common.{◌≡◌, ◌<◌, ◌++◌, ◌∷◌, [], ◌∙◌, ℕ, List, Result, Ok, Err, OnErr, OnOk, length, sym, ap, subst}
use mathlib.Core.List.{IsPrefix}
use Rattle.boxcar.specs.Table.{Where}
use Rattle.crew_flights.specs.declared.entries.Entry.{Entry}
use Rattle.crew_board.specs.crew_machine.Rounds.{last_number}
use Rattle.crew_pairing.specs.Duties.{HasTooMany}
use Rattle.crew_service.specs.Next.{IsNextOver}
use Rattle.crew_service.proofs.Plans.{length-entries}
use Rattle.crew_service.specs.Faults.{IsSettleFault}
use Rattle.crew_service.specs.Machinery.Kept.{HasRead, HasShown}
use Rattle.crew_service.specs.Machinery.Rounds.{IsRoundFault}
use Rattle.crew_service.specs.Plans.{AreBelow, HasPublishedNothing, HasSettled, Planning, entries_of}
use Rattle.crew_service.specs.declared.fault.SettleFault.{SettleFault}
use Rattle.crew_service.specs.declared.fault.SettleFault.TheVariants as Settle
use Rattle.crew_board.specs.crew_version.Versions.{Snapshot, timetable_of}

pub on-ok : {T E A B : Type 0} (r : Result T E) → OnOk r A → (A → B) → OnOk r B
on-ok (Ok t) a f = f a
on-ok (Err e) a f = tt

pub on-err : {T E A B : Type 0} (r : Result T E) → OnErr r A → (A → B) → OnErr r B
on-err (Ok t) a f = tt
on-err (Err e) a f = f a

module _ (old mid : Planning) (wanted : List (Where Entry)) (read : HasRead old mid) (passed : AreBelow (length mid.receipts) wanted) where
  -- all is read, and no version is made
  pub refused : (fault : SettleFault) → IsRoundFault mid.version (entries_of mid.receipts) fault → IsSettleFault old wanted mid fault
  refused (Settle.Gap place) h = absurd h
  refused Settle.LastVersion h = (record { read = passed; version = read.version }, ap (λ (v : Snapshot). v.number) (sym read.version) ∙ h)
  refused Settle.TooManyDuties h = (
    record { read = passed; version = read.version },
    subst (λ (v : Snapshot). v.number < last_number) read.version h.0,
    subst (λ (v : Snapshot). HasTooMany v.settings (timetable_of (entries_of mid.receipts))) read.version h.1,
  )
  refused Settle.Memory h = tt

  module _ (v : Snapshot) (next : IsNextOver mid.version (entries_of mid.receipts) v) where
    after : IsNextOver old.version (entries_of mid.receipts) v
    after = subst (λ (w : Snapshot). IsNextOver w (entries_of mid.receipts) v) read.version next

    -- the version is made and published
    pub settled : (new : Planning) → HasShown mid v new → HasSettled old wanted new
    settled new h = record {
      log = h.log ∙ read.log;
      read = subst (IsPrefix old.receipts) (sym h.receipts) read.read;
      next = subst (λ (w : Snapshot). IsNextOver old.version (entries_of new.receipts) w) (sym h.version) (subst (λ (rs : List (Where Entry)). IsNextOver old.version (entries_of rs) v) (sym h.receipts) after);
      covers = subst (λ (n : ℕ). AreBelow n wanted) (sym (ap (λ (w : Snapshot). length w.entries) h.version ∙ (ap length next.over ∙ length-entries mid.receipts))) passed;
      shown = h.shown ∙ (ap (λ (list : List Snapshot). list ++ v ∷ []) read.shown ∙ ap (λ (w : Snapshot). old.published ++ w ∷ []) (sym h.version));
    }

  -- all is read, and no version is published
  pub unpublished : (new : Planning) → new ≡ mid → HasPublishedNothing old new
  unpublished new e = subst (HasPublishedNothing old) (sym e) (record {
    log = read.log;
    read = read.read;
    version = read.version;
    shown = read.shown;
  })
