-- From what a call does to a round to what it does to the machine's board.
use Rattle.std.proofs.Common.{◌≡◌, ◌<◌, ◌∙◌, ℕ, Bool, true, false, List, Option, Some, None, Result, Ok, Err, IfErr, IfOk, OnErr, refl, sym, ap, subst, arith}
use Rattle.std.specs.Option.{is_some, option_map}
use Rattle.std.specs.Result.{IsErrAnd}
use mathlib.Core.List.{IsPrefix}
use Rattle.crew_board.proofs.Begins.{marked-begun, opened-after}
use Rattle.crew_board.proofs.Cells.{ready-in}
use Rattle.crew_board.proofs.Existence.{some-idle, some-open}
use Rattle.crew_board.proofs.Keeping.{marked-with, stored-over}
use Rattle.crew_board.proofs.Reuse.{round_of}
use Rattle.crew_board.proofs.Seals.{all-done, first-undone, sealed}
use Rattle.crew_board.proofs.Steps.{again-step, cells-over, closed, freed, handed, kept, none-ready, not-freed, open_board, opened, stale-step}
use Rattle.crew_board.proofs.Works.{one-work-of}
use Rattle.crew_board.specs.Boards.{IsBoardOf, ShownBoard, ShownRound, shown_board, shown_round, shown_version}
use Rattle.crew_board.specs.Calls as Calls
use Rattle.crew_board.specs.Calls.{IsBeginFault}
use Rattle.crew_board.specs.Machinery.Held.{IsBegun, IsMarkedOver, Marked}
use Rattle.crew_board.specs.Machinery.Settled.{IsRoundOver, IsSettled, board_of}
use Rattle.crew_board.specs.Machinery.Turns.{HasBrought, HasClaimed, HasGivenBack, IsFirstNode, with_marks}
use Rattle.crew_board.specs.declared.fault.BeginFault.TheVariants as Begin
use Rattle.crew_board.specs.declared.fault.SealFault.TheVariants as Seal
use Rattle.crew_flights.specs.declared.entries.Entry.{Entry}
use Rattle.crew_job.specs.Grounds.{IsGround, IsGroundFault, data_of}
use Rattle.crew_job.specs.Jobs.{IsJobOf, IsPlaced, Job}
use Rattle.crew_job.specs.declared.fault.GroundFault.{GroundFault}
use Rattle.crew_job.specs.declared.fault.GroundFault.TheVariants as Ground
use Rattle.crew_machine.proofs.Boards.{standing_idle}
use Rattle.crew_machine.proofs.CrewLaws.{crew-laws}
use Rattle.crew_machine.specs.Choices.{BringsAll, ClaimsLeast}
use Rattle.crew_machine.specs.Crew.{CrewBoard, CrewRound, DutyWork, Entries, IsLocalOf, crew}
use Rattle.crew_machine.specs.Machinery.Sound.{IsStanding}
use Rattle.crew_machine.specs.Rounds.{GivesBack, IsFirstUndone, IsUndone, NoneReady, Opens, Seals, last_number}
use Rattle.crew_machine.specs.declared.rounds.Brought.{Brought}
use Rattle.crew_machine.specs.declared.rounds.Brought.TheVariants.{Stale, Again, Stored}
use Rattle.crew_machine.specs.declared.rounds.Cell.{Cell}
use Rattle.crew_net.specs.declared.node.Node.{Node}
use Rattle.crew_round.specs.Marks as Marks
use Rattle.crew_round.specs.Marks.{AllDone}
use Rattle.crew_round.specs.declared.mark.Mark.TheVariants as MarkedAs
use Rattle.crew_rules.specs.Settings.{IsChecked}
use Rattle.crew_rules.specs.declared.settings.Settings.{Settings}
use Rattle.crew_job.specs.crew_version.Versions.{IsRight, Snapshot}

-- ---- with a round open

module _ (r : Marked) (over : IsMarkedOver r) where
  -- what holds under the round's settings holds under the version's
  under : (P : Settings → Type 0) → P r.ground.settings → P r.ground.sealed.settings
  under P h = subst P over.ground.settings h

  claimed-here : (claimed : Option Job) (new : Marked) → HasClaimed r claimed new → (b : CrewBoard) → IsBoardOf (open_board r) b → Calls.HasClaimed (open_board r) b claimed (board_of r.ground.sealed (Some new))
  claimed-here None new c b is = (under (λ z. NoneReady (crew z) b) (none-ready r over b (opened r over b is) c.0), ap (λ (z : Marked). board_of r.ground.sealed (Some z)) c.1)
  claimed-here (Some job) new c b is =
      let h = handed r over b (opened r over b is) job new c in
      record {
        work = h.work;
        of_job = h.of_job;
        after = h.after;
        claims = under (λ z. ClaimsLeast (crew z) b h.work h.after) h.claims;
        shows = subst (λ (v : Snapshot). IsBoardOf (board_of v (Some new)) h.after) (ap (λ (z : Marked). z.ground.sealed) c.after) h.shows;
      }

  ready-here : (place : ℕ) → Marks.IsReady r.marks place → (b : CrewBoard) → IsBoardOf (open_board r) b → NoneReady (crew r.ground.sealed.settings) b → ⊥
  ready-here place ready b is =
      let o = opened r over b is in
      let s = r.ground.settings in
      let h = ready-in s (data_of r.ground) r.marks o.cells (cells-over r over b o).marked place ready in
      let all : NoneReady (crew s) b → ⊥ = λ none. none (round_of r.ground.entries o.cells) place h.0 o.is h.1 in
      under (λ z. NoneReady (crew z) b → ⊥) all

  brought-here : (job : Job) → IsGround job.ground → (brought : Brought) (new : Marked) → HasBrought r job brought new → (b : CrewBoard) (work : DutyWork) (front : Entries) → IsBoardOf (open_board r) b → IsJobOf job work → IsLocalOf work front
      → Calls.HasBrought (open_board r) b work front brought (board_of r.ground.sealed (Some new))
  brought-here job ground Stale new h b work front is of-job local = record {
    after = b;
    brings = under (λ z. BringsAll (crew z) b work front Stale b) (stale-step r over b (opened r over b is) job work of-job (one-work-of job ground) h.0 front);
    shows = subst (λ (z : Marked). IsBoardOf (board_of r.ground.sealed (Some z)) b) (sym h.1) is;
  }
  brought-here job ground Again new h b work front is of-job local = record {
    after = b;
    brings = under (λ z. BringsAll (crew z) b work front Again b) (again-step r over b (opened r over b is) job work of-job h.0 h.1 h.2 front);
    shows = subst (λ (z : Marked). IsBoardOf (board_of r.ground.sealed (Some z)) b) (sym h.3) is;
  }
  brought-here job ground Stored new st b work front is of-job local =
      let o = opened r over b is in
      let k = kept r over b o job work of-job front local new st in
      let standing = subst (λ (z : CrewBoard). IsStanding (crew r.ground.settings) z) k.made k.standing in
      let shows = closed r over b o k.end st.marks standing k.over_end.marked.marks_are in
      let after = subst (λ (z : CrewBoard). IsBoardOf (open_board (with_marks r st.marks)) z) (sym k.made) shows in
      record {
        after = k.after;
        brings = under (λ z. BringsAll (crew z) b work front Stored k.after) k.stores;
        shows = subst (λ (z : Marked). IsBoardOf (board_of r.ground.sealed (Some z)) k.after) (sym st.after) after;
      }

  given-back-here : (job : Job) → IsGround job.ground → (given : Bool) (new : Marked) → HasGivenBack r job given new → (b : CrewBoard) (work : DutyWork) → IsBoardOf (open_board r) b → IsJobOf job work
      → Calls.HasGivenBack (open_board r) b work given (board_of r.ground.sealed (Some new))
  given-back-here job ground true new h b work is of-job =
      let f = freed r over b (opened r over b is) job work of-job h.0 h.1 h.2 in
      record {
        after = f.0;
        gives_back = under (λ z. GivesBack (crew z) b work true f.0) f.1;
        shows = subst (λ (z : Marked). IsBoardOf (board_of r.ground.sealed (Some z)) f.0) (sym h.3) f.2;
      }
  given-back-here job ground false new h b work is of-job = record {
    after = b;
    gives_back = under (λ z. GivesBack (crew z) b work false b) (not-freed r over b (opened r over b is) job work of-job (one-work-of job ground) h.0);
    shows = subst (λ (z : Marked). IsBoardOf (board_of r.ground.sealed (Some z)) b) (sym h.1) is;
  }

  sealed-here : AllDone r.marks → (v : Snapshot) → v.number ≡ r.ground.number → v.settings ≡ r.ground.settings → v.entries ≡ r.ground.entries → IsRight v → (b : CrewBoard) → IsBoardOf (open_board r) b → Calls.HasSealed (open_board r) b v (board_of v None)
  sealed-here all v number settings entries right b is =
      let s = sealed r over b (opened r over b is) all v number settings entries right in
      record {
        version = s.version;
        version_shows = under (λ z. shown_version z s.version ≡ v) s.version_shows;
        after = s.after;
        seals = under (λ z. Seals (crew z) b s.version s.after) s.seals;
        shows = s.shows;
      }

  undone-here : (node : Node) → IsFirstNode r node → (b : CrewBoard) → IsBoardOf (open_board r) b → Calls.IsSealFault (open_board r) b (Seal.NotDone node)
  undone-here node first b is =
      let n = first-undone r over b (opened r over b is) first.place first.first in
      (n.0, under (λ z. IsFirstUndone (crew z) b n.0) n.2, first.named n.0 n.1)

  all-here : AllDone r.marks → (b : CrewBoard) → IsBoardOf (open_board r) b → Calls.HasAllDone b
  all-here all b is =
      let o = opened r over b is in
      record {
        round = round_of r.ground.entries o.cells;
        is_open = o.is;
        done = λ place n c at u. (let d = all-done r over b o all place n c at in subst (λ (z : Cell Entries). IsUndone z) d.1 u);
      }

  abandoned-here : (b : CrewBoard) → IsBoardOf (open_board r) b → Calls.HasAbandoned (open_board r) b true (board_of r.ground.sealed None)
  abandoned-here b is =
      let o = opened r over b is in
      let after : CrewBoard = record { sealed = b.sealed; round = None } in
      let standing : IsStanding (crew r.ground.settings) after = standing_idle (crew r.ground.settings) (crew-laws r.ground.settings over.ground.checked) b.sealed o.standing.sealed o.standing.number in
      let shows : shown_board r.ground.settings after ≡ board_of r.ground.sealed None = ap (λ (z : Snapshot). board_of z None) o.shows in
      record {
        after = after;
        abandons = ((round_of r.ground.entries o.cells, o.is), refl);
        shows = record {
          right = under (λ z. IsStanding (crew z) after) standing;
          shows = under (λ z. shown_board z after ≡ board_of r.ground.sealed None) shows;
        };
      }

-- ---- what a board keeps, call by call

module _ (s : Snapshot) (r : Marked) (k : IsRoundOver s r) where
  abbrev old : ShownBoard
  old = board_of s (Some r)

  opens-same : (P : Snapshot → Type 0) → P r.ground.sealed → P s
  opens-same P h = subst P k.same h

  pub claimed : (claimed : Option Job) (new : Marked) → HasClaimed r claimed new → (b : CrewBoard) → IsBoardOf old b → Calls.HasClaimed old b claimed (board_of s (Some new))
  claimed c new h b = opens-same (λ v. IsBoardOf (board_of v (Some r)) b → Calls.HasClaimed (board_of v (Some r)) b c (board_of v (Some new))) (claimed-here r k.over c new h b)

  pub brought : (job : Job) → IsGround job.ground → (what : Brought) (new : Marked) → HasBrought r job what new → (b : CrewBoard) (work : DutyWork) (front : Entries) → IsBoardOf old b → IsJobOf job work → IsLocalOf work front → Calls.HasBrought old b work front what (board_of s (Some new))
  brought job ground what new h b work front = opens-same (λ v. IsBoardOf (board_of v (Some r)) b → IsJobOf job work → IsLocalOf work front → Calls.HasBrought (board_of v (Some r)) b work front what (board_of v (Some new))) (brought-here r k.over job ground what new h b work front)

  pub given-back : (job : Job) → IsGround job.ground → (given : Bool) (new : Marked) → HasGivenBack r job given new → (b : CrewBoard) (work : DutyWork) → IsBoardOf old b → IsJobOf job work → Calls.HasGivenBack old b work given (board_of s (Some new))
  given-back job ground given new h b work = opens-same (λ v. IsBoardOf (board_of v (Some r)) b → IsJobOf job work → Calls.HasGivenBack (board_of v (Some r)) b work given (board_of v (Some new))) (given-back-here r k.over job ground given new h b work)

  pub sealed-as : AllDone r.marks → (v : Snapshot) → v.number ≡ r.ground.number → v.settings ≡ r.ground.settings → v.entries ≡ r.ground.entries → IsRight v → (b : CrewBoard) → IsBoardOf old b → Calls.HasSealed old b v (board_of v None)
  sealed-as all v number settings entries right b = opens-same (λ z. IsBoardOf (board_of z (Some r)) b → Calls.HasSealed (board_of z (Some r)) b v (board_of v None)) (sealed-here r k.over all v number settings entries right b)

  pub not-done : (node : Node) → IsFirstNode r node → (b : CrewBoard) → IsBoardOf old b → Calls.IsSealFault old b (Seal.NotDone node)
  not-done node first b = opens-same (λ z. IsBoardOf (board_of z (Some r)) b → Calls.IsSealFault (board_of z (Some r)) b (Seal.NotDone node)) (undone-here r k.over node first b)

  pub no-memory : AllDone r.marks → (b : CrewBoard) → IsBoardOf old b → Calls.IsSealFault old b Seal.Memory
  no-memory all b = opens-same (λ z. IsBoardOf (board_of z (Some r)) b → Calls.HasAllDone b) (all-here r k.over all b)

  pub abandoned : (b : CrewBoard) → IsBoardOf old b → Calls.HasAbandoned old b true (board_of s None)
  abandoned b = opens-same (λ z. IsBoardOf (board_of z (Some r)) b → Calls.HasAbandoned (board_of z (Some r)) b true (board_of z None)) (abandoned-here r k.over b)

  -- the round stays over its version
  pub claimed-keeps : (claimed : Option Job) (new : Marked) → HasClaimed r claimed new → IsRoundOver s new
  claimed-keeps None new h = subst (IsRoundOver s) (sym h.1) k
  claimed-keeps (Some job) new h =
      let next = marked-with r k.over h.place MarkedAs.Waiting MarkedAs.Out h.first.ready.0 (λ e. (let q : ⊥ = (cc) in q)) (λ e. (let q : ⊥ = (cc) in q)) in
      subst (IsRoundOver s) (sym h.after) (record { over = next; same = k.same })

  pub given-back-keeps : (job : Job) (given : Bool) (new : Marked) → HasGivenBack r job given new → IsRoundOver s new
  given-back-keeps job false new h = subst (IsRoundOver s) (sym h.1) k
  given-back-keeps job true new h =
      let next = marked-with r k.over h.0 MarkedAs.Out MarkedAs.Waiting h.2 (λ e. (let q : ⊥ = (cc) in q)) (λ e. (let q : ⊥ = (cc) in q)) in
      subst (IsRoundOver s) (sym h.3) (record { over = next; same = k.same })

  pub claimed-answers : {E : Type 0} (result : Result (Option Job) E) (new : Marked) → IfOk result (λ c. HasClaimed r c new) → IfOk result (λ c. (b : CrewBoard) → IsBoardOf old b → Calls.HasClaimed old b c (board_of s (Some new)))
  claimed-answers (Ok c) new h = λ b. claimed c new h b
  claimed-answers (Err e) new h = tt

  pub some-ready : {T E : Type 0} (result : Result T E) → OnErr result ((place : ℕ) × Marks.IsReady r.marks place) → OnErr result ((b : CrewBoard) → IsBoardOf old b → NoneReady (crew s.settings) b → ⊥)
  some-ready (Ok c) h = tt
  some-ready (Err e) h = λ b. opens-same (λ z. IsBoardOf (board_of z (Some r)) b → NoneReady (crew z.settings) b → ⊥) (ready-here r k.over h.0 h.1 b)

  pub claimed-over : {E : Type 0} (result : Result (Option Job) E) (new : Marked) → IfOk result (λ c. HasClaimed r c new) → OnErr result (new ≡ r) → IsRoundOver s new
  claimed-over (Ok c) new h none = claimed-keeps c new h
  claimed-over (Err e) new h same = subst (IsRoundOver s) (sym same) k

  pub brought-keeps : (job : Job) → IsGround job.ground → IsPlaced job → (what : Brought) (new : Marked) → HasBrought r job what new → IsRoundOver s new
  brought-keeps job ground placed Stale new h = subst (IsRoundOver s) (sym h.1) k
  brought-keeps job ground placed Again new h = subst (IsRoundOver s) (sym h.3) k
  brought-keeps job ground placed Stored new st = subst (IsRoundOver s) (sym st.after) (record { over = stored-over r k.over job ground placed new st; same = k.same })

-- ---- with none open

module _ (s : Snapshot) where
  none-open : (b : CrewBoard) → IsBoardOf (board_of s None) b → b.round ≡ None
  none-open b is = no-round b.round (ap (λ (z : ShownBoard). z.round) is.shows)
    where
      no-round : (o : Option CrewRound) → option_map shown_round o ≡ None → o ≡ None
      no-round None e = refl
      no-round (Some q) e = absurd (let z : ⊥ = (cc) in z)

  sealed-is : (b : CrewBoard) (round : Option Marked) → IsBoardOf (board_of s round) b → shown_version s.settings b.sealed ≡ s
  sealed-is b round is = ap (λ (z : ShownBoard). z.sealed) is.shows

  pub none-claimed : (b : CrewBoard) → IsBoardOf (board_of s None) b → Calls.HasClaimed (board_of s None) b None (board_of s None)
  none-claimed b is = (
    λ round place n e ready.
        (
        let clash = sym (none-open b is) ∙ e in
        let q : ⊥ = (cc) in q),
    refl,
  )

  pub none-brought : (b : CrewBoard) (work : DutyWork) (front : Entries) → IsBoardOf (board_of s None) b → Calls.HasBrought (board_of s None) b work front Stale (board_of s None)
  none-brought b work front is = record {
    after = b;
    brings = (
      λ c.
          (
          let clash = sym (none-open b is) ∙ c.3 in
          let q : ⊥ = (cc) in q),
      refl,
    );
    shows = is;
  }

  pub none-given-back : (b : CrewBoard) (work : DutyWork) → IsBoardOf (board_of s None) b → Calls.HasGivenBack (board_of s None) b work false (board_of s None)
  none-given-back b work is = record {
    after = b;
    gives_back = (
      λ round place e own.
          (
          let clash = sym (none-open b is) ∙ e in
          let q : ⊥ = (cc) in q),
      refl,
    );
    shows = is;
  }

  pub none-abandoned : (b : CrewBoard) → IsBoardOf (board_of s None) b → Calls.HasAbandoned (board_of s None) b false (board_of s None)
  none-abandoned b is = record { after = b; abandons = (none-open b is, refl); shows = is }

  pub none-sealed : (b : CrewBoard) → IsBoardOf (board_of s None) b → Calls.IsSealFault (board_of s None) b Seal.NoRound
  none-sealed b is = none-open b is

  -- a round is open
  pub busy : (r : Marked) (b : CrewBoard) (entries : List Entry) → IsBoardOf (board_of s (Some r)) b → IsBeginFault (board_of s (Some r)) b entries Begin.Busy
  busy r b entries is = some-round b.round (ap (λ (z : ShownBoard). z.round) is.shows)
    where
      some-round : (o : Option CrewRound) {x : ShownRound} → option_map shown_round o ≡ Some x → (q : CrewRound) × (o ≡ Some q)
      some-round None e = absurd (let z : ⊥ = (cc) in z)
      some-round (Some q) e = (q, refl)

  -- .. or there is no ground for one
  pub ground-refused : (entries : List Entry) (fault : GroundFault) → IsGroundFault s entries fault → (b : CrewBoard) → IsBoardOf (board_of s None) b → IsBeginFault (board_of s None) b entries (Begin.Ground fault)
  ground-refused entries Ground.ShorterLog h b is = record {
    none_open = none-open b is;
    shorter = λ p. h (subst (λ (es : List Entry). IsPrefix es entries) (ap (λ (z : Snapshot). z.entries) (sealed-is b None is)) p);
  }
  ground-refused entries Ground.LastVersion h b is = record {
    none_open = none-open b is;
    begins = subst (λ (es : List Entry). IsPrefix es entries) (sym (ap (λ (z : Snapshot). z.entries) (sealed-is b None is))) h.0;
    is_last = ap (λ (z : Snapshot). z.number) (sealed-is b None is) ∙ h.1;
  }
  ground-refused entries Ground.TooManyDuties h b is = record {
    none_open = none-open b is;
    begins = subst (λ (es : List Entry). IsPrefix es entries) (sym (ap (λ (z : Snapshot). z.entries) (sealed-is b None is))) h.0;
    number_left = subst (λ n. n < last_number) (sym (ap (λ (z : Snapshot). z.number) (sealed-is b None is))) h.1;
    too_large = h.2;
  }
  ground-refused entries Ground.Memory h b is = record {
    none_open = none-open b is;
    begins = subst (λ (es : List Entry). IsPrefix es entries) (sym (ap (λ (z : Snapshot). z.entries) (sealed-is b None is))) h.0;
    number_left = subst (λ n. n < last_number) (sym (ap (λ (z : Snapshot). z.number) (sealed-is b None is))) h.1;
  }

-- ---- begin

pub begun-as : (s : Snapshot) (r : Marked) → IsBegun r → r.ground.sealed ≡ s → (entries : List Entry) → r.ground.entries ≡ entries → (b : CrewBoard) → IsBoardOf (board_of s None) b → Calls.HasBegun (board_of s None) b entries (board_of s (Some r))
begun-as s r begun same entries over b = subst (λ v. IsBoardOf (board_of v None) b → Calls.HasBegun (board_of v None) b entries (board_of v (Some r))) same here
  where
    here : IsBoardOf (board_of r.ground.sealed None) b → Calls.HasBegun (board_of r.ground.sealed None) b entries (board_of r.ground.sealed (Some r))
    here is =
        let a = opened-after r begun b is in
        let opens : Opens (crew r.ground.sealed.settings) b r.ground.entries a.0 = subst (λ (z : Settings). Opens (crew z) b r.ground.entries a.0) begun.ground.settings a.1 in
        record {
          after = a.0;
          opens = subst (λ es. Opens (crew r.ground.sealed.settings) b es a.0) over opens;
          shows = a.2;
        }

-- ---- what a board keeps

pub settled-begun : (s : Snapshot) (r : Marked) → IsBegun r → r.ground.sealed ≡ s → IsSettled s None → IsSettled s (Some r)
settled-begun s r begun same k = record { checked = k.checked; right = k.right; number = k.number; held = record { over = marked-begun r begun; same = same } }

pub settled-idle : (s : Snapshot) (round : Option Marked) → IsSettled s round → IsSettled s None
settled-idle s round k = record { checked = k.checked; right = k.right; number = k.number; held = tt }

pub settled-open : (s : Snapshot) (r new : Marked) → IsSettled s (Some r) → IsRoundOver s new → IsSettled s (Some new)
settled-open s r new k over = record { checked = k.checked; right = k.right; number = k.number; held = over }

pub settled-sealed : (s : Snapshot) (r : Marked) → IsRoundOver s r → (v : Snapshot) → v.number ≡ r.ground.number → v.settings ≡ r.ground.settings → IsRight v → IsSettled v None
settled-sealed s r k v number settings right =
    let more = k.over.ground.number in
    let left = k.over.ground.number_left in
    record {
      checked = subst IsChecked (sym settings) k.over.ground.checked;
      right = right;
      number = omega (arith, number, more, left);
      held = tt;
    }

-- a board of the machine for which one stands
pub stands : (s : Snapshot) (round : Option Marked) → IsSettled s round → (b : CrewBoard) × IsBoardOf (board_of s round) b
stands s None k = some-idle s k.checked k.right k.number
stands s (Some r) k = subst (λ v. (b : CrewBoard) × IsBoardOf (board_of v (Some r)) b) k.held.same (some-open r k.held.over)

-- ---- answers

pub none-of : {X : Type 0} (o : Option X) (told : Bool) → told ≡ is_some o → told ≡ false → o ≡ None
none-of None told e f = refl
none-of (Some x) told e f = let clash = sym f ∙ e in absurd (let q : ⊥ = (cc) in q)

pub refused-as : {T E : Type 0} (P : E → Type 0) (result : Result T E) (fault : E) → IsErrAnd result (λ f. f ≡ fault) → P fault → IfErr result P
refused-as P (Ok x) fault e h = tt
refused-as P (Err f) fault e h = subst P (sym e) h

pub told-of-err : {T E P : Type 0} (result : Result T E) → P → OnErr result P
told-of-err (Ok x) p = tt
told-of-err (Err e) p = p
