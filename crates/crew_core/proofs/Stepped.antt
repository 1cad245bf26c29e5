-- From what a call of a board does to a step of the machine.
use Rattle.std.proofs.Common.{Bor, IfOk, Result, Ok, Err, ◌≡◌, ◌≢◌, ◌≤◌, ◌+◌, ◌-◌, ◌∙◌, ⊎_elim, ℕ, Bool, true, false, List, [], ◌∷◌, ◌++◌, Option, Some, None, length, map, refl, sym, ap, subst, append-nil, arith}
use Rattle.std.specs.List.{slice_get}
use mathlib.Core.List.{IsPrefix}
use Rattle.crew_board.specs.Boards.{IsBoardOf, ShownBoard, ShownRound, shown_version}
use Rattle.crew_board.specs.Calls.{HasAbandoned, HasBegun, HasBrought, HasGivenBack, HasHandedOut, HasSealed, IsBeginFault, IsSealFault}
use Rattle.crew_board.specs.declared.fault.BeginFault.{BeginFault}
use Rattle.crew_board.specs.declared.fault.BeginFault.TheVariants.{Busy, Ground}
use Rattle.crew_board.specs.declared.fault.SealFault.{SealFault}
use Rattle.crew_board.specs.declared.fault.SealFault.TheVariants as Seal
use Rattle.crew_core.proofs.Kept.{further, job-at, jobs-long, jobs-more, logged, map-push, sealed-shows, served, sound}
use Rattle.crew_core.specs.Machinery.Refused.{begin_reply, seal_reply}
use Rattle.crew_core.specs.Machines.{IsMachineOf, IsReached, ShownMachine, settings_of}
use Rattle.crew_core.specs.Replies.{HasStepped, IsReplyOf, IsStep, named}
use Rattle.crew_core.specs.declared.reply.Reply.{Reply}
use Rattle.crew_core.specs.declared.reply.Reply.TheVariants as Told
use Rattle.crew_flights.specs.declared.entries.Entry.{Entry}
use Rattle.crew_board.specs.crew_job.Jobs.{IsJobOf, Job, job_node}
use Rattle.crew_board.specs.crew_job.declared.fault.GroundFault.TheVariants as NoGround
use Rattle.crew_machine.proofs.Cells.{Some-same}
use Rattle.crew_machine.proofs.CrewLaws.{crew-laws}
use Rattle.crew_machine.proofs.Runs.{start_sound}
use Rattle.crew_machine.specs.Choices.{BeginsOverGiven, BringsAll, ChosenStep, HandsOutLeast, RefusesGiven, TakesBackAll}
use Rattle.crew_machine.specs.Crew.{CrewAct, CrewBoard, CrewReply, CrewState, CrewVersion, DutyNode, DutyWork, Entries, IsLocalOf, crew}
use Rattle.crew_machine.specs.Rounds.{Brings, NoneReady}
use Rattle.crew_machine.specs.Steps.{Answers, BeginsOver, Closes, Drops, GivesUp, HandsOut, RefusesTooLarge, Shows, TakesBack, last_of, on_board, seen_by}
use Rattle.crew_machine.specs.Steps as Machine
use Rattle.crew_machine.specs.declared.rounds.Brought.{Brought}
use Rattle.crew_machine.specs.declared.rounds.Brought.TheVariants.{Stale, Again, Stored}
use Rattle.crew_net.specs.declared.node.Node.{Node}
use Rattle.crew_rules.specs.Settings.{IsChecked}
use Rattle.crew_rules.specs.declared.settings.Settings.{Settings}
use Rattle.crew_board.specs.crew_version.Versions.{Snapshot}
use Rattle.crew_board.specs.crew_version.Versions as Versions
use Rattle.crew_machine.specs.Chains.{Follows}
use Rattle.std.proofs.lemmas.List.{length-map}
use Rattle.std.proofs.lemmas.Option.{slice_get-get_or, slice_get-map}
use Rattle.std.specs.Slice.{IsItemAt}
use Rattle.std.specs.Option.{option_copied, option_map}
use Rattle.std.specs.Prelude.{◌↔◌}

-- the board alone differs
abbrev pub with_board : ShownMachine → ShownBoard → ShownMachine
with_board m board = record { log = m.log; board = board; jobs = m.jobs; published = m.published }

module _ (old : ShownMachine) (state : CrewState) (is : IsMachineOf old state) where
  abbrev s : Settings
  s = settings_of old

  -- nothing changes
  pub stays : (act : CrewAct) (reply : Reply) (answer : CrewReply) → ChosenStep (crew s) state act answer state → IsReplyOf s reply answer → HasStepped old state act reply old
  stays act reply answer steps tells = record { answer = answer; after = state; steps = steps; tells = tells; settings = refl; shows = is }

  -- the board alone changes
  pub turns : (board : ShownBoard) (after : CrewBoard) (act : CrewAct) (reply : Reply) (answer : CrewReply)
      → ChosenStep (crew s) state act answer (on_board (crew s) state after) → IsReplyOf s reply answer → board.sealed.settings ≡ s → IsBoardOf board after
      → HasStepped old state act reply (with_board old board)
  turns board after act reply answer steps tells settings shows = record {
    answer = answer;
    after = on_board (crew s) state after;
    steps = steps;
    tells = tells;
    settings = settings;
    shows = record {
      checked = subst IsChecked (sym settings) is.checked;
      reached = subst (λ (z : Settings). IsReached z (on_board (crew s) state after)) (sym settings) (further old state is act answer (on_board (crew s) state after) steps);
      log = is.log;
      board = shows;
      jobs = is.jobs;
      published = subst (λ (z : Settings). map (shown_version z) state.published ≡ old.published) (sym settings) is.published;
    };
  }

  -- ---- push

  pub pushed : (entry : Entry) → HasStepped old state (Machine.Push entry) (Told.Pushed (length old.log)) (record { log = old.log ++ entry ∷ []; board = old.board; jobs = old.jobs; published = old.published })
  pushed entry =
      let next : CrewState = record { log = state.log ++ entry ∷ []; board = state.board; jobs = state.jobs; published = state.published; seen = state.seen } in
      let steps : ChosenStep (crew s) state (Machine.Push entry) (Machine.Pushed (length state.log)) next = (refl, refl) in
      record {
        answer = Machine.Pushed (length state.log);
        after = next;
        steps = steps;
        tells = ap length (sym is.log);
        settings = refl;
        shows = record {
          checked = is.checked;
          reached = further old state is (Machine.Push entry) (Machine.Pushed (length state.log)) next steps;
          log = ap (λ es. es ++ entry ∷ []) is.log;
          board = is.board;
          jobs = is.jobs;
          published = is.published;
        };
      }

  -- ---- begin

  pub begun : (board : ShownBoard) → board.sealed ≡ old.board.sealed → HasBegun old.board state.board old.log board → HasStepped old state Machine.Begin Told.Begun (with_board old board)
  begun board same h =
      let next = on_board (crew s) state h.after in
      let over : BeginsOver (crew s) state next = record { entries = old.log; beginning = subst (λ es. IsPrefix old.log es) (sym is.log) ([], append-nil old.log); board = h.after; opens = h.opens; after = refl } in
      let steps : BeginsOverGiven (crew s) state.log state next = record { over = over; given = sym is.log } in
      turns board h.after Machine.Begin Told.Begun Machine.Begun steps tt (ap (λ (z : Snapshot). z.settings) same) h.shows

  never-shorter : (IsPrefix state.board.sealed.entries old.log → ⊥) → ⊥
  never-shorter none = none (subst (IsPrefix state.board.sealed.entries) is.log (logged old state is).sealed)

  pub not-shorter : (fault : BeginFault) → IsBeginFault old.board state.board old.log fault → fault ≢ Ground NoGround.ShorterLog
  not-shorter Busy h e = absurd (let b : ⊥ = (cc) in b)
  not-shorter (Ground NoGround.ShorterLog) h e = never-shorter h.shorter
  not-shorter (Ground NoGround.LastVersion) h e = absurd (let b : ⊥ = (cc) in b)
  not-shorter (Ground NoGround.TooManyDuties) h e = absurd (let b : ⊥ = (cc) in b)
  not-shorter (Ground NoGround.Memory) h e = absurd (let b : ⊥ = (cc) in b)

  pub not-begun : (fault : BeginFault) (reply : Reply) → begin_reply fault ≡ Some reply → IsBeginFault old.board state.board old.log fault → HasStepped old state Machine.Begin reply old
  not-begun Busy reply e h =
      let steps : ChosenStep (crew s) state Machine.Begin Machine.Busy state = (λ none. absurd (let k = sym h.1 ∙ none in let b : ⊥ = (cc) in b), refl) in
      subst (λ (r : Reply). HasStepped old state Machine.Begin r old) (Some-same Told.Busy reply e) (stays Machine.Begin Told.Busy Machine.Busy steps tt)
  not-begun (Ground NoGround.ShorterLog) reply e h = absurd (never-shorter h.shorter)
  not-begun (Ground NoGround.LastVersion) reply e h =
      let steps : ChosenStep (crew s) state Machine.Begin Machine.Last_version state = (h.none_open, h.is_last, refl) in
      subst (λ (r : Reply). HasStepped old state Machine.Begin r old) (Some-same Told.LastVersion reply e) (stays Machine.Begin Told.LastVersion Machine.Last_version steps tt)
  not-begun (Ground NoGround.TooManyDuties) reply e h =
      let refuses : RefusesTooLarge (crew s) state = record { none_open = h.none_open; number_left = h.number_left; entries = old.log; beginning = subst (λ es. IsPrefix old.log es) (sym is.log) ([], append-nil old.log); begins = h.begins; too_large = h.too_large } in
      let given : RefusesGiven (crew s) state.log state = record { refuses = refuses; given = sym is.log } in
      let steps : ChosenStep (crew s) state Machine.Begin Machine.Too_large state = (given, refl) in
      subst (λ (r : Reply). HasStepped old state Machine.Begin r old) (Some-same Told.TooManyDuties reply e) (stays Machine.Begin Told.TooManyDuties Machine.Too_large steps tt)
  not-begun (Ground NoGround.Memory) reply e h = absurd (let b : ⊥ = (cc) in b)

  -- ---- claim

  pub claimed : (job : Job) (node : Node) (board : ShownBoard) → board.sealed ≡ old.board.sealed → ((n : DutyNode) → job_node job ≡ Some n → node ≡ named n) → HasHandedOut old.board state.board job board
      → HasStepped old state Machine.Claim (Told.Claimed (length old.jobs) node) (record { log = old.log; board = board; jobs = old.jobs ++ job ∷ []; published = old.published })
  claimed job node board same told h =
      let settings : board.sealed.settings ≡ s = ap (λ (z : Snapshot). z.settings) same in
      let next : CrewState = record { log = state.log; board = h.after; jobs = state.jobs ++ h.work ∷ []; published = state.published; seen = state.seen } in
      let out : HandsOut (crew s) state h.work next = record { board = h.after; claims = h.claims.claims; after = refl } in
      let least : HandsOutLeast (crew s) state h.work next = record { hands_out = out; least = h.claims } in
      let answer : CrewReply = Machine.Claimed (length state.jobs) h.work in
      let steps : ChosenStep (crew s) state Machine.Claim answer next = (refl, least) in
      record {
        answer = answer;
        after = next;
        steps = steps;
        tells = (jobs-long old.jobs state.jobs is.jobs, told h.work.node h.of_job.node);
        settings = settings;
        shows = record {
          checked = subst IsChecked (sym settings) is.checked;
          reached = subst (λ (z : Settings). IsReached z next) (sym settings) (further old state is Machine.Claim answer next steps);
          log = is.log;
          board = h.shows;
          jobs = jobs-more old.jobs state.jobs job h.work is.jobs h.of_job;
          published = subst (λ (z : Settings). map (shown_version z) state.published ≡ old.published) (sym settings) is.published;
        };
      }

  pub none-claimed : NoneReady (crew s) state.board → HasStepped old state Machine.Claim Told.NoneReady old
  none-claimed none =
      let steps : ChosenStep (crew s) state Machine.Claim Machine.None_ready state = (none, refl) in
      stays Machine.Claim Told.NoneReady Machine.None_ready steps tt

  -- ---- bring and give back

  brings-some : (job : DutyWork) (front : Entries) (brought : Brought) (after : CrewBoard) → BringsAll (crew s) state.board job front brought after → Brings (crew s) state.board job front brought after
  brings-some job front Stale after h = h
  brings-some job front Again after h = h
  brings-some job front Stored after h = h.stores

  abbrev brought-by : ShownBoard → Job → Brought → Type 0
  brought-by board job brought = (b : CrewBoard) (work : DutyWork) (front : Entries) → IsBoardOf old.board b → IsJobOf job work → IsLocalOf work front → HasBrought old.board b work front brought board

  pub brought : (k : ℕ) (job : Job) → slice_get old.jobs k ≡ Some job → (front : Entries) → ((work : DutyWork) → IsJobOf job work → IsLocalOf work front) → (b : Brought) (board : ShownBoard) → board.sealed ≡ old.board.sealed → brought-by board job b
      → HasStepped old state (Machine.Bring k) (Told.Brought k b) (with_board old board)
  brought k job at front local b board same all =
      let j = job-at old.jobs state.jobs is.jobs k job at in
      let work = j.0 in
      let leaves = local work j.2 in
      let h = all state.board work front is.board j.2 leaves in
      let next = on_board (crew s) state h.after in
      let takes : TakesBack (crew s) state k b next = record { job = work; handed_out = j.1; front = front; local = leaves; board = h.after; brings = brings-some work front b h.after h.brings; after = refl } in
      let every : TakesBackAll (crew s) state k b next = record { takes_back = takes; all = h.brings } in
      let steps : ChosenStep (crew s) state (Machine.Bring k) (Machine.Was_brought k b) next = (refl, every) in
      turns board h.after (Machine.Bring k) (Told.Brought k b) (Machine.Was_brought k b) steps (refl, refl) (ap (λ (z : Snapshot). z.settings) same) h.shows

  pub not-brought : (k : ℕ) → length old.jobs ≤ k → HasStepped old state (Machine.Bring k) (Told.NotBrought k) old
  not-brought k h =
      let long = jobs-long old.jobs state.jobs is.jobs in
      let steps : ChosenStep (crew s) state (Machine.Bring k) (Machine.Not_brought k) state = (refl, omega (arith, long, h), refl) in
      stays (Machine.Bring k) (Told.NotBrought k) (Machine.Not_brought k) steps refl

  pub given-back : (k : ℕ) (job : Job) → slice_get old.jobs k ≡ Some job → (freed : Bool) (board : ShownBoard) → board.sealed ≡ old.board.sealed
      → ((b : CrewBoard) (work : DutyWork) → IsBoardOf old.board b → IsJobOf job work → HasGivenBack old.board b work freed board)
      → HasStepped old state (Machine.Give_back k) (Told.GivenBack k freed) (with_board old board)
  given-back k job at freed board same all =
      let j = job-at old.jobs state.jobs is.jobs k job at in
      let work = j.0 in
      let h = all state.board work is.board j.2 in
      let next = on_board (crew s) state h.after in
      let gives : GivesUp (crew s) state k freed next = record { job = work; handed_out = j.1; board = h.after; gives_back = h.gives_back; after = refl } in
      let steps : ChosenStep (crew s) state (Machine.Give_back k) (Machine.Given_back k freed) next = (refl, gives) in
      turns board h.after (Machine.Give_back k) (Told.GivenBack k freed) (Machine.Given_back k freed) steps (refl, refl) (ap (λ (z : Snapshot). z.settings) same) h.shows

  pub not-given-back : (k : ℕ) → length old.jobs ≤ k → HasStepped old state (Machine.Give_back k) (Told.NotGivenBack k) old
  not-given-back k h =
      let long = jobs-long old.jobs state.jobs is.jobs in
      let steps : ChosenStep (crew s) state (Machine.Give_back k) (Machine.Not_given_back k) state = (refl, omega (arith, long, h), refl) in
      stays (Machine.Give_back k) (Told.NotGivenBack k) (Machine.Not_given_back k) steps refl

  -- ---- abandon and seal

  pub abandoned : (was_open : Bool) (board : ShownBoard) → board.sealed ≡ old.board.sealed → HasAbandoned old.board state.board was_open board → HasStepped old state Machine.Abandon (Told.Abandoned was_open) (with_board old board)
  abandoned was_open board same h =
      let next = on_board (crew s) state h.after in
      let drops : Drops (crew s) state was_open next = record { board = h.after; abandons = h.abandons; after = refl } in
      let steps : ChosenStep (crew s) state Machine.Abandon (Machine.Abandoned was_open) next = drops in
      turns board h.after Machine.Abandon (Told.Abandoned was_open) (Machine.Abandoned was_open) steps refl (ap (λ (z : Snapshot). z.settings) same) h.shows

  pub entries-long : length old.board.sealed.entries ≡ length state.board.sealed.entries
  entries-long = ap (λ (z : Snapshot). length z.entries) (sym (sealed-shows old state is))

  pub not-sealed : (fault : SealFault) (reply : Reply) → seal_reply fault ≡ Some reply → IsSealFault old.board state.board fault → HasStepped old state Machine.Seal reply old
  not-sealed Seal.NoRound reply e h =
      let steps : ChosenStep (crew s) state Machine.Seal Machine.No_round state = (h, refl) in
      subst (λ (r : Reply). HasStepped old state Machine.Seal r old) (Some-same Told.NoRound reply e) (stays Machine.Seal Told.NoRound Machine.No_round steps tt)
  not-sealed (Seal.NotDone node) reply e h =
      let steps : ChosenStep (crew s) state Machine.Seal (Machine.Not_done h.0) state = (h.1, refl) in
      subst (λ (r : Reply). HasStepped old state Machine.Seal r old) (Some-same (Told.NotDone node) reply e) (stays Machine.Seal (Told.NotDone node) (Machine.Not_done h.0) steps h.2)
  not-sealed Seal.Memory reply e h = absurd (let b : ⊥ = (cc) in b)

  -- ---- publish and ask

  pub shown-last : last_of old.published ≡ option_map (shown_version s) (last_of state.published)
  shown-last =
      ap last_of (sym is.published)
      ∙ (ap (λ n. slice_get (map (shown_version s) state.published) (n - 1)) (length-map state.published (shown_version s))
      ∙ slice_get-map (shown_version s) state.published (length state.published - 1))

  -- the version that was published last is the newest
  latest : (v : Snapshot) → last_of old.published ≡ Some v → shown_version s (sound old state is).newest.0 ≡ v
  latest v e =
      let newest = (sound old state is).newest in
      Some-same (shown_version s newest.0) v (sym (shown-last ∙ ap (option_map (shown_version s)) newest.1) ∙ e)

  pub some-last : (last_of old.published ≡ None) → ⊥
  some-last e =
      let newest = (sound old state is).newest in
      let k = sym (shown-last ∙ ap (option_map (shown_version s)) newest.1) ∙ e in
      absurd (let b : ⊥ = (cc) in b)

  pub is-published : (v : Snapshot) → last_of old.published ≡ Some v → (v.number ≡ old.board.sealed.number) ↔ (last_of state.published ≡ Some state.board.sealed)
  is-published v e =
      let newest = (sound old state is).newest in
      let number : newest.0.number ≡ v.number = ap (λ (z : Snapshot). z.number) (latest v e) in
      let sealed : state.board.sealed.number ≡ old.board.sealed.number = ap (λ (z : Snapshot). z.number) (sealed-shows old state is) in (
        λ same.
            ⊎_elim
            (λ (one : newest.0 ≡ state.board.sealed). newest.1 ∙ ap Some one)
            (λ (follows : Follows newest.0 state.board.sealed). (let rises = follows.rises in absurd (omega (arith, number, sealed, same, rises))))
            newest.2,
        λ last.
            (
            let one : newest.0 ≡ state.board.sealed = Some-same newest.0 state.board.sealed (sym newest.1 ∙ last) in
            let equal : newest.0.number ≡ state.board.sealed.number = ap (λ (z : CrewVersion). z.number) one in
            sym number ∙ (equal ∙ sealed)),
      )

  pub nothing-new : last_of state.published ≡ Some state.board.sealed → HasStepped old state Machine.Publish Told.NothingNew old
  nothing-new last =
      let steps : ChosenStep (crew s) state Machine.Publish Machine.Nothing_new state = (last, refl) in
      stays Machine.Publish Told.NothingNew Machine.Nothing_new steps tt

  pub published : (last_of state.published ≡ Some state.board.sealed → ⊥) → (value : Snapshot) (reply : Reply) → ((v : CrewVersion) → value ≡ shown_version s v → IsReplyOf s reply (Machine.Was_published v)) → value ≡ old.board.sealed
      → HasStepped old state Machine.Publish reply (record { log = old.log; board = old.board; jobs = old.jobs; published = old.published ++ value ∷ [] })
  published is-new value reply told same =
      let sealed = state.board.sealed in
      let next : CrewState = record { log = state.log; board = state.board; jobs = state.jobs; published = state.published ++ sealed ∷ []; seen = state.seen } in
      let shows : Shows (crew s) state next = record { is_new = is-new; after = refl } in
      let steps : ChosenStep (crew s) state Machine.Publish (Machine.Was_published sealed) next = (refl, shows) in
      let shown : value ≡ shown_version s sealed = same ∙ sym (sealed-shows old state is) in
      record {
        answer = Machine.Was_published sealed;
        after = next;
        steps = steps;
        tells = told sealed shown;
        settings = refl;
        shows = record {
          checked = is.checked;
          reached = further old state is Machine.Publish (Machine.Was_published sealed) next steps;
          log = is.log;
          board = is.board;
          jobs = is.jobs;
          published = map-push (shown_version s) state.published sealed ∙ (ap (λ vs. vs ++ shown_version s sealed ∷ []) is.published ∙ ap (λ (v : Snapshot). old.published ++ v ∷ []) (sym shown));
        };
      }

  pub answered : (reader : ℕ) (value : Snapshot) (reply : Reply) → ((place : ℕ) (v : CrewVersion) → value ≡ shown_version s v → IsReplyOf s reply (Machine.Answered reader place v)) → last_of old.published ≡ Some value
      → HasStepped old state (Machine.Ask reader) reply old
  answered reader value reply told e =
      let newest = (sound old state is).newest in
      let low = (served old state is).seen reader in
      let place = length state.published - 1 in
      let next : CrewState = record { log = state.log; board = state.board; jobs = state.jobs; published = state.published; seen = (reader, place) ∷ state.seen } in
      let answers : Answers (crew s) state reader place newest.0 next = record { stands = newest.1; not_before = omega (arith, low); after = refl } in
      let is-last : place + 1 ≡ length state.published = omega (arith, low) in
      let steps : ChosenStep (crew s) state (Machine.Ask reader) (Machine.Answered reader place newest.0) next = (is-last, refl, answers) in
      record {
        answer = Machine.Answered reader place newest.0;
        after = next;
        steps = steps;
        tells = told place newest.0 (sym (latest value e));
        settings = refl;
        shows = record {
          checked = is.checked;
          reached = further old state is (Machine.Ask reader) (Machine.Answered reader place newest.0) next steps;
          log = is.log;
          board = is.board;
          jobs = is.jobs;
          published = is.published;
        };
      }

  -- ---- seal

  pub sealed : (value : Snapshot) (reply : Reply) → ((v : CrewVersion) → value ≡ shown_version s v → IsReplyOf s reply (Machine.Sealed (length state.board.sealed.entries) v)) → (board : ShownBoard) → board.sealed ≡ value → HasSealed old.board state.board value board
      → HasStepped old state Machine.Seal reply (with_board old board)
  sealed value reply told board same h =
      let next = on_board (crew s) state h.after in
      let closes : Closes (crew s) state h.version next = record { board = h.after; seals = h.seals; after = refl } in
      let steps : ChosenStep (crew s) state Machine.Seal (Machine.Sealed (length state.board.sealed.entries) h.version) next = (refl, closes) in
      let settings : board.sealed.settings ≡ s = ap (λ (z : Snapshot). z.settings) (same ∙ sym h.version_shows) in
      turns board h.after Machine.Seal reply (Machine.Sealed (length state.board.sealed.entries) h.version) steps (told h.version (sym h.version_shows)) settings h.shows

-- ---- from a step of each state to what a call answers

-- after a step a machine stands for a state again
pub kept : (old new : ShownMachine) (act : CrewAct) (reply : Reply) → (state : CrewState) × IsMachineOf old state → IsStep old act reply new → (state : CrewState) × IsMachineOf new state
kept old new act reply h step = let k = step h.0 h.1 in (k.after, k.shows)

-- .. also where the call is refused
pub ok-of : {T E : Type 0} (P : T → Type 0) (result : Result T E) → ((t : T) → result ≡ Ok t → P t) → IfOk result P
ok-of P (Ok t) all = all t refl
ok-of P (Err e) all = tt

-- ---- the job of a number

pub there : {X : Type 0} (xs : List X) (i : ℕ) (x : Bor X) → IsItemAt xs i (Some x) → slice_get xs i ≡ Some x.now
there xs i x h = slice_get-get_or xs i x.now h.3.0 ∙ ap Some (sym (h.3.1 x.now))

pub none-there : {X : Type 0} (xs : List X) (i : ℕ) (r : Option (Bor X)) → r ≡ None → IsItemAt xs i r → length xs ≤ i
none-there xs i None e h = h.3
none-there xs i (Some x) e h = absurd (let b : ⊥ = (cc) in b)

-- ---- the version that was published last

pub last-map : {X Y : Type 0} (f : X → Y) (xs : List X) → last_of (map f xs) ≡ option_map f (last_of xs)
last-map f xs = ap (λ n. slice_get (map f xs) (n - 1)) (length-map xs f) ∙ slice_get-map f xs (length xs - 1)

pub none-last : {X : Type 0} (xs items : List X) → xs ≡ items → (o : Option (Bor X)) → option_copied o ≡ slice_get xs (length xs - 1) → o ≡ None → last_of items ≡ None
none-last xs items same o value e = ap last_of (sym same) ∙ (sym value ∙ ap option_copied e)

pub some-item : {X : Type 0} (xs items : List X) → xs ≡ items → (o : Option (Bor X)) → option_copied o ≡ slice_get xs (length xs - 1) → (x : Bor X) → o ≡ Some x → last_of items ≡ Some x.now
some-item xs items same o value x e = ap last_of (sym same) ∙ (sym value ∙ ap option_copied e)

pub no-more : (b : Bool) → b ≡ true → b ≡ false → ⊥
no-more b t f = let e = sym t ∙ f in absurd (let q : ⊥ = (cc) in q)

-- ---- a machine before any step

pub starts : (s : Settings) → IsChecked s → (board : ShownBoard) → board.sealed ≡ Versions.opening s → board.round ≡ None → (published : List Snapshot) → published ≡ Versions.opening s ∷ []
    → IsMachineOf (record { log = []; board = board; jobs = []; published = published }) (Machine.start (crew s))
starts s checked board sealed round published versions =
    let first : ShownBoard = record { sealed = Versions.opening s; round = None } in
    let is-first : board ≡ first = ap (λ (v : Snapshot). let b : ShownBoard = record { sealed = v; round = board.round } in b) sealed ∙ ap (λ (r : Option ShownRound). let b : ShownBoard = record { sealed = Versions.opening s; round = r } in b) round in
    let shown : ShownMachine = record { log = []; board = first; jobs = []; published = Versions.opening s ∷ [] } in
    let reached : IsReached s (Machine.start (crew s)) = record { acts = []; replies = []; run = refl } in
    let is : IsMachineOf shown (Machine.start (crew s)) = record {
      checked = checked;
      reached = reached;
      log = refl;
      board = record { right = (start_sound (crew s) (crew-laws s checked)).board; shows = refl };
      jobs = tt;
      published = refl;
    } in
    subst (λ (vs : List Snapshot). IsMachineOf (record { log = []; board = board; jobs = []; published = vs }) (Machine.start (crew s))) (sym versions)
    (subst (λ (b : ShownBoard). IsMachineOf (record { log = []; board = b; jobs = []; published = Versions.opening s ∷ [] }) (Machine.start (crew s))) (sym is-first) is)
