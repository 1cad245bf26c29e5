-- Each act has a reply, under the product's choices, so each list of acts can be played.
use Rattle.std.proofs.Common.{◌≡◌, ◌≢◌, ℕ, zero, suc, ◌+◌, ◌-◌, ◌<◌, ◌≤◌, true, false, List, [], ◌∷◌, ◌++◌, length, slice_set, Some, None, ◌⊎◌, inl, inr, refl, sym, ◌∙◌, ap, subst, ⊎_elim, arith, append-nil}
use Rattle.std.specs.List.{slice_get}
use Rattle.std.proofs.lemmas.Bool.{cases_lt}
use Rattle.crew_flights.specs.declared.entries.Entry.{Entry}
use Rattle.crew_machine.proofs.Cells.{Some-same}
use Rattle.crew_machine.proofs.Boards.{store_sound}
use Rattle.crew_machine.proofs.Chosen.{chosen_step}
use Rattle.crew_machine.proofs.CrewLaws.{crew-laws, timetable-sound}
use Rattle.crew_machine.proofs.Finish.{fronts-of, left, some-left}
use Rattle.crew_machine.proofs.Least.{some-least}
use Rattle.crew_machine.proofs.Logged.{step_logged, start_logged}
use Rattle.crew_machine.proofs.Marked.{marked}
use Rattle.crew_machine.proofs.NodeList.{some-nodes}
use Rattle.crew_machine.proofs.OwnJobs.{cell-of, least-ready, least-undone, one-cell, ready-work, work-or-not}
use Rattle.crew_machine.proofs.Reached.{some-carried}
use Rattle.crew_machine.proofs.Reuse.{place-of-member, stored-others, stored-there}
use Rattle.crew_machine.proofs.Runs.{start_sound, step_sound}
use Rattle.crew_machine.proofs.Served.{start_served, step_served}
use Rattle.crew_machine.proofs.Sorted.{rising-front}
use Rattle.crew_machine.specs.Choices.{BeginsOverGiven, ChosenRun, ChosenStep, ClaimsLeast, HandsOutLeast, RefusesGiven, StoresAll, TakesBackAll}
use Rattle.crew_machine.specs.Crew.{CrewAct, CrewBoard, CrewReply, CrewRound, CrewState, CrewVersion, DutyNode, DutyWork, Entries, IsLocalOf, crew, timetable_of}
use Rattle.crew_machine.specs.Machinery.Sound.{IsLogged, IsServed, IsSound}
use Rattle.crew_machine.specs.Rounds.{Abandons, Brings, Claims, Frees, GivesBack, IsDone, IsFirstUndone, IsOwn, IsReady, IsUndone, NoneReady, Opens, Seals, Stores, last_number, with_cells}
use Rattle.crew_machine.specs.Steps.{Abandon, Abandoned, Answered, Answers, Ask, Begin, BeginsOver, Begun, Bring, Busy, Claim, Claimed, Closes, Drops, Give_back, Given_back, GivesUp, HandsOut, Last_version, No_round, None_ready, Not_brought, Not_done, Not_given_back, Nothing_new, Publish, Push, Pushed, RefusesTooLarge, Seal, Sealed, Shows, TakesBack, Too_large, Was_brought, Was_published, last_of, on_board, start}
use Rattle.crew_machine.specs.Worlds.{IsWorkOf}
use Rattle.crew_machine.specs.declared.rounds.Brought.TheVariants.{Stale, Again, Stored}
use Rattle.crew_machine.specs.declared.rounds.Cell.{Cell}
use Rattle.crew_machine.specs.declared.rounds.Cell.TheVariants.{Waiting, Out, Done}
use Rattle.crew_pairing.proofs.InOrder.{all-duties}
use Rattle.crew_pairing.proofs.Timetables.{flights-of-timetable}
use Rattle.crew_pairing.specs.Duties.{HasFew, HasTooMany, flights_of}
use Rattle.crew_pairing.specs.Machinery.Listing.{all_duties}
use Rattle.crew_resource.proofs.Members.{Member-at}
use Rattle.crew_resource.specs.Members.{Member}
use Rattle.crew_rules.specs.Settings.{IsChecked}
use Rattle.crew_rules.specs.declared.settings.Settings.{Settings}
use Rattle.crew_answers.proofs.crew_vector_lemmas.Paths.{some-or-none}

-- few duties, or too many
few-or-many : (s : Settings) (entries : List Entry) → HasFew s (timetable_of entries) ⊎ HasTooMany s (timetable_of entries)
few-or-many s entries =
    let t = timetable_of entries in
    let ds = all_duties s (flights_of t) in
    let are = all-duties s (flights_of t) (flights-of-timetable t (timetable-sound entries)) in
    ⊎_elim {C = HasFew s t ⊎ HasTooMany s t} (λ many. inr (ds, are, many)) (λ few. inl (ds, are, few)) (cases_lt 200_000 (length ds))

past : {X : Type 0} (xs : List X) (j : ℕ) → slice_get xs j ≡ None → length xs ≤ j
past [] j e = omega arith
past (x ∷ xs) zero e = absurd (let q : ⊥ = (cc) in q)
past (x ∷ xs) (suc j) e = let k = past xs j e in omega (arith, k)

module _ (s : Settings) (checked : IsChecked s) where
  abbrev IsReady-at : CrewRound → ℕ → DutyNode → Type 0
  IsReady-at round place n = IsReady (crew s) (timetable_of round.entries) round.cells place n

  abbrev pub HasReply : CrewState → CrewAct → Type 0
  HasReply state act = (reply : CrewReply) × (next : CrewState) × ChosenStep (crew s) state act reply next

  module _ (state : CrewState) (sound : IsSound (crew s) state) (logged : IsLogged (crew s) state) (served : IsServed (crew s) state) where
    no-round : {A : Type 0} → state.board.round ≡ None → (round : CrewRound) → state.board.round ≡ Some round → A
    no-round none round some = absurd (let e = sym none ∙ some in let q : ⊥ = (cc) in q)

    -- ---- begin

    over-few : state.board.round ≡ None → state.board.sealed.number < last_number → HasFew s (timetable_of state.log) → HasReply state Begin
    over-few none number few =
        let nodes = some-nodes s (timetable_of state.log) few in
        let cells = some-carried s checked state.board.sealed sound.board.sealed state.log nodes.0 nodes.1 in
        let round : CrewRound = record { entries = state.log; cells = cells.0 } in
        let board : CrewBoard = record { sealed = state.board.sealed; round = Some round } in
        let next = on_board (crew s) state board in
        let opens : Opens (crew s) state.board state.log board = record { none_open = none; begins = logged.sealed; number_left = number; small = few; cells = cells.0; carried = cells.1; after = refl } in
        let over : BeginsOver (crew s) state next = record { entries = state.log; beginning = ([], append-nil state.log); board = board; opens = opens; after = refl } in
        let given : BeginsOverGiven (crew s) state.log state next = record { over = over; given = refl } in
        (Begun, next, given)

    over-many : state.board.round ≡ None → state.board.sealed.number < last_number → HasTooMany s (timetable_of state.log) → HasReply state Begin
    over-many none number many =
        let refuses : RefusesTooLarge (crew s) state = record { none_open = none; number_left = number; entries = state.log; beginning = ([], append-nil state.log); begins = logged.sealed; too_large = many } in
        let given : RefusesGiven (crew s) state.log state = record { refuses = refuses; given = refl } in
        (Too_large, state, (given, refl))

    begin-reply : HasReply state Begin
    begin-reply =
        ⊎_elim {C = HasReply state Begin}
        (λ some.
        (
        let open-now : state.board.round ≢ None = λ none. no-round none some.0 some.1 in
        (Busy, state, (open-now, refl))))
        (λ none.
        ⊎_elim {C = HasReply state Begin}
        (λ less. ⊎_elim {C = HasReply state Begin} (over-few none less) (over-many none less) (few-or-many s state.log))
        (λ most. (let top = sound.board.number in let is-last : state.board.sealed.number ≡ last_number = omega (arith, top, most) in (Last_version, state, (none, is-last, refl))))
        (cases_lt state.board.sealed.number last_number))
        (some-or-none state.board.round)

    -- ---- claim

    claim-in : (round : CrewRound) → state.board.round ≡ Some round → HasReply state Claim
    claim-in round is =
        let right = sound.board.round round is in
        ⊎_elim {C = HasReply state Claim}
        (λ f.
        (
        let place = f.0 in
        let n = f.1.0 in
        let own = ready-work s checked (timetable_of round.entries) round.cells right.nodes right.right place n f.1.1 in
        let job = own.0 in
        let ready = subst (λ (z : DutyNode). IsReady-at round place z) (sym own.1) f.1.1 in
        let board = with_cells (crew s) state.board round (slice_set round.cells place (job.node, Out)) in
        let claims : Claims (crew s) state.board job board = record { round = round; is_open = is; place = place; ready = ready; own = (ready.0, own.2); after = refl } in
        let least : ClaimsLeast (crew s) state.board job board = record { claims = claims; least = λ k m l r. f.2 k l (m, r) } in
        let next : CrewState = record { log = state.log; board = board; jobs = state.jobs ++ job ∷ []; published = state.published; seen = state.seen } in
        let out : HandsOut (crew s) state job next = record { board = board; claims = claims; after = refl } in
        let chosen : HandsOutLeast (crew s) state job next = record { hands_out = out; least = least } in
        (Claimed (length state.jobs) job, next, (refl, chosen))))
        (λ none.
        (
        let none-ready : NoneReady (crew s) state.board = λ r place n e h.
        (
        let same : round ≡ r = Some-same round r (sym is ∙ e) in
        none place (n, subst (λ (z : CrewRound). IsReady-at z place n) (sym same) h)) in
        (None_ready, state, (none-ready, refl))))
        (least-ready s checked (timetable_of round.entries) round.cells right.nodes right.right)

    claim-reply : HasReply state Claim
    claim-reply =
        ⊎_elim {C = HasReply state Claim}
        (λ some. claim-in some.0 some.1)
        (λ none.
        (
        let none-ready : NoneReady (crew s) state.board = λ r place n e h. no-round none r e in
        (None_ready, state, (none-ready, refl))))
        (some-or-none state.board.round)

    -- ---- bring and give back

    -- of a job that was handed out: it is its node's own now, at a place, or it isn't
    record OwnNow (job : DutyWork) : Type 0 where
      pub round : CrewRound
      pub is_open : state.board.round ≡ Some round
      pub place : ℕ
      pub cell : Cell Entries
      pub own : IsOwn (crew s) round place cell job

    abbrev NotOwn : DutyWork → Type 0
    NotOwn job = (round : CrewRound) (place : ℕ) (cell : Cell Entries) → state.board.round ≡ Some round → IsOwn (crew s) round place cell job → ⊥

    own-in : (job : DutyWork) → job.input.settings ≡ s → (round : CrewRound) → state.board.round ≡ Some round → OwnNow job ⊎ NotOwn job
    own-in job settings round is =
        let right = sound.board.round round is in
        ⊎_elim {C = OwnNow job ⊎ NotOwn job}
        (λ at.
        ⊎_elim {C = OwnNow job ⊎ NotOwn job}
        (λ work. inl (record { round = round; is_open = is; place = at.0; cell = at.1; own = (at.2, work) }))
        (λ f. inr (λ r place cell e own. f (subst (λ (z : CrewRound). IsWorkOf (crew s) (timetable_of z.entries) (IsDone (crew s) z.cells) job) (sym (Some-same round r (sym is ∙ e))) own.1)))
        (work-or-not s checked (timetable_of round.entries) round.cells right.nodes right.right job settings))
        (λ none. inr (λ r place cell e own. none cell (subst (λ (z : CrewRound). Member z.cells (job.node, cell)) (sym (Some-same round r (sym is ∙ e))) (Member-at r.cells place (job.node, cell) own.0))))
        (cell-of round.cells job.node)

    own-or-not : (job : DutyWork) → job.input.settings ≡ s → OwnNow job ⊎ NotOwn job
    own-or-not job settings =
        ⊎_elim {C = OwnNow job ⊎ NotOwn job}
        (λ some. own-in job settings some.0 some.1)
        (λ none. inr (λ r place cell e own. no-round none r e))
        (some-or-none state.board.round)

    settings-of : (j : ℕ) (job : DutyWork) → slice_get state.jobs j ≡ Some job → job.input.settings ≡ s
    settings-of j job at = ap (λ i. i.settings) (served.jobs j job at).2.input

    -- a front for the job
    worked : (j : ℕ) (job : DutyWork) → slice_get state.jobs j ≡ Some job → (f : Entries) × IsLocalOf job f
    worked j job at =
        let own = served.jobs j job at in
        let t = timetable_of own.0 in
        let f = rising-front s t checked (timetable-sound own.0) job.node own.1 in
        (f.0, (crew-laws s checked).local_out own.0 job f.0 own.1 own.2 f.1)

    stored : (j : ℕ) (job : DutyWork) → slice_get state.jobs j ≡ Some job → (o : OwnNow job) → IsUndone o.cell → HasReply state (Bring j)
    stored j job at o u =
        let f = worked j job at in
        let first : List (DutyNode × Cell Entries) = slice_set o.round.cells o.place (job.node, Done f.0) in
        let right = store_sound (crew s) (crew-laws s checked) state.board.sealed o.round o.place o.cell job f.0 (sound.board.round o.round o.is_open) o.own f.1 in
        let marks = marked s checked state.board.sealed sound.board.sealed o.round.entries first right in
        let board = with_cells (crew s) state.board o.round marks.end in
        let stores : Stores (crew s) state.board job f.0 board = record { round = o.round; is_open = o.is_open; place = o.place; cell = o.cell; own = o.own; undone = u; local = f.1; cells = marks.end; stored = stored-there (crew s) state.board.sealed o.round.entries o.round.cells o.place job.node o.cell f.0 marks.end o.own.0 marks.reuses; others = stored-others (crew s) state.board.sealed o.round.entries o.round.cells o.place job.node f.0 marks.end marks.reuses; after = refl } in
        let all : StoresAll (crew s) state.board job f.0 board = record { stores = stores; none_left = marks.none_left } in
        let next = on_board (crew s) state board in
        let back : TakesBack (crew s) state j Stored next = record { job = job; handed_out = at; front = f.0; local = f.1; board = board; brings = stores; after = refl } in
        let chosen : TakesBackAll (crew s) state j Stored next = record { takes_back = back; all = all } in
        (Was_brought j Stored, next, (refl, chosen))

    bring-at : (j : ℕ) (job : DutyWork) → slice_get state.jobs j ≡ Some job → (round : CrewRound) → state.board.round ≡ Some round → (place : ℕ) (cell : Cell Entries) → IsOwn (crew s) round place cell job → HasReply state (Bring j)
    bring-at j job at round is place Waiting own = stored j job at (record { round = round; is_open = is; place = place; cell = Waiting; own = own }) tt
    bring-at j job at round is place Out own = stored j job at (record { round = round; is_open = is; place = place; cell = Out; own = own }) tt
    bring-at j job at round is place (Done g) own =
        let f = worked j job at in
        let brings : Brings (crew s) state.board job f.0 Again state.board = ((round, place, g, is, own), refl) in
        let back : TakesBack (crew s) state j Again state = record { job = job; handed_out = at; front = f.0; local = f.1; board = state.board; brings = brings; after = refl } in
        let chosen : TakesBackAll (crew s) state j Again state = record { takes_back = back; all = brings } in
        (Was_brought j Again, state, (refl, chosen))

    bring-reply : (j : ℕ) → HasReply state (Bring j)
    bring-reply j =
        ⊎_elim {C = HasReply state (Bring j)}
        (λ some.
        ⊎_elim {C = HasReply state (Bring j)}
        (λ o. bring-at j some.0 some.1 o.round o.is_open o.place o.cell o.own)
        (λ none.
        (
        let job = some.0 in
        let f = worked j job some.1 in
        let brings : Brings (crew s) state.board job f.0 Stale state.board = ((λ c. none c.0 c.1 c.2 c.3 c.4), refl) in
        let back : TakesBack (crew s) state j Stale state = record { job = job; handed_out = some.1; front = f.0; local = f.1; board = state.board; brings = brings; after = refl } in
        let chosen : TakesBackAll (crew s) state j Stale state = record { takes_back = back; all = brings } in
        (Was_brought j Stale, state, (refl, chosen))))
        (own-or-not some.0 (settings-of j some.0 some.1)))
        (λ none. (Not_brought j, state, (refl, past state.jobs j none, refl)))
        (some-or-none (slice_get state.jobs j))

    kept-back : (j : ℕ) (job : DutyWork) → slice_get state.jobs j ≡ Some job → ((round : CrewRound) (place : ℕ) → state.board.round ≡ Some round → IsOwn (crew s) round place Out job → ⊥) → HasReply state (Give_back j)
    kept-back j job at none =
        let gives : GivesBack (crew s) state.board job false state.board = (none, refl) in
        let up : GivesUp (crew s) state j false state = record { job = job; handed_out = at; board = state.board; gives_back = gives; after = refl } in
        (Given_back j false, state, (refl, up))

    -- the node is done, or waits
    not-out : (job : DutyWork) (round : CrewRound) → state.board.round ≡ Some round → (place : ℕ) (cell : Cell Entries) → (cell ≡ Out → ⊥) → IsOwn (crew s) round place cell job → (r : CrewRound) (k : ℕ) → state.board.round ≡ Some r → IsOwn (crew s) r k Out job → ⊥
    not-out job round is place cell other own r k e h =
        let there : Member round.cells (job.node, Out) = subst (λ (z : CrewRound). Member z.cells (job.node, Out)) (sym (Some-same round r (sym is ∙ e))) (Member-at r.cells k (job.node, Out) h.0) in
        other (one-cell round.cells (sound.board.round round is).nodes.rise job.node cell Out (Member-at round.cells place (job.node, cell) own.0) there)

    give-at : (j : ℕ) (job : DutyWork) → slice_get state.jobs j ≡ Some job → (round : CrewRound) → state.board.round ≡ Some round → (place : ℕ) (cell : Cell Entries) → IsOwn (crew s) round place cell job → HasReply state (Give_back j)
    give-at j job at round is place Waiting own = kept-back j job at (not-out job round is place Waiting (λ e. (let q : ⊥ = (cc) in q)) own)
    give-at j job at round is place (Done g) own = kept-back j job at (not-out job round is place (Done g) (λ e. (let q : ⊥ = (cc) in q)) own)
    give-at j job at round is place Out own =
        let board = with_cells (crew s) state.board round (slice_set round.cells place (job.node, Waiting)) in
        let frees : Frees (crew s) state.board job board = record { round = round; is_open = is; place = place; own = own; after = refl } in
        let next = on_board (crew s) state board in
        let up : GivesUp (crew s) state j true next = record { job = job; handed_out = at; board = board; gives_back = frees; after = refl } in
        (Given_back j true, next, (refl, up))

    give-reply : (j : ℕ) → HasReply state (Give_back j)
    give-reply j =
        ⊎_elim {C = HasReply state (Give_back j)}
        (λ some.
        ⊎_elim {C = HasReply state (Give_back j)}
        (λ o. give-at j some.0 some.1 o.round o.is_open o.place o.cell o.own)
        (λ none. kept-back j some.0 some.1 (λ r place e own. none r place Out e own))
        (own-or-not some.0 (settings-of j some.0 some.1)))
        (λ none. (Not_given_back j, state, (refl, past state.jobs j none, refl)))
        (some-or-none (slice_get state.jobs j))

    -- ---- abandon and seal

    abandon-reply : HasReply state Abandon
    abandon-reply =
        ⊎_elim {C = HasReply state Abandon}
        (λ some.
        (
        let board : CrewBoard = record { sealed = state.board.sealed; round = None } in
        let abandons : Abandons (crew s) state.board true board = (some, refl) in
        let next = on_board (crew s) state board in
        let drops : Drops (crew s) state true next = record { board = board; abandons = abandons; after = refl } in
        (Abandoned true, next, drops)))
        (λ none.
        (
        let abandons : Abandons (crew s) state.board false state.board = (none, refl) in
        let drops : Drops (crew s) state false state = record { board = state.board; abandons = abandons; after = refl } in
        (Abandoned false, state, drops)))
        (some-or-none state.board.round)

    seal-all : (round : CrewRound) → state.board.round ≡ Some round → left round.cells ≡ 0 → HasReply state Seal
    seal-all round is none =
        let f = fronts-of round.cells none in
        let best = some-least s f.0 in
        let version : CrewVersion = record { number = state.board.sealed.number + 1; entries = round.entries; fronts = f.0; best = best.0 } in
        let board : CrewBoard = record { sealed = version; round = None } in
        let seals : Seals (crew s) state.board version board = record { round = round; is_open = is; number = refl; entries = refl; fronts = f.1; least = best.1; after = refl } in
        let next = on_board (crew s) state board in
        let closes : Closes (crew s) state version next = record { board = board; seals = seals; after = refl } in
        (Sealed (length state.board.sealed.entries) version, next, (refl, closes))

    seal-in : (round : CrewRound) → state.board.round ≡ Some round → HasReply state Seal
    seal-in round is =
        let right = sound.board.round round is in
        ⊎_elim {C = HasReply state Seal}
        (λ u.
        (
        let first : IsFirstUndone (crew s) state.board u.1.0 = record { round = round; is_open = is; place = u.0; cell = u.1.1; stands = u.1.2; undone = u.1.3; least = λ k m c l at h. u.2 k l (m, c, at, h) } in
        (Not_done u.1.0, state, (first, refl))))
        (λ none. all-left round is none (left round.cells) refl)
        (least-undone s checked (timetable_of round.entries) round.cells right.nodes right.right)
      where
        all-left : (round : CrewRound) → state.board.round ≡ Some round → ((place : ℕ) → ((n : DutyNode) × (c : Cell Entries) × (slice_get round.cells place ≡ Some (n, c)) × IsUndone c) → ⊥) → (k : ℕ) → left round.cells ≡ k → HasReply state Seal
        all-left round is none zero e = seal-all round is e
        all-left round is none (suc k) e =
            let u = some-left round.cells k e in
            let at = place-of-member round.cells (u.0, u.1) u.2 in
            absurd (none at.0 (u.0, u.1, at.1, u.3))

    seal-reply : HasReply state Seal
    seal-reply =
        ⊎_elim {C = HasReply state Seal}
        (λ some. seal-in some.0 some.1)
        (λ none. (No_round, state, (none, refl)))
        (some-or-none state.board.round)

    -- ---- publish and ask

    publish-reply : HasReply state Publish
    publish-reply =
        let last = sound.newest in
        ⊎_elim {C = HasReply state Publish}
        (λ e. (Nothing_new, state, (last.1 ∙ ap Some e, refl)))
        (λ follows.
        (
        let sealed = state.board.sealed in
        let is-new : last_of state.published ≢ Some sealed = λ e.
        (
        let same : last.0 ≡ sealed = Some-same last.0 sealed (sym last.1 ∙ e) in
        let number : last.0.number ≡ sealed.number = ap (λ (v : CrewVersion). v.number) same in
        let rises = follows.rises in
        absurd (omega (arith, number, rises))) in
        let next : CrewState = record { log = state.log; board = state.board; jobs = state.jobs; published = state.published ++ sealed ∷ []; seen = state.seen } in
        let shows : Shows (crew s) state next = record { is_new = is-new; after = refl } in
        (Was_published sealed, next, (refl, shows))))
        last.2

    ask-reply : (r : ℕ) → HasReply state (Ask r)
    ask-reply r =
        let last = sound.newest in
        let place = length state.published - 1 in
        let low = served.seen r in
        let next : CrewState = record { log = state.log; board = state.board; jobs = state.jobs; published = state.published; seen = (r, place) ∷ state.seen } in
        let answers : Answers (crew s) state r place last.0 next = record { stands = last.1; not_before = omega (arith, low); after = refl } in
        let is-last : place + 1 ≡ length state.published = omega (arith, low) in
        (Answered r place last.0, next, (is-last, refl, answers))

    pub some-reply : (act : CrewAct) → HasReply state act
    some-reply (Push e) =
        let next : CrewState = record { log = state.log ++ e ∷ []; board = state.board; jobs = state.jobs; published = state.published; seen = state.seen } in
        (Pushed (length state.log), next, (refl, refl))
    some-reply Begin = begin-reply
    some-reply Claim = claim-reply
    some-reply (Bring j) = bring-reply j
    some-reply (Give_back j) = give-reply j
    some-reply Abandon = abandon-reply
    some-reply Seal = seal-reply
    some-reply Publish = publish-reply
    some-reply (Ask r) = ask-reply r

  pub some-run : (acts : List CrewAct) (state : CrewState) → IsSound (crew s) state → IsLogged (crew s) state → IsServed (crew s) state → (replies : List CrewReply) × (next : CrewState) × ChosenRun (crew s) state acts replies next
  some-run [] state sound logged served = ([], state, refl)
  some-run (act ∷ acts) state sound logged served =
      let r = some-reply state sound logged served act in
      let step = chosen_step (crew s) state act r.0 r.1 r.2 in
      let rest = some-run acts r.1 (step_sound (crew s) (crew-laws s checked) state act r.0 r.1 sound step) (step_logged (crew s) state act r.0 r.1 logged step) (step_served (crew s) (crew-laws s checked) state act r.0 r.1 sound served step) in
      (r.0 ∷ rest.0, rest.1, (r.1, r.2, rest.2))

  pub some-play : (acts : List CrewAct) → (replies : List CrewReply) × (next : CrewState) × ChosenRun (crew s) (start (crew s)) acts replies next
  some-play acts = some-run acts (start (crew s)) (start_sound (crew s) (crew-laws s checked)) (start_logged (crew s)) (start_served (crew s) (crew-laws s checked))
