-- A round in which nothing is out can be finished: its nodes are claimed and brought one after another, and then it is sealed.
use Rattle.std.proofs.Common.{◌≡◌, ℕ, zero, suc, ◌+◌, List, [], ◌∷◌, ◌++◌, map, length, slice_set, Option, Some, None, ◌⊎◌, inl, inr, refl, sym, ap, subst, ⊎_elim, arith}
use Rattle.std.specs.List.{slice_get}
use Rattle.crew_flights.specs.Timetable.{Timetable}
use Rattle.crew_flights.specs.declared.entries.Entry.{Entry}
use Rattle.crew_machine.proofs.Cells.{Member-slice_set, Some-same, map-slice_set_same, set-keeps}
use Rattle.crew_machine.proofs.CrewLaws.{crew-laws, timetable-sound}
use Rattle.crew_machine.proofs.Least.{some-least}
use Rattle.crew_machine.proofs.Progress.{some-claim}
use Rattle.crew_machine.proofs.Reuse.{slice_get-set_here, stored-others}
use Rattle.crew_machine.proofs.Runs.{slice_get_push_new}
use Rattle.crew_machine.proofs.Sorted.{rising-front}
use Rattle.crew_machine.specs.Crew.{CrewAct, CrewReply, CrewRound, CrewState, CrewVersion, DutyNode, DutyWork, Entries, IsFrontOf, IsLocalOf, IsNodeOf, crew, timetable_of}
use Rattle.crew_machine.specs.Machinery.Sound.{IsRound}
use Rattle.crew_machine.specs.Rounds.{Board, Claims, IsDone, IsUndone, Seals, Stores}
use Rattle.crew_machine.specs.Steps.{Bring, Claim, Claimed, Closes, HandsOut, Run, Seal, Sealed, TakesBack, Was_brought}
use Rattle.crew_machine.specs.Worlds.{AreNodes, IsWorkOf}
use Rattle.crew_machine.specs.declared.rounds.Brought.TheVariants.{Stored}
use Rattle.crew_machine.specs.declared.rounds.Cell.{Cell}
use Rattle.crew_machine.specs.declared.rounds.Cell.TheVariants.{Waiting, Out, Done}
use Rattle.crew_resource.specs.Members.{Member}
use Rattle.crew_rules.specs.Settings.{IsChecked}
use Rattle.crew_rules.specs.declared.settings.Settings.{Settings}
use Rattle.crew_answers.specs.crew_vector.declared.priced.PricedPairing.{PricedPairing}

abbrev pub Cells : Type 0
Cells = List (DutyNode × Cell Entries)

abbrev Seen : Type 0
Seen = List (ℕ × ℕ)

-- ---- lists

set-twice : {X : Type 0} (xs : List X) (i : ℕ) (a b : X) → slice_set (slice_set xs i a) i b ≡ slice_set xs i b
set-twice [] i a b = refl
set-twice (x ∷ xs) zero a b = refl
set-twice (x ∷ xs) (suc i) a b = ap (λ z. x ∷ z) (set-twice xs i a b)

abbrev pub undone : Cell Entries → ℕ
undone Waiting = 1
undone Out = 1
undone (Done f) = 0

abbrev pub left : Cells → ℕ
left [] = 0
left (c ∷ cells) = undone c.1 + left cells

pub left-less : (cells : Cells) (i : ℕ) (n : DutyNode) (m : DutyNode) (f : Entries) → slice_get cells i ≡ Some (n, Waiting) → left cells ≡ suc (left (slice_set cells i (m, Done f)))
left-less [] i n m f at = absurd (let q : ⊥ = (cc) in q)
left-less (c ∷ cells) zero n m f at =
    let w : DutyNode × Cell Entries = (n, Waiting) in
    let is : c.1 ≡ Waiting = ap (λ (z : DutyNode × Cell Entries). z.1) (Some-same c w at) in
    let one : undone c.1 ≡ 1 = ap undone is in
    omega (arith, one)
left-less (c ∷ cells) (suc i) n m f at = let rest = left-less cells i n m f at in omega (arith, rest)

pub some-left : (cells : Cells) (k : ℕ) → left cells ≡ suc k → (n : DutyNode) × (c : Cell Entries) × Member cells (n, c) × IsUndone c
some-left [] k e = absurd (omega (arith, e))
some-left ((n, Waiting) ∷ cells) k e = (n, Waiting, inl refl, tt)
some-left ((n, Out) ∷ cells) k e = (n, Out, inl refl, tt)
some-left ((n, Done f) ∷ cells) k e = let r = some-left cells k (omega (arith, e)) in (r.0, r.1, inr r.2, r.3)

-- where all are done, their fronts
pub fronts-of : (cells : Cells) → left cells ≡ 0 → (fronts : List (DutyNode × Entries)) × (map (λ e. (e.0, Done e.1)) fronts ≡ cells)
fronts-of [] e = ([], refl)
fronts-of ((n, Waiting) ∷ cells) e = absurd (omega (arith, e))
fronts-of ((n, Out) ∷ cells) e = absurd (omega (arith, e))
fronts-of ((n, Done f) ∷ cells) e = let r = fronts-of cells (omega (arith, e)) in ((n, f) ∷ r.0, ap (λ z. (n, Done f) ∷ z) r.1)

not-done : (n m : DutyNode) (f : Entries) → ◌≡◌ {A = DutyNode × Cell Entries} (n, Waiting) (m, Done f) → ⊥
not-done n m f e = let q : Waiting ≡ Done f = ap (λ (z : DutyNode × Cell Entries). z.1) e in let r : ⊥ = (cc) in r

module _ (s : Settings) (checked : IsChecked s) where
  pub runs-on : (old mid new : CrewState) (acts more : List CrewAct) (replies others : List CrewReply) → Run (crew s) old acts replies mid → Run (crew s) mid more others new → Run (crew s) old (acts ++ more) (replies ++ others) new
  runs-on old mid new [] more [] others h k = subst (λ (z : CrewState). Run (crew s) z more others new) h k
  runs-on old mid new [] more (r ∷ rs) others h k = absurd h
  runs-on old mid new (a ∷ acts) more [] others h k = absurd h
  runs-on old mid new (a ∷ acts) more (r ∷ rs) others h k = (h.0, h.1, runs-on h.0 mid new acts more rs others h.2 k)

  module _ (log entries : List Entry) (sealed : CrewVersion) (published : List CrewVersion) (seen : Seen) where
    abbrev over : Cells → List DutyWork → CrewState
    over cells jobs = record { log = log; board = record { sealed = sealed; round = Some (record { entries = entries; cells = cells }) }; jobs = jobs; published = published; seen = seen }

    abbrev data-of : Timetable
    data-of = timetable_of entries

    -- what is kept while the round is finished
    pub record Going (cells : Cells) : Type 0 where
      pub nodes : AreNodes (crew s) data-of (map (λ c. c.0) cells)
      pub right : (n : DutyNode) (f : Entries) → Member cells (n, Done f) → IsFrontOf s data-of n f
      pub none_out : (n : DutyNode) → Member cells (n, Out) → ⊥

    going-on : (cells : Cells) (place : ℕ) (n : DutyNode) (f : Entries) → Going cells → slice_get cells place ≡ Some (n, Waiting) → IsFrontOf s data-of n f → Going (slice_set cells place (n, Done f))
    going-on cells place n f g at front =
        let new : DutyNode × Cell Entries = (n, Done f) in
        record {
          nodes = subst (AreNodes (crew s) data-of) (sym (map-slice_set_same (λ (c : DutyNode × Cell Entries). c.0) cells place (n, Waiting) new at refl)) g.nodes;
          right = λ m h there.
              let both : (◌≡◌ {A = DutyNode × Cell Entries} (n, Done f) (m, Done h)) ⊎ Member cells (m, Done h) = Member-slice_set cells place new (m, Done h) there in
              ⊎_elim
              (λ e.
              let node : n ≡ m = ap (λ (z : DutyNode × Cell Entries). z.0) e in
              let cell : Done f ≡ Done h = ap (λ (z : DutyNode × Cell Entries). z.1) e in
              let same : f ≡ h = (cc) in
              subst (λ (z : DutyNode). IsFrontOf s data-of z h) node (subst (IsFrontOf s data-of n) same front))
              (g.right m h)
              both;
          none_out = λ m there.
              ⊎_elim
              (λ e. let q : Done f ≡ Out = ap (λ (z : DutyNode × Cell Entries). z.1) e in let r : ⊥ = (cc) in r)
              (g.none_out m)
              (Member-slice_set cells place new (m, Out) there);
        }

    record Turned (cells : Cells) (jobs : List DutyWork) : Type 0 where
      pub place : ℕ
      pub job : DutyWork
      pub front : Entries
      pub at : slice_get cells place ≡ Some (job.node, Waiting)
      pub right : IsFrontOf s data-of job.node front
      pub run : Run (crew s) (over cells jobs) (Claim ∷ Bring (length jobs) ∷ []) (Claimed (length jobs) job ∷ Was_brought (length jobs) Stored ∷ []) (over (slice_set cells place (job.node, Done front)) (jobs ++ job ∷ []))

    -- a node is claimed, and its result brought
    turned : (cells : Cells) (jobs : List DutyWork) → Going cells → (n : DutyNode) (c : Cell Entries) → Member cells (n, c) → IsUndone c → Turned cells jobs
    turned cells jobs g n c m u =
        let k = some-claim s checked data-of (timetable-sound entries) cells g.nodes g.none_out n c m u in
        let place = k.0 in
        let job = k.1 in
        let at : slice_get cells place ≡ Some (job.node, Waiting) = k.3 in
        let work : IsWorkOf (crew s) data-of (IsDone (crew s) cells) job = k.4 in
        let is : IsNodeOf s data-of job.node = (g.nodes.exact job.node).0 (own-node cells place job.node at) in
        let f = rising-front s data-of checked (timetable-sound entries) job.node is in
        let right-work : IsWorkOf (crew s) data-of (IsFrontOf s data-of) job = record { input = work.input; before = work.before; fronts = λ p h x. g.right p h (work.fronts p h x) } in
        let local : IsLocalOf job f.0 = (crew-laws s checked).local_out entries job f.0 is right-work f.1 in
        let out : Cells = slice_set cells place (job.node, Out) in
        let done : Cells = slice_set cells place (job.node, Done f.0) in
        let later : IsWorkOf (crew s) data-of (IsDone (crew s) out) job = record { input = work.input; before = work.before; fronts = λ p h x. set-keeps cells place (job.node, Waiting) (job.node, Out) (p, Done h) at (not-done job.node p h) (work.fronts p h x) } in
        let round : CrewRound = record { entries = entries; cells = cells } in
        let claims : Claims (crew s) (over cells jobs).board job (over out jobs).board = record { round = round; is_open = refl; place = place; ready = k.2; own = (at, work); after = refl } in
        let first : HandsOut (crew s) (over cells jobs) job (over out (jobs ++ job ∷ [])) = record { board = (over out jobs).board; claims = claims; after = refl } in
        let written : done ≡ slice_set out place (job.node, Done f.0) = sym (set-twice cells place (job.node, Out) (job.node, Done f.0)) in
        let now : slice_get out place ≡ Some (job.node, Out) = slice_get-set_here cells place (job.node, Waiting) (job.node, Out) at in
        let stores : Stores (crew s) (over out jobs).board job f.0 (over done jobs).board = record { round = record { entries = entries; cells = out }; is_open = refl; place = place; cell = Out; own = (now, later); undone = tt; local = local; cells = done; stored = slice_get-set_here cells place (job.node, Waiting) (job.node, Done f.0) at; others = stored-others (crew s) sealed entries out place job.node f.0 done (λ k. inl (ap (λ (z : Cells). slice_get z k) written)); after = refl } in
        let second : TakesBack (crew s) (over out (jobs ++ job ∷ [])) (length jobs) Stored (over done (jobs ++ job ∷ [])) = record { job = job; handed_out = slice_get_push_new jobs job; front = f.0; local = local; board = (over done jobs).board; brings = stores; after = refl } in
        record { place = place; job = job; front = f.0; at = at; right = f.1; run = (over out (jobs ++ job ∷ []), (refl, first), (over done (jobs ++ job ∷ []), (refl, second), refl)) }
      where
        own-node : (cells : Cells) (place : ℕ) (n : DutyNode) → slice_get cells place ≡ Some (n, Waiting) → Member (map (λ c. c.0) cells) n
        own-node [] place n at = absurd (let q : ⊥ = (cc) in q)
        own-node (c ∷ cells) zero n at = let w : DutyNode × Cell Entries = (n, Waiting) in inl (ap (λ (z : DutyNode × Cell Entries). z.0) (Some-same c w at))
        own-node (c ∷ cells) (suc place) n at = inr (own-node cells place n at)

    record Filled (cells : Cells) (jobs : List DutyWork) : Type 0 where
      pub acts : List CrewAct
      pub replies : List CrewReply
      pub cells' : Cells
      pub jobs' : List DutyWork
      pub none_left : left cells' ≡ 0
      pub run : Run (crew s) (over cells jobs) acts replies (over cells' jobs')

    filled : (k : ℕ) (cells : Cells) (jobs : List DutyWork) → left cells ≡ k → Going cells → Filled cells jobs
    filled zero cells jobs e g = record { acts = []; replies = []; cells' = cells; jobs' = jobs; none_left = e; run = refl }
    filled (suc k) cells jobs e g =
        let u = some-left cells k e in
        let t = turned cells jobs g u.0 u.1 u.2 u.3 in
        let next : Cells = slice_set cells t.place (t.job.node, Done t.front) in
        let less = left-less cells t.place t.job.node t.job.node t.front t.at in
        let rest = filled k next (jobs ++ t.job ∷ []) (omega (arith, e, less)) (going-on cells t.place t.job.node t.front g t.at t.right) in
        record {
          acts = Claim ∷ Bring (length jobs) ∷ rest.acts;
          replies = Claimed (length jobs) t.job ∷ Was_brought (length jobs) Stored ∷ rest.replies;
          cells' = rest.cells';
          jobs' = rest.jobs';
          none_left = rest.none_left;
          run = runs-on (over cells jobs) (over next (jobs ++ t.job ∷ [])) (over rest.cells' rest.jobs') (Claim ∷ Bring (length jobs) ∷ []) rest.acts (Claimed (length jobs) t.job ∷ Was_brought (length jobs) Stored ∷ []) rest.replies t.run rest.run;
        }

    -- then the round is sealed
    pub finished : (cells : Cells) (jobs : List DutyWork) → Going cells → (acts : List CrewAct) × (replies : List CrewReply) × (next : CrewState) × Run (crew s) (over cells jobs) acts replies next × (next.board.round ≡ None) × (next.board.sealed.entries ≡ entries) × (next.board.sealed.number ≡ sealed.number + 1) × (next.published ≡ published)
    finished cells jobs g =
        let all = filled (left cells) cells jobs refl g in
        let f = fronts-of all.cells' all.none_left in
        let best = some-least s f.0 in
        let version : CrewVersion = record { number = sealed.number + 1; entries = entries; fronts = f.0; best = best.0 } in
        let board : Board Entry DutyNode Entries PricedPairing = record { sealed = version; round = None } in
        let next : CrewState = record { log = log; board = board; jobs = all.jobs'; published = published; seen = seen } in
        let seals : Seals (crew s) (over all.cells' all.jobs').board version board = record { round = record { entries = entries; cells = all.cells' }; is_open = refl; number = refl; entries = refl; fronts = f.1; least = best.1; after = refl } in
        let last : Closes (crew s) (over all.cells' all.jobs') version next = record { board = board; seals = seals; after = refl } in
        (all.acts ++ Seal ∷ [], all.replies ++ Sealed (length sealed.entries) version ∷ [], next, runs-on (over cells jobs) (over all.cells' all.jobs') next all.acts (Seal ∷ []) all.replies (Sealed (length sealed.entries) version ∷ []) all.run (next, (refl, last), refl), refl, refl, refl, refl)

  abbrev pub Ends : CrewRound → CrewState → Type 0
  Ends round state = (more : List CrewAct) × (others : List CrewReply) × (next : CrewState) × Run (crew s) state more others next × (next.board.round ≡ None) × (next.board.sealed.entries ≡ round.entries) × (next.board.sealed.number ≡ state.board.sealed.number + 1) × (next.published ≡ state.published)

  pub round-ends : (state : CrewState) (round : CrewRound) → state.board.round ≡ Some round → IsRound (crew s) state.board.sealed round → ((n : DutyNode) → Member round.cells (n, Out) → ⊥) → Ends round state
  round-ends state round is sound none =
      subst (λ (r : Option CrewRound). Ends round (let z : CrewState = record { log = state.log; board = record { sealed = state.board.sealed; round = r }; jobs = state.jobs; published = state.published; seen = state.seen } in z)) (sym is)
      (finished state.log round.entries state.board.sealed state.published state.seen round.cells state.jobs (record { nodes = sound.nodes; right = sound.right; none_out = none }))
