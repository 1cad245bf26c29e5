-- From what a call does to marks to the machine's step.
use Rattle.std.proofs.Common.{◌≡◌, ◌∙◌, ℕ, true, false, Option, Some, None, slice_set, refl, sym, ap, subst}
use Rattle.std.specs.Prelude.{◌↔◌, slice_get}
use Rattle.std.specs.Option.{option_map}
use Rattle.crew_board.proofs.Cells.{AreMarked, all-in, all-out, done-at, mark-at, named, node-at, node-is, out-at, ready-in, ready-out}
use Rattle.crew_board.proofs.Grounded.{as-sealed, over-cells}
use Rattle.crew_board.proofs.Reuse.{IsOver, next-over, none-reusable, reuses-over, round_of}
use Rattle.crew_board.proofs.Written.{map-set-here}
use Rattle.crew_board.specs.Boards.{IsBoardOf, ShownBoard, ShownRound, shown_board, shown_round, shown_version}
use Rattle.crew_board.specs.Cells.{CrewCells, mark_of, marks_of}
use Rattle.crew_board.specs.Machinery.Held.{IsMarkedOver, Marked}
use Rattle.crew_board.specs.Machinery.Turns.{ClaimsAt, IsNowhere, IsOwnPlace, StoresAt}
use Rattle.crew_flights.specs.Timetable.{Timetable}
use Rattle.crew_job.specs.Grounds.{Ground, data_of, nodes_in}
use Rattle.crew_job.specs.Jobs.{IsJobOf, IsOwnAt, IsOwnWork, Job}
use Rattle.crew_machine.proofs.Boards.{brings_sound, claims_sound, gives_back_sound, store_sound}
use Rattle.crew_machine.proofs.Cells.{Some-same}
use Rattle.crew_machine.proofs.CrewLaws.{crew-laws}
use Rattle.crew_machine.proofs.OwnJobs.{ready-work, right-work}
use Rattle.crew_machine.proofs.Reuse.{stored-others, stored-there}
use Rattle.crew_machine.proofs.Alike.{same-front-of}
use Rattle.crew_machine.specs.Choices.{ClaimsLeast, StoresAll}
use Rattle.crew_machine.specs.Crew.{CrewBoard, CrewRound, DutyNode, DutyWork, Entries, IsFrontOf, IsLocalOf, crew, timetable_of}
use Rattle.crew_machine.specs.Machinery.Sound.{IsRound, IsStanding, IsVersion}
use Rattle.crew_machine.specs.Rounds.{Brings, Claims, Frees, GivesBack, IsDone, IsOwn, IsReady, IsUndone, NoneReady, Stores, with_cells}
use Rattle.crew_machine.specs.Worlds.{IsBefore, IsWorkOf}
use Rattle.crew_machine.specs.declared.rounds.Brought.TheVariants.{Stale, Again, Stored}
use Rattle.crew_machine.specs.declared.rounds.Cell.{Cell}
use Rattle.crew_machine.specs.declared.rounds.Cell.TheVariants.{Waiting, Out, Done}
use Rattle.crew_resource.proofs.Members.{Member-map_in, Member-map_out}
use Rattle.crew_resource.specs.Members.{Member}
use Rattle.crew_round.specs.Marks as Marks
use Rattle.crew_round.specs.declared.mark.Mark.TheVariants as MarkedAs
use Rattle.crew_rules.specs.declared.settings.Settings.{Settings}
use Rattle.crew_job.specs.crew_version.Versions.{Snapshot}

-- what a board shows with a round open
abbrev pub shown_of : Marked → ShownRound
shown_of r = record { entries = r.ground.entries; marks = r.marks.marks }

abbrev pub open_board : Marked → ShownBoard
open_board r = record { sealed = r.ground.sealed; round = Some (shown_of r) }

-- a board of the machine over a round that is open, taken apart
pub record IsOpen (r : Marked) (b : CrewBoard) : Type 0 where
  pub cells : CrewCells
  pub is : b.round ≡ Some (round_of r.ground.entries cells)
  pub version : IsVersion (crew r.ground.settings) b.sealed
  pub entries : b.sealed.entries ≡ r.ground.sealed.entries
  pub right : IsRound (crew r.ground.settings) b.sealed (round_of r.ground.entries cells)
  pub marks : marks_of cells ≡ r.marks.marks
  pub shows : shown_version r.ground.settings b.sealed ≡ r.ground.sealed
  pub standing : IsStanding (crew r.ground.settings) b

module _ (r : Marked) (over : IsMarkedOver r) where
  abbrev s : Settings
  s = r.ground.settings

  settings-are : r.ground.sealed.settings ≡ s
  settings-are = sym over.ground.settings

  some-round : (o : Option CrewRound) (x : ShownRound) → option_map shown_round o ≡ Some x → (q : CrewRound) × (o ≡ Some q) × (shown_round q ≡ x)
  some-round None x e = absurd (let z : ⊥ = (cc) in z)
  some-round (Some q) x e = (q, refl, Some-same (shown_round q) x e)

  pub opened : (b : CrewBoard) → IsBoardOf (open_board r) b → IsOpen r b
  opened b is =
      let standing : IsStanding (crew s) b = subst (λ (z : Settings). IsStanding (crew z) b) settings-are is.right in
      let shows : shown_board s b ≡ open_board r = subst (λ (z : Settings). shown_board z b ≡ open_board r) settings-are is.shows in
      let q = some-round b.round (shown_of r) (ap (λ (z : ShownBoard). z.round) shows) in
      let entries : q.0.entries ≡ r.ground.entries = ap (λ (z : ShownRound). z.entries) q.2 in
      let round : q.0 ≡ round_of r.ground.entries q.0.cells = ap (λ es. round_of es q.0.cells) entries in
      let some : b.round ≡ Some (round_of r.ground.entries q.0.cells) = q.1 ∙ ap (λ (z : CrewRound). Some z) round in
      record {
        cells = q.0.cells;
        is = some;
        version = standing.sealed;
        entries = ap (λ (z : ShownBoard). z.sealed.entries) shows;
        right = standing.round (round_of r.ground.entries q.0.cells) some;
        marks = ap (λ (z : ShownRound). z.marks) q.2;
        shows = ap (λ (z : ShownBoard). z.sealed) shows;
        standing = standing;
      }

  -- a board with other cells shows other marks
  pub closed : (b : CrewBoard) → (o : IsOpen r b) → (cells : CrewCells) (marks : Marks.Marks) → IsStanding (crew s) (with_cells (crew s) b (round_of r.ground.entries o.cells) cells) → marks_of cells ≡ marks.marks
      → IsBoardOf (open_board (let q : Marked = record { ground = r.ground; marks = marks } in q)) (with_cells (crew s) b (round_of r.ground.entries o.cells) cells)
  closed b o cells marks right same =
      let after = with_cells (crew s) b (round_of r.ground.entries o.cells) cells in
      let q : Marked = record { ground = r.ground; marks = marks } in
      let shows : shown_board s after ≡ open_board q =
      ap (λ (z : Snapshot). let y : ShownBoard = record { sealed = z; round = Some (let x : ShownRound = record { entries = r.ground.entries; marks = marks_of cells } in x) } in y) o.shows
      ∙ ap (λ ms. let y : ShownBoard = record { sealed = r.ground.sealed; round = Some (let x : ShownRound = record { entries = r.ground.entries; marks = ms } in x) } in y) same in
      record {
        right = subst (λ (z : Settings). IsStanding (crew z) after) (sym settings-are) right;
        shows = subst (λ (z : Settings). shown_board z after ≡ open_board q) (sym settings-are) shows;
      }

  module _ (b : CrewBoard) (o : IsOpen r b) where
    abbrev round : CrewRound
    round = round_of r.ground.entries o.cells

    abbrev t : Timetable
    t = data_of r.ground

    pub cells-over : IsOver s b.sealed r.ground.entries r.marks o.cells
    cells-over = over-cells r over b.sealed o.version o.entries o.cells o.right o.marks

    abbrev marked : AreMarked s t r.marks.net r.marks.marks o.cells
    marked = cells-over.marked

    same-round : (q : CrewRound) → b.round ≡ Some q → round ≡ q
    same-round q e = Some-same round q (sym o.is ∙ e)

    -- a node of the network stands in the cells
    pub cell-of-node : (place : ℕ) (n : DutyNode) → slice_get (nodes_in r.ground.plan.net) place ≡ Some n → (c : Cell Entries) × (slice_get o.cells place ≡ Some (n, c))
    cell-of-node place n at = named s t r.marks.net r.marks.marks o.cells marked place n (ap (λ net. slice_get (nodes_in net) place) over.net ∙ at)

    pub node-of-cell : (place : ℕ) (n : DutyNode) (c : Cell Entries) → slice_get o.cells place ≡ Some (n, c) → slice_get (nodes_in r.ground.plan.net) place ≡ Some n
    node-of-cell place n c at = sym (ap (λ net. slice_get (nodes_in net) place) over.net) ∙ node-at s t r.marks.net r.marks.marks o.cells marked place n c at

    -- ---- claim

    pub none-ready : Marks.NoneReady r.marks → NoneReady (crew s) b
    none-ready none q place n e ready = none place (ready-out s t r.marks o.cells marked place n (subst (λ (z : CrewRound). IsReady (crew s) (timetable_of z.entries) z.cells place n) (sym (same-round q e)) ready))

    -- the job that is handed out, as the machine has it
    pub record Handed (job : Job) (new : Marked) : Type 0 where
      pub work : DutyWork
      pub of_job : IsJobOf job work
      pub after : CrewBoard
      pub claims : ClaimsLeast (crew s) b work after
      pub shows : IsBoardOf (open_board new) after

    pub handed : (job : Job) (new : Marked) → ClaimsAt r job new → Handed job new
    handed job new c =
        let place = c.place in
        let ready = ready-in s t r.marks o.cells marked place c.first.ready in
        let n = ready.0 in
        let own = ready-work s over.ground.checked t o.cells marked.nodes o.right.right place n ready.1 in
        let work = own.0 in
        let at : slice_get o.cells place ≡ Some (work.node, Waiting) = subst (λ (z : DutyNode). slice_get o.cells place ≡ Some (z, Waiting)) (sym own.1) ready.1.0 in
        let cells = slice_set o.cells place (work.node, Out) in
        let after = with_cells (crew s) b round cells in
        let claims : Claims (crew s) b work after = record {
          round = round;
          is_open = o.is;
          place = place;
          ready = (at, subst (λ (z : DutyNode). (p : DutyNode) → IsBefore (crew s) t p z → (f : Entries) × IsDone (crew s) o.cells p f) (sym own.1) ready.1.1);
          own = (at, own.2);
          after = refl;
        } in
        let least : ClaimsLeast (crew s) b work after = record {
          claims = claims;
          least = λ k m l h. c.first.least k l (ready-out s t r.marks o.cells marked k m h);
        } in
        let here : slice_get (nodes_in r.ground.plan.net) place ≡ Some work.node = node-of-cell place work.node Waiting at in
        let right = right-work s over.ground.checked t o.cells marked.nodes o.right.right work own.2 in
        let of-job : IsJobOf job work = record { node = sym c.node ∙ here; own = subst (λ (g : Ground). IsOwnWork g work) (sym c.ground) right } in
        let marks = map-set-here (λ (x : DutyNode × Cell Entries). mark_of x.1) o.cells place (work.node, Out) ∙ ap (λ ms. slice_set ms place MarkedAs.Out) o.marks in
        let standing = claims_sound (crew s) (crew-laws s over.ground.checked) b work after o.standing claims in
        record {
          work = work;
          of_job = of-job;
          after = after;
          claims = least;
          shows = subst (λ (z : Marked). IsBoardOf (open_board z) after) (sym c.after) (closed b o cells (Marks.with_mark r.marks place MarkedAs.Out) standing marks);
        }

    -- ---- whose job it is now

    module _ (job : Job) (work : DutyWork) (is : IsJobOf job work) where
      pub own-in : (place : ℕ) → IsOwnPlace r job place → (c : Cell Entries) × IsOwn (crew s) round place c work
      own-in place p =
          let own = p.own work is in
          let c = cell-of-node place work.node own.node in
          let all = all-in s t r.marks.net r.marks.marks o.cells marked place work.node c.0 c.1 p.before in
          let fronts : (q : DutyNode) (f : Entries) → Member work.before (q, f) → IsDone (crew s) o.cells q f = λ q f m.
          (
          let b' = (own.own.before.exact q).0 (Member-map_in (λ (x : DutyNode × Entries). x.0) work.before (q, f) m) in
          let done = all q b' in
          let one : done.0 ≡ f = same-front-of s over.ground.checked t q done.0 f (o.right.right q done.0 done.1) (own.own.fronts q f m) in
          subst (λ (z : Entries). Member o.cells (q, Done z)) one done.1) in
          let here : IsWorkOf (crew s) t (IsDone (crew s) o.cells) work = record { input = own.own.input; before = own.own.before; fronts = fronts } in
          (c.0, (c.1, here))

      pub own-out : (one : (v w : DutyWork) → IsJobOf job v → IsJobOf job w → v ≡ w) → (place : ℕ) (c : Cell Entries) → IsOwn (crew s) round place c work → IsOwnPlace r job place
      own-out one place c own =
          let all : (p : DutyNode) → IsBefore (crew s) t p work.node → (f : Entries) × IsDone (crew s) o.cells p f = λ p b'.
          (
          let from = Member-map_out (λ (x : DutyNode × Entries). x.0) work.before p ((own.1.before.exact p).1 b') in
          let there : Member work.before (p, from.0.1) = subst (λ (z : DutyNode). Member work.before (z, from.0.1)) from.2 from.1 in
          (from.0.1, own.1.fronts p from.0.1 there)) in
          let right = right-work s over.ground.checked t o.cells marked.nodes o.right.right work own.1 in
          let here : IsOwnAt r.ground place work = record { node = node-of-cell place work.node c own.0; own = right } in
          record {
            before = all-out s t r.marks.net r.marks.marks o.cells marked place work.node c own.0 all;
            own = λ w k. subst (IsOwnAt r.ground place) (one work w is k) here;
          }

      -- ---- bring

      pub stale-step : ((v w : DutyWork) → IsJobOf job v → IsJobOf job w → v ≡ w) → IsNowhere r job → (front : Entries) → Brings (crew s) b work front Stale b
      stale-step one none front = (
        λ k.
            (
            let own : IsOwn (crew s) round k.1 k.2 work = subst (λ (q : CrewRound). IsOwn (crew s) q k.1 k.2 work) (sym (same-round k.0 k.3)) k.4 in
            none k.1 (own-out one k.1 k.2 own)),
        refl,
      )

      pub again-step : (place : ℕ) → IsOwnPlace r job place → Marks.IsMarked r.marks place MarkedAs.Done → (front : Entries) → Brings (crew s) b work front Again b
      again-step place p mark front =
          let own = own-in place p in
          let done = done-at s t r.marks.net r.marks.marks o.cells marked place mark in
          let pair : (done.0, Done done.1) ≡ (work.node, own.0) = Some-same (done.0, Done done.1) (work.node, own.0) (sym done.2 ∙ own.1.0) in
          let cell : own.0 ≡ Done done.1 = sym (ap (λ (z : DutyNode × Cell Entries). z.1) pair) in
          ((round, place, done.1, o.is, subst (λ (z : Cell Entries). IsOwn (crew s) round place z work) cell own.1), refl)

      undone-cell : (place : ℕ) (n : DutyNode) (c : Cell Entries) → slice_get o.cells place ≡ Some (n, c) → (Marks.IsMarked r.marks place MarkedAs.Done → ⊥) → IsUndone c
      undone-cell place n Waiting at none = tt
      undone-cell place n Out at none = tt
      undone-cell place n (Done f) at none = none (mark-at s t r.marks.net r.marks.marks o.cells marked place n (Done f) at)

      -- a result that is stored, as the machine has it
      pub record Kept (front : Entries) (marks : Marks.Marks) : Type 0 where
        pub after : CrewBoard
        pub stores : StoresAll (crew s) b work front after
        pub end : CrewCells
        pub made : after ≡ with_cells (crew s) b round end
        pub over_end : IsOver s b.sealed r.ground.entries marks end
        pub standing : IsStanding (crew s) after

      pub kept : (front : Entries) → IsLocalOf work front → (new : Marked) → (st : StoresAt r job new) → Kept front st.marks
      kept front local new st =
          let place = st.place in
          let own = own-in place st.own in
          let c = own.0 in
          let right = right-work s over.ground.checked t o.cells marked.nodes o.right.right work own.1.1 in
          let is-node = node-is s t r.marks.net r.marks.marks o.cells marked place work.node c own.1.0 in
          let is-front : IsFrontOf s t work.node front = (crew-laws s over.ground.checked).local_in r.ground.entries work front is-node right local in
          let sealed-front = as-sealed r over b.sealed o.version o.entries o.cells o.right o.marks work.node front is-front in
          let flag = st.told work.node (node-of-cell place work.node c own.1.0) in
          let told : (st.same ≡ true) ↔ Member b.sealed.fronts (work.node, front) = (λ e. sealed-front.0 (flag.0 e), λ m. flag.1 (sealed-front.1 m)) in
          let first = slice_set o.cells place (work.node, Done front) in
          let sound = store_sound (crew s) (crew-laws s over.ground.checked) b.sealed round place c work front o.right own.1 local in
          let next = next-over s over.ground.checked b.sealed o.version r.ground.entries r.marks o.cells cells-over place work.node c own.1.0 front st.same told sound in
          let rest = reuses-over s over.ground.checked b.sealed o.version r.ground.entries (Marks.marked r.marks place st.same) first next st.stores.reused st.marks st.stores.reuses in
          let end = rest.0 in
          let after = with_cells (crew s) b round end in
          let stores : Stores (crew s) b work front after = record {
            round = round;
            is_open = o.is;
            place = place;
            cell = c;
            own = own.1;
            undone = undone-cell place work.node c own.1.0 st.undone.1;
            local = local;
            cells = end;
            stored = stored-there (crew s) b.sealed r.ground.entries o.cells place work.node c front end own.1.0 rest.1;
            others = stored-others (crew s) b.sealed r.ground.entries o.cells place work.node front end rest.1;
            after = refl;
          } in
          let all : StoresAll (crew s) b work front after = record {
            stores = stores;
            none_left = none-reusable s over.ground.checked b.sealed o.version r.ground.entries st.marks end rest.2 st.stores.none_left;
          } in
          record {
            after = after;
            stores = all;
            end = end;
            made = refl;
            over_end = rest.2;
            standing = brings_sound (crew s) (crew-laws s over.ground.checked) b work front Stored after o.standing stores;
          }

      -- ---- give back

      pub freed : (place : ℕ) → IsOwnPlace r job place → Marks.IsMarked r.marks place MarkedAs.Out → (after : CrewBoard) × GivesBack (crew s) b work true after × IsBoardOf (open_board (let q : Marked = record { ground = r.ground; marks = Marks.with_mark r.marks place MarkedAs.Waiting } in q)) after
      freed place p mark =
          let own = own-in place p in
          let out = out-at s t r.marks.net r.marks.marks o.cells marked place mark in
          let pair : (out.0, Out) ≡ (work.node, own.0) = Some-same (out.0, Out) (work.node, own.0) (sym out.1 ∙ own.1.0) in
          let cell : own.0 ≡ Out = sym (ap (λ (z : DutyNode × Cell Entries). z.1) pair) in
          let here = subst (λ (z : Cell Entries). IsOwn (crew s) round place z work) cell own.1 in
          let cells = slice_set o.cells place (work.node, Waiting) in
          let after = with_cells (crew s) b round cells in
          let frees : Frees (crew s) b work after = record { round = round; is_open = o.is; place = place; own = here; after = refl } in
          let marks = map-set-here (λ (x : DutyNode × Cell Entries). mark_of x.1) o.cells place (work.node, Waiting) ∙ ap (λ ms. slice_set ms place MarkedAs.Waiting) o.marks in
          let standing = gives_back_sound (crew s) (crew-laws s over.ground.checked) b work true after o.standing frees in
          (after, frees, closed b o cells (Marks.with_mark r.marks place MarkedAs.Waiting) standing marks)

      pub not-freed : ((v w : DutyWork) → IsJobOf job v → IsJobOf job w → v ≡ w) → ((place : ℕ) → IsOwnPlace r job place → Marks.IsMarked r.marks place MarkedAs.Out → ⊥) → GivesBack (crew s) b work false b
      not-freed one none = (
        λ q place e own.
            (
            let here : IsOwn (crew s) round place Out work = subst (λ (z : CrewRound). IsOwn (crew s) z place Out work) (sym (same-round q e)) own in
            none place (own-out one place Out here) (mark-at s t r.marks.net r.marks.marks o.cells marked place work.node Out here.0)),
        refl,
      )
