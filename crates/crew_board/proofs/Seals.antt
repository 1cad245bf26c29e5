-- A round is sealed, where all of its nodes are done.
use Rattle.std.proofs.Common.{◌≡◌, ◌<◌, ◌+◌, ◌∙◌, ◌∷◌, [], ℕ, suc, List, Some, None, length, map, refl, sym, ap, subst}
use Rattle.std.specs.Prelude.{slice_get}
use Rattle.std.proofs.lemmas.Option.{slice_get_within}
use Rattle.crew_board.proofs.Cells.{cell-at, mark-at}
use Rattle.crew_board.proofs.Reuse.{round_of}
use Rattle.crew_board.proofs.Steps.{IsOpen, cells-over, node-of-cell}
use Rattle.crew_board.specs.Boards.{IsBoardOf, ShownBoard, shown_board, shown_version}
use Rattle.crew_board.specs.Cells.{CrewCells, mark_of}
use Rattle.crew_board.specs.Machinery.Held.{IsMarkedOver, Marked}
use Rattle.crew_flights.specs.Timetable.{Timetable}
use Rattle.crew_flights.specs.declared.entries.Entry.{Entry}
use Rattle.crew_job.specs.Grounds.{data_of, nodes_in}
use Rattle.crew_machine.proofs.Boards.{seals_sound}
use Rattle.crew_machine.proofs.Cells.{Some-same, map-map_lem}
use Rattle.crew_machine.proofs.CrewLaws.{crew-laws, timetable-sound}
use Rattle.crew_machine.proofs.Least.{some-least}
use Rattle.crew_machine.specs.Crew.{CrewBoard, CrewVersion, DutyNode, Entries, IsFrontOf, IsLeastOf, crew, timetable_of}
use Rattle.crew_machine.specs.Machinery.Sound.{IsStanding}
use Rattle.crew_machine.specs.Rounds.{IsFirstUndone, IsUndone, Seals}
use Rattle.crew_machine.specs.Worlds.{AreNodes}
use Rattle.crew_machine.specs.declared.rounds.Cell.{Cell}
use Rattle.crew_machine.specs.declared.rounds.Cell.TheVariants.{Waiting, Out, Done}
use Rattle.crew_net.proofs.InTime.{item-at}
use Rattle.crew_resource.proofs.Members.{Member-map_in}
use Rattle.crew_resource.specs.Members.{Member}
use Rattle.crew_round.specs.Marks as Marks
use Rattle.crew_round.specs.declared.mark.Mark.TheVariants as MarkedAs
use Rattle.crew_rules.specs.declared.settings.Settings.{Settings}
use Rattle.crew_machine.proofs.crew_answers_lemmas.OneBest.{one-best}
use Rattle.crew_machine.specs.crew_answers.Bests.{IsBest}
use Rattle.crew_job.specs.crew_version.Versions.{IsRight, Snapshot}

abbrev AreDone : CrewCells → Type 0
AreDone cells = (i : ℕ) (n : DutyNode) (c : Cell Entries) → slice_get cells i ≡ Some (n, c) → (f : Entries) × (c ≡ Done f)

abbrev done : DutyNode × Entries → DutyNode × Cell Entries
done e = (e.0, Done e.1)

fronts-of : (cells : CrewCells) → AreDone cells → (fronts : List (DutyNode × Entries)) × (map done fronts ≡ cells)
fronts-of [] all = ([], refl)
fronts-of (x ∷ cells) all =
    let own = all 0 x.0 x.1 refl in
    let rest = fronts-of cells (λ i n c at. all (suc i) n c at) in
    let head : done (x.0, own.0) ≡ x = ap (λ (z : Cell Entries). let y : DutyNode × Cell Entries = (x.0, z) in y) (sym own.1) in
    ((x.0, own.0) ∷ rest.0, ap (λ z. z ∷ map done rest.0) head ∙ ap (λ z. x ∷ z) rest.1)

snapshot-is : (v : Snapshot) (number : ℕ) (s : Settings) (entries : List Entry) → v.number ≡ number → v.settings ≡ s → v.entries ≡ entries → (let z : Snapshot = record { number = number; settings = s; entries = entries; best = v.best } in z) ≡ v
snapshot-is v number s entries a b c =
    ap (λ k. let z : Snapshot = record { number = k; settings = s; entries = entries; best = v.best } in z) (sym a)
    ∙ (ap (λ k. let z : Snapshot = record { number = v.number; settings = k; entries = entries; best = v.best } in z) (sym b)
    ∙ ap (λ k. let z : Snapshot = record { number = v.number; settings = v.settings; entries = k; best = v.best } in z) (sym c))

module _ (r : Marked) (over : IsMarkedOver r) (b : CrewBoard) (o : IsOpen r b) where
  abbrev s : Settings
  s = r.ground.settings

  abbrev t : Timetable
  t = data_of r.ground

  pub all-done : Marks.AllDone r.marks → AreDone o.cells
  all-done all i n c at =
      let m = mark-at s t r.marks.net r.marks.marks o.cells (cells-over r over b o).marked i n c at in
      is-done c (Some-same (mark_of c) MarkedAs.Done (sym m ∙ all i (slice_get_within r.marks.marks i (mark_of c) m)))
    where
      is-done : (c : Cell Entries) → mark_of c ≡ MarkedAs.Done → (f : Entries) × (c ≡ Done f)
      is-done Waiting e = absurd (let q : ⊥ = (cc) in q)
      is-done Out e = absurd (let q : ⊥ = (cc) in q)
      is-done (Done f) e = (f, refl)

  -- the version that is sealed, as the machine has it
  pub record Sealed (v : Snapshot) : Type 0 where
    pub version : CrewVersion
    pub after : CrewBoard
    pub seals : Seals (crew s) b version after
    pub version_shows : shown_version s version ≡ v
    pub shows : IsBoardOf (let z : ShownBoard = record { sealed = v; round = None } in z) after

  pub sealed : Marks.AllDone r.marks → (v : Snapshot) → v.number ≡ r.ground.number → v.settings ≡ s → v.entries ≡ r.ground.entries → IsRight v → Sealed v
  sealed all v number settings entries right =
      let f = fronts-of o.cells (all-done all) in
      let names : map (λ (e : DutyNode × Entries). e.0) f.0 ≡ map (λ (c : DutyNode × Cell Entries). c.0) o.cells =
      map-map_lem done (λ (c : DutyNode × Cell Entries). c.0) (λ (e : DutyNode × Entries). e.0) (λ e. refl) f.0 ∙ ap (map (λ (c : DutyNode × Cell Entries). c.0)) f.1 in
      let nodes : AreNodes (crew s) t (map (λ (e : DutyNode × Entries). e.0) f.0) = subst (AreNodes (crew s) t) (sym names) o.right.nodes in
      let fronts : (n : DutyNode) (g : Entries) → Member f.0 (n, g) → IsFrontOf s t n g = λ n g m. o.right.right n g (subst (λ (z : CrewCells). Member z (n, Done g)) f.1 (Member-map_in done f.0 (n, g) m)) in
      let l = some-least s f.0 in
      let best : IsBest s t l.0 = (crew-laws s over.ground.checked).least r.ground.entries f.0 l.0 nodes fronts l.1 in
      let own : IsBest s t v.best = subst (λ (z : Settings). IsBest z t v.best) settings (subst (λ (es : List Entry). IsBest v.settings (timetable_of es) v.best) entries right.least) in
      let one : l.0 ≡ v.best = one-best s t l.0 v.best (timetable-sound r.ground.entries) best own in
      let next = b.sealed.number + 1 in
      let version : CrewVersion = record { number = next; entries = r.ground.entries; fronts = f.0; best = v.best } in
      let after : CrewBoard = record { sealed = version; round = None } in
      let seals : Seals (crew s) b version after = record {
        round = round_of r.ground.entries o.cells;
        is_open = o.is;
        number = refl;
        entries = refl;
        fronts = f.1;
        least = subst (IsLeastOf s f.0) one l.1;
        after = refl;
      } in
      let before : b.sealed.number ≡ r.ground.sealed.number = ap (λ (z : Snapshot). z.number) o.shows in
      let own-number = over.ground.number in
      let is-number : v.number ≡ next = number ∙ (own-number ∙ ap (λ k. k + 1) (sym before)) in
      let shows : shown_version s version ≡ v = snapshot-is v next s r.ground.entries is-number settings entries in
      let standing : IsStanding (crew s) after = seals_sound (crew s) (crew-laws s over.ground.checked) b version after o.standing seals in
      let shown : shown_board s after ≡ (let z : ShownBoard = record { sealed = v; round = None } in z) = ap (λ (z : Snapshot). let y : ShownBoard = record { sealed = z; round = None } in y) shows in
      record {
        version = version;
        after = after;
        seals = seals;
        version_shows = shows;
        shows = record {
          right = subst (λ (z : Settings). IsStanding (crew z) after) (sym settings) standing;
          shows = subst (λ (z : Settings). shown_board z after ≡ (let y : ShownBoard = record { sealed = v; round = None } in y)) (sym settings) shown;
        };
      }

  -- the least node that isn't done
  pub first-undone : (place : ℕ) → Marks.IsFirstUndone r.marks place → (n : DutyNode) × (slice_get (nodes_in r.ground.plan.net) place ≡ Some n) × IsFirstUndone (crew s) b n
  first-undone place first =
      let marked = (cells-over r over b o).marked in
      let m = mark-there r.marks.marks place first.undone.0 in
      let c = cell-at s t r.marks.net r.marks.marks o.cells marked place m.0 m.1 in
      let n = c.0 in
      let here = node-of-cell r over b o place n c.1 c.2 in
      let undone : IsUndone c.1 = not-done c.1 (λ e. first.undone.1 (mark-at s t r.marks.net r.marks.marks o.cells marked place n c.1 c.2 ∙ ap (λ k. Some k) e)) in
      let least : (k : ℕ) (p : DutyNode) (d : Cell Entries) → k < place → slice_get o.cells k ≡ Some (p, d) → IsUndone d → ⊥ = λ k p d l at u.
      (
      let e = Some-same (mark_of d) MarkedAs.Done (sym (mark-at s t r.marks.net r.marks.marks o.cells marked k p d at) ∙ first.least k l) in
      undone-not d u e) in
      (n, here, record { round = round_of r.ground.entries o.cells; is_open = o.is; place = place; cell = c.1; stands = c.2; undone = undone; least = least })
    where
      mark-there : {X : Type 0} (xs : List X) (i : ℕ) → i < length xs → (x : X) × (slice_get xs i ≡ Some x)
      mark-there xs i h = item-at xs i h

      not-done : (c : Cell Entries) → (mark_of c ≡ MarkedAs.Done → ⊥) → IsUndone c
      not-done Waiting h = tt
      not-done Out h = tt
      not-done (Done f) h = h refl

      undone-not : (c : Cell Entries) → IsUndone c → mark_of c ≡ MarkedAs.Done → ⊥
      undone-not Waiting u e = (let q : ⊥ = (cc) in q)
      undone-not Out u e = (let q : ⊥ = (cc) in q)
      undone-not (Done f) u e = u
