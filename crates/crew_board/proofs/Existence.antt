-- For each round that is open there is a board of the machine.
use Rattle.std.proofs.Common.{◌≡◌, ◌≤◌, ◌<◌, ◌*◌, ◌∙◌, ◌∷◌, [], inl, inr, ℕ, List, Some, None, length, map, refl, sym, ap, subst, arith, length-append, ⊎_elim}
use Rattle.std.proofs.Math.Nat.{suc-mul}
use Rattle.std.proofs.lemmas.List.{length-map}
use mathlib.Core.List.{IsPrefix}
use Rattle.crew_board.proofs.Grounded.{plan-nodes}
use Rattle.crew_board.proofs.Reuse.{round_of}
use Rattle.crew_board.proofs.Steps.{open_board}
use Rattle.crew_board.specs.Boards.{IsBoardOf, ShownBoard, ShownRound, shown_board, shown_version}
use Rattle.crew_board.specs.Cells.{CrewCells, mark_of, marks_of}
use Rattle.crew_board.specs.Machinery.Held.{IsMarkedOver, Marked}
use Rattle.crew_flights.specs.Timetable.{IsSound, Timetable}
use Rattle.crew_flights.specs.declared.entries.Entry.{Entry}
use Rattle.crew_job.specs.Grounds.{data_of}
use Rattle.crew_machine.proofs.Boards.{standing_idle, standing_over}
use Rattle.crew_machine.proofs.CrewLaws.{crew-laws, timetable-sound}
use Rattle.crew_machine.proofs.NodeList.{listed, node-of, some-nodes}
use Rattle.crew_machine.proofs.Sorted.{rising-front}
use Rattle.crew_machine.specs.Crew.{CrewBoard, CrewRound, CrewVersion, DutyNode, Entries, IsFrontOf, IsNodeOf, crew, timetable_of}
use Rattle.crew_machine.specs.Machinery.Sound.{IsRound, IsStanding, IsVersion}
use Rattle.crew_machine.specs.Worlds.{AreNodes}
use Rattle.crew_machine.specs.Rounds.{last_number}
use Rattle.crew_machine.specs.declared.rounds.Cell.{Cell}
use Rattle.crew_machine.specs.declared.rounds.Cell.TheVariants.{Waiting, Out, Done}
use Rattle.crew_pairing.specs.declared.duty.Duty.{Duty}
use Rattle.crew_resource.specs.Members.{Member}
use Rattle.crew_round.specs.declared.mark.Mark.{Mark}
use Rattle.crew_round.specs.declared.mark.Mark.TheVariants as MarkedAs
use Rattle.crew_rules.specs.Settings.{IsChecked}
use Rattle.crew_rules.specs.declared.settings.Settings.{Settings}
use Rattle.crew_job.specs.crew_version.Versions.{IsRight, Snapshot}

pub listed-length : (bases : List (List ℕ)) (ds : List Duty) → length (listed bases ds) ≡ length bases * length ds
listed-length [] ds = omega arith
listed-length (b ∷ bases) ds =
    let own = length-map ds (node-of b) in
    let both = length-append (map (node-of b) ds) (listed bases ds) in
    let rest = listed-length bases ds in
    let more = suc-mul (length bases) (length ds) in
    omega (arith, own, both, rest, more)

module _ (s : Settings) (checked : IsChecked s) (t : Timetable) (sound : IsSound t) where
  abbrev AreRight : CrewCells → Type 0
  AreRight cells = (n : DutyNode) (f : Entries) → Member cells (n, Done f) → IsFrontOf s t n f

  pub record CellsOf (ns : List DutyNode) (ms : List Mark) : Type 0 where
    pub cells : CrewCells
    pub names : map (λ c. c.0) cells ≡ ns
    pub marks : marks_of cells ≡ ms
    pub right : AreRight cells

  one-more : (n : DutyNode) (c : Cell Entries) (ns : List DutyNode) (ms : List Mark) → ((f : Entries) → c ≡ Done f → IsFrontOf s t n f) → CellsOf ns ms → CellsOf (n ∷ ns) (mark_of c ∷ ms)
  one-more n c ns ms is rest = record {
    cells = (n, c) ∷ rest.cells;
    names = ap (λ z. n ∷ z) rest.names;
    marks = ap (λ z. mark_of c ∷ z) rest.marks;
    right = λ m f k. ⊎_elim {C = IsFrontOf s t m f}
        (λ e. subst (λ (z : DutyNode). IsFrontOf s t z f) (ap (λ (z : DutyNode × Cell Entries). z.0) e) (is f (ap (λ (z : DutyNode × Cell Entries). z.1) e)))
        (λ k. rest.right m f k)
        k;
  }

  same-done : (f g : Entries) → Done f ≡ Done g → f ≡ g
  same-done f g e = cc

  pub cells-of : (ns : List DutyNode) (ms : List Mark) → length ns ≡ length ms → ((n : DutyNode) → Member ns n → IsNodeOf s t n) → CellsOf ns ms
  cells-of [] [] e is = record { cells = []; names = refl; marks = refl; right = λ n f m. absurd m }
  cells-of [] (m ∷ ms) e is = absurd (omega (arith, e))
  cells-of (n ∷ ns) [] e is = absurd (omega (arith, e))
  cells-of (n ∷ ns) (MarkedAs.Waiting ∷ ms) e is = one-more n Waiting ns ms (λ f q. absurd (let z : ⊥ = (cc) in z)) (cells-of ns ms (omega (arith, e)) (λ p m. is p (inr m)))
  cells-of (n ∷ ns) (MarkedAs.Out ∷ ms) e is = one-more n Out ns ms (λ f q. absurd (let z : ⊥ = (cc) in z)) (cells-of ns ms (omega (arith, e)) (λ p m. is p (inr m)))
  cells-of (n ∷ ns) (MarkedAs.Done ∷ ms) e is =
      let f = rising-front s t checked sound n (is n (inl refl)) in
      one-more n (Done f.0) ns ms (λ g q. subst (IsFrontOf s t n) (same-done f.0 g q) f.1) (cells-of ns ms (omega (arith, e)) (λ p m. is p (inr m)))

  pub record FrontsOf (ns : List DutyNode) : Type 0 where
    pub fronts : List (DutyNode × Entries)
    pub names : map (λ e. e.0) fronts ≡ ns
    pub right : (n : DutyNode) (f : Entries) → Member fronts (n, f) → IsFrontOf s t n f

  pub fronts-over : (ns : List DutyNode) → ((n : DutyNode) → Member ns n → IsNodeOf s t n) → FrontsOf ns
  fronts-over [] is = record { fronts = []; names = refl; right = λ n f m. absurd m }
  fronts-over (n ∷ ns) is =
      let f = rising-front s t checked sound n (is n (inl refl)) in
      let rest = fronts-over ns (λ p m. is p (inr m)) in
      record {
        fronts = (n, f.0) ∷ rest.fronts;
        names = ap (λ z. n ∷ z) rest.names;
        right = λ m g k. ⊎_elim {C = IsFrontOf s t m g}
            (λ e. subst (λ (z : DutyNode × Entries). IsFrontOf s t z.0 z.1) e f.1)
            (λ k. rest.right m g k)
            k;
      }

-- the version of the machine for one that is right
pub record VersionOf (s : Settings) (v : Snapshot) : Type 0 where
  pub version : CrewVersion
  pub is : IsVersion (crew s) version
  pub shows : shown_version s version ≡ v

pub version-of : (v : Snapshot) → IsChecked v.settings → IsRight v → VersionOf v.settings v
version-of v checked right =
    let s = v.settings in
    let t = timetable_of v.entries in
    let nodes = some-nodes s t right.few in
    let f = fronts-over s checked t (timetable-sound v.entries) nodes.0 (λ n m. (nodes.1.exact n).0 m) in
    let version : CrewVersion = record { number = v.number; entries = v.entries; fronts = f.fronts; best = v.best } in
    record {
      version = version;
      is = record { nodes = subst (AreNodes (crew s) t) (sym f.names) nodes.1; right = f.right; best_is = right.least; small = right.few };
      shows = refl;
    }

pub some-idle : (v : Snapshot) → IsChecked v.settings → IsRight v → v.number ≤ last_number → (b : CrewBoard) × IsBoardOf (let z : ShownBoard = record { sealed = v; round = None } in z) b
some-idle v checked right number =
    let k = version-of v checked right in
    let b : CrewBoard = record { sealed = k.version; round = None } in
    let low : k.version.number ≤ last_number = subst (λ n. n ≤ last_number) (sym (ap (λ (z : Snapshot). z.number) k.shows)) number in (
      b,
      record {
        right = standing_idle (crew v.settings) (crew-laws v.settings checked) k.version k.is low;
        shows = ap (λ (z : Snapshot). let y : ShownBoard = record { sealed = z; round = None } in y) k.shows;
      },
    )

pub some-open : (r : Marked) → IsMarkedOver r → (b : CrewBoard) × IsBoardOf (open_board r) b
some-open r over =
    let g = r.ground in
    let own = g.sealed.settings in
    let same : g.settings ≡ own = over.ground.settings in
    let checked : IsChecked own = subst IsChecked same over.ground.checked in
    let k = version-of g.sealed checked over.ground.right in
    let t = data_of g in
    let net = r.marks.net in
    let plan = plan-nodes g.settings t g.plan over.ground.planned in
    let nodes : AreNodes (crew g.settings) t (listed net.bases net.duties) = subst (λ n. AreNodes (crew g.settings) t (listed n.bases n.duties)) (sym over.net) plan in
    let long : length (listed net.bases net.duties) ≡ length r.marks.marks = listed-length net.bases net.duties ∙ sym over.long in
    let c = cells-of g.settings over.ground.checked t (timetable-sound g.entries) (listed net.bases net.duties) r.marks.marks long (λ n m. (nodes.exact n).0 m) in
    let round : CrewRound = round_of g.entries c.cells in
    let entries : k.version.entries ≡ g.sealed.entries = ap (λ (z : Snapshot). z.entries) k.shows in
    let number : k.version.number ≡ g.sealed.number = ap (λ (z : Snapshot). z.number) k.shows in
    let is-round : IsRound (crew g.settings) k.version round = record {
      nodes = subst (AreNodes (crew g.settings) t) (sym c.names) nodes;
      right = c.right;
      begins = subst (λ (es : List Entry). IsPrefix es g.entries) (sym entries) over.ground.begins;
      small = over.ground.few;
      number_left = subst (λ n. n < last_number) (sym number) over.ground.number_left;
    } in
    let version : IsVersion (crew g.settings) k.version = subst (λ (z : Settings). IsVersion (crew z) k.version) (sym same) k.is in
    let b : CrewBoard = record { sealed = k.version; round = Some round } in
    let standing = standing_over (crew g.settings) (crew-laws g.settings over.ground.checked) k.version round version is-round in
    let shows : shown_board own b ≡ open_board r =
    ap (λ (z : Snapshot). let y : ShownBoard = record { sealed = z; round = Some (let x : ShownRound = record { entries = g.entries; marks = marks_of c.cells } in x) } in y) k.shows
    ∙ ap (λ ms. let y : ShownBoard = record { sealed = g.sealed; round = Some (let x : ShownRound = record { entries = g.entries; marks = ms } in x) } in y) c.marks in
    (b, record { right = subst (λ (z : Settings). IsStanding (crew z) b) same standing; shows = shows })
