-- A round is begun: the cells that its marks stand for.
use Rattle.std.proofs.Common.{◌≡◌, ◌<◌, ◌%◌, ◌&&◌, ◌∙◌, ◌∷◌, [], inl, inr, ℕ, suc, true, false, List, Option, Some, None, length, map, get_or, refl, sym, ap, subst, arith}
use Rattle.std.specs.Prelude.{◌↔◌, slice_get}
use Rattle.std.specs.FinMap as fin
use Rattle.std.specs.Option.{option_map}
use Rattle.std.proofs.lemmas.Bool.{cases_Bool}
use Rattle.std.proofs.lemmas.List.{length-map}
use Rattle.std.proofs.lemmas.Option.{slice_get_within, slice_get-map}
use mathlib.Core.List.{IsPrefix}
use Rattle.crew_board.proofs.Cells.{option-out}
use Rattle.crew_board.proofs.Existence.{listed-length}
use Rattle.crew_board.proofs.Grounded.{plan-nodes}
use Rattle.crew_board.proofs.Places.{at-out}
use Rattle.crew_board.proofs.Steps.{open_board}
use Rattle.crew_board.proofs.Unreached.{unreached-world}
use Rattle.crew_board.proofs.Untouched.{rank-of, row-of}
use Rattle.crew_board.specs.Boards.{IsBoardOf, ShownBoard, ShownRound, shown_board, shown_round, shown_version}
use Rattle.crew_board.specs.Cells.{CrewCells, mark_of, marks_of}
use Rattle.crew_board.specs.Machinery.Held.{IsBegun, IsMarkedOver, Marked}
use Rattle.crew_job.proofs.crew_dirty_lemmas.Nodes.{is-node, kept-at, own-duty}
use Rattle.crew_job.specs.crew_dirty.Dirty.{IsKept, IsUnreached}
use Rattle.crew_flights.specs.Timetable.{Timetable}
use Rattle.crew_flights.specs.declared.entries.Entry.{Entry}
use Rattle.crew_job.specs.Grounds.{data_of, nodes_in, sealed_data_of}
use Rattle.crew_job.specs.Shown.{IsAsSealed}
use Rattle.crew_machine.proofs.Alike.{same-nodes}
use Rattle.crew_machine.proofs.Boards.{opens_sound}
use Rattle.crew_machine.proofs.CrewLaws.{crew-laws}
use Rattle.crew_machine.proofs.NodeList.{listed}
use Rattle.crew_machine.proofs.Reached.{some-carried}
use Rattle.crew_machine.specs.Crew.{CrewBoard, CrewRound, DutyNode, Entries, IsNodeOf, crew, timetable_of}
use Rattle.crew_machine.specs.Machinery.Sound.{IsStanding}
use Rattle.crew_machine.specs.Rounds.{IsCarried, Opens, last_number}
use Rattle.crew_machine.specs.Worlds as Worlds
use Rattle.crew_machine.specs.Worlds.{AreNodes}
use Rattle.crew_machine.specs.declared.rounds.Cell.{Cell}
use Rattle.crew_machine.specs.declared.rounds.Cell.TheVariants.{Waiting, Out, Done}
use Rattle.crew_net.specs.Nets.{Net}
use Rattle.crew_net.specs.declared.node.Node.{Node}
use Rattle.crew_resource.proofs.Members.{Member-at}
use Rattle.crew_resource.specs.Members.{Member}
use Rattle.crew_round.specs.Marks.{IsMarked, is_kept_at, node_count}
use Rattle.crew_round.specs.declared.mark.Mark.{Mark}
use Rattle.crew_round.specs.declared.mark.Mark.TheVariants as MarkedAs
use Rattle.crew_rules.specs.declared.settings.Settings.{Settings}
use Rattle.crew_job.specs.crew_version.Versions.{Snapshot}

-- two lists with the same items at the same places are one
pub same-items : {X : Type 0} (xs ys : List X) → length xs ≡ length ys → ((i : ℕ) (x : X) → slice_get xs i ≡ Some x → slice_get ys i ≡ Some x) → xs ≡ ys
same-items [] [] e h = refl
same-items [] (y ∷ ys) e h = absurd (omega (arith, e))
same-items (x ∷ xs) [] e h = absurd (omega (arith, e))
same-items (x ∷ xs) (y ∷ ys) e h =
    let first : Some y ≡ Some x = h 0 x refl in
    let head : x ≡ y = (cc) in
    let rest = same-items xs ys (omega (arith, e)) (λ i z at. h (suc i) z at) in
    ap (λ z. z ∷ xs) head ∙ ap (λ z. y ∷ z) rest

module _ (r : Marked) (begun : IsBegun r) where
  abbrev s : Settings
  s = r.ground.settings

  abbrev t : Timetable
  t = sealed_data_of r.ground

  abbrev u : Timetable
  u = data_of r.ground

  abbrev net : Net
  net = r.marks.net

  net-settings : net.settings ≡ s
  net-settings = ap (λ (n : Net). n.settings) begun.net ∙ begun.ground.planned.network.2.settings

  nodes : AreNodes (crew s) u (listed net.bases net.duties)
  nodes = subst (λ (n : Net). AreNodes (crew s) u (listed n.bases n.duties)) (sym begun.net) (plan-nodes s u r.ground.plan begun.ground.planned)

  -- the flag of a place tells whether its node is reached
  pub kept-world : (place : ℕ) (n : DutyNode) → slice_get (nodes_in net) place ≡ Some n → (is_kept_at r.marks place ≡ true) ↔ Worlds.IsUnreached (crew s) t u n
  kept-world place n at =
      let stands = at-out net place n at in
      let b = stands.0 in
      let k = stands.1 in
      let row = row-of net place b k n.duty stands.2 in
      let rank = rank-of net place b k n.duty stands.2 in
      let node : Node = record { base = n.base; key = n.duty.key } in
      let places : is_kept_at r.marks place ≡ (get_or r.marks.carried.bases b false && get_or r.marks.carried.unreached k false) =
      ap (λ i. get_or r.marks.carried.bases i false && get_or r.marks.carried.unreached (place % length net.duties) false) row
      ∙ ap (λ i. get_or r.marks.carried.bases b false && get_or r.marks.carried.unreached i false) rank in
      let flags = kept-at t u begun.old net r.marks.carried begun.carried b k node n.duty stands.3 stands.2.duty refl in
      let is : IsNodeOf s u n = (nodes.exact n).0 (Member-at (listed net.bases net.duties) place n at) in
      let world = unreached-world s t u begun.old net begun.old_settings net-settings begun.old_net begun.carried.is_net n is in
      let node-is = is-node t u begun.old net r.marks.carried begun.carried b k node n.duty stands.3 stands.2.duty refl in (
        λ e. (
            let kept = flags.0 (sym places ∙ e) in
            let one = own-duty t u begun.old net r.marks.carried begun.carried b k node n.duty stands.3 stands.2.duty refl kept.duty kept.is_node in
            let here : IsUnreached begun.old net (fin.get t.bases n.base) (fin.get u.bases n.base) n.base n.duty = subst (IsUnreached begun.old net (fin.get t.bases n.base) (fin.get u.bases n.base) n.base) (sym one) kept.unreached in
            world.0 here),
        λ w. (
            let kept : IsKept t u begun.old net node = record { duty = n.duty; is_node = node-is; unreached = world.1 w } in
            places ∙ flags.1 kept),
      )

  -- a node that isn't reached is as the version before has it
  unreached-sealed : (n : DutyNode) → IsNodeOf s u n → Worlds.IsUnreached (crew s) t u n → IsAsSealed r.ground n
  unreached-sealed n is k = record {
    there = (k n [] is refl).there;
    front = λ f old. (crew-laws s begun.ground.checked).carried r.ground.sealed.entries r.ground.entries n f is k old;
  }

  within : (place : ℕ) (n : DutyNode) → slice_get (nodes_in net) place ≡ Some n → place < node_count net
  within place n at =
      let long = listed-length net.bases net.duties in
      let here = slice_get_within (listed net.bases net.duties) place n at in
      omega (arith, long, here)

  done-waits : (o : Option Mark) → o ≡ Some MarkedAs.Waiting → o ≡ Some MarkedAs.Done → ⊥
  done-waits o e f = let g = sym e ∙ f in let q : ⊥ = (cc) in q

  same-begun : (place : ℕ) (n : DutyNode) → slice_get (nodes_in net) place ≡ Some n → (get_or r.marks.same place false ≡ true) ↔ (IsMarked r.marks place MarkedAs.Done × IsAsSealed r.ground n)
  same-begun place n at =
      let is : IsNodeOf s u n = (nodes.exact n).0 (Member-at (listed net.bases net.duties) place n at) in
      let here = within place n at in
      elim (cases_Bool (is_kept_at r.marks place)) as (λ _. (get_or r.marks.same place false ≡ true) ↔ (IsMarked r.marks place MarkedAs.Done × IsAsSealed r.ground n)) [
        | inl on ↦
            let k = begun.marks.kept place here on in
            (λ e. (k.0, unreached-sealed n is ((kept-world place n at).0 on)), λ p. k.1)
        | inr off ↦
            let k = begun.marks.others place here off in
            (λ e. absurd (let f = sym k.1 ∙ e in let q : ⊥ = (cc) in q), λ p. absurd (done-waits (slice_get r.marks.marks place) k.0 p.0))
      ]

  -- what is done as the round begins is as the version before has it
  pub done-begun : (place : ℕ) (n : DutyNode) → slice_get (nodes_in net) place ≡ Some n → IsMarked r.marks place MarkedAs.Done → IsAsSealed r.ground n
  done-begun place n at d =
      let here = within place n at in
      elim (cases_Bool (is_kept_at r.marks place)) as (λ _. IsAsSealed r.ground n) [
        | inl on ↦ ((same-begun place n at).0 (begun.marks.kept place here on).1).1
        | inr off ↦ absurd (done-waits (slice_get r.marks.marks place) (begun.marks.others place here off).0 d)
      ]

  pub marked-begun : IsMarkedOver r
  marked-begun = record {
    ground = begun.ground;
    net = begun.net;
    long = begun.marks.long;
    long_same = begun.marks.long_same;
    old = begun.old;
    old_settings = begun.old_settings;
    old_net = begun.old_net;
    carried = begun.carried;
    same = same-begun;
  }

  -- ---- the machine's round

  module _ (b : CrewBoard) (idle : IsBoardOf (let z : ShownBoard = record { sealed = r.ground.sealed; round = None } in z) b) where
    settings-are : r.ground.sealed.settings ≡ s
    settings-are = sym begun.ground.settings

    standing : IsStanding (crew s) b
    standing = subst (λ (z : Settings). IsStanding (crew z) b) settings-are idle.right

    shows : shown_board s b ≡ (let z : ShownBoard = record { sealed = r.ground.sealed; round = None } in z)
    shows = subst (λ (z : Settings). shown_board z b ≡ (let y : ShownBoard = record { sealed = r.ground.sealed; round = None } in y)) settings-are idle.shows

    none-open : b.round ≡ None
    none-open = no-round b.round (ap (λ (z : ShownBoard). z.round) shows)
      where
        no-round : (o : Option CrewRound) → option_map shown_round o ≡ None → o ≡ None
        no-round None e = refl
        no-round (Some q) e = absurd (let z : ⊥ = (cc) in z)

    sealed-entries : b.sealed.entries ≡ r.ground.sealed.entries
    sealed-entries = ap (λ (z : ShownBoard). z.sealed.entries) shows

    made : (cells : CrewCells) × IsCarried (crew s) b.sealed r.ground.entries cells
    made = some-carried s begun.ground.checked b.sealed standing.sealed r.ground.entries (listed net.bases net.duties) nodes

    names : map (λ c. c.0) made.0 ≡ listed net.bases net.duties
    names = same-nodes s begun.ground.checked u (map (λ c. c.0) made.0) (listed net.bases net.duties) made.1.nodes nodes

    mark-here : (place : ℕ) (n : DutyNode) (c : Cell Entries) → slice_get made.0 place ≡ Some (n, c) → IsMarked r.marks place (mark_of c)
    mark-here place n c at =
        let there : slice_get (listed net.bases net.duties) place ≡ Some n = sym (ap (λ ns. slice_get ns place) names) ∙ (slice_get-map (λ (x : DutyNode × Cell Entries). x.0) made.0 place ∙ ap (option_map (λ (x : DutyNode × Cell Entries). x.0)) at) in
        let here = within place n there in
        let world = subst (λ (z : Timetable). (is_kept_at r.marks place ≡ true) ↔ Worlds.IsUnreached (crew s) z u n) (sym (ap timetable_of sealed-entries)) (kept-world place n there) in
        elim (cases_Bool (is_kept_at r.marks place)) as (λ _. IsMarked r.marks place (mark_of c)) [
          | inl on ↦
              let k = made.1.kept n c (Member-at made.0 place (n, c) at) (world.0 on) in
              (begun.marks.kept place here on).0 ∙ ap (λ (z : Cell Entries). Some (mark_of z)) (sym k.1)
          | inr off ↦
              waits c (begun.marks.others place here off).0
              (λ e. made.1.none_out n (subst (λ (z : Cell Entries). Member made.0 (n, z)) e (Member-at made.0 place (n, c) at)))
              (λ f e. (let k = world.1 (made.1.done n f (subst (λ (z : Cell Entries). Member made.0 (n, z)) e (Member-at made.0 place (n, c) at))).0 in let g = sym off ∙ k in let q : ⊥ = (cc) in q))
        ]
      where
        waits : (c : Cell Entries) → IsMarked r.marks place MarkedAs.Waiting → (c ≡ Out → ⊥) → ((f : Entries) → c ≡ Done f → ⊥) → IsMarked r.marks place (mark_of c)
        waits Waiting w out done = w
        waits Out w out done = absurd (out refl)
        waits (Done f) w out done = absurd (done f refl)

    marks-are : marks_of made.0 ≡ r.marks.marks
    marks-are =
        let long = length-map made.0 (λ (x : DutyNode × Cell Entries). mark_of x.1) in
        let named = length-map made.0 (λ (x : DutyNode × Cell Entries). x.0) in
        let same = ap length names in
        let all = listed-length net.bases net.duties in
        let own = begun.marks.long in
        same-items (marks_of made.0) r.marks.marks (omega (arith, long, named, same, all, own))
        (λ i m at.
        (
        let x = option-out (λ (z : DutyNode × Cell Entries). mark_of z.1) (slice_get made.0 i) m (sym (slice_get-map (λ (z : DutyNode × Cell Entries). mark_of z.1) made.0 i) ∙ at) in
        mark-here i x.0.0 x.0.1 x.1 ∙ ap (λ (z : Mark). Some z) x.2))

    pub opened-after : (after : CrewBoard) × Opens (crew s) b r.ground.entries after × IsBoardOf (open_board r) after
    opened-after =
        let round : CrewRound = record { entries = r.ground.entries; cells = made.0 } in
        let after : CrewBoard = record { sealed = b.sealed; round = Some round } in
        let number : b.sealed.number ≡ r.ground.sealed.number = ap (λ (z : ShownBoard). z.sealed.number) shows in
        let opens : Opens (crew s) b r.ground.entries after = record {
          none_open = none-open;
          begins = subst (λ (es : List Entry). IsPrefix es r.ground.entries) (sym sealed-entries) begun.ground.begins;
          number_left = subst (λ n. n < last_number) (sym number) begun.ground.number_left;
          small = begun.ground.few;
          cells = made.0;
          carried = made.1;
          after = refl;
        } in
        let right = opens_sound (crew s) (crew-laws s begun.ground.checked) b r.ground.entries after standing opens in
        let sealed : shown_version s b.sealed ≡ r.ground.sealed = ap (λ (z : ShownBoard). z.sealed) shows in
        let shown : shown_board s after ≡ open_board r =
        ap (λ (z : Snapshot). let y : ShownBoard = record { sealed = z; round = Some (let x : ShownRound = record { entries = r.ground.entries; marks = marks_of made.0 } in x) } in y) sealed
        ∙ ap (λ ms. let y : ShownBoard = record { sealed = r.ground.sealed; round = Some (let x : ShownRound = record { entries = r.ground.entries; marks = ms } in x) } in y) marks-are in (
          after,
          opens,
          record {
            right = subst (λ (z : Settings). IsStanding (crew z) after) begun.ground.settings right;
            shows = subst (λ (z : Settings). shown_board z after ≡ open_board r) begun.ground.settings shown;
          },
        )
