-- The cells of a machine's round for which a ground and its marks stand.
use Rattle.std.proofs.Common.{◌≡◌, ◌%◌, ◌&&◌, ◌∙◌, ℕ, true, false, List, Some, length, map, get_or, refl, sym, ap, subst}
use Rattle.std.specs.Prelude.{◌↔◌, slice_get}
use Rattle.std.specs.FinMap as fin
use Rattle.crew_board.proofs.Cells.{AreMarked, done-at, mark-at, node-at, node-is}
use Rattle.crew_board.proofs.Places.{at-out}
use Rattle.crew_board.proofs.Reuse.{IsOver, round_of}
use Rattle.crew_board.proofs.Untouched.{rank-of, row-of, untouched-world}
use Rattle.crew_board.specs.Cells.{CrewCells, mark_of, marks_of}
use Rattle.crew_board.specs.Machinery.Held.{IsMarkedOver, Marked}
use Rattle.crew_job.proofs.crew_dirty_lemmas.Nodes.{untouched-at}
use Rattle.crew_flights.specs.Timetable.{Timetable}
use Rattle.crew_job.specs.Grounds.{data_of, sealed_data_of}
use Rattle.crew_job.specs.Shown.{IsAsSealed}
use Rattle.crew_machine.proofs.Alike.{same-front-of, same-nodes}
use Rattle.crew_machine.proofs.Cells.{Some-same}
use Rattle.crew_machine.proofs.NodeList.{bases-rise, listed, listed-nodes}
use Rattle.crew_machine.specs.Crew.{CrewVersion, DutyNode, Entries, IsFrontOf, IsNodeOf, crew, timetable_of}
use Rattle.crew_machine.specs.Machinery.Sound.{IsRound, IsVersion}
use Rattle.crew_machine.specs.Worlds as Worlds
use Rattle.crew_machine.specs.Worlds.{AreNodes}
use Rattle.crew_machine.specs.declared.rounds.Cell.{Cell}
use Rattle.crew_machine.specs.declared.rounds.Cell.TheVariants.{Done}
use Rattle.crew_net.specs.Nets.{Net, RiseByCode}
use Rattle.crew_net.specs.declared.node.Node.{Node}
use Rattle.crew_pairing.specs.declared.duty.Duty.{Duty}
use Rattle.crew_resource.proofs.Members.{Member-at, Member-map_in, Member-map_out}
use Rattle.crew_resource.specs.Members.{Member}
use Rattle.crew_round.specs.Marks.{IsMarked, is_untouched_at}
use Rattle.crew_round.specs.declared.mark.Mark.TheVariants as MarkedAs
use Rattle.crew_rules.specs.declared.settings.Settings.{Settings}
use Rattle.crew_job.specs.crew_plan.Plans.{IsPlanOf, Plan}

-- the nodes of a plan's network
pub plan-nodes : (s : Settings) (t : Timetable) (plan : Plan) → IsPlanOf s t plan → AreNodes (crew s) t (listed plan.net.bases plan.net.duties)
plan-nodes s t plan is =
    let ds = is.network.0 in
    let net = is.network.2 in
    subst (λ (bs : List (List ℕ)). AreNodes (crew s) t (listed bs plan.net.duties)) (sym net.bases)
    (subst (λ (es : List Duty). AreNodes (crew s) t (listed (fin.keys t.bases) es)) (sym net.duties) (listed-nodes s t ds is.network.1))

pub plan-rises : (s : Settings) (t : Timetable) (plan : Plan) → IsPlanOf s t plan → RiseByCode plan.net.bases
plan-rises s t plan is = subst RiseByCode (sym is.network.2.bases) (bases-rise t)

module _ (r : Marked) (over : IsMarkedOver r) (sealed : CrewVersion) (is : IsVersion (crew r.ground.settings) sealed) (entries : sealed.entries ≡ r.ground.sealed.entries)
    (cells : CrewCells) (right : IsRound (crew r.ground.settings) sealed (round_of r.ground.entries cells)) (marks : marks_of cells ≡ r.marks.marks) where
  abbrev s : Settings
  s = r.ground.settings

  abbrev t : Timetable
  t = data_of r.ground

  abbrev was : Timetable
  was = timetable_of sealed.entries

  was-is : was ≡ sealed_data_of r.ground
  was-is = ap timetable_of entries

  net-settings : r.marks.net.settings ≡ s
  net-settings = ap (λ (n : Net). n.settings) over.net ∙ over.ground.planned.network.2.settings

  pub nodes : AreNodes (crew s) t (listed r.marks.net.bases r.marks.net.duties)
  nodes = subst (λ (n : Net). AreNodes (crew s) t (listed n.bases n.duties)) (sym over.net) (plan-nodes s t r.ground.plan over.ground.planned)

  pub are-marked : AreMarked s t r.marks.net r.marks.marks cells
  are-marked = record {
    names = same-nodes s over.ground.checked t (map (λ c. c.0) cells) (listed r.marks.net.bases r.marks.net.duties) right.nodes nodes;
    marks_are = marks;
    nodes = right.nodes;
    settings = net-settings;
    rise = subst (λ (n : Net). RiseByCode n.bases) (sym over.net) (plan-rises s t r.ground.plan over.ground.planned);
  }

  abbrev AsSealed : DutyNode → Entries → Type 0
  AsSealed n f = Member sealed.fronts (n, f)

  kept-in : (n : DutyNode) (f : Entries) → IsFrontOf s t n f → IsAsSealed r.ground n → AsSealed n f
  kept-in n f front k =
      let there : IsNodeOf s was n = subst (λ (z : Timetable). IsNodeOf s z n) (sym was-is) k.there in
      let from = Member-map_out (λ (e : DutyNode × Entries). e.0) sealed.fronts n ((is.nodes.exact n).1 there) in
      let held : AsSealed n from.0.1 = subst (λ (z : DutyNode). Member sealed.fronts (z, from.0.1)) from.2 from.1 in
      let old : IsFrontOf s (sealed_data_of r.ground) n from.0.1 = subst (λ (z : Timetable). IsFrontOf s z n from.0.1) was-is (is.right n from.0.1 held) in
      let one : from.0.1 ≡ f = same-front-of s over.ground.checked t n from.0.1 f (k.front from.0.1 old) front in
      subst (AsSealed n) one held

  kept-out : (n : DutyNode) (f : Entries) → IsFrontOf s t n f → AsSealed n f → IsAsSealed r.ground n
  kept-out n f front held =
      let there : IsNodeOf s was n = (is.nodes.exact n).0 (Member-map_in (λ (e : DutyNode × Entries). e.0) sealed.fronts (n, f) held) in
      record {
        there = subst (λ (z : Timetable). IsNodeOf s z n) was-is there;
        front = λ g old.
            (let then : IsFrontOf s was n g = subst (λ (z : Timetable). IsFrontOf s z n g) (sym was-is) old in
            let one : f ≡ g = same-front-of s over.ground.checked was n f g (is.right n f held) then in
            subst (IsFrontOf s t n) one front);
      }

  pub as-sealed : (n : DutyNode) (f : Entries) → IsFrontOf s t n f → IsAsSealed r.ground n ↔ Member sealed.fronts (n, f)
  as-sealed n f front = (kept-in n f front, kept-out n f front)

  same-at : (place : ℕ) (n : DutyNode) (c : Cell Entries) → slice_get cells place ≡ Some (n, c) → (get_or r.marks.same place false ≡ true) ↔ ((f : Entries) × (c ≡ Done f) × AsSealed n f)
  same-at place n c at =
      let told = over.same place n (node-at s t r.marks.net r.marks.marks cells are-marked place n c at) in (
        λ e. (
            let both = told.0 e in
            let done = done-at s t r.marks.net r.marks.marks cells are-marked place both.0 in
            let pair : (done.0, Done done.1) ≡ (n, c) = Some-same (done.0, Done done.1) (n, c) (sym done.2 ∙ at) in
            let cell : c ≡ Done done.1 = sym (ap (λ (z : DutyNode × Cell Entries). z.1) pair) in
            let there : Member cells (n, Done done.1) = subst (λ (z : Cell Entries). Member cells (n, z)) cell (Member-at cells place (n, c) at) in
            (done.1, cell, kept-in n done.1 (right.right n done.1 there) both.1)),
        λ k. (
            let there : Member cells (n, Done k.0) = subst (λ (z : Cell Entries). Member cells (n, z)) k.1 (Member-at cells place (n, c) at) in
            let mark : IsMarked r.marks place MarkedAs.Done = mark-at s t r.marks.net r.marks.marks cells are-marked place n c at ∙ ap (λ (z : Cell Entries). Some (mark_of z)) k.1 in
            told.1 (mark, kept-out n k.0 (right.right n k.0 there) k.2)),
      )

  touched-at : (place : ℕ) (n : DutyNode) (c : Cell Entries) → slice_get cells place ≡ Some (n, c) → (is_untouched_at r.marks place ≡ true) ↔ Worlds.IsUntouched (crew s) was t n
  touched-at place n c at =
      let net = r.marks.net in
      let stands = at-out net place n (node-at s t net r.marks.marks cells are-marked place n c at) in
      let row = row-of net place stands.0 stands.1 n.duty stands.2 in
      let rank = rank-of net place stands.0 stands.1 n.duty stands.2 in
      let node : Node = record { base = n.base; key = n.duty.key } in
      let flags = untouched-at (sealed_data_of r.ground) t over.old net r.marks.carried over.carried stands.0 stands.1 node n.duty stands.3 stands.2.duty refl in
      let places : is_untouched_at r.marks place ≡ (get_or r.marks.carried.bases stands.0 false && get_or r.marks.carried.same stands.1 false) =
      ap (λ k. get_or r.marks.carried.bases k false && get_or r.marks.carried.same (place % length net.duties) false) row
      ∙ ap (λ k. get_or r.marks.carried.bases stands.0 false && get_or r.marks.carried.same k false) rank in
      let world = untouched-world s (sealed_data_of r.ground) t over.old net over.old_settings net-settings over.old_net over.carried.is_net n (node-is s t net r.marks.marks cells are-marked place n c at) in
      let told : (is_untouched_at r.marks place ≡ true) ↔ Worlds.IsUntouched (crew s) (sealed_data_of r.ground) t n = (λ e. world.0 (flags.0 (sym places ∙ e)), λ k. places ∙ flags.1 (world.1 k)) in
      subst (λ (z : Timetable). (is_untouched_at r.marks place ≡ true) ↔ Worlds.IsUntouched (crew s) z t n) (sym was-is) told

  -- the marks are those of the cells
  pub over-cells : IsOver s sealed r.ground.entries r.marks cells
  over-cells = record {
    marked = are-marked;
    long = over.long_same ∙ sym over.long;
    same = same-at;
    untouched = touched-at;
    right = right;
  }
