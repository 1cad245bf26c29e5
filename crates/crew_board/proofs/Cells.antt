-- What marks tell of the cells that they stand for.
use Rattle.std.proofs.Common.{◌≡◌, ◌∙◌, ℕ, List, Option, Some, None, map, refl, sym, ap, subst}
use Rattle.std.specs.Prelude.{slice_get}
use Rattle.std.specs.Option.{option_map}
use Rattle.std.proofs.lemmas.Option.{slice_get-map}
use Rattle.crew_board.proofs.Places.{at-in, at-out, one-row}
use Rattle.crew_board.specs.Cells.{CrewCells, mark_of, marks_of}
use Rattle.crew_flights.specs.Timetable.{Timetable}
use Rattle.crew_machine.proofs.Cells.{Some-same}
use Rattle.crew_machine.proofs.NodeList.{listed, node-of}
use Rattle.crew_machine.proofs.OwnJobs.{one-cell}
use Rattle.crew_machine.proofs.Reuse.{place-of-member}
use Rattle.crew_machine.specs.Crew.{DutyNode, Entries, IsNodeOf, MayPrecede, crew}
use Rattle.crew_machine.specs.Rounds as Rounds
use Rattle.crew_machine.specs.Rounds.{IsDone}
use Rattle.crew_machine.specs.Worlds.{AreNodes, IsBefore}
use Rattle.crew_machine.specs.declared.rounds.Cell.{Cell}
use Rattle.crew_machine.specs.declared.rounds.Cell.TheVariants.{Waiting, Out, Done}
use Rattle.crew_net.specs.Nets.{Net, RiseByCode}
use Rattle.crew_pairing.specs.Pairings.{may_stand_after}
use Rattle.crew_resource.proofs.Members.{Member-at, Member-map_in}
use Rattle.crew_resource.specs.Members.{Member}
use Rattle.crew_round.specs.Marks as Marks
use Rattle.crew_round.specs.Marks.{IsJustBefore, StandsAt}
use Rattle.crew_round.specs.declared.mark.Mark.{Mark}
use Rattle.crew_round.specs.declared.mark.Mark.TheVariants as Marked
use Rattle.crew_rules.specs.declared.settings.Settings.{Settings}

-- the nodes of the network with cells, and a mark for each
pub record AreMarked (s : Settings) (t : Timetable) (net : Net) (marks : List Mark) (cells : CrewCells) : Type 0 where
  pub names : map (λ c. c.0) cells ≡ listed net.bases net.duties
  pub marks_are : marks_of cells ≡ marks
  pub nodes : AreNodes (crew s) t (map (λ c. c.0) cells)
  pub settings : net.settings ≡ s
  pub rise : RiseByCode net.bases

waiting-cell : (c : Cell Entries) → mark_of c ≡ Marked.Waiting → c ≡ Waiting
waiting-cell Waiting e = refl
waiting-cell Out e = absurd (let q : ⊥ = (cc) in q)
waiting-cell (Done f) e = absurd (let q : ⊥ = (cc) in q)

out-cell : (c : Cell Entries) → mark_of c ≡ Marked.Out → c ≡ Out
out-cell Waiting e = absurd (let q : ⊥ = (cc) in q)
out-cell Out e = refl
out-cell (Done f) e = absurd (let q : ⊥ = (cc) in q)

done-cell : (c : Cell Entries) → mark_of c ≡ Marked.Done → (f : Entries) × (c ≡ Done f)
done-cell Waiting e = absurd (let q : ⊥ = (cc) in q)
done-cell Out e = absurd (let q : ⊥ = (cc) in q)
done-cell (Done f) e = (f, refl)

pub option-out : {X Y : Type 0} (f : X → Y) (o : Option X) (y : Y) → option_map f o ≡ Some y → (x : X) × (o ≡ Some x) × (f x ≡ y)
option-out f None y e = absurd (let q : ⊥ = (cc) in q)
option-out f (Some x) y e = (x, refl, Some-same (f x) y e)

module _ (s : Settings) (t : Timetable) (net : Net) (marks : List Mark) (cells : CrewCells) (are : AreMarked s t net marks cells) where
  -- a mark has its cell
  pub cell-at : (place : ℕ) (m : Mark) → slice_get marks place ≡ Some m → (n : DutyNode) × (c : Cell Entries) × (slice_get cells place ≡ Some (n, c)) × (mark_of c ≡ m)
  cell-at place m e =
      let r = option-out (λ (c : DutyNode × Cell Entries). mark_of c.1) (slice_get cells place) m (sym (slice_get-map (λ (c : DutyNode × Cell Entries). mark_of c.1) cells place) ∙ (ap (λ ms. slice_get ms place) are.marks_are ∙ e)) in
      (r.0.0, r.0.1, r.1, r.2)

  pub waiting-at : (place : ℕ) → slice_get marks place ≡ Some Marked.Waiting → (n : DutyNode) × (slice_get cells place ≡ Some (n, Waiting))
  waiting-at place e =
      let r = cell-at place Marked.Waiting e in
      (r.0, r.2 ∙ ap (λ (c : Cell Entries). let z : DutyNode × Cell Entries = (r.0, c) in Some z) (waiting-cell r.1 r.3))

  pub out-at : (place : ℕ) → slice_get marks place ≡ Some Marked.Out → (n : DutyNode) × (slice_get cells place ≡ Some (n, Out))
  out-at place e =
      let r = cell-at place Marked.Out e in
      (r.0, r.2 ∙ ap (λ (c : Cell Entries). let z : DutyNode × Cell Entries = (r.0, c) in Some z) (out-cell r.1 r.3))

  pub done-at : (place : ℕ) → slice_get marks place ≡ Some Marked.Done → (n : DutyNode) × (f : Entries) × (slice_get cells place ≡ Some (n, Done f))
  done-at place e =
      let r = cell-at place Marked.Done e in
      let d = done-cell r.1 r.3 in
      (r.0, d.0, r.2 ∙ ap (λ (c : Cell Entries). let z : DutyNode × Cell Entries = (r.0, c) in Some z) d.1)

  -- a cell has its mark, and its node's place
  pub mark-at : (place : ℕ) (n : DutyNode) (c : Cell Entries) → slice_get cells place ≡ Some (n, c) → slice_get marks place ≡ Some (mark_of c)
  mark-at place n c e =
      sym (ap (λ ms. slice_get ms place) are.marks_are) ∙ (slice_get-map (λ (x : DutyNode × Cell Entries). mark_of x.1) cells place ∙ ap (option_map (λ (x : DutyNode × Cell Entries). mark_of x.1)) e)

  pub node-at : (place : ℕ) (n : DutyNode) (c : Cell Entries) → slice_get cells place ≡ Some (n, c) → slice_get (listed net.bases net.duties) place ≡ Some n
  node-at place n c e =
      sym (ap (λ ns. slice_get ns place) are.names) ∙ (slice_get-map (λ (x : DutyNode × Cell Entries). x.0) cells place ∙ ap (option_map (λ (x : DutyNode × Cell Entries). x.0)) e)

  -- the place of a node
  pub place-of : (n : DutyNode) → IsNodeOf s t n → (place : ℕ) × (c : Cell Entries) × (slice_get cells place ≡ Some (n, c))
  place-of n is =
      let p = place-of-member (map (λ (c : DutyNode × Cell Entries). c.0) cells) n ((are.nodes.exact n).1 is) in
      let r = option-out (λ (c : DutyNode × Cell Entries). c.0) (slice_get cells p.0) n (sym (slice_get-map (λ (c : DutyNode × Cell Entries). c.0) cells p.0) ∙ p.1) in
      (p.0, r.0.1, r.1 ∙ ap (λ (m : DutyNode). let z : DutyNode × Cell Entries = (m, r.0.1) in Some z) r.2)

  pub node-is : (place : ℕ) (n : DutyNode) (c : Cell Entries) → slice_get cells place ≡ Some (n, c) → IsNodeOf s t n
  node-is place n c e = (are.nodes.exact n).0 (Member-map_in (λ (x : DutyNode × Cell Entries). x.0) cells (n, c) (Member-at cells place (n, c) e))

  -- arcs between places are arcs between their nodes
  pub before-in : (p q : ℕ) (n m : DutyNode) (c d : Cell Entries) → slice_get cells p ≡ Some (n, c) → slice_get cells q ≡ Some (m, d) → MayPrecede s n m → IsJustBefore net p q
  before-in p q n m c d e f a =
      let first = at-out net p n (node-at p n c e) in
      let second = at-out net q m (node-at q m d f) in
      let row : first.0 ≡ second.0 = one-row net.bases are.rise first.0 second.0 n.base m.base first.3 second.3 a.base in
      record {
        base = second.0;
        rank = first.1;
        next_rank = second.1;
        duty = n.duty;
        next_duty = m.duty;
        stands = subst (λ (k : ℕ). StandsAt net p k first.1 n.duty) row first.2;
        next_stands = second.2;
        arc = ap (λ (z : Settings). may_stand_after z n.duty m.duty) are.settings ∙ a.rested;
      }

  pub before-out : (p q : ℕ) (n m : DutyNode) (c d : Cell Entries) → slice_get cells p ≡ Some (n, c) → slice_get cells q ≡ Some (m, d) → IsJustBefore net p q → MayPrecede s n m
  before-out p q n m c d e f b =
      let x = at-in net p b.base b.rank b.duty b.stands in
      let y = at-in net q b.base b.next_rank b.next_duty b.next_stands in
      let one : x.0 ≡ y.0 = Some-same x.0 y.0 (sym x.1 ∙ y.1) in
      let first : n ≡ node-of x.0 b.duty = Some-same n (node-of x.0 b.duty) (sym (node-at p n c e) ∙ x.2) in
      let second : m ≡ node-of y.0 b.next_duty = Some-same m (node-of y.0 b.next_duty) (sym (node-at q m d f) ∙ y.2) in
      let here : MayPrecede s (node-of x.0 b.duty) (node-of y.0 b.next_duty) = record { base = one; rested = sym (ap (λ (z : Settings). may_stand_after z b.duty b.next_duty) are.settings) ∙ b.arc } in
      subst (λ (z : DutyNode). MayPrecede s z m) (sym first) (subst (λ (z : DutyNode). MayPrecede s (node-of x.0 b.duty) z) (sym second) here)

  -- a node of the network has its cell
  pub named : (p : ℕ) (n : DutyNode) → slice_get (listed net.bases net.duties) p ≡ Some n → (c : Cell Entries) × (slice_get cells p ≡ Some (n, c))
  named p n e =
      let r = option-out (λ (x : DutyNode × Cell Entries). x.0) (slice_get cells p) n (sym (slice_get-map (λ (x : DutyNode × Cell Entries). x.0) cells p) ∙ (ap (λ ns. slice_get ns p) are.names ∙ e)) in
      (r.0.1, r.1 ∙ ap (λ (m : DutyNode). let z : DutyNode × Cell Entries = (m, r.0.1) in Some z) r.2)

  pub just-before : (p q : ℕ) → IsJustBefore net p q → (n : DutyNode) × (c : Cell Entries) × (slice_get cells p ≡ Some (n, c))
  just-before p q b =
      let x = at-in net p b.base b.rank b.duty b.stands in
      let own = named p (node-of x.0 b.duty) x.2 in
      (node-of x.0 b.duty, own.0, own.1)

  -- all just before a place is done
  pub all-in : (place : ℕ) (n : DutyNode) (c : Cell Entries) → slice_get cells place ≡ Some (n, c) → ((p : ℕ) → IsJustBefore net p place → slice_get marks p ≡ Some Marked.Done)
      → (p : DutyNode) → IsBefore (crew s) t p n → (f : Entries) × IsDone (crew s) cells p f
  all-in place n c e all p b =
      let at = place-of p b.0 in
      let done = done-at at.0 (all at.0 (before-in at.0 place p n at.1 c at.2 e b.1)) in
      let same : done.0 ≡ p = ap (λ (z : DutyNode × Cell Entries). z.0) (Some-same (done.0, Done done.1) (p, at.1) (sym done.2 ∙ at.2)) in
      (done.1, subst (λ (z : DutyNode). Member cells (z, Done done.1)) same (Member-at cells at.0 (done.0, Done done.1) done.2))

  pub all-out : (place : ℕ) (n : DutyNode) (c : Cell Entries) → slice_get cells place ≡ Some (n, c) → ((p : DutyNode) → IsBefore (crew s) t p n → (f : Entries) × IsDone (crew s) cells p f)
      → (p : ℕ) → IsJustBefore net p place → slice_get marks p ≡ Some Marked.Done
  all-out place n c e all p b =
      let own = just-before p place b in
      let arc = before-out p place own.0 n own.1 c own.2 e b in
      let done = all own.0 (node-is p own.0 own.1 own.2, arc) in
      let same : own.1 ≡ Done done.0 = one-cell cells are.nodes.rise own.0 own.1 (Done done.0) (Member-at cells p (own.0, own.1) own.2) done.1 in
      mark-at p own.0 own.1 own.2 ∙ ap (λ (x : Cell Entries). Some (mark_of x)) same

module _ (s : Settings) (t : Timetable) (m : Marks.Marks) (cells : CrewCells) (are : AreMarked s t m.net m.marks cells) where
  pub ready-in : (place : ℕ) → Marks.IsReady m place → (n : DutyNode) × Rounds.IsReady (crew s) t cells place n
  ready-in place r =
      let w = waiting-at s t m.net m.marks cells are place r.0 in
      (w.0, (w.1, all-in s t m.net m.marks cells are place w.0 Waiting w.1 r.1))

  pub ready-out : (place : ℕ) (n : DutyNode) → Rounds.IsReady (crew s) t cells place n → Marks.IsReady m place
  ready-out place n r = (
    mark-at s t m.net m.marks cells are place n Waiting r.0,
    all-out s t m.net m.marks cells are place n Waiting r.0 r.1,
  )
