-- What a round keeps after a call.
use Rattle.std.proofs.Common.{◌≡◌, ◌∙◌, ◌∷◌, [], ℕ, true, false, List, Some, length, get_or, sym, ap, subst}
use Rattle.std.specs.Prelude.{◌↔◌, slice_get}
use Rattle.crew_board.proofs.Cells.{done-at, mark-at, named}
use Rattle.crew_board.proofs.Grounded.{as-sealed}
use Rattle.crew_board.proofs.Reuse.{IsOver}
use Rattle.crew_board.proofs.Steps.{IsOpen}
use Rattle.crew_board.specs.Cells.{CrewCells, mark_of}
use Rattle.crew_board.specs.Machinery.Held.{IsMarkedOver, Marked}
use Rattle.crew_job.specs.crew_dirty.Carried.{IsCarriedOver}
use Rattle.crew_flights.specs.Timetable.{Timetable}
use Rattle.crew_job.specs.Grounds.{data_of, nodes_in, sealed_data_of}
use Rattle.crew_job.specs.Shown.{IsAsSealed}
use Rattle.crew_machine.proofs.Cells.{Some-same}
use Rattle.crew_machine.specs.Crew.{CrewBoard, DutyNode, Entries}
use Rattle.crew_machine.specs.declared.rounds.Cell.{Cell}
use Rattle.crew_machine.specs.declared.rounds.Cell.TheVariants.{Done}
use Rattle.crew_net.specs.Nets.{Net}
use Rattle.crew_resource.proofs.Members.{Member-at}
use Rattle.crew_resource.specs.Members.{Member}
use Rattle.crew_round.specs.Marks as Marks
use Rattle.crew_round.specs.Marks.{IsMarked, node_count}
use Rattle.crew_round.specs.declared.mark.Mark.TheVariants as MarkedAs
use Rattle.crew_rules.specs.declared.settings.Settings.{Settings}

pub reuses-net : (old : Marks.Marks) (places : List ℕ) (new : Marks.Marks) → Marks.Reuses old places new → (new.net ≡ old.net) × (new.carried ≡ old.carried)
reuses-net old [] new e = (ap (λ (m : Marks.Marks). m.net) e, ap (λ (m : Marks.Marks). m.carried) e)
reuses-net old (p ∷ ps) new r = let k = reuses-net (Marks.marked old p true) ps new r.1 in (k.0, k.1)

module _ (r : Marked) (over : IsMarkedOver r) (b : CrewBoard) (o : IsOpen r b) (m : Marks.Marks) (end : CrewCells) (is : IsOver r.ground.settings b.sealed r.ground.entries m end)
    (net : m.net ≡ r.marks.net) (carried : m.carried ≡ r.marks.carried) (long : length m.marks ≡ node_count m.net) (long-same : length m.same ≡ node_count m.net) where
  abbrev s : Settings
  s = r.ground.settings

  abbrev t : Timetable
  t = data_of r.ground

  same-now : (place : ℕ) (n : DutyNode) → slice_get (nodes_in m.net) place ≡ Some n → (get_or m.same place false ≡ true) ↔ (IsMarked m place MarkedAs.Done × IsAsSealed r.ground n)
  same-now place n at =
      let c = named s t m.net m.marks end is.marked place n at in
      let told = is.same place n c.0 c.1 in (
        λ e. (
            let k = told.0 e in
            let there : Member end (n, Done k.0) = subst (λ (z : Cell Entries). Member end (n, z)) k.1 (Member-at end place (n, c.0) c.1) in
            let sealed = as-sealed r over b.sealed o.version o.entries o.cells o.right o.marks n k.0 (is.right.right n k.0 there) in
            (mark-at s t m.net m.marks end is.marked place n c.0 c.1 ∙ ap (λ (z : Cell Entries). Some (mark_of z)) k.1, sealed.1 k.2)),
        λ k. (
            let done = done-at s t m.net m.marks end is.marked place k.0 in
            let pair : (done.0, Done done.1) ≡ (n, c.0) = Some-same (done.0, Done done.1) (n, c.0) (sym done.2 ∙ c.1) in
            let cell : c.0 ≡ Done done.1 = sym (ap (λ (z : DutyNode × Cell Entries). z.1) pair) in
            let there : Member end (n, Done done.1) = subst (λ (z : Cell Entries). Member end (n, z)) cell (Member-at end place (n, c.0) c.1) in
            let sealed = as-sealed r over b.sealed o.version o.entries o.cells o.right o.marks n done.1 (is.right.right n done.1 there) in
            told.1 (done.1, cell, sealed.0 k.1)),
      )

  pub marked-after : IsMarkedOver (let q : Marked = record { ground = r.ground; marks = m } in q)
  marked-after = record {
    ground = over.ground;
    net = net ∙ over.net;
    long = long;
    long_same = long-same;
    old = over.old;
    old_settings = over.old_settings;
    old_net = over.old_net;
    carried = subst (λ (n : Net). IsCarriedOver (sealed_data_of r.ground) t over.old n m.carried) (sym net) (subst (IsCarriedOver (sealed_data_of r.ground) t over.old r.marks.net) (sym carried) over.carried);
    same = same-now;
  }
