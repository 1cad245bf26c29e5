-- What the marks of a round hold beside what a contract sees.
use Rattle.std.specs.Prelude.{◌≡◌, ℕ, ◌/◌, ◌%◌, ◌<◌, ◌&&◌, Bool, true, false, List, get_or, length}
use Rattle.crew_dirty.specs.Carried.{Carried}
use Rattle.crew_net.specs.Nets.{AreArrivalPlaces, Net}
use Rattle.crew_round.specs.Marks.{AreDoneBefore, AreSameBefore, IsMarked, Marks, is_done, is_untouched_at, node_count}
use Rattle.crew_round.specs.Machinery.Lines.{IsLine}
use Rattle.crew_round.specs.declared.line.Line.{Line}
use Rattle.crew_round.specs.declared.mark.Mark.{Mark}
use Rattle.crew_round.specs.declared.mark.Mark.TheVariants.{Waiting, Out, Done}

-- whether a place is done, and whether its front is that of the version before
abbrev pub done_flag : List Mark → ℕ → Bool
done_flag marks place = is_done (get_or marks place Waiting)

abbrev pub same_flag : List Bool → ℕ → Bool
same_flag same place = get_or same place false

-- what is kept of marks: their lengths; what is the same is done; what doesn't wait has all before
-- it done; the work of what is out isn't what it was
pub record AreMarks (m : Marks) : Type 0 where
  pub long : length m.marks ≡ node_count m.net
  pub long_same : length m.same ≡ node_count m.net
  pub done : (place : ℕ) → get_or m.same place false ≡ true → IsMarked m place Done
  pub started : (place : ℕ) (mark : Mark) → IsMarked m place mark → (mark ≡ Waiting → ⊥)
      → AreDoneBefore m place
  pub other : (place : ℕ) → IsMarked m place Out → is_untouched_at m place ≡ true
      → AreSameBefore m place → ⊥

-- the lines of ready nodes, and of those whose work is what it was
pub record AreHeld (m : Marks) (arrivals : List ℕ) (ready reusable : Line) : Type 0 where
  pub marks : AreMarks m
  pub places : AreArrivalPlaces m.net arrivals
  pub all : ready.any ≡ true
  pub ready_line : IsLine m.net m.carried m.marks (done_flag m.marks) ready
  pub untouched : reusable.any ≡ false
  pub reusable_line : IsLine m.net m.carried m.marks (same_flag m.same) reusable

-- by place, the nodes of a network that aren't reached
pub record AreKept (net : Net) (carried : Carried) (flags : List Bool) : Type 0 where
  pub long : length flags ≡ node_count net
  pub right : (place : ℕ) → place < node_count net → get_or flags place false
      ≡ (get_or carried.bases (place / length net.duties) false
      && get_or carried.unreached (place % length net.duties) false)
