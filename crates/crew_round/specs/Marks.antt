-- What is known of the nodes of a round, by their places: the place of a node is that of its base
-- times the number of duties, and the rank of its duty.
use Rattle.std.specs.Prelude.{◌≡◌, ℕ, ◌+◌, ◌*◌, ◌/◌, ◌%◌, ◌<◌, ◌&&◌, Bool, true, false, List, [], ◌∷◌, Some, get_or, length, slice_get, slice_set}
use Rattle.crew_dirty.specs.Carried.{Carried, IsCarriedOver}
use Rattle.crew_flights.specs.Timetable.{Timetable}
use Rattle.crew_net.specs.Nets.{Net}
use Rattle.crew_pairing.specs.Pairings.{may_stand_after}
use Rattle.crew_pairing.specs.declared.duty.Duty.{Duty}
use Rattle.crew_round.specs.declared.mark.Mark.{Mark}
use Rattle.crew_round.specs.declared.mark.Mark.TheVariants.{Waiting, Out, Done}

-- the network, what is carried over to it, and by place a node's mark, and whether the front of a
-- done node is that of the version before
pub record Marks : Type 0 where
  pub net : Net
  pub carried : Carried
  pub marks : List Mark
  pub same : List Bool

-- how many nodes a network has
abbrev pub node_count : Net → ℕ
node_count net = length net.bases * length net.duties

-- the node of a base's place and a rank stands at a place
pub record StandsAt (net : Net) (place base rank : ℕ) (d : Duty) : Type 0 where
  pub in_bases : base < length net.bases
  pub duty : slice_get net.duties rank ≡ Some d
  pub is : place ≡ base * length net.duties + rank

-- two nodes of one base stand at these places, and the first may stand just before the second
pub record IsJustBefore (net : Net) (first second : ℕ) : Type 0 where
  pub base : ℕ
  pub rank : ℕ
  pub next_rank : ℕ
  pub duty : Duty
  pub next_duty : Duty
  pub stands : StandsAt net first base rank duty
  pub next_stands : StandsAt net second base next_rank next_duty
  pub arc : may_stand_after net.settings duty next_duty ≡ true

-- the mark of a place
abbrev pub IsMarked : Marks → ℕ → Mark → Type 0
IsMarked m place mark = slice_get m.marks place ≡ Some mark

-- all nodes just before a place are done
abbrev pub AreDoneBefore : Marks → ℕ → Type 0
AreDoneBefore m place = (p : ℕ) → IsJustBefore m.net p place → IsMarked m p Done

-- all of them have the fronts of the version before
abbrev pub AreSameBefore : Marks → ℕ → Type 0
AreSameBefore m place = (p : ℕ) → IsJustBefore m.net p place → get_or m.same p false ≡ true

-- the node at a place waits, and each node just before it is done
abbrev pub IsReady : Marks → ℕ → Type 0
IsReady m place = IsMarked m place Waiting × AreDoneBefore m place

-- nodes that aren't touched, or aren't reached, by place
abbrev pub is_untouched_at : Marks → ℕ → Bool
is_untouched_at m place = get_or m.carried.bases (place / length m.net.duties) false
    && get_or m.carried.same (place % length m.net.duties) false

abbrev pub is_kept_at : Marks → ℕ → Bool
is_kept_at m place = get_or m.carried.bases (place / length m.net.duties) false
    && get_or m.carried.unreached (place % length m.net.duties) false

-- the work of a waiting node is what it was: it isn't touched, and each node just before it has
-- the front that it had
abbrev pub IsReusable : Marks → ℕ → Type 0
IsReusable m place = IsMarked m place Waiting × (is_untouched_at m place ≡ true)
    × AreSameBefore m place

abbrev pub NoneReusable : Marks → Type 0
NoneReusable m = (place : ℕ) → IsReusable m place → ⊥

-- another mark at a place
abbrev pub with_mark : Marks → ℕ → Mark → Marks
with_mark m place mark = record {
  net = m.net;
  carried = m.carried;
  marks = slice_set m.marks place mark;
  same = m.same;
}

-- a node is done
abbrev pub marked : Marks → ℕ → Bool → Marks
marked m place same = record {
  net = m.net;
  carried = m.carried;
  marks = slice_set m.marks place Done;
  same = slice_set m.same place same;
}

-- nodes whose work is what it was are marked done, one after another
abbrev pub Reuses : Marks → List ℕ → Marks → Type 0
Reuses old [] new = new ≡ old
Reuses old (place ∷ places) new = IsReusable old place × Reuses (marked old place true) places new

-- a node is done, and then all others whose work is what it was, until there is none
pub record Stores (old : Marks) (place : ℕ) (same : Bool) (new : Marks) : Type 0 where
  pub reused : List ℕ
  pub reuses : Reuses (marked old place same) reused new
  pub none_left : NoneReusable new

-- as a round begins: the nodes that aren't reached are done, with the fronts of the version before,
-- and all others wait
pub record AreCarried (m : Marks) : Type 0 where
  pub long : length m.marks ≡ node_count m.net
  pub long_same : length m.same ≡ node_count m.net
  pub kept : (place : ℕ) → place < node_count m.net → is_kept_at m place ≡ true
      → IsMarked m place Done × (get_or m.same place false ≡ true)
  pub others : (place : ℕ) → place < node_count m.net → is_kept_at m place ≡ false
      → IsMarked m place Waiting × (get_or m.same place false ≡ false)

-- what is carried over is that over a network, from some other
abbrev pub IsCarriedTo : Net → Carried → Type 0
IsCarriedTo net carried = (t u : Timetable) × (old : Net) × IsCarriedOver t u old net carried

-- the least place of a ready node
pub record IsFirstReady (m : Marks) (place : ℕ) : Type 0 where
  pub ready : IsReady m place
  pub least : (k : ℕ) → k < place → IsReady m k → ⊥

abbrev pub NoneReady : Marks → Type 0
NoneReady m = (place : ℕ) → IsReady m place → ⊥

-- a node stands at a place, and isn't done
abbrev pub IsUndone : Marks → ℕ → Type 0
IsUndone m place = (place < length m.marks) × (IsMarked m place Done → ⊥)

-- the least place of a node that isn't done
pub record IsFirstUndone (m : Marks) (place : ℕ) : Type 0 where
  pub undone : IsUndone m place
  pub least : (k : ℕ) → k < place → IsMarked m k Done

abbrev pub AllDone : Marks → Type 0
AllDone m = (place : ℕ) → place < length m.marks → IsMarked m place Done

abbrev pub is_done : Mark → Bool
is_done Waiting = false
is_done Out = false
is_done Done = true

abbrev pub is_out : Mark → Bool
is_out Waiting = false
is_out Out = true
is_out Done = false
