-- What an edit leaves standing. A node is a crew base and a duty with all its facts. In a new
-- network it is touched where the old one hasn't got it, where its base's price differs, or where
-- other duties may stand just before it; it is reached where a list of arcs, the empty one too,
-- leads to it from a touched node of its base.
use Rattle.std.specs.Prelude.{◌≡◌, ◌↔◌, ◌≤◌, ℕ, ℤ, true, List, Option, length}
use Rattle.std.specs.FinMap as map
use Rattle.crew_flights.specs.Timetable.{Timetable}
use Rattle.crew_net.specs.Layers.{IsPath}
use Rattle.crew_net.specs.Nets.{IsNodeOf, Net}
use Rattle.crew_net.specs.declared.node.Node.{Node}
use Rattle.crew_pairing.specs.Duties.{AreDuties}
use Rattle.crew_pairing.specs.Pairings.{may_stand_after}
use Rattle.crew_pairing.specs.declared.duty.Duty.{Duty}
use Rattle.crew_resource.specs.Members.{Member}

-- the base was there, at the same price
pub record IsSameBase (old : Net) (old_price new_price : Option ℤ) (base : List ℕ) : Type 0 where
  pub there : Member old.bases base
  pub price : old_price ≡ new_price

-- the duty was there with all its facts, and so was exactly each duty that may stand just before it
pub record IsSameDuty (old new : Net) (d : Duty) : Type 0 where
  pub there : Member old.duties d
  pub before : (e : Duty) → may_stand_after new.settings e d ≡ true
      → (Member old.duties e ↔ Member new.duties e)

-- the node isn't touched
abbrev pub IsUntouched : Net → Net → Option ℤ → Option ℤ → List ℕ → Duty → Type 0
IsUntouched old new old_price new_price base d =
    IsSameBase old old_price new_price base × IsSameDuty old new d

-- nor is any node from which a list of arcs leads to it
abbrev pub IsUnreached : Net → Net → Option ℤ → Option ℤ → List ℕ → Duty → Type 0
IsUnreached old new old_price new_price base d = (first : Duty) (others : List Duty)
    → IsPath new first others d → IsUntouched old new old_price new_price base first

-- a node of the new network that isn't reached, between the networks of two timetables
pub record IsKept (t u : Timetable) (old new : Net) (node : Node) : Type 0 where
  pub duty : Duty
  pub is_node : IsNodeOf new node duty
  pub unreached : IsUnreached old new (map.get t.bases node.base) (map.get u.bases node.base)
      node.base duty

-- the network has the bases of the timetable, and its legal duties, no more than a network may have
pub record IsNetOver (t : Timetable) (net : Net) : Type 0 where
  pub bases : net.bases ≡ map.keys t.bases
  pub duties : AreDuties net.settings t net.duties
  pub few : length net.duties ≤ 200_000
