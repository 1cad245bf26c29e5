-- What a round keeps.
use Rattle.std.specs.Prelude.{◌≡◌, ◌↔◌, ℕ, true, false, List, [], ◌∷◌, Option, Some, None, get_or, length, slice_get}
use Rattle.crew_job.specs.crew_dirty.Carried.{IsCarriedOver}
use Rattle.crew_job.specs.crew_dirty.Dirty.{IsNetOver}
use Rattle.crew_job.specs.Grounds.{Ground, IsGround, data_of, nodes_in, sealed_data_of}
use Rattle.crew_job.specs.Shown.{IsAsSealed, IsShown}
use Rattle.crew_machine.specs.Crew.{DutyNode}
use Rattle.crew_net.specs.Nets.{Net}
use Rattle.crew_round.specs.Marks.{AreCarried, IsMarked, Marks, node_count}
use Rattle.crew_round.specs.declared.mark.Mark.TheVariants.{Done}
use Rattle.crew_job.specs.crew_fronts.Fronts.{BaseFronts}
use Rattle.crew_job.specs.crew_plan.Plans.{AreFrontsIn}

-- none of some options is there
abbrev pub AllNone : {X : Type 0} → List (Option X) → Type 0
AllNone [] = Unit {0}
AllNone (None ∷ rest) = AllNone rest
AllNone (Some x ∷ rest) = ⊥

-- a ground, and the marks of its nodes
pub record Marked : Type 0 where
  pub ground : Ground
  pub marks : Marks

-- the marks are over the ground's network, beside what is carried over from the version before, and
-- tell of a done node whether it is as that version has it
pub record IsMarkedOver (r : Marked) : Type 0 where
  pub ground : IsGround r.ground
  pub net : r.marks.net ≡ r.ground.plan.net
  pub long : length r.marks.marks ≡ node_count r.marks.net
  pub long_same : length r.marks.same ≡ node_count r.marks.net
  pub old : Net
  pub old_settings : old.settings ≡ r.ground.settings
  pub old_net : IsNetOver (sealed_data_of r.ground) old
  pub carried : IsCarriedOver (sealed_data_of r.ground) (data_of r.ground) old r.marks.net
      r.marks.carried
  pub same : (place : ℕ) (n : DutyNode) → slice_get (nodes_in r.marks.net) place ≡ Some n
      → (get_or r.marks.same place false ≡ true)
      ↔ (IsMarked r.marks place Done × IsAsSealed r.ground n)

-- by place, what shows the fronts of done nodes; by base, where a sweep of the ground's stands
pub record IsHeld (r : Marked) (shown : List (Option BaseFronts)) (swept : List (Option ℕ)) : Type
    0 where
  pub marked : IsMarkedOver r
  pub long : length shown ≡ length r.marks.marks
  pub right : (place : ℕ) (n : DutyNode) → slice_get (nodes_in r.marks.net) place ≡ Some n
      → IsMarked r.marks place Done → IsShown r.ground n (get_or shown place None)
  pub clear : (place : ℕ) → (IsMarked r.marks place Done → ⊥) → get_or shown place None ≡ None
  pub long_swept : length swept ≡ length r.ground.plan.prices
  pub stand : (base place : ℕ) → slice_get swept base ≡ Some (Some place)
      → (b : BaseFronts) × (get_or shown place None ≡ Some b) × AreFrontsIn r.ground.plan base b

-- what a round has as it is begun
pub record IsBegun (r : Marked) : Type 0 where
  pub ground : IsGround r.ground
  pub net : r.marks.net ≡ r.ground.plan.net
  pub old : Net
  pub old_settings : old.settings ≡ r.ground.settings
  pub old_net : IsNetOver (sealed_data_of r.ground) old
  pub carried : IsCarriedOver (sealed_data_of r.ground) (data_of r.ground) old r.marks.net
      r.marks.carried
  pub marks : AreCarried r.marks
