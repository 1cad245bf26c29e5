-- Whether a job's work is that of the node at a place.
use Rattle.std.proofs.Common.{◌≡◌, ◌∙◌, ◌+◌, ◌*◌, ℕ, List, Option, Some, None, length, refl, sym, ap}
use Rattle.std.specs.Prelude.{slice_get}
use Rattle.std.proofs.lemmas.Option.{slice_get_within}
use Rattle.crew_job.proofs.NodePlaces.{node-from, node-place, some-node-at}
use Rattle.crew_job.proofs.Planned.{data-sound}
use Rattle.crew_job.proofs.Works.{some-work}
use Rattle.crew_job.specs.Grounds.{Ground, IsGround, data_of, nodes_in}
use Rattle.crew_job.specs.Jobs.{IsJobOf, IsOwnAt, IsOwnWork, IsPlaced, Job, job_node}
use Rattle.crew_job.specs.Machinery.Compared.{AreShownAt}
use Rattle.crew_job.specs.Shown.{AreShownBefore}
use Rattle.crew_machine.specs.Crew.{DutyNode, DutyWork, MayPrecede}
use Rattle.crew_pairing.specs.declared.duty.Duty.{Duty}
use Rattle.crew_version.specs.crew_fronts.Fronts.{BaseFronts}

-- what is shown just before a place, by the place of the base and rank
pub shown-before : (g : Ground) (place base : ℕ) (code : List ℕ) (d : Duty) (shown : List (Option BaseFronts)) → slice_get (nodes_in g.plan.net) place ≡ Some (record { base = code; duty = d }) → slice_get g.plan.net.bases base ≡ Some code → AreShownBefore g place shown → AreShownAt g code d base shown
shown-before g place base code d shown at based before rank e stands may =
    let n : DutyNode = record { base = code; duty = d } in
    let p : DutyNode = record { base = code; duty = e } in
    let arc : MayPrecede g.settings p n = record { base = refl; rested = may } in
    before n p (base * length g.plan.net.duties + rank) at (node-place g.plan.net base rank (slice_get_within g.plan.net.duties rank e stands) ∙ node-from g.plan.net base rank code e based stands) arc

module _ (job : Job) (is : IsGround job.ground) (placed : IsPlaced job) (g : Ground) (place : ℕ) where
  abbrev pub AllOwnAt : Type 0
  AllOwnAt = (work : DutyWork) → IsJobOf job work → IsOwnAt g place work

  -- a work that is that of a place stands there
  pub own-stands : AllOwnAt → slice_get (nodes_in g.plan.net) place ≡ job_node job
  own-stands all =
      let n = some-node-at job.ground.plan.net job.base job.rank placed.base placed.rank in
      let w = some-work job.ground.settings is.checked (data_of job.ground) (data-sound job.ground is) is.few n.0 in
      let of : IsJobOf job w.0 = record { node = n.1 ∙ ap Some (sym w.1); own = w.2 } in
      (all w.0 of).node ∙ sym of.node

  -- so there is a node there
  pub own-somewhere : AllOwnAt → slice_get (nodes_in g.plan.net) place ≡ None → ⊥
  own-somewhere all none =
      let n = some-node-at job.ground.plan.net job.base job.rank placed.base placed.rank in
      let e = sym none ∙ (own-stands all ∙ n.1) in
      let q : ⊥ = (cc) in q

  -- and where the node stands there, it is that of the place where it is the own one
  pub own-in : slice_get (nodes_in g.plan.net) place ≡ job_node job → ((work : DutyWork) → IsJobOf job work → IsOwnWork g work) → AllOwnAt
  own-in stands own work of = record { node = stands ∙ of.node; own = own work of }

  pub own-out : AllOwnAt → (work : DutyWork) → IsJobOf job work → IsOwnWork g work
  own-out all work of = (all work of).own
