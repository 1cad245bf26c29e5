-- Whether a job's node has the front that it had in the version before the round.
use Rattle.std.proofs.Common.{◌≡◌, ◌∙◌, Bool, true, false, Some, refl, sym, subst, true≢false}
use Rattle.std.specs.Prelude.{◌↔◌, IsTrue}
use Rattle.crew_job.proofs.Planned.{data-sound}
use Rattle.crew_job.proofs.Standing.{as-sealed-by-front}
use Rattle.crew_job.specs.Grounds.{Ground, IsGround, data_of, sealed_data_of}
use Rattle.crew_job.specs.Jobs.{Job, job_node}
use Rattle.crew_job.specs.Machinery.Held.{TellsKept}
use Rattle.crew_job.specs.Shown.{IsAsSealed, LeavesAsSealed}
use Rattle.crew_machine.proofs.Alike.{same-front-of}
use Rattle.crew_machine.proofs.Sorted.{rising-front}
use Rattle.crew_machine.specs.Crew.{DutyNode, Entries, IsFrontOf, IsNodeOf}
use Rattle.crew_pairing.specs.Events.{departure_of}

some-same : {X : Type 0} (x y : X) → Some x ≡ Some y → x ≡ y
some-same x y e = cc

module _ (job : Job) (is : IsGround job.ground) (n : DutyNode) (named : job_node job ≡ Some n) where
  abbrev g : Ground
  g = job.ground

  own : (m : DutyNode) → job_node job ≡ Some m → m ≡ n
  own m e = some-same m n (sym e ∙ named)

  -- that version hasn't got the node
  pub tells-none : (IsNodeOf g.settings (sealed_data_of g) n → ⊥) → TellsKept job false
  tells-none none m e = (
    λ t. absurd (true≢false (sym t)),
    λ a. absurd (none (subst (IsNodeOf g.settings (sealed_data_of g)) (own m e) a.there)),
  )

  -- it leaves there as the round does
  pub tells-alike : IsNodeOf g.settings (data_of g) n → IsNodeOf g.settings (sealed_data_of g) n → LeavesAsSealed g n.base (departure_of n.duty) → TellsKept job true
  tells-alike here there alike m e =
      let f = rising-front g.settings (data_of g) is.checked (data-sound g is) n here in
      let kept : IsAsSealed g n = as-sealed-by-front g is n f.0 there (alike n refl refl here there f.0 f.1) f.1 in
      (λ _. subst (IsAsSealed g) (sym (own m e)) kept, λ _. refl)

  -- the two fronts are compared
  pub tells-same : (same : Bool) (x y : Entries) → IsNodeOf g.settings (sealed_data_of g) n → IsFrontOf g.settings (sealed_data_of g) n x → IsFrontOf g.settings (data_of g) n y → IsTrue same ↔ (x ≡ y) → TellsKept job same
  tells-same same x y there old new h m e = (
    λ t. subst (IsAsSealed g) (sym (own m e)) (as-sealed-by-front g is n x there old (subst (IsFrontOf g.settings (data_of g) n) (sym (h.0 t)) new)),
    λ a. h.1 (same-front-of g.settings is.checked (data_of g) n x y ((subst (IsAsSealed g) (own m e) a).front x old) new),
  )
