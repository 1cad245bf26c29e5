-- Boardings of the same two events, of which one is at most another.
use Rattle.std.specs.Prelude.{◌≡◌, ◌≤◌, ◌≤ℤ◌, ◌-ℤ◌, ℕ, List, Some, get_or, slice_get, true}
use Rattle.crew_anchor.specs.Stages.{anchored_board}
use Rattle.crew_anchor.specs.declared.resource.AnchoredResource.{AnchoredResource}
use Rattle.crew_pairing.specs.declared.duty.Duty.{Duty}
use Rattle.crew_pairing.specs.declared.vector.PairingVector.{PairingVector}
use Rattle.crew_resource.specs.Members.{Member}
use Rattle.crew_vector.specs.Dominance.{is_at_most}

-- a duty ends when another does, takes no more of what is capped, and costs no more by any rate
pub record TakesNoMore (one other : Duty) : Type 0 where
  pub release : one.release ≡ other.release
  pub fdp : one.fdp ≤ℤ other.fdp
  pub fly : one.fly ≤ℤ other.fly
  pub price : other.price ≤ℤ one.price
  pub cost : (one.pay -ℤ one.price) ≤ℤ (other.pay -ℤ other.price)

-- who boards the duty of the second rank may board that of the first, from the same pool, and comes to
-- no more by it, nor to a later walk where it comes to the same
pub record IsAsGood (duties : List Duty) (positions : List ℕ) (first second : ℕ) : Type 0 where
  pub position : get_or positions first 0 ≡ get_or positions second 0
  pub boards : (r : AnchoredResource) (v x : PairingVector) (d : Duty)
      → slice_get duties second ≡ Some d → anchored_board r v d ≡ Some x
      → (e : Duty) × (y : PairingVector) × (slice_get duties first ≡ Some e)
      × (anchored_board r v e ≡ Some y) × (is_at_most y x ≡ true) × (y ≡ x → first ≤ second)

-- each of some ranks has one as good among others
abbrev pub HaveAsGood : List Duty → List ℕ → List ℕ → List ℕ → Type 0
HaveAsGood duties positions kept ranks = (rank : ℕ) → Member ranks rank
    → (k : ℕ) × Member kept k × IsAsGood duties positions k rank
