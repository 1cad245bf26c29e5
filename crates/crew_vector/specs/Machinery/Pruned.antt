-- Duties that others stand for: their boardings can be left out of the arrivals.
use Rattle.std.specs.Prelude.{◌≡◌, true, ℤ, ◌-ℤ◌, ◌<ℤ◌, ◌≤ℤ◌, List}
use Rattle.std.specs.Ordering.{is_le}
use Rattle.crew_pairing.specs.Events.{arrival_of, departure_of}
use Rattle.crew_pairing.specs.Keys.{key_cmp, walk_at_most}
use Rattle.crew_pairing.specs.declared.duty.Duty.{Duty}
use Rattle.crew_pairing.specs.declared.events.Arrival.{Arrival}
use Rattle.crew_pairing.specs.Legs.{Leg}
use Rattle.crew_resource.specs.Members.{Member}
use Rattle.crew_vector.specs.Dominance.{is_at_most}
use Rattle.crew_pairing.specs.declared.vector.PairingVector.{PairingVector}

-- each entry lies over one of the others, which is at most it, and at equal vectors has a walk that
-- is at most its own
abbrev pub LieOver : List (PairingVector × List (List Leg))
    → List (PairingVector × List (List Leg)) → Type 0
LieOver entries others =
    (v : PairingVector) (w : List (List Leg)) → Member entries (v, w) → (u : PairingVector)
    × (y : List (List Leg)) × Member others (u, y) × (is_at_most u v ≡ true)
    × (u ≡ v → walk_at_most y w ≡ true)

-- between the same events as d, e adds at most as much to each part, and where it adds the same its
-- key is at most d's
pub record StandsFor (e d : Duty) : Type 0 where
  pub leaves : departure_of e ≡ departure_of d
  pub arrives : arrival_of e ≡ arrival_of d
  pub pay : (e.pay -ℤ e.price) ≤ℤ (d.pay -ℤ d.price)
  pub price : d.price ≤ℤ e.price
  pub fdp : e.fdp ≤ℤ d.fdp
  pub fly : e.fly ≤ℤ d.fly
  pub key : e.pay ≡ d.pay → e.price ≡ d.price → e.fdp ≡ d.fdp → e.fly ≡ d.fly
      → is_le (key_cmp e.key d.key) ≡ true

-- the entries of each duty that leaves before a minute and arrives at x lie over those of one that
-- is kept
pub record AreEnough (duties kept : List Duty)
    (fronts : Duty → List (PairingVector × List (List Leg))) (minute : ℤ) (x : Arrival) : Type
    0 where
  pub among : (d : Duty) → Member kept d → Member duties d
  pub under : (d : Duty) → Member duties d → d.report <ℤ minute → arrival_of d ≡ x
      → (e : Duty) × Member kept e × (e.report <ℤ minute) × (arrival_of e ≡ x)
      × LieOver (fronts d) (fronts e)
