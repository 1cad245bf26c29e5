-- The pairings that come home, base by base, and the least of them.
use Rattle.std.specs.Prelude.{◌≡◌, ◌≤◌, ℕ, ◌^◌, Bool, ◌&&◌, ◌||◌, cond, int_lt, ℤ, pos, ◌+ℤ◌, ◌-ℤ◌, ◌*ℤ◌, List, [], ◌∷◌, Option, Some, None, get_or, length, map, slice_get}
use Rattle.std.specs.List.{flat_map, range_with_len}
use Rattle.std.specs.Ordering.{eq_by_cmp, int_eq, is_lt}
use Rattle.crew_anchor.specs.Anchors.{shown}
use Rattle.crew_anchor.specs.Machinery.Bounds.{fits_in, is_ready}
use Rattle.crew_anchor.specs.Stages.{anchored_resource}
use Rattle.crew_anchor.specs.Sweeps.{anchored_network}
use Rattle.crew_anchor.specs.declared.resource.AnchoredResource.{AnchoredResource}
use Rattle.crew_flights.specs.Codes.{code_cmp}
use Rattle.crew_net.specs.Events.{leaves_at}
use Rattle.crew_net.specs.Nets.{Net}
use Rattle.crew_net.specs.Ranks.{ranks_where}
use Rattle.crew_pairing.specs.Events.{departure_of}
use Rattle.crew_pairing.specs.Keys.{walk_cmp}
use Rattle.crew_pairing.specs.Legs.{Leg}
use Rattle.crew_pairing.specs.Vectors.{reduced_cost}
use Rattle.crew_pairing.specs.declared.duty.Duty.{Duty}
use Rattle.crew_pairing.specs.declared.events.Departure.{Departure}
use Rattle.crew_pairing.specs.declared.vector.PairingVector.{PairingVector}
use Rattle.crew_pool.specs.LabelWalks.{walk_of_label}
use Rattle.crew_pool.specs.Ranks.{key_at}
use Rattle.crew_pool.specs.declared.label_walk.LabelWalk.{LabelWalk}
use Rattle.crew_resource.specs.Events.{view}
use Rattle.crew_resource.specs.Machinery.Sum.{LiesWithin}
use Rattle.crew_resource.specs.Machinery.Uses.{HasRoom}
use Rattle.crew_resource.specs.Members.{Member}
use Rattle.crew_sweep.specs.Sweeps.{BaseSweep, keyed}
use Rattle.crew_net.specs.Positions.{in_order}
use Rattle.crew_vector.specs.declared.priced.PricedPairing.{PricedPairing}

-- the pairing of a vector and a walk that come home to a base
abbrev pub priced : ℕ → List ℕ → PairingVector → List (List Leg) → PricedPairing
priced rate base v w = record {
  base = base;
  walk = w;
  cost = reduced_cost v;
  pay = reduced_cost v +ℤ (pos rate *ℤ v.away -ℤ v.trip_rig);
  away = v.away;
}

-- by cost, and then by walk
abbrev pub is_cheaper : PricedPairing → PricedPairing → Bool
is_cheaper p q = int_lt p.cost q.cost || (int_eq p.cost q.cost && is_lt (walk_cmp p.walk q.walk))

abbrev pub lesser : Option PricedPairing → PricedPairing → Option PricedPairing
lesser None p = Some p
lesser (Some q) p = Some (cond (is_cheaper p q) p q)

-- the least of the one so far and of more
abbrev pub least_of : Option PricedPairing → List PricedPairing → Option PricedPairing
least_of least [] = least
least_of least (p ∷ ps) = least_of (lesser least p) ps

abbrev pub resource_of : BaseSweep → AnchoredResource
resource_of b = anchored_resource b.net.settings b.price

-- a label's walk by key
abbrev pub walk_by_key : BaseSweep → LabelWalk → List (List Leg)
walk_by_key b l = map (key_at b.net.duties) (walk_of_label b.walks l)

-- a label's pairing as of a minute
abbrev pub pairing_at : BaseSweep → ℤ → PairingVector × LabelWalk → PricedPairing
pairing_at b minute l = priced b.net.settings.trip_rig b.base
    (shown b.net.settings.trip_rig minute l.0) (walk_by_key b l.1)

-- the labels of a departure's pool that board a duty, after it, with the keys of their walks
abbrev pub boarding : BaseSweep → ℕ → Duty → List (PairingVector × List (List Leg))
boarding b index d = view (anchored_network b.net.settings b.base b.price b.net.duties) d
    (keyed b.net b.walks (get_or b.pools index []))

-- the pairings that a duty ends
abbrev pub ended_by : BaseSweep → ℕ → Duty → List PricedPairing
ended_by b index d = map (λ e. priced b.net.settings.trip_rig b.base
    (shown b.net.settings.trip_rig d.release e.0) e.1) (boarding b index d)

-- where the duty ends at the base
abbrev pub home_by : BaseSweep → ℕ → Option Duty → List PricedPairing
home_by b index None = []
home_by b index (Some d) = cond (eq_by_cmp code_cmp d.to b.base) (ended_by b index d) []

abbrev pub home_at : BaseSweep → ℕ → ℕ → List PricedPairing
home_at b index rank = home_by b index (slice_get b.net.duties rank)

-- the ranks of the duties that leave at a departure
abbrev pub leaving : Net → Option Departure → List ℕ
leaving net None = []
leaving net (Some g) = ranks_where (leaves_at g) net.duties

-- what comes home by the duties of a departure, by its place in order of report
abbrev pub home_from : BaseSweep → ℕ → List PricedPairing
home_from b index = flat_map (home_at b index)
    (leaving b.net (slice_get b.net.departures (get_or b.net.by_report index 0)))

-- all that comes home to a base
abbrev pub home_of : BaseSweep → List PricedPairing
home_of b = flat_map (home_from b) (range_with_len 0 (length b.net.by_report))

-- its pairing's amounts fit
pub record HasPay (rate : ℕ) (v : PairingVector) : Type 0 where
  pub cost : LiesWithin (2 ^ 61) (reduced_cost v)
  pub rig : LiesWithin (2 ^ 61) v.trip_rig
  pub prices : LiesWithin (2 ^ 61) (pos rate *ℤ v.away -ℤ v.trip_rig)

-- a label's vector can be shown as of a minute, and its pairing's amounts fit
pub record IsShowable (b : BaseSweep) (minute : ℤ) (v : PairingVector) : Type 0 where
  pub room : HasRoom (fits_in (resource_of b)) (is_ready (resource_of b)) v
  pub pay : HasPay b.net.settings.trip_rig (shown b.net.settings.trip_rig minute v)

-- each vector that boards a duty at its own departure can be shown at the duty's release
pub record IsFit (b : BaseSweep) : Type 0 where
  pub few : length b.net.duties ≤ 200_000
  pub shows : (index : ℕ) (d : Duty) → Member b.net.duties d
      → slice_get (in_order b.net) index ≡ Some (departure_of d)
      → LiesWithin 2_147_483_648 d.release → (v : PairingVector) (w : List (List Leg))
      → Member (boarding b index d) (v, w) → IsShowable b d.release v
