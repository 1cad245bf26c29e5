-- A pass beside an earlier one, as it goes on by a pool that is mended.
use Rattle.std.proofs.Common.{◌≡◌, ◌∙◌, ◌<◌, ℕ, Bool, true, List, Option, length, get_or, Some, sym, subst}
use Rattle.std.specs.Prelude.{slice_get}
use Rattle.crew_net.specs.Events.{IsWindow}
use Rattle.crew_net.specs.Nets.{Net}
use Rattle.crew_net.specs.declared.window.Window.{Window}
use Rattle.crew_pairing.specs.Events.{may_wait}
use Rattle.crew_pairing.specs.declared.events.Departure.{Departure}
use Rattle.crew_pairing.specs.declared.vector.PairingVector.{PairingVector}
use Rattle.crew_pool.specs.Arena.{walk_at}
use Rattle.crew_pool.specs.Ranks.{AreRanked}
use Rattle.crew_pool.specs.declared.label_walk.LabelWalk.{LabelWalk}
use Rattle.crew_resource.specs.Members.{Member}
use Rattle.crew_carry.specs.crew_step.Walks.{HasGrown}
use Rattle.crew_carry.proofs.crew_step_lemmas.Grown.{all-shown-grown, counted-grown}
use Rattle.crew_sweep.specs.Machinery.Beside.{IsBeside}
use Rattle.crew_sweep.specs.Machinery.Grounds.{IsGround, Stands}
use Rattle.crew_sweep.specs.Machinery.Mending.{AreSound, IsFresh, IsMended, IsNextPool, IsOldPool}
use Rattle.crew_sweep.specs.Machinery.Passing.{IsPassing}
use Rattle.crew_sweep.specs.Machinery.Renewing.{IsEarlierPass, IsRenewing}
use Rattle.crew_sweep.specs.Sweeps.{BaseSweep}
use Rattle.crew_sweep.specs.declared.earlier.Earlier.{Earlier}
use Rattle.crew_sweep.specs.declared.ground.Ground.{Ground}
use Rattle.crew_sweep.specs.declared.passing.Passing.{Passing}
use Rattle.crew_sweep.proofs.Mends as mends
use Rattle.crew_sweep.proofs.Passable as passable-proofs
use Rattle.crew_sweep.proofs.Shown.{keyed-grown}

abbrev Labels : Type 0
Labels = List (PairingVector × LabelWalk)

-- an old pool over walks that have grown
pub old-pool-grown : (old : BaseSweep) (net : Net) (before after : List (List ℕ)) → HasGrown before after → (place : ℕ) (pool : Labels) → IsOldPool old net before place pool → IsOldPool old net after place pool
old-pool-grown old net before after grown place pool was =
    let count = λ (v : PairingVector). v.duties in
    record {
      position = was.position;
      at = was.at;
      has = record {
        labels = keyed-grown before after grown net true pool was.has.counts ∙ was.has.labels;
        counts = λ l m. counted-grown count before after true grown l (was.has.counts l m);
        ranked = subst (AreRanked (length net.duties)) (sym (all-shown-grown count before after true grown pool was.has.counts)) was.has.ranked;
      };
    }

module _ (e : Earlier) (g : Ground) (ground : IsGround g) (beside : IsBeside e g) (p : Passing) (stands : Stands g p) (changed : List Bool) (alike : List (Option ℕ)) (marks : IsRenewing e.sweep.now g.net.now p.passed.walks p.passed.pools changed alike)
    (place : ℕ) (at : slice_get g.net.now.by_report (length p.passed.pools) ≡ Some place) (w : Window)
    (window : (d : Departure) → slice_get g.net.now.departures place ≡ Some d → IsWindow (λ x. may_wait g.net.now.settings x d) g.net.now.arrivals w)
    (before : Labels) (was : IsOldPool e.sweep.now g.net.now p.passed.walks place before)
    (fresh : Labels) (newly : IsFresh e.twins.now changed p.passed.walks p.arrivals.made.items p.arrivals.pools.items w fresh)
    (result : Labels) (mended : IsMended p.passed.walks fresh before result) where
  abbrev old : BaseSweep
  old = e.sweep.now

  abbrev walks : List (List ℕ)
  walks = p.passed.walks

  there : (d : Departure) × (slice_get g.net.now.departures place ≡ Some d)
  there = let d = passable-proofs.departs-at g.net.now g.positions.now ground.passable (length p.passed.pools) place at in (d.0, d.1)

  abbrev Within : List ℕ → Type 0
  Within base = IsEarlierPass old g.net.now e.twins.now e.positions.now base g.resource → IsPassing g.net.now base g.resource walks p.passed.pools p.arrivals.made.items p.arrivals.pools.items
      → (l : PairingVector × LabelWalk) → Member result l → (rank : ℕ) → Member (walk_at walks l.1.walk) rank → (rank < length e.places.now) × (get_or e.places.now rank 0 < length changed)

  pub walks-within : (l : PairingVector × LabelWalk) → Member result l → (rank : ℕ) → Member (walk_at walks l.1.walk) rank → (rank < length e.places.now) × (get_or e.places.now rank 0 < length changed)
  walks-within = subst Within (sym beside.earlier.own_base) (λ earlier passing. mends.walks-within old g.net.now e.twins.now e.positions.now g.resource earlier g.positions.now ground.passable walks p.passed.pools p.arrivals.made.items p.arrivals.pools.items passing changed alike marks e.places.now beside.places place at there.0 there.1 before was w (window there.0 there.1) fresh newly result mended) beside.earlier stands.pools

  abbrev ByBase : List ℕ → Type 0
  ByBase base = IsEarlierPass old g.net.now e.twins.now e.positions.now base g.resource → IsPassing g.net.now base g.resource walks p.passed.pools p.arrivals.made.items p.arrivals.pools.items
      → IsNextPool g.net.now base g.resource walks p.passed.pools result

  pub next-pool : (added : ℕ) → ((l : PairingVector × LabelWalk) → Member before l → l.1.walk < added) → AreSound e.twins.now changed e.places.now walks added result → IsNextPool g.net.now g.base g.resource walks p.passed.pools result
  next-pool added standing sound = subst ByBase (sym beside.earlier.own_base) (λ earlier passing. mends.next-pool old g.net.now e.twins.now e.positions.now g.resource earlier g.positions.now ground.passable walks p.passed.pools p.arrivals.made.items p.arrivals.pools.items passing changed alike marks e.places.now beside.places place at there.0 there.1 before was w (window there.0 there.1) fresh newly result mended added standing sound) beside.earlier stands.pools
