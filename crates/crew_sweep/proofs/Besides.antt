-- A pass beside an earlier one, as it goes on by a pool that it keeps, or stays.
use Rattle.std.proofs.Common.{◌≡◌, ◌++◌, ◌∷◌, ℕ, Bool, List, Option, [], Some, arith, length, subst, sym}
use Rattle.std.specs.Prelude.{slice_get}
use Rattle.crew_carry.specs.Carried.{IsCarried}
use Rattle.crew_net.specs.Nets.{Net}
use Rattle.crew_pairing.specs.declared.vector.PairingVector.{PairingVector}
use Rattle.crew_pool.specs.declared.label_walk.LabelWalk.{LabelWalk}
use Rattle.crew_carry.specs.crew_step.Walks.{HasGrown}
use Rattle.crew_sweep.specs.Machinery.Beside.{IsBeside, StandsBeside}
use Rattle.crew_sweep.specs.Machinery.Grounds.{IsGround, Stands}
use Rattle.crew_sweep.specs.Machinery.Passing.{IsPassing}
use Rattle.crew_sweep.specs.Machinery.Renewing.{IsEarlierPass, IsKeptPool, IsRenewing}
use Rattle.crew_sweep.specs.Machinery.Slides.{AreUnderWay}
use Rattle.crew_sweep.specs.Sweeps.{BaseSweep}
use Rattle.crew_sweep.specs.declared.earlier.Earlier.{Earlier}
use Rattle.crew_sweep.specs.declared.ground.Ground.{Ground}
use Rattle.crew_sweep.specs.declared.passing.Passing.{Passing}
use Rattle.crew_sweep.specs.declared.renewal.Renewal.{Renewal}
use Rattle.crew_sweep.proofs.KeptSteps as steps
use Rattle.crew_sweep.proofs.Renewed.{renewing-grown}
use Rattle.crew_sweep.proofs.Shown.{passing-grown}
use Rattle.crew_sweep.proofs.Slidings.{under-way-grown}

abbrev Labels : Type 0
Labels = List (PairingVector × LabelWalk)

pub stands-beside : (e : Earlier) (g : Ground) {r : Renewal} → Stands g r.passing → IsRenewing e.sweep.now g.net.now r.passing.passed.walks r.passing.passed.pools r.changed.items r.alike.items
    → IsCarried e.twins.now.ranks e.sweep.now.walks r.passing.passed.walks r.carrier → StandsBeside e g r
stands-beside e g stands marks carried = record { passing = stands; marks = marks; carried = carried }

-- before the first departure
pub renewing-first : (old : BaseSweep) (net : Net) (walks : List (List ℕ)) (pools : List Labels) (changed : List Bool) (alike : List (Option ℕ)) → length pools ≡ 0 → length changed ≡ length net.arrivals → length alike ≡ length net.arrivals
    → ((p q : ℕ) → slice_get alike p ≡ Some (Some q) → ⊥) → IsRenewing old net walks pools changed alike
renewing-first old net walks pools changed alike none long alike-long unseen = record {
  long = long;
  same = λ p free d m at before. absurd (omega (arith, before, none));
  alike_long = alike-long;
  shows = λ p q h. absurd (unseen p q h);
}

module _ (e : Earlier) (g : Ground) (ground : IsGround g) (beside : IsBeside e g) (p : Passing) (stands : Stands g p) (changed : List Bool) (alike : List (Option ℕ)) (marks : IsRenewing e.sweep.now g.net.now p.passed.walks p.passed.pools changed alike)
    (after : List (List ℕ)) (grown : HasGrown p.passed.walks after) where
  abbrev made : List Bool
  made = p.arrivals.made.items

  abbrev held : List Labels
  held = p.arrivals.pools.items

  pub pools-still : IsPassing g.net.now g.base g.resource after p.passed.pools made held
  pools-still = passing-grown p.passed.walks after grown g.net.now g.base g.resource p.passed.pools made held stands.pools

  pub slides-still : AreUnderWay g.net.now after made held p.slides
  slides-still = under-way-grown g.net.now p.passed.walks after grown made held stands.pools.pending p.slides stands.slides

  pub marks-still : IsRenewing e.sweep.now g.net.now after p.passed.pools changed alike
  marks-still = renewing-grown e.sweep.now g.net.now p.passed.walks after p.passed.pools changed alike grown stands.pools.whole marks

  module _ (place : ℕ) (at : slice_get g.net.now.by_report (length p.passed.pools) ≡ Some place) (pool : Labels) (kept : IsKeptPool e.sweep.now g.net.now e.twins.now changed alike after place pool) where
    abbrev old : BaseSweep
    old = e.sweep.now

    abbrev ByBase : List ℕ → Type 0
    ByBase base = IsEarlierPass old g.net.now e.twins.now e.positions.now base g.resource → IsPassing g.net.now base g.resource p.passed.walks p.passed.pools made held
        → IsPassing g.net.now base g.resource after (p.passed.pools ++ pool ∷ []) made held × IsRenewing old g.net.now after (p.passed.pools ++ pool ∷ []) changed alike

    by-old : ByBase old.base
    by-old earlier passing = (
      steps.passing-kept old g.net.now e.twins.now e.positions.now g.resource earlier g.positions.now ground.passable p.passed.walks after grown p.passed.pools changed alike place at pool kept made held passing marks,
      steps.renewing-kept old g.net.now e.twins.now e.positions.now g.resource earlier g.positions.now ground.passable p.passed.walks after grown p.passed.pools changed alike place at pool kept made held passing marks,
    )

    both : ByBase g.base
    both = subst ByBase (sym beside.earlier.own_base) by-old

    pub pools-more : IsPassing g.net.now g.base g.resource after (p.passed.pools ++ pool ∷ []) made held
    pools-more = (both beside.earlier stands.pools).0

    pub marks-more : IsRenewing old g.net.now after (p.passed.pools ++ pool ∷ []) changed alike
    marks-more = (both beside.earlier stands.pools).1
