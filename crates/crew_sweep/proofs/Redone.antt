-- The pass goes on by a departure whose pool is made anew.
use Rattle.std.proofs.Common.{◌≡◌, ◌∙◌, ◌++◌, ◌∷◌, [], ℕ, Bool, true, false, List, Option, Some, length, get_or, sym, ap, subst, arith}
use Rattle.std.specs.Prelude.{OnOk, Result, Ok, Err, slice_get}
use Rattle.crew_carry.specs.Carried.{AreTwinWalks, IsCarried}
use Rattle.crew_net.specs.Machinery.Numbered.{arrival_place, departure_place}
use Rattle.crew_net.specs.Nets.{Net}
use Rattle.crew_net.specs.Positions.{in_order}
use Rattle.crew_pairing.specs.Events.{arrival_of, departure_of}
use Rattle.crew_pairing.specs.declared.duty.Duty.{Duty}
use Rattle.crew_pairing.specs.declared.events.Departure.{Departure}
use Rattle.crew_pairing.specs.declared.vector.PairingVector.{PairingVector}
use Rattle.crew_pool.specs.Arena.{walk_at}
use Rattle.crew_pool.specs.declared.label_walk.LabelWalk.{LabelWalk}
use Rattle.crew_resource.specs.Members.{Member}
use Rattle.crew_resource.proofs.Loop.{get_new}
use Rattle.crew_carry.specs.crew_step.Walks.{HasGrown}
use Rattle.crew_sweep.specs.Machinery.Kept.{keyed_pools}
use Rattle.crew_sweep.specs.Machinery.Passing.{IsPassable}
use Rattle.crew_sweep.specs.Machinery.Renewing.{HaveSame, IsRenewing}
use Rattle.crew_sweep.specs.Sweeps.{BaseSweep, keyed}
use Rattle.crew_sweep.proofs.KeptSteps.{laid-of}
use Rattle.crew_sweep.proofs.Passable as passable-proofs
use Rattle.crew_sweep.proofs.Renewed.{renewing-more}

abbrev Labels : Type 0
Labels = List (PairingVector × LabelWalk)

pub on-ok-by : {A E P Q : Type 0} (r : Result A E) → (P → Q) → OnOk r P → OnOk r Q
on-ok-by (Ok a) f p = f p
on-ok-by (Err e) f p = tt

pub on-ok-of : {A E Q : Type 0} (r : Result A E) → Q → OnOk r Q
on-ok-of (Ok a) q = q
on-ok-of (Err e) q = tt

-- what is carried stays there as walks are added
pub carried-grown : (ranks : List (Option ℕ)) (from before after : List (List ℕ)) (places : List (Option ℕ)) → HasGrown before after → IsCarried ranks from before places → IsCarried ranks from after places
carried-grown ranks from before after places grown c = record {
  long = c.long;
  there = λ p q h.
      let lt = c.there p q h in
      let longer = grown.longer in
      omega (arith, lt, longer);
  shows = λ p q h. subst (AreTwinWalks ranks (walk_at from p)) (sym (grown.same q (c.there p q h))) (c.shows p q h);
}

-- the last pool
pub last-pool : (pools all : List Labels) (pool last : Labels) (n : ℕ) → all ≡ pools ++ pool ∷ [] → n ≡ length pools → last ≡ get_or all n [] → last ≡ pool
last-pool pools all pool last n is at h = h ∙ (ap (λ (ps : List Labels). get_or ps n []) is ∙ get_new pools pool [] n at)

-- what is marked after a pool is made
pub renewing-redone : (old : BaseSweep) (net : Net) (positions : List ℕ) (passable : IsPassable net positions) (walks : List (List ℕ)) (pools : List Labels) (changed marked : List Bool) (alike : List (Option ℕ)) → IsRenewing old net walks pools changed alike
    → length marked ≡ length changed → ((p : ℕ) → get_or marked p true ≡ false → get_or changed p true ≡ false)
    → (place : ℕ) → slice_get net.by_report (length pools) ≡ Some place → (pool : Labels)
    → ((g : Departure) → slice_get net.departures place ≡ Some g → (p : ℕ) → get_or marked p true ≡ false → (d : Duty) → Member net.duties d → arrival_place net.arrivals (arrival_of d) ≡ p → departure_of d ≡ g
    → HaveSame (keyed net walks pool) (get_or (keyed_pools old) (departure_place (in_order old.net) g) []))
    → IsRenewing old net walks (pools ++ pool ∷ []) marked alike
renewing-redone old net positions passable walks pools changed marked alike renewing long less place at pool own =
    let g = passable-proofs.departs-at net positions passable (length pools) place at in
    renewing-more old net (laid-of net positions passable) walks pools changed marked alike renewing long less pool g.0 g.2 (own g.0 g.1)
