-- The tree of partials lists partial pairings alone.
use Rattle.std.proofs.Common.{◌≡◌, ℕ, zero, suc, ℤ, Bool, true, false, List, [], ◌∷◌, ◌++◌, refl, sym, ap, subst, ◌∙◌, append_assoc, inl, inr, if◌then◌else◌}
use Rattle.std.proofs.lemmas.Bool.{and_parts}
use Rattle.std.proofs.lemmas.Map.Lookups.{exact_bytes}
use Rattle.std.proofs.lemmas.Map.Views.{tells_apart}
use Rattle.crew_rules.specs.declared.settings.Settings.{Settings}
use Rattle.crew_pairing.specs.Flights.{Flights}
use Rattle.crew_pairing.specs.Machinery.Listing.{all_duties}
use Rattle.crew_resource.specs.Members.{Member}
use Rattle.crew_pairing.specs.Pairings.{AllRested, IsDuty, last_duty, may_stand_after}
use Rattle.crew_pairing.specs.declared.duty.Duty.{Duty}
use Rattle.crew_pairing.proofs.Complete.{all-sound}
use Rattle.crew_pairing.proofs.InList.{flat_map-Member}
use Rattle.crew_pairing.proofs.Tree.{Each-push}
use Rattle.crew_audit.specs.Machinery.Listing.{after, goes_on, listed, with_next}
use Rattle.crew_audit.specs.declared.partial.Partial.{Partial}
use Rattle.crew_audit.proofs.Beginnings.{IsTested, ends-one, ends-push}
use Rattle.crew_audit.proofs.Steps.{after-none, after-open}

-- nothing yet, or a partial pairing as the search tests it
abbrev pub IsBegun : Settings → Flights → List ℕ → List Duty → Type 0
IsBegun s flights base [] = Unit {0}
IsBegun s flights base (first ∷ others) = IsTested s flights base first others

AllRested-push : (s : Settings) (first : Duty) (others : List Duty) (d : Duty) → AllRested s first others → may_stand_after s (last_duty first others) d ≡ true → AllRested s first (others ++ d ∷ [])
AllRested-push s first [] d h e = (e, tt)
AllRested-push s first (x ∷ others) d h e = (h.0, AllRested-push s x others d h.1 e)

-- one duty more
pub begun-more : (s : Settings) (flights : Flights) (base : List ℕ) (before : List Duty) (d : Duty) → IsBegun s flights base before → IsDuty s flights d → goes_on base s before d ≡ true
    → IsBegun s flights base (before ++ d ∷ [])
begun-more s flights base [] d b legal e =
    let parts = and_parts _ _ e in
    let kept = and_parts _ _ parts.1 in
    record { legal = (legal, tt); leaves = tells_apart exact_bytes d.from base parts.0; rested = tt; capped = kept.0; ends = ends-one s d kept.1 }
begun-more s flights base (first ∷ others) d b legal e =
    let parts = and_parts _ _ e in
    let kept = and_parts _ _ parts.1 in
    record {
      legal = Each-push (IsDuty s flights) (first ∷ others) d b.legal legal;
      leaves = b.leaves;
      rested = AllRested-push s first others d b.rested parts.0;
      capped = kept.0;
      ends = ends-push s first others d b.ends kept.1;
    }

-- a partial pairing that goes on from these duties, or these duties themselves
pub record GoesFrom (s : Settings) (flights : Flights) (base : List ℕ) (price : ℤ) (before : List Duty) (p : Partial) : Type 0 where
  pub next : Duty
  pub more : List Duty
  pub begun : IsBegun s flights base before → IsBegun s flights base (before ++ next ∷ more)
  pub given : p ≡ listed s base price (before ++ next ∷ more)

pub record GoesWith (s : Settings) (flights : Flights) (base : List ℕ) (price : ℤ) (before : List Duty) (next : Duty) (p : Partial) : Type 0 where
  pub more : List Duty
  pub begun : IsBegun s flights base before → IsBegun s flights base (before ++ next ∷ more)
  pub given : p ≡ listed s base price (before ++ next ∷ more)

with-next : (s : Settings) (flights : Flights) (base : List ℕ) (price : ℤ) (before : List Duty) (d : Duty) (rest : List Partial) (p : Partial) (b : Bool) → goes_on base s before d ≡ b → IsDuty s flights d
    → (Member rest p → GoesFrom s flights base price (before ++ d ∷ []) p) → Member (if b then listed s base price (before ++ d ∷ []) ∷ rest else []) p → GoesWith s flights base price before d p
with-next s flights base price before d rest p true e legal deeper (inl i) =
    record { more = []; begun = λ h. begun-more s flights base before d h legal e; given = sym i }
with-next s flights base price before d rest p true e legal deeper (inr m) =
    let on = deeper m in
    let joined = append_assoc before (d ∷ []) (on.next ∷ on.more) in
    record {
      more = on.next ∷ on.more;
      begun = λ h. subst (IsBegun s flights base) joined (on.begun (begun-more s flights base before d h legal e));
      given = on.given ∙ ap (listed s base price) joined;
    }
with-next s flights base price before d rest p false e legal deeper m = absurd m

pub after-form : (room : ℕ) (s : Settings) (flights : Flights) (base : List ℕ) (price : ℤ) (before : List Duty) (p : Partial) → Member (after room s flights base price before) p
    → GoesFrom s flights base price before p
after-form zero s flights base price before p m = absurd (rw (after-none s flights base price before) at m)
after-form (suc room) s flights base price before p m =
    by (λ d k. after-form room s flights base price (before ++ d ∷ []) p k) (flat_map-Member (with_next room s flights base price before) (all_duties s flights) p (rw (after-open room s flights base price before) at m))
  where
    by : ((d : Duty) → Member (after room s flights base price (before ++ d ∷ [])) p → GoesFrom s flights base price (before ++ d ∷ []) p)
        → (d : Duty) × Member (all_duties s flights) d × Member (with_next room s flights base price before d) p → GoesFrom s flights base price before p
    by deeper found =
        let d = found.0 in
        let with = with-next s flights base price before d (after room s flights base price (before ++ d ∷ [])) p (goes_on base s before d) refl (all-sound s flights d found.1) (deeper d) found.2 in
        record { next = d; more = with.more; begun = with.begun; given = with.given }

pub next-form : (room : ℕ) (s : Settings) (flights : Flights) (base : List ℕ) (price : ℤ) (before : List Duty) (d : Duty) (p : Partial) → Member (all_duties s flights) d
    → Member (with_next room s flights base price before d) p → GoesWith s flights base price before d p
next-form room s flights base price before d p known m =
    with-next s flights base price before d (after room s flights base price (before ++ d ∷ [])) p (goes_on base s before d) refl (all-sound s flights d known)
    (λ k. after-form room s flights base price (before ++ d ∷ []) p k) m
