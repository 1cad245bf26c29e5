-- What a settle over a service is told by.
use Rattle.std.proofs.Common.{◌≡◌, ◌∙◌, ℕ, suc, List, [], ◌∷◌, Result, Err, ap, arith, inl, inr, refl, subst, sym, length}
use Rattle.std.proofs.lemmas.List.{map-append}
use mathlib.Core.List.{IsPrefix}
use Rattle.boxcar.specs.Table.{Where}
use Rattle.crew_flights.specs.declared.entries.Entry.{Entry}
use Rattle.crew_log.specs.Logs.{HaveNone}
use Rattle.crew_resource.specs.Members.{Member}
use Rattle.crew_service.proofs.Plans.{length-entries}
use Rattle.crew_service.specs.Faults.{IsSettleFault}
use Rattle.crew_service.specs.Plans.{Planning, entries_of}
use Rattle.crew_service.specs.declared.fault.SettleFault.{SettleFault}
use Rattle.crew_service.specs.declared.fault.SettleFault.TheVariants as Settle
use Rattle.crew_session.specs.Oddities.{Found, IsTold, IsToldBy, Made}
use Rattle.crew_session.specs.declared.engine_fault.EngineFault.{EngineFault}
use Rattle.crew_version.specs.Versions.{Snapshot}
use Rattle.crew_serve.specs.Machinery.Threads.{Threading, made_by, places_of, settled_fault_of}

-- entries of the first receipts are the first of all
pub prefix-entries : (xs ys : List (Where Entry)) → IsPrefix xs ys → IsPrefix (entries_of xs) (entries_of ys)
prefix-entries xs ys begins = (entries_of begins.0, sym (map-append (λ (r : Where Entry). r.value) xs begins.0) ∙ ap entries_of begins.1)

-- each receipt has a place and an entry
pub length-places : (rs : List (Where Entry)) → length (places_of rs) ≡ length (entries_of rs)
length-places [] = refl
length-places (r ∷ rs) = ap suc (length-places rs)

no-place : (rs : List (Where Entry)) (place : ℕ) → HaveNone rs place → Member (places_of rs) place → ⊥
no-place [] place none m = m
no-place (r ∷ rs) place none (inl is) = none 0 r (omega arith) is
no-place (r ∷ rs) place none (inr m) = no-place rs place (λ k d l. none (suc k) d (omega (arith, l))) m

has-place : (rs : List (Where Entry)) (r : Where Entry) → Member rs r → Member (places_of rs) r.index
has-place [] r m = m
has-place (q ∷ rs) r (inl is) = inl (ap (λ (z : Where Entry). z.index) is)
has-place (q ∷ rs) r (inr m) = inr (has-place rs r m)

-- a planner that refuses tells why
pub refused : (old new : Planning) (wanted : List (Where Entry)) (fault : SettleFault) → IsSettleFault old wanted new fault
    → IsToldBy (made_by old) (made_by new) (places_of wanted) (Err (settled_fault_of fault))
refused old new wanted (Settle.Gap place) h = (
  h.2,
  record {
    first = h.0 ∙ sym (length-entries new.receipts);
    none_there = no-place wanted place h.1.none_there;
    later = h.1.above.index;
    taken = has-place wanted h.1.above h.1.wants;
    greater = h.1.greater;
  },
)
refused old new wanted Settle.LastVersion h = (h.0.version, h.1)
refused old new wanted Settle.TooManyDuties h = (h.0.version, h.2)
refused old new wanted Settle.Memory h = tt

-- what a settle found is told, where it asked its planner, and then noted what came of it
pub settled-told : (old mid new : Threading) (what : Result Snapshot EngineFault) → length old.found.places ≡ length old.entries
    → mid.found ≡ record { before = old.made; after = mid.made; places = old.found.places; what = old.found.what }
    → new.found ≡ record { before = mid.found.before; after = mid.found.after; places = mid.found.places; what = what } → new.made ≡ mid.made
    → IsPrefix old.made.read mid.made.read → IsToldBy old.made mid.made old.found.places what → IsTold old.made old.entries new.made new.found
settled-told old mid new what many asked found made reads why =
    let is : new.found ≡ record { before = old.made; after = mid.made; places = old.found.places; what = what } =
    found ∙ ap (λ (f : Found). record { before = f.before; after = f.after; places = f.places; what = what }) asked in
    let told : IsTold old.made old.entries mid.made (record { before = old.made; after = mid.made; places = old.found.places; what = what }) =
    record { from = refl; upto = refl; many = many; reads = reads; why = why } in
    subst (λ (m : Made). IsTold old.made old.entries m new.found) (sym made) (subst (λ (f : Found). IsTold old.made old.entries mid.made f) (sym is) told)
