-- A walk breaks no rule exactly where it is a pairing of the base.
use Rattle.std.proofs.Common.{◌≡◌, ◌∙◌, ℕ, ℤ, List, [], ◌∷◌, map, Option, Some, None, Result, Ok, Err, refl, sym, ap, subst}
use Rattle.std.specs.FinMap as fin
use Rattle.crew_flights.specs.Timetable.{IsSound, Timetable}
use Rattle.crew_rules.specs.declared.settings.Settings.{Settings}
use Rattle.crew_pairing.specs.Legs.{Leg}
use Rattle.crew_pairing.specs.Duties.{flights_of}
use Rattle.crew_pairing.specs.Pairings.{IsDuty}
use Rattle.crew_pairing.specs.declared.duty.Duty.{Duty}
use Rattle.crew_resource.specs.Members.{Each}
use Rattle.crew_explain.specs.Explanations.{IsPairingOf}
use Rattle.crew_explain.specs.Rules.{based, breach_of, broken_of, first_of, read_walk, walk_rules}
use Rattle.crew_explain.specs.declared.breach.Breach.{Breach}
use Rattle.crew_explain.specs.declared.explained.Limits.{Limits}
use Rattle.crew_explain.proofs.Chained.{chained, unbroken}
use Rattle.crew_explain.proofs.Reading.{walk-read, walked}

-- of duties that are read
pub pairing-of : (s : Settings) (t : Timetable) (base : List ℕ) (walk : List (List Leg)) (price : ℤ) (read : List Duty × List Limits) → IsSound t → fin.get t.bases base ≡ Some price
    → read_walk s t walk ≡ Ok read → first_of (walk_rules s base read.0) ≡ None → IsPairingOf s t base walk read.0
pairing-of s t base walk price read sound held is e =
    let w = walked s t [] [] walk read sound is in
    let legal : Each (IsDuty s (flights_of t)) read.0 = subst (Each (IsDuty s (flights_of t))) (sym w.joined) w.legal in
    let c = chained s t base read.0 sound legal e in
    record {
      price = price;
      based = held;
      first = c.first;
      others = c.others;
      given = c.given;
      partial = c.partial;
      returns = c.returns;
      walked = ap (map (λ (d : Duty). d.key)) (sym c.given ∙ w.joined) ∙ w.keyed;
    }

pub legal-told : (s : Settings) (t : Timetable) (base : List ℕ) (walk : List (List Leg)) → IsSound t → breach_of s t base walk ≡ None → (duties : List Duty) × IsPairingOf s t base walk duties
legal-told s t base walk sound e = held (fin.get t.bases base) refl e
  where
    reads : (price : ℤ) → fin.get t.bases base ≡ Some price → (r : Result (List Duty × List Limits) Breach) → read_walk s t walk ≡ r → broken_of s base r ≡ None → (duties : List Duty) × IsPairingOf s t base walk duties
    reads price g (Err b) is h = absurd (let q : ⊥ = (cc) in q)
    reads price g (Ok read) is h = (read.0, pairing-of s t base walk price read sound g is h)

    held : (o : Option ℤ) → fin.get t.bases base ≡ o → based o (broken_of s base (read_walk s t walk)) ≡ None → (duties : List Duty) × IsPairingOf s t base walk duties
    held None g h = absurd (let q : ⊥ = (cc) in q)
    held (Some price) g h = reads price g (read_walk s t walk) refl h

pub told-legal : (s : Settings) (t : Timetable) (base : List ℕ) (walk : List (List Leg)) (duties : List Duty) → IsSound t → IsPairingOf s t base walk duties → breach_of s t base walk ≡ None
told-legal s t base walk duties sound p =
    let read = walk-read s t [] (p.first ∷ p.others) [] sound p.partial.legal in
    let is : read_walk s t walk ≡ Ok (p.first ∷ p.others, read.0) = subst (λ (w : List (List Leg)). read_walk s t w ≡ Ok (p.first ∷ p.others, read.0)) p.walked read.1 in
    ap (λ (o : Option ℤ). based o (broken_of s base (read_walk s t walk))) p.based
    ∙ ap (broken_of s base) is ∙ unbroken s t base p.first p.others sound p.partial p.returns
