-- One flight more below some legs, flown and then deadheaded.
use Rattle.std.proofs.Common.{◌≡◌, ◌≤◌, ◌+◌, ℕ, List, [], ◌∷◌, ◌++◌, Some, true, false, length, sym, ap, ◌∙◌, subst, take, get_or, append_assoc}
use Rattle.std.specs.Prelude.{slice_get}
use Rattle.std.specs.List.{flat_map}
use Rattle.std.proofs.lemmas.List.{flat_map_more, take_more}
use Rattle.std.proofs.lemmas.Option.{get_or_from_slice_get}
use Rattle.crew_flights.specs.declared.flight.Flight.{Flight}
use Rattle.crew_rules.specs.declared.settings.Settings.{Settings}
use Rattle.crew_duty.specs.Machinery.Filling.{Goes}
use Rattle.crew_pairing.specs.Flights.{Flights}
use Rattle.crew_pairing.specs.Machinery.Listing.{below, listing, timed}
use Rattle.crew_duty.specs.Machinery.Plans.{below_place}
use Rattle.crew_pairing.specs.declared.leg.TimedLeg.{TimedLeg}
use Rattle.crew_pairing.specs.declared.duty.Duty.{Duty}
use Rattle.crew_duty.proofs.Filling.{goes-more}
use Rattle.crew_duty.proofs.Parts.{place-gives}
use Rattle.crew_pairing.proofs.Tree.{slice_get-within}

pub goes-on : (room : ℕ) (s : Settings) (flights : Flights) (first : TimedLeg) (others : List TimedLeg) (places : List ℕ) (i place : ℕ) (g : Flight) (base : List Duty) (at : ℕ) (a : List Duty) (n : ℕ) (b : List Duty) (m : ℕ) (c : List Duty) (k : ℕ) (d : List Duty)
    → length a ≤ 200_000 → slice_get places i ≡ Some place → slice_get flights.list place ≡ Some g
    → Goes at (base ++ flat_map (below_place room s flights first others) (take i places)) a n b
    → Goes n (listing room s flights first (others ++ timed false g ∷ [])) b m c
    → Goes m (listing room s flights first (others ++ timed true g ∷ [])) c k d
    → Goes at (base ++ flat_map (below_place room s flights first others) (take (i + 1) places)) a k d
goes-on room s flights first others places i place g base at a n b m c k d few here there f h r =
    let B = below_place room s flights first others in
    let done = base ++ flat_map B (take i places) in
    let flown = listing room s flights first (others ++ timed false g ∷ []) in
    let ridden = listing room s flights first (others ++ timed true g ∷ []) in
    let one = goes-more at done flown a n b m c few f h in
    let two = goes-more at (done ++ flown) ridden a m c k d few one r in
    let item : get_or places i place ≡ place = get_or_from_slice_get places i place place here in
    let grown : take (i + 1) places ≡ take i places ++ place ∷ [] = take_more places i place (slice_get-within places i place here) ∙ ap (λ (x : ℕ). take i places ++ x ∷ []) item in
    let gives : B place ≡ flown ++ ridden = place-gives (below room s flights first others) flights.list place g there in
    let all : (done ++ flown) ++ ridden ≡ base ++ flat_map B (take (i + 1) places) =
    append_assoc done flown ridden ∙ ap (λ (l : List Duty). done ++ l) (sym gives) ∙ flat_map_more B base (take i places) place ∙ ap (λ (t : List ℕ). base ++ flat_map B t) (sym grown) in
    subst (λ (l : List Duty). Goes at l a k d) all two
