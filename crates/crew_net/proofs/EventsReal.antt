-- Departures report at minutes of 32 bits.
use Rattle.std.proofs.Common.{inl, inr, List, [], ◌∷◌, pos, refl, subst, ◌∙◌, ℤ}
use Rattle.crew_net.specs.Machinery.Held.{AreAt, IsLeft, leave_at}
use Rattle.crew_net.specs.Machinery.Moments.{IsReal}
use Rattle.crew_net.proofs.EventOrder.{Member-index}
use Rattle.crew_pairing.proofs.Tree.{Each-member}
use Rattle.crew_pairing.specs.Events.{departure_of}
use Rattle.crew_pairing.specs.declared.duty.Duty.{Duty}
use Rattle.crew_pairing.specs.declared.events.Departure.{Departure}
use Rattle.crew_resource.specs.Members.{Each, Member}

pub each-of : {X : Type 0} (P : X → Type 0) (xs : List X) → ((x : X) → Member xs x → P x) → Each P xs
each-of P [] h = tt
each-of P (x ∷ xs) h = (h x (inl refl), each-of P xs (λ y m. h y (inr m)))

pub events-real : (duties : List Duty) (moments : List ℤ) (events : List Departure) → AreAt departure_of leave_at duties moments events → Each IsLeft duties → Each (λ g. IsReal g.report) events
events-real duties moments events held left = each-of (λ (g : Departure). IsReal g.report) events (λ g m.
    let place = Member-index events g m in
    let own = held.own place.0 g (pos 0) place.1 in
    subst (λ (z : Departure). IsReal z.report) (own.2 ∙ place.2 g) (Each-member IsLeft duties own.0 left own.1).time)
