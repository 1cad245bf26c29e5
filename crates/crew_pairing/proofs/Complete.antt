-- The tree of duties has exactly the legal duties, in order of key.
use Rattle.std.proofs.Common.{◌≡◌, ◌<◌, ◌+◌, ℕ, zero, suc, List, [], ◌∷◌, ◌++◌, Bool, true, false, length, refl, sym, subst, inl, inr, arith, filter, append_assoc, append-nil, length-append, if◌then◌else◌}
use Rattle.std.specs.List.{flat_map}
use Rattle.crew_flights.specs.declared.flight.Flight.{Flight}
use Rattle.crew_rules.specs.declared.settings.Settings.{Settings}
use Rattle.crew_pairing.specs.Flights.{Flights}
use Rattle.crew_pairing.specs.Legality.{IsLegal, duty_of, last_of, may_follow}
use Rattle.crew_pairing.specs.Machinery.Listing.{all_duties, below, from_flight, is_hopeless, listing, own, timed}
use Rattle.crew_resource.specs.Members.{Member}
use Rattle.crew_pairing.specs.Machinery.Beginnings.{AreFlights, IsBeginning}
use Rattle.crew_pairing.specs.declared.leg.TimedLeg.{TimedLeg}
use Rattle.crew_pairing.specs.declared.duty.Duty.{Duty}
use Rattle.crew_pairing.proofs.InList.{Member-filter, Member-flat_map, Member-left, Member-right, Member-either, filter-Member, flat_map-Member}
use Rattle.crew_pairing.proofs.Legal.{AllConnect-after, Each-after, not-hopeless, own-legal}
use Rattle.crew_pairing.proofs.Tree.{IsBeginning-more, listing-closed, listing-none, listing-open}

-- a legal duty that begins with these legs
abbrev GoesOn : Settings → Flights → TimedLeg → List TimedLeg → Duty → Type 0
GoesOn s flights first others d = (more : List TimedLeg) × IsLegal s flights first (others ++ more) × (d ≡ duty_of s first (others ++ more))

own-goes-on : (s : Settings) (flights : Flights) (first : TimedLeg) (others : List TimedLeg) (d : Duty) (dead : Bool) → (last_of first others).deadhead ≡ dead
    → ((last_of first others).deadhead ≡ false → IsLegal s flights first others) → Member (if dead then [] else duty_of s first others ∷ []) d → GoesOn s flights first others d
own-goes-on s flights first others d true e legal m = absurd m
own-goes-on s flights first others d false e legal (inl i) = ([], rw (append-nil others) (legal e), rw (append-nil others) (sym i))
own-goes-on s flights first others d false e legal (inr m) = absurd m

leg-goes-on : (s : Settings) (flights : Flights) (first : TimedLeg) (others : List TimedLeg) (l : TimedLeg) (d : Duty) → GoesOn s flights first (others ++ l ∷ []) d → GoesOn s flights first others d
leg-goes-on s flights first others l d (more, legal, e) =
    (l ∷ more, rw (append_assoc others (l ∷ []) more) at legal, rw (append_assoc others (l ∷ []) more) at e)

-- each listed duty is legal and begins with the legs
pub listing-sound : (room : ℕ) (s : Settings) (flights : Flights) (first : TimedLeg) (others : List TimedLeg) (d : Duty) → IsBeginning s flights first others → room + length others ≡ 8
    → Member (listing room s flights first others) d → GoesOn s flights first others d
listing-sound zero s flights first others d b fits m = absurd (rw (listing-none s flights first others) at m)
listing-sound (suc room) s flights first others d b fits m = by (is_hopeless s first others) refl
    (λ g (ok : may_follow s flights.turns (last_of first others).flight g ≡ true) (known : Member flights.list g) dead (h : Member (listing room s flights first (others ++ timed dead g ∷ [])) d).
    leg-goes-on s flights first others (timed dead g) d
    (listing-sound room s flights first (others ++ timed dead g ∷ []) d (IsBeginning-more s flights first others dead g b ok known) (omega (arith, length-append others (timed dead g ∷ []))) h))
  where
    by : (hope : Bool) → is_hopeless s first others ≡ hope
        → ((g : Flight) → may_follow s flights.turns (last_of first others).flight g ≡ true → Member flights.list g → (dead : Bool) → Member (listing room s flights first (others ++ timed dead g ∷ [])) d → GoesOn s flights first others d)
        → GoesOn s flights first others d
    by true e deeper = absurd (rw (listing-closed (suc room) s flights first others e) at m)
    by false e deeper =
        let gs = filter (may_follow s flights.turns (last_of first others).flight) flights.list in
        let F = below room s flights first others in
        elim (Member-either (own s first others) (flat_map F gs) d (rw (listing-open room s flights first others e) at m)) [
          | inl h ↦ own-goes-on s flights first others d (last_of first others).deadhead refl (λ flown. own-legal s flights first others b (omega arith) e flown) h
          | inr h ↦
              let found = flat_map-Member F gs d h in
              let kept = filter-Member (may_follow s flights.turns (last_of first others).flight) flights.list found.0 found.1 in
              elim (Member-either (listing room s flights first (others ++ timed false found.0 ∷ [])) (listing room s flights first (others ++ timed true found.0 ∷ [])) d found.2) [
                | inl k ↦ deeper found.0 kept.0 kept.1 false k
                | inr k ↦ deeper found.0 kept.0 kept.1 true k
              ]
        ]

-- each legal duty that begins with the legs is listed
same-leg : (x : TimedLeg) (dead : Bool) → x.deadhead ≡ dead → x ≡ timed dead x.flight
same-leg x dead e = λ i. record { flight = x.flight; deadhead = e i }

in-below : (room : ℕ) (s : Settings) (flights : Flights) (first : TimedLeg) (others : List TimedLeg) (x : TimedLeg) (d : Duty) (dead : Bool) → x.deadhead ≡ dead
    → Member (listing room s flights first (others ++ x ∷ [])) d → Member (below room s flights first others x.flight) d
in-below room s flights first others x d false e m =
    Member-left (listing room s flights first (others ++ timed false x.flight ∷ [])) (listing room s flights first (others ++ timed true x.flight ∷ [])) d
    (subst (λ (l : TimedLeg). Member (listing room s flights first (others ++ l ∷ [])) d) (same-leg x false e) m)
in-below room s flights first others x d true e m =
    Member-right (listing room s flights first (others ++ timed false x.flight ∷ [])) (listing room s flights first (others ++ timed true x.flight ∷ [])) d
    (subst (λ (l : TimedLeg). Member (listing room s flights first (others ++ l ∷ [])) d) (same-leg x true e) m)

own-listed : (s : Settings) (first : TimedLeg) (others : List TimedLeg) (dead : Bool) → dead ≡ false → Member (if dead then [] else duty_of s first others ∷ []) (duty_of s first others)
own-listed s first others true e = cc
own-listed s first others false e = inl refl

pub listing-every : (room : ℕ) (s : Settings) (flights : Flights) (first : TimedLeg) (others more : List TimedLeg) → AreFlights flights → IsLegal s flights first (others ++ more)
    → length more < room → Member (listing room s flights first others) (duty_of s first (others ++ more))
listing-every zero s flights first others more f legal fits = absurd (omega arith)
listing-every (suc room) s flights first others [] f legal fits =
    let hope = not-hopeless s flights first others [] f legal in
    let gs = filter (may_follow s flights.turns (last_of first others).flight) flights.list in
    let flown : (last_of first others).deadhead ≡ false = rw (append-nil others) at legal.flown_last in
    rw (listing-open room s flights first others hope, append-nil others)
    (Member-left (own s first others) (flat_map (below room s flights first others) gs) (duty_of s first others) (own-listed s first others (last_of first others).deadhead flown))
listing-every (suc room) s flights first others (x ∷ more) f legal fits =
    let hope = not-hopeless s flights first others (x ∷ more) f legal in
    let test = may_follow s flights.turns (last_of first others).flight in
    let gs = filter test flights.list in
    let d = duty_of s first (others ++ x ∷ more) in
    let joined : (others ++ x ∷ []) ++ more ≡ others ++ x ∷ more = append_assoc others (x ∷ []) more in
    let legal-on = subst (λ (ls : List TimedLeg). IsLegal s flights first ls) (sym joined) legal in
    let deep = subst (λ (ls : List TimedLeg). Member (listing room s flights first (others ++ x ∷ [])) (duty_of s first ls)) joined
    (listing-every room s flights first (others ++ x ∷ []) more f legal-on (omega arith)) in
    let known = Each-after (λ (l : TimedLeg). Member flights.list l.flight) (first ∷ others) (x ∷ more) legal.known in
    let follows = AllConnect-after s flights.turns first others (x ∷ more) legal.connected in
    let member = Member-filter test flights.list x.flight follows.0 known.0 in
    rw (listing-open room s flights first others hope)
    (Member-right (own s first others) (flat_map (below room s flights first others) gs) d
    (Member-flat_map (below room s flights first others) gs x.flight d member (in-below room s flights first others x d x.deadhead refl deep)))

-- all duties are the legal ones
alone : (s : Settings) (flights : Flights) (first : TimedLeg) → Member flights.list first.flight → IsBeginning s flights first []
alone s flights first m = record { known = (m, tt); connected = tt }

pub all-sound : (s : Settings) (flights : Flights) (d : Duty) → Member (all_duties s flights) d → (first : TimedLeg) × (others : List TimedLeg) × IsLegal s flights first others × (d ≡ duty_of s first others)
all-sound s flights d m =
    let found = flat_map-Member (from_flight s flights) flights.list d m in
    let f = found.0 in
    elim (Member-either (listing 8 s flights (timed false f) []) (listing 8 s flights (timed true f) []) d found.2) [
      | inl h ↦ let on = listing-sound 8 s flights (timed false f) [] d (alone s flights (timed false f) found.1) refl h in (timed false f, on.0, on.1, on.2)
      | inr h ↦ let on = listing-sound 8 s flights (timed true f) [] d (alone s flights (timed true f) found.1) refl h in (timed true f, on.0, on.1, on.2)
    ]

in-from : (s : Settings) (flights : Flights) (x : TimedLeg) (d : Duty) (dead : Bool) → x.deadhead ≡ dead → Member (listing 8 s flights x []) d → Member (from_flight s flights x.flight) d
in-from s flights x d false e m =
    Member-left (listing 8 s flights (timed false x.flight) []) (listing 8 s flights (timed true x.flight) []) d (subst (λ (l : TimedLeg). Member (listing 8 s flights l []) d) (same-leg x false e) m)
in-from s flights x d true e m =
    Member-right (listing 8 s flights (timed false x.flight) []) (listing 8 s flights (timed true x.flight) []) d (subst (λ (l : TimedLeg). Member (listing 8 s flights l []) d) (same-leg x true e) m)

pub all-every : (s : Settings) (flights : Flights) (first : TimedLeg) (others : List TimedLeg) → AreFlights flights → IsLegal s flights first others → Member (all_duties s flights) (duty_of s first others)
all-every s flights first others f legal =
    let d = duty_of s first others in
    let deep = listing-every 8 s flights first [] others f legal (omega (arith, legal.legs)) in
    Member-flat_map (from_flight s flights) flights.list first.flight d legal.known.0 (in-from s flights first d first.deadhead refl deep)
