-- The tree of duties stands in order of key.
use Rattle.std.proofs.Common.{◌≡◌, ℕ, zero, suc, List, [], ◌∷◌, ◌++◌, Bool, true, false, refl, sym, ap, subst, ◌∙◌, map, filter, append-nil, if◌then◌else◌, cond}
use Rattle.std.specs.List.{flat_map}
use Rattle.std.specs.declared.cmp.Ordering.TheVariants.{Less}
use Rattle.std.specs.Ordering.{bool_cmp, nat_cmp, ordering_then}
use Rattle.std.specs.Cmp.{nat_cmp_total}
use Rattle.std.proofs.lemmas.Cmp.{tied_itself}
use Rattle.std.proofs.lemmas.List.{map-append}
use Rattle.crew_flights.specs.declared.flight.Flight.{Flight}
use Rattle.crew_rules.specs.declared.settings.Settings.{Settings}
use Rattle.crew_pairing.specs.Duties.{AreDutiesOver, RiseByKey}
use Rattle.crew_pairing.specs.Flights.{Flights}
use Rattle.crew_pairing.specs.Keys.{key_cmp, leg_cmp}
use Rattle.crew_pairing.specs.Legality.{duty_of, last_of, leg_of, may_follow}
use Rattle.crew_pairing.specs.Machinery.Listing.{all_duties, is_hopeless, listing, timed}
use Rattle.crew_resource.specs.Members.{Each}
use Rattle.crew_pairing.specs.Machinery.Beginnings.{AreFlights, Rises}
use Rattle.crew_pairing.specs.Legs.{Leg}
use Rattle.crew_pairing.specs.declared.leg.TimedLeg.{TimedLeg}
use Rattle.crew_pairing.specs.declared.duty.Duty.{Duty}
use Rattle.crew_pairing.proofs.Complete.{all-every, all-sound}
use Rattle.crew_pairing.proofs.InList.{Each-filter, Each-join}
use Rattle.crew_pairing.proofs.Rising.{AllBegin, apart, begin-shorter, goes-first, rise-join}
use Rattle.crew_pairing.proofs.Tree.{listing-closed, listing-none, listing-open}

abbrev Before : List Duty → List Duty → Type 0
Before ds es = Each (λ d. Each (λ e. key_cmp d.key e.key ≡ Less) es) ds

before-none : (ds : List Duty) → Before ds []
before-none [] = tt
before-none (d ∷ ds) = (tt, before-none ds)

before-both : (ds es fs : List Duty) → Before ds es → Before ds fs → Before ds (es ++ fs)
before-both [] es fs h k = tt
before-both (d ∷ ds) es fs h k = (Each-join (λ (e : Duty). key_cmp d.key e.key ≡ Less) es fs h.0 k.0, before-both ds es fs h.1 k.1)

-- lists for each flight, flown and deadheaded, that begin with that leg
pub record IsFan (legs : List Leg) (flown ridden : Flight → List Duty) : Type 0 where
  pub flown_rise : (g : Flight) → RiseByKey (flown g)
  pub ridden_rise : (g : Flight) → RiseByKey (ridden g)
  pub flown_begin : (g : Flight) → AllBegin (legs ++ leg_of (timed false g) ∷ []) (flown g)
  pub ridden_begin : (g : Flight) → AllBegin (legs ++ leg_of (timed true g) ∷ []) (ridden g)

flown-first : (g : Flight) → leg_cmp (leg_of (timed false g)) (leg_of (timed true g)) ≡ Less
flown-first g = ap (λ r. ordering_then r (bool_cmp false true)) (tied_itself nat_cmp_total g.id)

by-number : (a b : Bool) (f g : Flight) → nat_cmp f.id g.id ≡ Less → leg_cmp (leg_of (timed a f)) (leg_of (timed b g)) ≡ Less
by-number a b f g e = ap (λ r. ordering_then r (bool_cmp a b)) e

module _ (legs : List Leg) (flown ridden : Flight → List Duty) (fan : IsFan legs flown ridden) where
  abbrev both : Flight → List Duty
  both g = flown g ++ ridden g

  both-rise : (g : Flight) → RiseByKey (both g)
  both-rise g =
      rise-join (flown g) (ridden g) (fan.flown_rise g) (fan.ridden_rise g)
      (apart legs (leg_of (timed false g)) (leg_of (timed true g)) (flown g) (ridden g) (flown-first g) (fan.flown_begin g) (fan.ridden_begin g))

  both-before : (f g : Flight) → nat_cmp f.id g.id ≡ Less → Before (both f) (both g)
  both-before f g e =
      Each-join (λ (d : Duty). Each (λ (x : Duty). key_cmp d.key x.key ≡ Less) (both g)) (flown f) (ridden f)
      (before-both (flown f) (flown g) (ridden g)
      (apart legs (leg_of (timed false f)) (leg_of (timed false g)) (flown f) (flown g) (by-number false false f g e) (fan.flown_begin f) (fan.flown_begin g))
      (apart legs (leg_of (timed false f)) (leg_of (timed true g)) (flown f) (ridden g) (by-number false true f g e) (fan.flown_begin f) (fan.ridden_begin g)))
      (before-both (ridden f) (flown g) (ridden g)
      (apart legs (leg_of (timed true f)) (leg_of (timed false g)) (ridden f) (flown g) (by-number true false f g e) (fan.ridden_begin f) (fan.flown_begin g))
      (apart legs (leg_of (timed true f)) (leg_of (timed true g)) (ridden f) (ridden g) (by-number true true f g e) (fan.ridden_begin f) (fan.ridden_begin g)))

  before-all : (f : Flight) (gs : List Flight) → Each (λ g. nat_cmp f.id g.id ≡ Less) gs → Before (both f) (flat_map both gs)
  before-all f [] h = before-none (both f)
  before-all f (g ∷ gs) h = before-both (both f) (both g) (flat_map both gs) (both-before f g h.0) (before-all f gs h.1)

  pub fan-rises : (gs : List Flight) → Rises gs → RiseByKey (flat_map both gs)
  fan-rises [] h = tt
  fan-rises (g ∷ gs) h = rise-join (both g) (flat_map both gs) (both-rise g) (fan-rises gs h.1) (before-all g gs h.0)

  pub fan-begins : (gs : List Flight) → AllBegin legs (flat_map both gs)
  fan-begins [] = tt
  fan-begins (g ∷ gs) =
      Each-join (λ (d : Duty). (rest : List Leg) × (d.key ≡ legs ++ rest)) (both g) (flat_map both gs)
      (Each-join (λ (d : Duty). (rest : List Leg) × (d.key ≡ legs ++ rest)) (flown g) (ridden g) (begin-shorter legs (leg_of (timed false g)) (flown g) (fan.flown_begin g))
      (begin-shorter legs (leg_of (timed true g)) (ridden g) (fan.ridden_begin g))) (fan-begins gs)

  pub fan-after : (d : Duty) (gs : List Flight) → d.key ≡ legs → Each (λ e. key_cmp d.key e.key ≡ Less) (flat_map both gs)
  fan-after d [] k = tt
  fan-after d (g ∷ gs) k =
      Each-join (λ (e : Duty). key_cmp d.key e.key ≡ Less) (both g) (flat_map both gs)
      (Each-join (λ (e : Duty). key_cmp d.key e.key ≡ Less) (flown g) (ridden g) (goes-first legs d (leg_of (timed false g)) (flown g) k (fan.flown_begin g))
      (goes-first legs d (leg_of (timed true g)) (ridden g) k (fan.ridden_begin g))) (fan-after d gs k)

filter-rises : (p : Flight → Bool) (fs : List Flight) → Rises fs → Rises (filter p fs)
filter-rises p [] h = tt
filter-rises p (f ∷ fs) h = by (p f) (filter-rises p fs h.1)
  where
    by : (b : Bool) → Rises (filter p fs) → Rises (cond b (f ∷ filter p fs) (filter p fs))
    by true k = (Each-filter (λ (g : Flight). nat_cmp f.id g.id ≡ Less) p fs h.0, k)
    by false k = k

-- the listing below legs begins with them and rises
pub record InOrder (legs : List Leg) (ds : List Duty) : Type 0 where
  pub begin : AllBegin legs ds
  pub rise : RiseByKey ds

none-in-order : (legs : List Leg) (ds : List Duty) → ds ≡ [] → InOrder legs ds
none-in-order legs ds e = rw e (record { begin = tt; rise = tt })

node-in-order : (legs : List Leg) (flown ridden : Flight → List Duty) → IsFan legs flown ridden → (d : Duty) (gs : List Flight) → Rises gs → d.key ≡ legs → (dead : Bool)
    → InOrder legs ((if dead then [] else d ∷ []) ++ flat_map (λ g. flown g ++ ridden g) gs)
node-in-order legs flown ridden fan d gs h k true = record { begin = fan-begins legs flown ridden fan gs; rise = fan-rises legs flown ridden fan gs h }
node-in-order legs flown ridden fan d gs h k false = record {
  begin = (([], k ∙ sym (append-nil legs)), fan-begins legs flown ridden fan gs);
  rise = (fan-after legs flown ridden fan d gs k, fan-rises legs flown ridden fan gs h);
}

pub listing-in-order : (room : ℕ) (s : Settings) (flights : Flights) (first : TimedLeg) (others : List TimedLeg) → Rises flights.list
    → InOrder (map leg_of (first ∷ others)) (listing room s flights first others)
listing-in-order zero s flights first others h = none-in-order _ _ (listing-none s flights first others)
listing-in-order (suc room) s flights first others h =
    by (is_hopeless s first others) refl (λ dead g. listing-in-order room s flights first (others ++ timed dead g ∷ []) h)
  where
    by : (hope : Bool) → is_hopeless s first others ≡ hope
        → ((dead : Bool) (g : Flight) → InOrder (map leg_of (first ∷ (others ++ timed dead g ∷ []))) (listing room s flights first (others ++ timed dead g ∷ [])))
        → InOrder (map leg_of (first ∷ others)) (listing (suc room) s flights first others)
    by true e deeper = none-in-order _ _ (listing-closed (suc room) s flights first others e)
    by false e deeper =
        let legs = map leg_of (first ∷ others) in
        let longer : (dead : Bool) (g : Flight) → map leg_of (first ∷ (others ++ timed dead g ∷ [])) ≡ legs ++ leg_of (timed dead g) ∷ [] =
        λ dead g. map-append leg_of (first ∷ others) (timed dead g ∷ []) in
        let flown : Flight → List Duty = λ g. listing room s flights first (others ++ timed false g ∷ []) in
        let ridden : Flight → List Duty = λ g. listing room s flights first (others ++ timed true g ∷ []) in
        let fan : IsFan legs flown ridden = record {
          flown_rise = λ g. (deeper false g).rise;
          ridden_rise = λ g. (deeper true g).rise;
          flown_begin = λ g. subst (λ (ls : List Leg). AllBegin ls (flown g)) (longer false g) (deeper false g).begin;
          ridden_begin = λ g. subst (λ (ls : List Leg). AllBegin ls (ridden g)) (longer true g) (deeper true g).begin;
        } in
        rw (listing-open room s flights first others e)
        (node-in-order legs flown ridden fan (duty_of s first others) (filter (may_follow s flights.turns (last_of first others).flight) flights.list) (filter-rises (may_follow s flights.turns (last_of first others).flight) flights.list h) refl
        (last_of first others).deadhead)

pub all-rise : (s : Settings) (flights : Flights) → Rises flights.list → RiseByKey (all_duties s flights)
all-rise s flights h =
    fan-rises [] (λ f. listing 8 s flights (timed false f) []) (λ f. listing 8 s flights (timed true f) []) (record {
      flown_rise = λ f. (listing-in-order 8 s flights (timed false f) [] h).rise;
      ridden_rise = λ f. (listing-in-order 8 s flights (timed true f) [] h).rise;
      flown_begin = λ f. (listing-in-order 8 s flights (timed false f) [] h).begin;
      ridden_begin = λ f. (listing-in-order 8 s flights (timed true f) [] h).begin;
    }) flights.list h

-- the tree has exactly the legal duties, by key
pub all-duties : (s : Settings) (flights : Flights) → AreFlights flights → AreDutiesOver s flights (all_duties s flights)
all-duties s flights f = record {
  sound = λ d m. all-sound s flights d m;
  every = λ first others legal. all-every s flights first others f legal;
  rising = all-rise s flights f.rising;
}
