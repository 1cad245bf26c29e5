-- What makes a list of legs a legal duty reads no price: so under new prices all legal duties are
-- those of before, each at its new price.
use Rattle.std.proofs.Common.{◌≡◌, ◌≤◌, ◌<◌, ◌≤ℤ◌, ◌+◌, ◌-◌, ◌+ℤ◌, ℕ, zero, suc, ℤ, pos, List, [], ◌∷◌, Bool, true, false, cond, not, nat_lt, nat_eq, negsuc, Some, set, length, map, refl, sym, ap, ◌∙◌, subst, arith, get_or, inl, inr}
use Rattle.std.specs.Prelude.{slice_get}
use Rattle.std.proofs.lemmas.List.{get_or-set_other, get_or-set_same, length-map}
use Rattle.std.proofs.lemmas.List.Sums.{sum_by-cons}
use Rattle.std.proofs.lemmas.Bool.Decides.{nat_tests}
use Rattle.std.specs.declared.cmp.Ordering.TheVariants.{Less}
use Rattle.std.specs.Ordering.{nat_cmp}
use Rattle.std.proofs.lemmas.Cmp.{ranked}
use Rattle.crew_flights.specs.Timetable.{IsFlight, Turns}
use Rattle.crew_flights.specs.declared.flight.Flight.{Flight}
use Rattle.crew_rules.specs.declared.settings.Settings.{Settings}
use Rattle.crew_resource.specs.Members.{Each, Member}
use Rattle.crew_resource.proofs.Members.{Member-get, Member-map_in, Member-map_out}
use Rattle.crew_pairing.specs.Duties.{AreDutiesOver, RiseByKey}
use Rattle.crew_pairing.specs.Flights.{Flights}
use Rattle.crew_pairing.specs.Keys.{key_cmp}
use Rattle.crew_pairing.specs.Legality.{AllConnect, IsLegal, deadheads, duty_of, last_of, leg_of, minutes_flown, price_of, segments, total}
use Rattle.crew_pairing.specs.Legs.{Leg}
use Rattle.crew_pairing.specs.Machinery.Beginnings.{Rises}
use Rattle.crew_pairing.specs.declared.duty.Duty.{Duty}
use Rattle.crew_pairing.specs.declared.leg.TimedLeg.{TimedLeg}
use Rattle.crew_pairing.proofs.Tree.{Each-member}
use Rattle.crew_duty.specs.Machinery.Prices.{AreInLimits, AreSameButPrices, HaveFewLegs, HavePrices, at_price, leg_price, price_at, under_prices}
use Rattle.crew_pairing.proofs.Shuffled.{each-of}

-- a flight with the price that stands at its number
abbrev pub priced : List ℤ → Flight → Flight
priced prices f = at_price (price_at prices f.id) f

abbrev leg_priced : List ℤ → TimedLeg → TimedLeg
leg_priced prices l = record { flight = priced prices l.flight; deadhead = l.deadhead }

-- flights that are the same but for their prices are those of before at the new ones
new-price : (prices : List ℤ) (f g : Flight) → price_at prices f.id ≡ f.price → f ≡ at_price f.price g → f ≡ priced prices g
new-price prices f g price same =
    let id : f.id ≡ g.id = ap (λ (x : Flight). x.id) same in
    same ∙ ap (λ (p : ℤ). at_price p g) (sym price ∙ ap (price_at prices) id)

pub same-flights : (prices : List ℤ) (flights before : List Flight) → length flights ≡ length before
    → ((i : ℕ) (d : Flight) → i < length flights → get_or flights i d ≡ at_price (get_or flights i d).price (get_or before i d))
    → HavePrices prices flights → flights ≡ map (priced prices) before
same-flights prices [] [] n same h = refl
same-flights prices [] (g ∷ gs) n same h = let q : ⊥ = omega (arith, n) in absurd q
same-flights prices (f ∷ fs) [] n same h = let q : ⊥ = omega (arith, n) in absurd q
same-flights prices (f ∷ fs) (g ∷ gs) n same h =
    let one : f ≡ priced prices g = new-price prices f g h.0 (same 0 f (omega arith)) in
    let rest : fs ≡ map (priced prices) gs = same-flights prices fs gs (omega (arith, n)) (λ i d k. same (suc i) d (omega (arith, k))) h.1 in
    λ i. one i ∷ rest i

-- what a list of legs comes to, but for prices
last-priced : (prices : List ℤ) (first : TimedLeg) (others : List TimedLeg) → last_of (leg_priced prices first) (map (leg_priced prices) others) ≡ leg_priced prices (last_of first others)
last-priced prices first [] = refl
last-priced prices first (next ∷ others) = last-priced prices next others

minutes-priced : (prices : List ℤ) (legs : List TimedLeg) → total minutes_flown (map (leg_priced prices) legs) ≡ total minutes_flown legs
minutes-priced prices [] = refl
minutes-priced prices (l ∷ legs) = ap (λ (z : ℤ). minutes_flown l +ℤ z) (minutes-priced prices legs)

deadheads-priced : (prices : List ℤ) (legs : List TimedLeg) → deadheads (map (leg_priced prices) legs) ≡ deadheads legs
deadheads-priced prices [] = refl
deadheads-priced prices (l ∷ legs) =
    let ridden = λ (x : TimedLeg). cond x.deadhead 1 0 in
    sum_by-cons ridden (leg_priced prices l) (map (leg_priced prices) legs) ∙ ap (λ (n : ℕ). ridden l + n) (deadheads-priced prices legs) ∙ sym (sum_by-cons ridden l legs)

segments-priced : (prices : List ℤ) (legs : List TimedLeg) → segments (map (leg_priced prices) legs) ≡ segments legs
segments-priced prices [] = refl
segments-priced prices (l ∷ legs) =
    let flown = λ (x : TimedLeg). cond (not x.deadhead) 1 0 in
    sum_by-cons flown (leg_priced prices l) (map (leg_priced prices) legs) ∙ ap (λ (n : ℕ). flown l + n) (segments-priced prices legs) ∙ sym (sum_by-cons flown l legs)

key-priced : (prices : List ℤ) (legs : List TimedLeg) → map leg_of (map (leg_priced prices) legs) ≡ map leg_of legs
key-priced prices [] = refl
key-priced prices (l ∷ legs) = ap (λ (ls : List Leg). leg_of l ∷ ls) (key-priced prices legs)

price-priced : (prices : List ℤ) (legs : List TimedLeg) → total price_of (map (leg_priced prices) legs) ≡ total (leg_price prices) (map leg_of legs)
price-priced prices [] = refl
price-priced prices (l ∷ legs) = ap (λ (z : ℤ). leg_price prices (leg_of l) +ℤ z) (price-priced prices legs)

duty-priced : (s : Settings) (prices : List ℤ) (first : TimedLeg) (others : List TimedLeg)
    → duty_of s (leg_priced prices first) (map (leg_priced prices) others) ≡ under_prices prices (duty_of s first others)
duty-priced s prices first others =
    rw (last-priced prices first others, minutes-priced prices (first ∷ others), key-priced prices (first ∷ others), price-priced prices (first ∷ others)) refl

-- legality, both ways
connect-priced : (s : Settings) (turns : Turns) (prices : List ℤ) (first : TimedLeg) (others : List TimedLeg) → AllConnect s turns first others → AllConnect s turns (leg_priced prices first) (map (leg_priced prices) others)
connect-priced s turns prices first [] h = tt
connect-priced s turns prices first (next ∷ others) h = (h.0, connect-priced s turns prices next others h.1)

connect-back : (s : Settings) (turns : Turns) (prices : List ℤ) (first : TimedLeg) (others : List TimedLeg) → AllConnect s turns (leg_priced prices first) (map (leg_priced prices) others) → AllConnect s turns first others
connect-back s turns prices first [] h = tt
connect-back s turns prices first (next ∷ others) h = (h.0, connect-back s turns prices next others h.1)

known-priced : (prices : List ℤ) (fs : List Flight) (legs : List TimedLeg) → Each (λ l. Member fs l.flight) legs → Each (λ l. Member (map (priced prices) fs) l.flight) (map (leg_priced prices) legs)
known-priced prices fs [] h = tt
known-priced prices fs (l ∷ legs) h = (Member-map_in (priced prices) fs l.flight h.0, known-priced prices fs legs h.1)

-- flights at new prices, with the same turns
abbrev pub all-priced : List ℤ → Flights → Flights
all-priced prices fs = record { list = map (priced prices) fs.list; turns = fs.turns }

legal-priced : (s : Settings) (prices : List ℤ) (fs : Flights) (first : TimedLeg) (others : List TimedLeg) → IsLegal s fs first others
    → IsLegal s (all-priced prices fs) (leg_priced prices first) (map (leg_priced prices) others)
legal-priced s prices fs first others h =
    let last = last-priced prices first others in
    let legs = first ∷ others in
    record {
      known = known-priced prices fs.list legs h.known;
      legs = rw (length-map others (leg_priced prices)) h.legs;
      connected = connect-priced s fs.turns prices first others h.connected;
      deadheaded = rw (deadheads-priced prices legs) h.deadheaded;
      flown_last = rw last h.flown_last;
      table_a = rw (minutes-priced prices legs) h.table_a;
      table_b = rw (last, segments-priced prices legs) h.table_b;
    }

legal-back : (s : Settings) (prices : List ℤ) (fs : Flights) (first : TimedLeg) (others : List TimedLeg) → Each (λ l. Member fs.list l.flight) (first ∷ others)
    → IsLegal s (all-priced prices fs) (leg_priced prices first) (map (leg_priced prices) others) → IsLegal s fs first others
legal-back s prices fs first others known h =
    let last = last-priced prices first others in
    let legs = first ∷ others in
    record {
      known = known;
      legs = rw (length-map others (leg_priced prices)) at h.legs;
      connected = connect-back s fs.turns prices first others h.connected;
      deadheaded = rw (deadheads-priced prices legs) at h.deadheaded;
      flown_last = rw last at h.flown_last;
      table_a = rw (minutes-priced prices legs) at h.table_a;
      table_b = rw (last, segments-priced prices legs) at h.table_b;
    }

-- legs of flights at new prices are legs of before at them
before-of : (prices : List ℤ) (fs : List Flight) (legs : List TimedLeg) → Each (λ l. Member (map (priced prices) fs) l.flight) legs
    → (olds : List TimedLeg) × Each (λ l. Member fs l.flight) olds × (map (leg_priced prices) olds ≡ legs)
before-of prices fs [] h = ([], tt, refl)
before-of prices fs (l ∷ legs) h =
    let f = Member-map_out (priced prices) fs l.flight h.0 in
    let rest = before-of prices fs legs h.1 in
    let one : leg_priced prices (record { flight = f.0; deadhead = l.deadhead }) ≡ l = ap (λ (g : Flight). record { flight = g; deadhead = l.deadhead }) f.2 in
    let both : map (leg_priced prices) (record { flight = f.0; deadhead = l.deadhead } ∷ rest.0) ≡ l ∷ legs = λ i. one i ∷ rest.2 i in
    (record { flight = f.0; deadhead = l.deadhead } ∷ rest.0, (f.1, rest.1), both)

-- keys stay, and so does the order
each-priced : (prices : List ℤ) (d : Duty) (ds : List Duty) → Each (λ e. key_cmp d.key e.key ≡ Less) ds → Each (λ e. key_cmp d.key e.key ≡ Less) (map (under_prices prices) ds)
each-priced prices d [] h = tt
each-priced prices d (e ∷ ds) h = (h.0, each-priced prices d ds h.1)

rise-priced : (prices : List ℤ) (ds : List Duty) → RiseByKey ds → RiseByKey (map (under_prices prices) ds)
rise-priced prices [] h = tt
rise-priced prices (d ∷ ds) h = (each-priced prices d ds h.0, rise-priced prices ds h.1)

sound-priced : (s : Settings) (prices : List ℤ) (fs : Flights) (ds : List Duty) → AreDutiesOver s fs ds → (d : Duty) → Member (map (under_prices prices) ds) d
    → (first : TimedLeg) × (others : List TimedLeg) × IsLegal s (all-priced prices fs) first others × (d ≡ duty_of s first others)
sound-priced s prices fs ds all d m =
    let e = Member-map_out (under_prices prices) ds d m in
    let legal = all.sound e.0 e.1 in
    let first = legal.0 in
    let others = legal.1 in (
      leg_priced prices first,
      map (leg_priced prices) others,
      legal-priced s prices fs first others legal.2,
      sym e.2 ∙ ap (under_prices prices) legal.3 ∙ sym (duty-priced s prices first others),
    )

every-priced : (s : Settings) (prices : List ℤ) (fs : Flights) (ds : List Duty) → AreDutiesOver s fs ds → (first : TimedLeg) (others : List TimedLeg)
    → IsLegal s (all-priced prices fs) first others → Member (map (under_prices prices) ds) (duty_of s first others)
every-priced s prices fs ds all first others legal =
    let f = Member-map_out (priced prices) fs.list first.flight legal.known.0 in
    let rest = before-of prices fs.list others legal.known.1 in
    let old : TimedLeg = record { flight = f.0; deadhead = first.deadhead } in
    let same-first : leg_priced prices old ≡ first = ap (λ (g : Flight). record { flight = g; deadhead = first.deadhead }) f.2 in
    let before = legal-back s prices fs old rest.0 (f.1, rest.1) (rw (same-first, rest.2) legal) in
    let found = Member-map_in (under_prices prices) ds (duty_of s old rest.0) (all.every old rest.0 before) in
    let same : under_prices prices (duty_of s old rest.0) ≡ duty_of s first others =
    sym (duty-priced s prices old rest.0) ∙ ap (λ (l : TimedLeg). duty_of s l (map (leg_priced prices) rest.0)) same-first ∙ ap (duty_of s first) rest.2 in
    subst (Member (map (under_prices prices) ds)) same found

pub duties-priced : (s : Settings) (prices : List ℤ) (flights before : Flights) (ds : List Duty) → AreSameButPrices flights before → HavePrices prices flights.list
    → AreDutiesOver s before ds → AreDutiesOver s flights (map (under_prices prices) ds)
duties-priced s prices flights before ds same held all =
    let list : flights.list ≡ map (priced prices) before.list = same-flights prices flights.list before.list same.count same.each held in
    let now : flights ≡ all-priced prices before = λ i. record { list = list i; turns = same.turns i } in
    subst (λ (fs : Flights). AreDutiesOver s fs (map (under_prices prices) ds)) (sym now) (record {
      sound = sound-priced s prices before ds all;
      every = every-priced s prices before ds all;
      rising = rise-priced prices ds all.rising;
    })

-- legal duties have few legs
few-legs-of : (s : Settings) (fs : Flights) (ds : List Duty) → ((d : Duty) → Member ds d → (first : TimedLeg) × (others : List TimedLeg) × IsLegal s fs first others × (d ≡ duty_of s first others)) → HaveFewLegs ds
few-legs-of s fs [] sound = tt
few-legs-of s fs (d ∷ ds) sound =
    let legal = sound d (inl refl) in
    let long : length (duty_of s legal.0 legal.1).key ≤ 8 = rw (length-map legal.1 leg_of) legal.2.legs in
    (subst (λ (e : Duty). length e.key ≤ 8) (sym legal.3) long, few-legs-of s fs ds (λ e m. sound e (inr m)))

pub few-legs : (s : Settings) (fs : Flights) (ds : List Duty) → AreDutiesOver s fs ds → HaveFewLegs ds
few-legs s fs ds all = few-legs-of s fs ds all.sound

-- numbers climb from place to place
pub number-before : (fs : List Flight) (i j : ℕ) (d : Flight) → Rises fs → i < j → j < length fs → (get_or fs i d).id < (get_or fs j d).id
number-before [] i j d rise a b = omega (arith, b)
number-before (f ∷ fs) i zero d rise a b = omega (arith, a)
number-before (f ∷ fs) zero (suc j) d rise a b =
    let less = Each-member (λ g. nat_cmp f.id g.id ≡ Less) fs (get_or fs j d) rise.0 (Member-get fs j d (omega (arith, b))) in
    ranked f.id (get_or fs j d).id Less (sym less)
number-before (f ∷ fs) (suc i) (suc j) d rise a b = number-before fs i j d rise.1 (omega (arith, a)) (omega (arith, b))

last-at : (fs : List Flight) (d l : Flight) → 1 ≤ length fs → slice_get fs (length fs - 1) ≡ Some l → get_or fs (length fs - 1) d ≡ l
last-at [] d l n e = let q : ⊥ = omega (arith, n) in absurd q
last-at (f ∷ fs) d l n e = at (f ∷ fs) (length (f ∷ fs) - 1) e
  where
    at : (gs : List Flight) (i : ℕ) → slice_get gs i ≡ Some l → get_or gs i d ≡ l
    at [] i e = let q : ⊥ = (cc) in absurd q
    at (g ∷ gs) zero e = cc
    at (g ∷ gs) (suc i) e = at gs i e

-- no number is greater than that of the last
pub number-at-most-last : (fs : List Flight) (i : ℕ) (d l : Flight) → Rises fs → i < length fs → slice_get fs (length fs - 1) ≡ Some l → (get_or fs i d).id ≤ l.id
number-at-most-last fs i d l rise k e =
    let last : (get_or fs (length fs - 1) d).id ≡ l.id = ap (λ (f : Flight). f.id) (last-at fs d l (omega (arith, k)) e) in
    by (nat_lt i (length fs - 1)) refl last
  where
    by : (b : Bool) → nat_lt i (length fs - 1) ≡ b → (get_or fs (length fs - 1) d).id ≡ l.id → (get_or fs i d).id ≤ l.id
    by true a q = let less = number-before fs i (length fs - 1) d rise (grind (arith, nat_tests, a)) (omega (arith, k)) in omega (arith, less, q)
    by false a q = let same : i ≡ length fs - 1 = grind (arith, nat_tests, a, k) in let r = ap (λ (n : ℕ). (get_or fs n d).id) same in omega (arith, q, r)

-- what holds at each place before one, and at it
pub places-more : (P : ℕ → Type 0) (n : ℕ) → ((k : ℕ) → k < n → P k) → P n → (k : ℕ) → k < n + 1 → P k
places-more P n before here k h = by (nat_lt k n) refl
  where
    by : (b : Bool) → nat_lt k n ≡ b → P k
    by true e = before k (grind (arith, nat_tests, e))
    by false e = let same : n ≡ k = grind (arith, nat_tests, e, h) in subst P same here

-- one price more in a table
abbrev pub IsPrice : ℤ → Type 0
IsPrice p = (negsuc 999_999_999 ≤ℤ p) × (p ≤ℤ pos 1_000_000_000)

pub limits-set : (prices : List ℤ) (n : ℕ) (p : ℤ) → AreInLimits prices → n < length prices → IsPrice p → AreInLimits (set prices n p)
limits-set prices n p limits within price m = by (nat_eq m n) refl
  where
    by : (b : Bool) → nat_eq m n ≡ b → IsPrice (price_at (set prices n p) m)
    by true e =
        let same : n ≡ m = grind (arith, nat_tests, e) in
        let there : price_at (set prices n p) m ≡ p = subst (λ (k : ℕ). price_at (set prices n p) k ≡ p) same (get_or-set_same prices n p (pos 0) within) in
        rw there price
    by false e =
        let other : m ≡ n → ⊥ = λ q. let r : ⊥ = grind (arith, nat_tests, e, q) in r in
        rw (get_or-set_other prices n m p (pos 0) other) (limits m)

-- the flights up to one have their prices
abbrev pub HavePricesTo : ℕ → List ℤ → List Flight → Type 0
HavePricesTo n prices fs = (k : ℕ) → k < n → (d : Flight) → k < length fs → price_at prices (get_or fs k d).id ≡ (get_or fs k d).price

pub held-set : (fs : List Flight) (prices : List ℤ) (i : ℕ) (f : Flight) → Rises fs → i < length fs → ((d : Flight) → get_or fs i d ≡ f) → f.id < length prices → HavePricesTo i prices fs
    → HavePricesTo (i + 1) (set prices f.id f.price) fs
held-set fs prices i f rise within at room held =
    places-more (λ k. (d : Flight) → k < length fs → price_at (set prices f.id f.price) (get_or fs k d).id ≡ (get_or fs k d).price) i
    (λ k less d inside.
    let here : (get_or fs i d).id ≡ f.id = ap (λ (g : Flight). g.id) (at d) in
    let lower = number-before fs k i d rise less within in
    let other : (get_or fs k d).id ≡ f.id → ⊥ = λ q. let r : ⊥ = omega (arith, q, lower, here) in r in
    get_or-set_other prices f.id (get_or fs k d).id f.price (pos 0) other ∙ held k less d inside)
    (λ d inside. rw (at d) (get_or-set_same prices f.id f.price (pos 0) room))

pub all-held : (fs : List Flight) (prices : List ℤ) (n : ℕ) → length fs ≤ n → HavePricesTo n prices fs → HavePrices prices fs
all-held fs prices n all held = each-of (λ f. price_at prices f.id ≡ f.price) fs (λ k d h. held k (omega (arith, h, all)) d h)

-- a duty whose price stays
pub keeps-price : (prices : List ℤ) (d : Duty) → total (leg_price prices) d.key ≡ d.price → under_prices prices d ≡ d
keeps-price prices d e =
    ap (λ (price : ℤ). record { key = d.key; from = d.from; to = d.to; report = d.report; release = d.release; fdp = d.fdp; fly = d.fly; pay = d.pay; price = price }) e

pub flight-at : (fs : List Flight) (i : ℕ) (d : Flight) → Each (λ f. IsFlight f.id f) fs → i < length fs → IsFlight (get_or fs i d).id (get_or fs i d)
flight-at fs i d each k = Each-member (λ f. IsFlight f.id f) fs (get_or fs i d) each (Member-get fs i d k)
