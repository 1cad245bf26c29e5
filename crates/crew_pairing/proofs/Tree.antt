-- One step of the tree of duties.
use Rattle.std.proofs.Common.{◌≡◌, ◌≤◌, ◌<◌, ◌+◌, ◌-◌, min, ℕ, zero, suc, List, [], ◌∷◌, ◌++◌, Some, Bool, true, false, cond, length, refl, sym, ap, ◌∙◌, arith, take, get_or, filter, length-append, append_assoc, append-nil, inl, inr, if◌then◌else◌}
use Rattle.std.specs.Prelude.{slice_get}
use Rattle.std.specs.List.{flat_map}
use Rattle.std.proofs.lemmas.List.{flat_map_more, take_more}
use Rattle.std.proofs.Math.Seq.{take-append_seam}
use Rattle.std.proofs.lemmas.Option.{get_or_from_slice_get}
use Rattle.crew_flights.specs.Timetable.{Turns}
use Rattle.crew_flights.specs.declared.flight.Flight.{Flight}
use Rattle.crew_rules.specs.declared.settings.Settings.{Settings}
use Rattle.crew_pairing.specs.Flights.{Flights}
use Rattle.crew_pairing.specs.Legality.{AllConnect, duty_of, last_of, may_follow}
use Rattle.crew_pairing.specs.Machinery.Listing.{below, is_hopeless, listing, own, timed}
use Rattle.crew_resource.specs.Members.{Each, Member}
use Rattle.crew_pairing.specs.Machinery.Beginnings.{IsBeginning}
use Rattle.crew_pairing.specs.declared.leg.TimedLeg.{TimedLeg}
use Rattle.crew_pairing.specs.declared.duty.Duty.{Duty}

-- no room, or no hope: nothing is listed
pub listing-none : (s : Settings) (flights : Flights) (first : TimedLeg) (others : List TimedLeg) → listing 0 s flights first others ≡ []
unfolding listing
listing-none s flights first others = refl

pub listing-closed : (room : ℕ) (s : Settings) (flights : Flights) (first : TimedLeg) (others : List TimedLeg) → is_hopeless s first others ≡ true
    → listing room s flights first others ≡ []
unfolding listing
listing-closed zero s flights first others e = refl
listing-closed (suc room) s flights first others e = by _ _ e
  where
    by : (b : Bool) (rest : List Duty) → b ≡ true → (if b then [] else rest) ≡ []
    by true rest e = refl
    by false rest e = cc

pub listing-open : (room : ℕ) (s : Settings) (flights : Flights) (first : TimedLeg) (others : List TimedLeg) → is_hopeless s first others ≡ false
    → listing (suc room) s flights first others ≡ own s first others ++ flat_map (below room s flights first others) (filter (may_follow s flights.turns (last_of first others).flight) flights.list)
unfolding listing
listing-open room s flights first others e = by _ _ e
  where
    by : (b : Bool) (rest : List Duty) → b ≡ false → (if b then [] else rest) ≡ rest
    by true rest e = cc
    by false rest e = refl

pub Each-push : {X : Type 0} (P : X → Type 0) (xs : List X) (x : X) → Each P xs → P x → Each P (xs ++ x ∷ [])
Each-push P [] x h p = (p, tt)
Each-push P (y ∷ xs) x h p = (h.0, Each-push P xs x h.1 p)

pub Each-append : {X : Type 0} (P : X → Type 0) (xs ys : List X) → Each P (xs ++ ys) → Each P xs
Each-append P [] ys h = tt
Each-append P (x ∷ xs) ys h = (h.0, Each-append P xs ys h.1)

pub Each-member : {X : Type 0} (P : X → Type 0) (xs : List X) (x : X) → Each P xs → Member xs x → P x
Each-member P [] x h m = absurd m
Each-member P (y ∷ xs) x h (inl e) = rw (← e) h.0
Each-member P (y ∷ xs) x h (inr m) = Each-member P xs x h.1 m

pub Each-map : {X : Type 0} (P Q : X → Type 0) (xs : List X) → ((x : X) → P x → Q x) → Each P xs → Each Q xs
Each-map P Q [] f h = tt
Each-map P Q (x ∷ xs) f h = (f x h.0, Each-map P Q xs f h.1)

pub AllConnect-push : (s : Settings) (turns : Turns) (first : TimedLeg) (others : List TimedLeg) (l : TimedLeg) → AllConnect s turns first others → may_follow s turns (last_of first others).flight l.flight ≡ true
    → AllConnect s turns first (others ++ l ∷ [])
AllConnect-push s turns first [] l h e = (e, tt)
AllConnect-push s turns first (x ∷ others) l h e = (h.0, AllConnect-push s turns x others l h.1 e)

-- what a filter keeps stands in the list and passes
filter-member-by : {X : Type 0} (p : X → Bool) (x y : X) (xs : List X) (i : ℕ) (b : Bool) → p x ≡ b
    → ((j : ℕ) → slice_get (filter p xs) j ≡ Some y → (p y ≡ true) × Member xs y) → slice_get (cond b (x ∷ filter p xs) (filter p xs)) i ≡ Some y → (p y ≡ true) × Member (x ∷ xs) y
filter-member-by p x y xs zero true t more e = let same : x ≡ y = cc in (rw (← same) t, inl same)
filter-member-by p x y xs (suc i) true t more e = let m = more i e in (m.0, inr m.1)
filter-member-by p x y xs i false t more e = let m = more i e in (m.0, inr m.1)

pub filter-member : {X : Type 0} (p : X → Bool) (xs : List X) (i : ℕ) (y : X) → slice_get (filter p xs) i ≡ Some y → (p y ≡ true) × Member xs y
filter-member p [] i y e = cc
filter-member p (x ∷ xs) i y e = filter-member-by p x y xs i (p x) refl (λ j h. filter-member p xs j y h) e

-- a beginning with one leg more
pub IsBeginning-more : (s : Settings) (flights : Flights) (first : TimedLeg) (others : List TimedLeg) (deadhead : Bool) (g : Flight) → IsBeginning s flights first others
    → may_follow s flights.turns (last_of first others).flight g ≡ true → Member flights.list g → IsBeginning s flights first (others ++ timed deadhead g ∷ [])
IsBeginning-more s flights first others deadhead g b e m = record {
  known = (b.known.0, Each-push (λ (l : TimedLeg). Member flights.list l.flight) others (timed deadhead g) b.known.1 m);
  connected = AllConnect-push s flights.turns first others (timed deadhead g) b.connected e;
}

-- what stands before a place and at it is no longer than all
pub flat_map-room : {X Y : Type 0} (f : X → List Y) (xs : List X) (i : ℕ) (x : X) → slice_get xs i ≡ Some x
    → length (flat_map f (take i xs)) + length (f x) ≤ length (flat_map f xs)
flat_map-room f [] i x e = cc
flat_map-room f (y ∷ xs) zero x e =
    let same : y ≡ x = cc in
    rw same (omega (arith, length-append (f x) (flat_map f xs)))
flat_map-room f (y ∷ xs) (suc i) x e =
    omega (arith, flat_map-room f xs i x e, length-append (f y) (flat_map f xs), length-append (f y) (flat_map f (take i xs)))

pub slice_get-within : {X : Type 0} (xs : List X) (i : ℕ) (x : X) → slice_get xs i ≡ Some x → i < length xs
slice_get-within [] i x e = cc
slice_get-within (y ∷ xs) zero x e = omega arith
slice_get-within (y ∷ xs) (suc i) x e = omega (arith, slice_get-within xs i x e)

-- the list below legs that leave room, where not all is lost
pub listing-at : (s : Settings) (flights : Flights) (first : TimedLeg) (others : List TimedLeg) → length others < 8 → is_hopeless s first others ≡ false
    → listing (8 - length others) s flights first others
    ≡ own s first others ++ flat_map (below (7 - length others) s flights first others) (filter (may_follow s flights.turns (last_of first others).flight) flights.list)
listing-at s flights first others few hope =
    let room : 8 - length others ≡ suc (7 - length others) = omega arith in
    rw room (listing-open (7 - length others) s flights first others hope)

-- with no room left only the legs themselves are listed
flat_map-empty : {X Y : Type 0} (f : X → List Y) (xs : List X) → ((x : X) → f x ≡ []) → flat_map f xs ≡ []
flat_map-empty f [] h = refl
flat_map-empty f (x ∷ xs) h = rw (h x) (flat_map-empty f xs h)

below-none : (s : Settings) (flights : Flights) (first : TimedLeg) (others : List TimedLeg) (g : Flight) → below 0 s flights first others g ≡ []
below-none s flights first others g = rw (listing-none s flights first (others ++ timed false g ∷ []), listing-none s flights first (others ++ timed true g ∷ [])) refl

pub listing-last : (s : Settings) (flights : Flights) (first : TimedLeg) (others : List TimedLeg) → length others ≡ 7 → is_hopeless s first others ≡ false
    → listing (8 - length others) s flights first others ≡ own s first others
listing-last s flights first others full hope =
    let gs = filter (may_follow s flights.turns (last_of first others).flight) flights.list in
    let room : 7 - length others ≡ 0 = omega arith in
    let none : flat_map (below (7 - length others) s flights first others) gs ≡ [] = rw room (flat_map-empty (below 0 s flights first others) gs (below-none s flights first others)) in
    listing-at s flights first others (omega arith) hope ∙ rw none (append-nil (own s first others))

-- legs are one duty or none
pub own-few : (s : Settings) (first : TimedLeg) (others : List TimedLeg) → length (own s first others) ≤ 1
own-few s first others = by (last_of first others).deadhead (duty_of s first others)
  where
    by : (b : Bool) (d : Duty) → length (if b then [] else d ∷ []) ≤ 1
    by true d = omega arith
    by false d = omega arith

-- the list below one leg more
pub listing-longer : (s : Settings) (flights : Flights) (first : TimedLeg) (others longer : List TimedLeg) (l : TimedLeg) → longer ≡ others ++ l ∷ []
    → listing (8 - length longer) s flights first longer ≡ listing (7 - length others) s flights first (others ++ l ∷ [])
listing-longer s flights first others longer l e =
    let room : 8 - length (others ++ l ∷ []) ≡ 7 - length others = omega (arith, length-append others (l ∷ [])) in
    rw (e, room) refl

-- one flight more, flown and then deadheaded
pub below-more : (s : Settings) (flights : Flights) (first : TimedLeg) (others flown ridden : List TimedLeg) (gs : List Flight) (i : ℕ) (g : Flight) (base before between after : List Duty)
    → slice_get gs i ≡ Some g → flown ≡ others ++ timed false g ∷ [] → ridden ≡ others ++ timed true g ∷ []
    → before ≡ base ++ flat_map (below (7 - length others) s flights first others) (take i gs)
    → between ≡ before ++ listing (8 - length flown) s flights first flown
    → after ≡ between ++ listing (8 - length ridden) s flights first ridden
    → after ≡ base ++ flat_map (below (7 - length others) s flights first others) (take (i + 1) gs)
below-more s flights first others flown ridden gs i g base before between after at f r b m a =
    let fl = listing-longer s flights first others flown (timed false g) f in
    let rd = listing-longer s flights first others ridden (timed true g) r in
    let two : after ≡ before ++ below (7 - length others) s flights first others g = a ∙ rw (m, fl, rd) (append_assoc before _ _) in
    let all : after ≡ base ++ flat_map (below (7 - length others) s flights first others) (take i gs ++ g ∷ []) =
    two ∙ rw b (flat_map_more (below (7 - length others) s flights first others) base (take i gs) g) in
    let within = slice_get-within gs i g at in
    let item : get_or gs i g ≡ g = get_or_from_slice_get gs i g g at in
    let grown : take (i + 1) gs ≡ take i gs ++ g ∷ [] = take_more gs i g within ∙ ap (λ (x : Flight). take i gs ++ x ∷ []) item in
    all ∙ ap (λ (t : List Flight). base ++ flat_map (below (7 - length others) s flights first others) t) (sym grown)

-- what stands at a place is in the list
pub slice_get-Member : {X : Type 0} (xs : List X) (i : ℕ) (x : X) → slice_get xs i ≡ Some x → Member xs x
slice_get-Member [] i x e = cc
slice_get-Member (y ∷ xs) zero x e = inl (cc)
slice_get-Member (y ∷ xs) (suc i) x e = inr (slice_get-Member xs i x e)

-- what a last element leaves when it goes
pub pop-back : {X : Type 0} (others old new : List X) (x : X) (n : ℕ) → n ≡ length old → old ≡ others ++ x ∷ [] → new ≡ take (n - 1) old → new ≡ others
pop-back others old new x n long e k =
    let short : n - 1 ≡ length others = omega (arith, long, ap length e, length-append others (x ∷ [])) in
    k ∙ rw (short, e) (take-append_seam others (x ∷ []))

-- the same, counted up to a limit
pub count-more : (s : Settings) (flights : Flights) (first : TimedLeg) (others flown ridden : List TimedLeg) (gs : List Flight) (i : ℕ) (g : Flight) (base before between after : ℕ)
    → slice_get gs i ≡ Some g → flown ≡ others ++ timed false g ∷ [] → ridden ≡ others ++ timed true g ∷ []
    → before ≡ min (base + length (flat_map (below (7 - length others) s flights first others) (take i gs))) 200_001
    → between ≡ min (before + length (listing (8 - length flown) s flights first flown)) 200_001
    → after ≡ min (between + length (listing (8 - length ridden) s flights first ridden)) 200_001
    → after ≡ min (base + length (flat_map (below (7 - length others) s flights first others) (take (i + 1) gs))) 200_001
count-more s flights first others flown ridden gs i g base before between after at f r b m a =
    let F = below (7 - length others) s flights first others in
    let fl = listing-longer s flights first others flown (timed false g) f in
    let rd = listing-longer s flights first others ridden (timed true g) r in
    let within = slice_get-within gs i g at in
    let item : get_or gs i g ≡ g = get_or_from_slice_get gs i g g at in
    let grown : take (i + 1) gs ≡ take i gs ++ g ∷ [] = take_more gs i g within ∙ ap (λ (x : Flight). take i gs ++ x ∷ []) item in
    let more : flat_map F (take (i + 1) gs) ≡ flat_map F (take i gs) ++ F g = ap (flat_map F) grown ∙ sym (flat_map_more F [] (take i gs) g) in
    let long = length-append (flat_map F (take i gs)) (F g) in
    let two = length-append (listing (7 - length others) s flights first (others ++ timed false g ∷ [])) (listing (7 - length others) s flights first (others ++ timed true g ∷ [])) in
    omega (arith, b, m, a, ap length fl, ap length rd, ap length more, long, two)
