-- A flight and the one that follows it stand together in each pairing.
use Rattle.std.proofs.Common.{◌≡◌, ◌≢◌, ◌⊎◌, ⊎_elim, inl, inr, ℕ, List, [], ◌∷◌, ◌++◌, Bool, true, false, Option, Some, None, refl, sym, ap, subst, ◌∙◌, append-nil, map}
use Rattle.std.specs.Prelude.{◌&&◌, is_some}
use Rattle.std.specs.Ordering.{eq_by_cmp}
use Rattle.std.specs.FinMap as fin
use Rattle.std.proofs.lemmas.Map.Lookups.{exact_bytes}
use Rattle.std.proofs.lemmas.Map.Views.{tells_apart}
use Rattle.crew_flights.specs.Codes.{code_cmp, own_place}
use Rattle.crew_flights.specs.Timetable.{IsSound, Timetable, Turns}
use Rattle.crew_flights.specs.declared.flight.Flight.{Flight}
use Rattle.crew_flights.proofs.Places.{airport_is_no_own_place, leaves_own_place, own_place_left, own_place_reached, reaches_own_place}
use Rattle.crew_rules.specs.declared.settings.Settings.{Settings}
use Rattle.crew_pairing.specs.Duties.{flights_of}
use Rattle.crew_pairing.specs.FollowOns.{FollowOnsHold, FollowOnsHoldInPairings, StandTogether, numbers_of}
use Rattle.crew_pairing.specs.Legality.{AllConnect, last_of, leg_of}
use Rattle.crew_pairing.specs.Legs.{Leg}
use Rattle.crew_pairing.specs.Pairings.{AllRested, IsDuty, last_duty}
use Rattle.crew_pairing.proofs.Timetables.{placed-is-held}
use Rattle.crew_resource.specs.Members.{Each, Member}
use Rattle.crew_pairing.specs.declared.duty.Duty.{Duty}
use Rattle.crew_pairing.specs.declared.leg.TimedLeg.{TimedLeg}

-- ---- lists of numbers, as a first one and the others
last_number : ℕ → List ℕ → ℕ
last_number x [] = x
last_number x (y ∷ ys) = last_number y ys

abbrev IsLink : ℕ → ℕ → ℕ → ℕ → Type 0
IsLink a b x y = (x ≡ a → y ≡ b) × (y ≡ b → x ≡ a)

-- of neighbours one is a exactly where the other is b
abbrev AllLinked : ℕ → ℕ → ℕ → List ℕ → Type 0
AllLinked a b x [] = Unit {0}
AllLinked a b x (y ∷ ys) = IsLink a b x y × AllLinked a b y ys

last_number-joined : (x y : ℕ) (xs ys : List ℕ) → last_number x (xs ++ y ∷ ys) ≡ last_number y ys
unfolding last_number
last_number-joined x y [] ys = refl
last_number-joined x y (z ∷ xs) ys = last_number-joined z y xs ys

linked-joined : (a b x y : ℕ) (xs ys : List ℕ) → AllLinked a b x xs → IsLink a b (last_number x xs) y → AllLinked a b y ys → AllLinked a b x (xs ++ y ∷ ys)
unfolding last_number
linked-joined a b x y [] ys h link k = (link, k)
linked-joined a b x y (z ∷ xs) ys h link k = (h.0, linked-joined a b z y xs ys h.1 link k)

same-head : (x y : ℕ) (xs ys : List ℕ) → x ∷ xs ≡ y ∷ ys → (x ≡ y) × (xs ≡ ys)
same-head x y xs ys e = (cc, cc)

no-middle : (left right : List ℕ) (x : ℕ) → [] ≡ left ++ x ∷ right → ⊥
no-middle [] right x e = cc
no-middle (l ∷ left) right x e = cc

next-one : (a b x : ℕ) (xs : List ℕ) → AllLinked a b x xs → last_number x xs ≢ a → (left right : List ℕ) → x ∷ xs ≡ left ++ a ∷ right → (rest : List ℕ) × (right ≡ b ∷ rest)
unfolding last_number
next-one a b x [] h last [] right e = absurd (last (same-head x a [] right e).0)
next-one a b x (y ∷ ys) h last [] right e =
    let q = same-head x a (y ∷ ys) right e in
    (ys, sym q.1 ∙ ap (λ z. z ∷ ys) (h.0.0 q.0))
next-one a b x [] h last (l ∷ left) right e = absurd (no-middle left right a (same-head x l [] (left ++ a ∷ right) e).1)
next-one a b x (y ∷ ys) h last (l ∷ left) right e = next-one a b y ys h.1 last left right (same-head x l (y ∷ ys) (left ++ a ∷ right) e).1

one-before : (a b x : ℕ) (xs : List ℕ) → AllLinked a b x xs → (left right : List ℕ) → x ∷ xs ≡ left ++ b ∷ right → (x ≡ b) × (left ≡ []) ⊎ ((rest : List ℕ) × (left ≡ rest ++ a ∷ []))
one-before a b x xs h [] right e = inl ((same-head x b xs right e).0, refl)
one-before a b x [] h (l ∷ left) right e = absurd (no-middle left right b (same-head x l [] (left ++ b ∷ right) e).1)
one-before a b x (y ∷ ys) h (l ∷ left) right e =
    let q = same-head x l (y ∷ ys) (left ++ b ∷ right) e in
    ⊎_elim {C = (x ≡ b) × (l ∷ left ≡ []) ⊎ ((rest : List ℕ) × (l ∷ left ≡ rest ++ a ∷ []))}
    (λ here. inr ([], ap (λ zs. l ∷ zs) here.1 ∙ ap (λ z. z ∷ []) (sym q.0 ∙ h.0.1 here.0)))
    (λ found. inr (l ∷ found.0, ap (λ zs. l ∷ zs) found.1))
    (one-before a b y ys h.1 left right q.1)

together : (a b x : ℕ) (xs : List ℕ) → AllLinked a b x xs → x ≢ b → last_number x xs ≢ a → StandTogether a b (x ∷ xs)
together a b x xs h first last = record {
  next = next-one a b x xs h last;
  back = λ left right e.
      ⊎_elim {C = (rest : List ℕ) × (left ≡ rest ++ a ∷ [])} (λ here. absurd (first here.0)) (λ found. found) (one-before a b x xs h left right e);
}

-- ---- duties
both-first : (a b : Bool) → (a && b) ≡ true → a ≡ true
both-first true b e = refl
both-first false b e = cc

same-place : (x y : List ℕ) (more : Bool) → (eq_by_cmp code_cmp x y && more) ≡ true → x ≡ y
same-place x y more e = tells_apart exact_bytes x y (both-first _ _ e)

abbrev numbers : List Leg → List ℕ
numbers legs = map (λ (l : Leg). l.flight) legs

last-leg : (first : TimedLeg) (others : List TimedLeg) → last_number first.flight.id (numbers (map leg_of others)) ≡ (last_of first others).flight.id
unfolding last_number
last-leg first [] = refl
last-leg first (next ∷ others) = last-leg next others

last-known : (P : TimedLeg → Type 0) (first : TimedLeg) (others : List TimedLeg) → Each P (first ∷ others) → P (last_of first others)
last-known P first [] h = h.0
last-known P first (next ∷ others) h = last-known P next others h.1

module _ (t : Timetable) (sound : IsSound t) (a b : ℕ) (follows : fin.get t.follows a ≡ Some b) where
  abbrev IsKnown : TimedLeg → Type 0
  IsKnown l = Member (flights_of t).list l.flight

  reaches : (l : TimedLeg) → IsKnown l → l.flight.to ≡ own_place a → l.flight.id ≡ a
  reaches l known same =
      let p = placed-is-held t sound l.flight known in
      let number : p.0.id ≡ l.flight.id = ap (λ (g : Flight). g.id) p.2 in
      sym number ∙ reaches_own_place t sound a b follows p.0 (ap (fin.get t.flights) number ∙ p.1) (ap (λ (g : Flight). g.to) p.2 ∙ same)

  reached : (l : TimedLeg) → IsKnown l → l.flight.id ≡ a → l.flight.to ≡ own_place a
  reached l known is =
      let p = placed-is-held t sound l.flight known in
      let number : p.0.id ≡ l.flight.id = ap (λ (g : Flight). g.id) p.2 in
      sym (ap (λ (g : Flight). g.to) p.2) ∙ own_place_reached t sound a b follows p.0 (number ∙ is)

  leaves : (l : TimedLeg) → IsKnown l → l.flight.from ≡ own_place a → l.flight.id ≡ b
  leaves l known same =
      let p = placed-is-held t sound l.flight known in
      let number : p.0.id ≡ l.flight.id = ap (λ (g : Flight). g.id) p.2 in
      sym number ∙ leaves_own_place t sound a b follows p.0 (ap (fin.get t.flights) number ∙ p.1) (ap (λ (g : Flight). g.from) p.2 ∙ same)

  left : (l : TimedLeg) → IsKnown l → l.flight.id ≡ b → l.flight.from ≡ own_place a
  left l known is =
      let p = placed-is-held t sound l.flight known in
      let number : p.0.id ≡ l.flight.id = ap (λ (g : Flight). g.id) p.2 in
      sym (ap (λ (g : Flight). g.from) p.2) ∙ own_place_left t sound a b follows p.0 (number ∙ is)

  legs-linked : (s : Settings) (turns : Turns) (first : TimedLeg) (others : List TimedLeg) → Each IsKnown (first ∷ others) → AllConnect s turns first others → AllLinked a b first.flight.id (numbers (map leg_of others))
  legs-linked s turns first [] known h = tt
  legs-linked s turns first (next ∷ others) known h =
      let same : first.flight.to ≡ next.flight.from = same-place _ _ _ h.0 in (
        (λ is. leaves next known.1.0 (sym same ∙ reached first known.0 is), λ is. reaches first known.0 (same ∙ left next known.1.0 is)),
        legs-linked s turns next others known.1 h.1,
      )

  -- the numbers of duties from place to place: neighbours are linked, and the ends are at the own place exactly
  -- where the flights are that meet there
  record Linked (from to : List ℕ) (all : List ℕ) : Type 0 where
    first : ℕ
    others : List ℕ
    are : all ≡ first ∷ others
    linked : AllLinked a b first others
    leaves_there : from ≡ own_place a → first ≡ b
    there_left : first ≡ b → from ≡ own_place a
    reaches_there : to ≡ own_place a → last_number first others ≡ a
    there_reached : last_number first others ≡ a → to ≡ own_place a

  duty-linked : (s : Settings) (d : Duty) → IsDuty s (flights_of t) d → Linked d.from d.to (numbers d.key)
  duty-linked s d (first, others, legal, e) =
      let end = last-known IsKnown first others legal.known in
      let number = last-leg first others in
      subst (λ (x : Duty). Linked x.from x.to (numbers x.key)) (sym e)
      (record {
        first = first.flight.id;
        others = numbers (map leg_of others);
        are = refl;
        linked = legs-linked s (flights_of t).turns first others legal.known legal.connected;
        leaves_there = leaves first legal.known.0;
        there_left = left first legal.known.0;
        reaches_there = λ there. number ∙ reaches (last_of first others) end there;
        there_reached = λ is. reached (last_of first others) end (sym number ∙ is);
      })

  pairing-linked : (s : Settings) (d : Duty) (ds : List Duty) → Each (IsDuty s (flights_of t)) (d ∷ ds) → AllRested s d ds → Linked d.from (last_duty d ds).to (numbers_of (d ∷ ds))
  pairing-linked s d [] legal rested = subst (Linked d.from d.to) (sym (append-nil (numbers d.key))) (duty-linked s d legal.0)
  pairing-linked s d (e ∷ ds) legal rested =
      let h = duty-linked s d legal.0 in
      let k = pairing-linked s e ds legal.1 rested.1 in
      let same : d.to ≡ e.from = same-place _ _ _ rested.0 in
      let end = last_number-joined h.first k.first h.others k.others in
      record {
        first = h.first;
        others = h.others ++ k.first ∷ k.others;
        are = ap (λ ns. ns ++ numbers_of (e ∷ ds)) h.are ∙ ap (λ ns. (h.first ∷ h.others) ++ ns) k.are;
        linked = linked-joined a b h.first k.first h.others k.others h.linked
            (λ is. k.leaves_there (sym same ∙ h.there_reached is), λ is. h.reaches_there (same ∙ k.there_left is)) k.linked;
        leaves_there = h.leaves_there;
        there_left = h.there_left;
        reaches_there = λ there. end ∙ k.reaches_there there;
        there_reached = λ is. k.there_reached (sym end ∙ is);
      }

found : {X : Type 0} (o : Option X) → is_some o ≡ true → (x : X) × (o ≡ Some x)
found None h = absurd (cc)
found (Some x) h = (x, refl)

pub hold : FollowOnsHold
hold s t base first others before after sound held follows legal rested leaves reaches =
    let price = found (fin.get t.bases base) held in
    let airport = sound.base_airports base price.0 price.1 in
    let h = pairing-linked t sound before after follows s first others legal rested in
    subst (StandTogether before after) (sym h.are)
    (together before after h.first h.others h.linked
    (λ is. airport_is_no_own_place base before airport (sym leaves ∙ h.there_left is))
    (λ is. airport_is_no_own_place base before airport (sym reaches ∙ h.there_reached is)))

pub hold-in-pairings : FollowOnsHoldInPairings
hold-in-pairings s t base first others before after sound held follows partial home =
    hold s t base first others before after sound held follows partial.legal partial.rested partial.leaves (tells_apart exact_bytes (last_duty first others).to base home)
