-- Events and their places.
use Rattle.std.proofs.Common.{◌≡◌, ◌∙◌, ◌<◌, ◌≤◌, ℕ, zero, suc, Bool, true, false, cond, ℤ, List, [], ◌∷◌, ◌&&◌, length, Some, inl, inr, refl, sym, ap, ap₂, arith, get_or, true≢false}
use Rattle.std.specs.Prelude.{slice_get}
use Rattle.std.specs.Ordering.{int_eq}
use Rattle.std.proofs.lemmas.Bool.{and_parts}
use Rattle.std.proofs.lemmas.Int.{ints}
use Rattle.crew_pairing.specs.declared.events.Arrival.{Arrival}
use Rattle.crew_pairing.specs.declared.events.Departure.{Departure}
use Rattle.crew_resource.specs.Members.{Member}
use Rattle.crew_net.proofs.Geometry.{code-equal, equal-code}
use Rattle.crew_net.specs.Machinery.Numbered.{AreDistinct, arrival_place, departure_place, is_arrival, is_departure, place_of}

passes-by : {E : Type 0} (passes : E → Bool) (x : E) (xs : List E) (e : E) → (slice_get xs (place_of passes xs) ≡ Some e → passes e ≡ true)
    → (b : Bool) → passes x ≡ b → slice_get (x ∷ xs) (cond b 0 (suc (place_of passes xs))) ≡ Some e → passes e ≡ true
passes-by passes x xs e later true p k = let q : x ≡ e = (cc) in ap passes (sym q) ∙ p
passes-by passes x xs e later false p k = later k

-- what stands at the place passes the test
pub place-passes : {E : Type 0} (passes : E → Bool) (es : List E) (e : E) → slice_get es (place_of passes es) ≡ Some e → passes e ≡ true
place-passes passes [] e h = absurd (let q : ⊥ = (cc) in q)
place-passes passes (x ∷ xs) e h = passes-by passes x xs e (place-passes passes xs e) (passes x) refl h

abbrev IsHeldAt : {E : Type 0} → List E → ℕ → Type 0
IsHeldAt {E} es i = (f : E) × (slice_get es i ≡ Some f)

held-by : {E : Type 0} (passes : E → Bool) (x : E) (xs : List E) (e : E) → passes e ≡ true → (Member xs e → IsHeldAt xs (place_of passes xs))
    → (b : Bool) → passes x ≡ b → Member (x ∷ xs) e → IsHeldAt (x ∷ xs) (cond b 0 (suc (place_of passes xs)))
held-by passes x xs e h later true p m = (x, refl)
held-by passes x xs e h later false p (inl q) = absurd (true≢false (sym h ∙ (ap passes (sym q) ∙ p)))
held-by passes x xs e h later false p (inr k) = later k

-- where one passes, one stands at the place
pub place-held : {E : Type 0} (passes : E → Bool) (es : List E) (e : E) → Member es e → passes e ≡ true → IsHeldAt es (place_of passes es)
place-held passes [] e m h = absurd m
place-held passes (x ∷ xs) e m h = held-by passes x xs e h (λ k. place-held passes xs e k h) (passes x) refl m

same-int : (a b : ℤ) → int_eq a b ≡ true → a ≡ b
same-int a b h = grind (arith, ints)

int-itself : (a : ℤ) → int_eq a a ≡ true
int-itself a = grind (arith, ints)

both : (a b : Bool) → a ≡ true → b ≡ true → (a && b) ≡ true
both a b p q = rw (p, q) refl

pub same-departure : (g h : Departure) → is_departure g h ≡ true → g ≡ h
same-departure g h e =
    let p = and_parts _ _ e in
    ap₂ {C = Departure} (λ a m. record { airport = a; report = m }) (code-equal g.airport h.airport p.0) (same-int g.report h.report p.1)

pub same-arrival : (x y : Arrival) → is_arrival x y ≡ true → x ≡ y
same-arrival x y e =
    let p = and_parts _ _ e in
    ap₂ {C = Arrival} (λ a m. record { airport = a; release = m }) (code-equal x.airport y.airport p.0) (same-int x.release y.release p.1)

pub departure-itself : (g : Departure) → is_departure g g ≡ true
departure-itself g = both _ _ (equal-code g.airport g.airport refl) (int-itself g.report)

pub arrival-itself : (x : Arrival) → is_arrival x x ≡ true
arrival-itself x = both _ _ (equal-code x.airport x.airport refl) (int-itself x.release)

-- the event stands at its place
pub at-departure : (gs : List Departure) (g : Departure) → Member gs g → slice_get gs (departure_place gs g) ≡ Some g
at-departure gs g m =
    let k = place-held (λ h. is_departure h g) gs g m (departure-itself g) in
    k.1 ∙ ap Some (same-departure k.0 g (place-passes (λ h. is_departure h g) gs k.0 k.1))

pub at-arrival : (xs : List Arrival) (x : Arrival) → Member xs x → slice_get xs (arrival_place xs x) ≡ Some x
at-arrival xs x m =
    let k = place-held (λ y. is_arrival y x) xs x m (arrival-itself x) in
    k.1 ∙ ap Some (same-arrival k.0 x (place-passes (λ y. is_arrival y x) xs k.0 k.1))

-- and what stands at an event's place is the event
pub arrival-at : (xs : List Arrival) (x y : Arrival) → slice_get xs (arrival_place xs x) ≡ Some y → y ≡ x
arrival-at xs x y h = same-arrival y x (place-passes (λ z. is_arrival z x) xs y h)

pub get-member : {E : Type 0} (es : List E) (i : ℕ) (e : E) → slice_get es i ≡ Some e → Member es e
get-member [] i e h = absurd (let q : ⊥ = (cc) in q)
get-member (x ∷ es) zero e h = inl (let q : x ≡ e = (cc) in q)
get-member (x ∷ es) (suc i) e h = inr (get-member es i e h)

-- where events are distinct, an event's place is the one at which it stands
pub place-departure : (gs : List Departure) (g : Departure) (i : ℕ) → AreDistinct gs → slice_get gs i ≡ Some g → departure_place gs g ≡ i
place-departure gs g i distinct h = distinct (departure_place gs g) i g (at-departure gs g (get-member gs i g h)) h

pub place-arrival : (xs : List Arrival) (x : Arrival) (i : ℕ) → AreDistinct xs → slice_get xs i ≡ Some x → arrival_place xs x ≡ i
place-arrival xs x i distinct h = distinct (arrival_place xs x) i x (at-arrival xs x (get-member xs i x h)) h

pub get-within : {E : Type 0} (es : List E) (i : ℕ) (e : E) → slice_get es i ≡ Some e → i < length es
get-within [] i e h = absurd (let q : ⊥ = (cc) in q)
get-within (x ∷ es) zero e h = omega arith
get-within (x ∷ es) (suc i) e h = let k = get-within es i e h in omega (arith, k)

-- beyond the end there is nothing
pub held-within : {A E : Type 0} (held : List (List A)) (es : List E) (i : ℕ) (a : A) → length held ≤ length es → Member (get_or held i []) a → (e : E) × (slice_get es i ≡ Some e)
held-within [] es i a long m = absurd m
held-within (h ∷ held) [] i a long m = absurd (omega (arith, long))
held-within (h ∷ held) (e ∷ es) zero a long m = (e, refl)
held-within (h ∷ held) (e ∷ es) (suc i) a long m = held-within held es i a (omega (arith, long)) m
