-- Whether the flights of legs, keys and walks have room.
use Rattle.std.proofs.Common.{◌≡◌, ◌∙◌, ◌<◌, ◌+◌, ℕ, zero, suc, Bool, true, false, ◌&&◌, List, [], ◌∷◌, ◌++◌, append-nil, refl, sym, ap, arith, get_or, length, take}
use Rattle.std.specs.Prelude.{count_by, nat_lt}
use Rattle.std.specs.List.{flat_map, list_all}
use Rattle.std.proofs.lemmas.List.Folds.{list_all-append}
use Rattle.crew_pairing.specs.Legs.{Leg}
use Rattle.crew_solve.proofs.Listed.{flat-append, flat-more}
use Rattle.crew_solve.specs.Apart.{flies, flown, flown_on}
use Rattle.crew_solve.specs.Machinery.Takes.{Taken, is_past, may_take}
use Rattle.crew_vector.specs.declared.priced.PricedPairing.{PricedPairing}

both-of : (a b : Bool) → a ≡ true → b ≡ true → (a && b) ≡ true
both-of a b h k = ap (λ x. x && b) h ∙ k

pub and-false : (a : Bool) → (a && false) ≡ false
and-false true = refl
and-false false = refl

and-turned : (a b : Bool) → (a && b) ≡ (b && a)
and-turned true true = refl
and-turned true false = refl
and-turned false true = refl
and-turned false false = refl

-- one more that has room
pub room-on : {X : Type 0} (f : X → List ℕ) (p : ℕ → Bool) (xs : List X) (i : ℕ) (d : X) → i < length xs → list_all p (flat_map f (take i xs)) ≡ true → list_all p (f (get_or xs i d)) ≡ true
    → list_all p (flat_map f (take (i + 1) xs)) ≡ true
room-on f p xs i d h e k =
    ap (list_all p) (flat-more f xs i d h)
    ∙ (list_all-append p (flat_map f (take i xs)) (f (get_or xs i d)) ∙ both-of (list_all p (flat_map f (take i xs))) (list_all p (f (get_or xs i d))) e k)

-- one that has none
pub no-room-at : {X : Type 0} (f : X → List ℕ) (p : ℕ → Bool) (xs : List X) (i : ℕ) (d : X) → i < length xs → list_all p (f (get_or xs i d)) ≡ false → list_all p (flat_map f xs) ≡ false
no-room-at f p [] i d h e = absurd (omega (arith, h))
no-room-at f p (x ∷ xs) zero d h e = list_all-append p (f x) (flat_map f xs) ∙ ap (λ b. b && list_all p (flat_map f xs)) e
no-room-at f p (x ∷ xs) (suc i) d h e =
    list_all-append p (f x) (flat_map f xs)
    ∙ (ap (λ b. list_all p (f x) && b) (no-room-at f p xs i d (omega (arith, h)) e) ∙ and-false (list_all p (f x)))

-- the last duty, and those before it
pub room-last : (p : ℕ → Bool) (before : List (List Leg)) (key : List Leg) → list_all p (flown (before ++ key ∷ [])) ≡ (list_all p (flat_map flown_on key) && list_all p (flown before))
room-last p before key =
    ap (list_all p) (flat-append (flat_map flown_on) before (key ∷ []) ∙ ap (λ l. flown before ++ l) (append-nil (flat_map flown_on key)))
    ∙ (list_all-append p (flown before) (flat_map flown_on key) ∙ and-turned (list_all p (flown before)) (list_all p (flat_map flown_on key)))

pub no-room-last : (p : ℕ → Bool) (walk before : List (List Leg)) (key : List Leg) → walk ≡ before ++ key ∷ [] → list_all p (flat_map flown_on key) ≡ false → list_all p (flown walk) ≡ false
no-room-last p walk before key is e = ap (λ w. list_all p (flown w)) is ∙ (room-last p before key ∙ ap (λ b. b && list_all p (flown before)) e)

-- a pairing is not taken one of whose flights has no room, by the counts of those taken
pub not-taken : (t : Taken) (p : PricedPairing) (counts : List ℕ) → ((flight : ℕ) → get_or counts flight 0 ≡ count_by (flies flight) t.pairings)
    → list_all (λ flight. nat_lt (get_or counts flight 0) t.share) (flown p.walk) ≡ false → may_take t p ≡ false
not-taken t p counts same e =
    let as-counted = ap (λ (g : ℕ → ℕ). list_all (λ flight. nat_lt (g flight) t.share) (flown p.walk)) (λ i flight. same flight i) in
    ap (λ b. is_past t.last p && b) (sym as-counted ∙ e) ∙ and-false (is_past t.last p)
