-- Taking pairings one after another.
use Rattle.std.proofs.Common.{◌≡◌, ◌∙◌, ◌≤◌, ◌<◌, ◌+◌, ℕ, zero, suc, Bool, true, false, cond, ◌&&◌, List, [], ◌∷◌, ◌++◌, Option, Some, None, refl, sym, ap, subst, arith, append_assoc, length, take, drop}
use Rattle.std.specs.Prelude.{◌-◌, count_by, filter, nat_lt, slice_get}
use Rattle.std.specs.List.{list_all}
use Rattle.std.specs.Ordering.{is_lt, ordering_reverse}
use Rattle.std.specs.declared.cmp.Ordering.{Ordering}
use Rattle.std.specs.declared.cmp.Ordering.TheVariants.{Less, Equal, Greater}
use Rattle.std.proofs.lemmas.Bool.Decides.{nat_tests}
use Rattle.std.proofs.lemmas.Cmp.{tied_itself}
use Rattle.std.proofs.lemmas.List.{append-nil, take-append-le}
use Rattle.std.proofs.lemmas.List.Sums.{sum_by-append}
use Rattle.crew_resource.specs.Members.{Each}
use Rattle.crew_solve.specs.Apart.{flies, flown, is_apart, taken_from}
use Rattle.crew_solve.specs.Cheapest.{RiseByCost, pairing_cmp, pairing_total}
use Rattle.crew_solve.specs.Machinery.Takes.{Taken, is_past, last_of, looked_at, may_take, none_taken, offered, offered_each}
use Rattle.crew_vector.specs.declared.priced.PricedPairing.{PricedPairing}

abbrev Ps : Type 0
Ps = List PricedPairing

abbrev Test : Type 0
Test = PricedPairing → Bool

-- ---- part by part

append-by : (share : ℕ) (t : Ps) (x : PricedPairing) (xs ys : Ps) (b : Bool)
    → taken_from share (t ++ x ∷ []) (xs ++ ys) ≡ taken_from share (t ++ x ∷ []) xs ++ taken_from share ((t ++ x ∷ []) ++ taken_from share (t ++ x ∷ []) xs) ys
    → taken_from share t (xs ++ ys) ≡ taken_from share t xs ++ taken_from share (t ++ taken_from share t xs) ys
    → cond b (x ∷ taken_from share (t ++ x ∷ []) (xs ++ ys)) (taken_from share t (xs ++ ys))
    ≡ cond b (x ∷ taken_from share (t ++ x ∷ []) xs) (taken_from share t xs) ++ taken_from share (t ++ cond b (x ∷ taken_from share (t ++ x ∷ []) xs) (taken_from share t xs)) ys
append-by share t x xs ys true h k =
    let rest = taken_from share (t ++ x ∷ []) xs in
    ap (λ (l : Ps). x ∷ l) (h ∙ ap (λ (l : Ps). rest ++ taken_from share l ys) (append_assoc t (x ∷ []) rest))
append-by share t x xs ys false h k = k

pub taken-append : (share : ℕ) (t xs ys : Ps) → taken_from share t (xs ++ ys) ≡ taken_from share t xs ++ taken_from share (t ++ taken_from share t xs) ys
taken-append share t [] ys = ap (λ (l : Ps). taken_from share l ys) (sym (append-nil t))
taken-append share t (x ∷ xs) ys = append-by share t x xs ys (is_apart share t x) (taken-append share (t ++ x ∷ []) xs ys) (taken-append share t xs ys)

-- one more
with-one : (t : Ps) (x : PricedPairing) (b : Bool) → cond b (t ++ x ∷ []) t ≡ t ++ cond b (x ∷ []) []
with-one t x true = refl
with-one t x false = sym (append-nil t)

-- the last of a list stands at its last place
last-at : (o : Option PricedPairing) (x : PricedPairing) (xs : Ps) → last_of o (x ∷ xs) ≡ slice_get (x ∷ xs) (length xs)
last-at o x [] = refl
last-at o x (y ∷ xs) = last-at (Some x) y xs

pub last-there : (o : Option PricedPairing) (xs : Ps) (x : PricedPairing) → slice_get xs (length xs - 1) ≡ Some x → last_of o xs ≡ Some x
last-there o [] x e = cc
last-there o (y ∷ xs) x e =
    let place : suc (length xs) - 1 ≡ length xs = omega arith in
    last-at o y xs ∙ (ap (slice_get (y ∷ xs)) (sym place) ∙ e)

pub last-none : (o : Option PricedPairing) (xs : Ps) → slice_get xs (length xs - 1) ≡ None → last_of o xs ≡ o
last-none o [] e = refl
last-none o (y ∷ xs) e =
    let place : suc (length xs) - 1 ≡ length xs = omega arith in
    absurd (get-there y xs (ap (slice_get (y ∷ xs)) (sym place) ∙ e))
  where
    get-there : (y : PricedPairing) (xs : Ps) → slice_get (y ∷ xs) (length xs) ≡ None → ⊥
    get-there y [] e = cc
    get-there y (x ∷ xs) e = get-there x xs e

-- the ones that are offered one after another
more-taken : (share : ℕ) (t xs : Ps) (x : PricedPairing) → cond (is_apart share (t ++ taken_from share t xs) x) ((t ++ taken_from share t xs) ++ x ∷ []) (t ++ taken_from share t xs)
    ≡ t ++ taken_from share t (xs ++ x ∷ [])
more-taken share t xs x =
    let w = t ++ taken_from share t xs in
    with-one w x (is_apart share w x)
    ∙ (append_assoc t (taken_from share t xs) (taken_from share w (x ∷ [])) ∙ ap (λ (l : Ps). t ++ l) (sym (taken-append share t xs (x ∷ []))))

pub offered-more : (t : Taken) (xs : Ps) (x : PricedPairing) → offered (offered_each t xs) x ≡ offered_each t (xs ++ x ∷ [])
offered-more t xs x = ap (λ l. let k : Taken = record { share = t.share; last = t.last; pairings = l } in k) (more-taken t.share t.pairings xs x)

-- ---- what is not apart from some is not apart from more

pub record AtLeast (t w : Ps) : Type 0 where
  pub each : (flight : ℕ) → count_by (flies flight) t ≤ count_by (flies flight) w

pub at-least-itself : (t : Ps) → AtLeast t t
at-least-itself t = record { each = λ f. omega arith }

count-more : (p : Test) (t u : Ps) → count_by p t ≤ count_by p (t ++ u)
count-more p t u = let e : count_by p (t ++ u) ≡ count_by p t + count_by p u = sum_by-append (λ x. cond (p x) 1 0) t u in omega (arith, e)

pub at-least-more : (t w u : Ps) → AtLeast t w → AtLeast t (w ++ u)
at-least-more t w u h = record { each = λ f. let a = h.each f in let b = count-more (flies f) w u in omega (arith, a, b) }

fewer : (share m n : ℕ) → m ≤ n → nat_lt n share ≡ true → nat_lt m share ≡ true
fewer share m n h k = grind (arith, nat_tests)

both-true : (a b c d : Bool) → (c ≡ true → a ≡ true) → (d ≡ true → b ≡ true) → (c && d) ≡ true → (a && b) ≡ true
both-true a b true true h k e = ap (λ x. x && b) (h refl) ∙ k refl
both-true a b true false h k e = cc
both-true a b false d h k e = cc

all-fewer : (share : ℕ) (g h : ℕ → ℕ) → ((f : ℕ) → g f ≤ h f) → (fs : List ℕ) → list_all (λ f. nat_lt (h f) share) fs ≡ true → list_all (λ f. nat_lt (g f) share) fs ≡ true
all-fewer share g h le [] e = refl
all-fewer share g h le (f ∷ fs) e =
    both-true (nat_lt (g f) share) (list_all (λ i. nat_lt (g i) share) fs) (nat_lt (h f) share) (list_all (λ i. nat_lt (h i) share) fs)
    (fewer share (g f) (h f) (le f)) (all-fewer share g h le fs) e

not-true : (a b : Bool) → (b ≡ true → a ≡ true) → a ≡ false → b ≡ false
not-true a true h e = sym (h refl) ∙ e
not-true a false h e = refl

pub apart-from-fewer : (share : ℕ) (t w : Ps) (x : PricedPairing) → AtLeast t w → is_apart share w x ≡ true → is_apart share t x ≡ true
apart-from-fewer share t w x h = all-fewer share (λ f. count_by (flies f) t) (λ f. count_by (flies f) w) h.each (flown x.walk)

not-apart : (share : ℕ) (t w : Ps) (x : PricedPairing) → AtLeast t w → is_apart share t x ≡ false → is_apart share w x ≡ false
not-apart share t w x h = not-true (is_apart share t x) (is_apart share w x)
    (all-fewer share (λ f. count_by (flies f) t) (λ f. count_by (flies f) w) h.each (flown x.walk))

pass-by : (share : ℕ) (t w : Ps) (x : PricedPairing) (xs : Ps) (b : Bool) → is_apart share t x ≡ b → AtLeast t w
    → taken_from share (w ++ x ∷ []) xs ≡ taken_from share (w ++ x ∷ []) (filter (is_apart share t) xs)
    → taken_from share w xs ≡ taken_from share w (filter (is_apart share t) xs)
    → taken_from share w (x ∷ xs) ≡ taken_from share w (cond b (x ∷ filter (is_apart share t) xs) (filter (is_apart share t) xs))
pass-by share t w x xs true e h i j = λ k. cond (is_apart share w x) (x ∷ i k) (j k)
pass-by share t w x xs false e h i j = ap (λ c. cond c (x ∷ taken_from share (w ++ x ∷ []) xs) (taken_from share w xs)) (not-apart share t w x h e) ∙ j

-- those alone are taken that are apart from fewer
pub taken-passing : (share : ℕ) (t w xs : Ps) → AtLeast t w → taken_from share w xs ≡ taken_from share w (filter (is_apart share t) xs)
taken-passing share t w [] h = refl
taken-passing share t w (x ∷ xs) h =
    pass-by share t w x xs (is_apart share t x) refl h (taken-passing share t (w ++ x ∷ []) xs (at-least-more t w (x ∷ []) h)) (taken-passing share t w xs h)

-- ---- lists that rise, from a place on

both-by : (f g : Test) (x : PricedPairing) (xs : Ps) (a b : Bool) → f x ≡ a → filter (λ y. f y && g y) xs ≡ filter f (filter g xs) → cond (a && b) (x ∷ filter (λ y. f y && g y) xs) (filter (λ y. f y && g y) xs)
    ≡ filter f (cond b (x ∷ filter g xs) (filter g xs))
both-by f g x xs true true e h = ap (λ (l : Ps). x ∷ l) h ∙ ap (λ c. cond c (x ∷ filter f (filter g xs)) (filter f (filter g xs))) (sym e)
both-by f g x xs true false e h = h
both-by f g x xs false true e h = h ∙ ap (λ c. cond c (x ∷ filter f (filter g xs)) (filter f (filter g xs))) (sym e)
both-by f g x xs false false e h = h

pub filter-both : (f g : Test) (xs : Ps) → filter (λ y. f y && g y) xs ≡ filter f (filter g xs)
filter-both f g [] = refl
filter-both f g (x ∷ xs) = both-by f g x xs (f x) (g x) refl (filter-both f g xs)

and-turned : (a b : Bool) → (a && b) ≡ (b && a)
and-turned true true = refl
and-turned true false = refl
and-turned false true = refl
and-turned false false = refl

pub filter-turned : (f g : Test) (xs : Ps) → filter f (filter g xs) ≡ filter g (filter f xs)
filter-turned f g xs = sym (filter-both f g xs) ∙ (ap (λ t. filter t xs) (λ i y. and-turned (f y) (g y) i) ∙ filter-both g f xs)

each-by : (P : PricedPairing → Type 0) (x : PricedPairing) (xs : Ps) (b : Bool) → P x → Each P xs → Each P (cond b (x ∷ xs) xs)
each-by P x xs true p h = (p, h)
each-by P x xs false p h = h

pub each-filter : (P : PricedPairing → Type 0) (f : Test) (xs : Ps) → Each P xs → Each P (filter f xs)
each-filter P f [] h = tt
each-filter P f (x ∷ xs) h = each-by P x (filter f xs) (f x) h.0 (each-filter P f xs h.1)

rise-by : (x : PricedPairing) (xs : Ps) (b : Bool) → Each (λ l. pairing_cmp x l ≡ Less) xs → RiseByCost xs → RiseByCost (cond b (x ∷ xs) xs)
rise-by x xs true h k = (h, k)
rise-by x xs false h k = k

pub rise-filter : (f : Test) (xs : Ps) → RiseByCost xs → RiseByCost (filter f xs)
rise-filter f [] h = tt
rise-filter f (x ∷ xs) h = rise-by x (filter f xs) (f x) (each-filter (λ l. pairing_cmp x l ≡ Less) f xs h.0) (rise-filter f xs h.1)

each-take : (P : PricedPairing → Type 0) (n : ℕ) (xs : Ps) → Each P xs → Each P (take n xs)
each-take P zero xs h = tt
each-take P (suc n) [] h = tt
each-take P (suc n) (x ∷ xs) h = (h.0, each-take P n xs h.1)

pub all-pass : (f : Test) (xs : Ps) → Each (λ x. f x ≡ true) xs → filter f xs ≡ xs
all-pass f [] h = refl
all-pass f (x ∷ xs) h = ap (λ c. cond c (x ∷ filter f xs) (filter f xs)) h.0 ∙ ap (λ (l : Ps). x ∷ l) (all-pass f xs h.1)

not-before : (x y : PricedPairing) → pairing_cmp x y ≡ Less → is_lt (pairing_cmp y x) ≡ false
not-before x y h = ap is_lt (pairing_total.antisymm y x ∙ ap ordering_reverse h)

-- the last of what stands after a pairing doesn't stand before it
last-after : (x l : PricedPairing) (xs : Ps) → is_lt (pairing_cmp l x) ≡ false → Each (λ y. pairing_cmp x y ≡ Less) xs → is_past (last_of (Some l) xs) x ≡ false
last-after x l [] e h = e
last-after x l (y ∷ xs) e h = last-after x y xs (not-before x y h.0) h.1

before-last : (o : Option PricedPairing) (x : PricedPairing) (xs : Ps) → is_past o x ≡ false → Each (λ y. pairing_cmp x y ≡ Less) xs → is_past (last_of o xs) x ≡ false
before-last None x xs e h = let z : true ≡ false = e in (cc)
before-last (Some l) x xs e h = last-after x l xs e h

pub later-by : (o : Ordering) → is_lt o ≡ true → o ≡ Less
later-by Less e = refl
later-by Equal e = cc
later-by Greater e = cc

pub past-later : (o : Option PricedPairing) (x y : PricedPairing) → is_past o x ≡ true → pairing_cmp x y ≡ Less → is_past o y ≡ true
past-later None x y e h = refl
past-later (Some l) x y e h = ap is_lt (pairing_total.trans l x y (later-by (pairing_cmp l x) e) h)

each-past : (o : Option PricedPairing) (x : PricedPairing) (xs : Ps) → is_past o x ≡ true → Each (λ y. pairing_cmp x y ≡ Less) xs → Each (λ y. is_past o y ≡ true) xs
each-past o x [] e h = tt
each-past o x (y ∷ xs) e h = (past-later o x y e h.0, each-past o x xs e h.1)

each-later : (x : PricedPairing) (xs : Ps) → Each (λ y. pairing_cmp x y ≡ Less) xs → Each (λ y. is_past (Some x) y ≡ true) xs
each-later x [] h = tt
each-later x (y ∷ xs) h = (ap is_lt h.0, each-later x xs h.1)

itself-last : (x : PricedPairing) → is_lt (pairing_cmp x x) ≡ false
itself-last x = ap is_lt (tied_itself pairing_total x)

drop-none : (n : ℕ) → drop n (let l : Ps = [] in l) ≡ []
drop-none zero = refl
drop-none (suc n) = refl

take-none : (n : ℕ) → take n (let l : Ps = [] in l) ≡ []
take-none zero = refl
take-none (suc n) = refl

abbrev Rest : Option PricedPairing → ℕ → Ps → Type 0
Rest o n xs = filter (is_past (last_of o (take n (filter (is_past o) xs)))) xs ≡ drop n (filter (is_past o) xs)

skipped : (f : Test) (x : PricedPairing) (xs : Ps) → f x ≡ false → filter f (x ∷ xs) ≡ filter f xs
skipped f x xs e = ap (λ c. cond c (x ∷ filter f xs) (filter f xs)) e

passed : (f : Test) (x : PricedPairing) (xs : Ps) → f x ≡ true → filter f (x ∷ xs) ≡ x ∷ filter f xs
passed f x xs e = ap (λ c. cond c (x ∷ filter f xs) (filter f xs)) e

rest-by : (o : Option PricedPairing) (n : ℕ) (x : PricedPairing) (xs : Ps) (b : Bool) → is_past o x ≡ b → Each (λ y. pairing_cmp x y ≡ Less) xs → Rest o n xs → ((m : ℕ) → Rest (Some x) m xs) → Rest o n (x ∷ xs)
rest-by o n x xs false e h k j =
    let kept = skipped (is_past o) x xs e in
    let last = last_of o (take n (filter (is_past o) xs)) in
    let out = before-last o x (take n (filter (is_past o) xs)) e (each-take (λ y. pairing_cmp x y ≡ Less) n (filter (is_past o) xs) (each-filter (λ y. pairing_cmp x y ≡ Less) (is_past o) xs h)) in
    ap (λ (l : Ps). filter (is_past (last_of o (take n l))) (x ∷ xs)) kept ∙ (skipped (is_past last) x xs out ∙ (k ∙ ap (drop n) (sym kept)))
rest-by o zero x xs true e h k j = refl
rest-by o (suc n) x xs true e h k j =
    let kept = passed (is_past o) x xs e in
    let all = all-pass (is_past o) xs (each-past o x xs e h) in
    let later = all-pass (is_past (Some x)) xs (each-later x xs h) in
    let whole : filter (is_past o) (x ∷ xs) ≡ x ∷ filter (is_past (Some x)) xs = kept ∙ ap (λ (l : Ps). x ∷ l) (all ∙ sym later) in
    let found = take n (filter (is_past (Some x)) xs) in
    let out = last-after x x found (itself-last x) (each-take (λ y. pairing_cmp x y ≡ Less) n (filter (is_past (Some x)) xs) (each-filter (λ y. pairing_cmp x y ≡ Less) (is_past (Some x)) xs h)) in
    ap (λ (l : Ps). filter (is_past (last_of o (take (suc n) l))) (x ∷ xs)) whole
    ∙ (skipped (is_past (last_of (Some x) found)) x xs out ∙ (j n ∙ ap (drop (suc n)) (sym whole)))

-- what comes after the first of those past a pairing
pub rest-after : (o : Option PricedPairing) (n : ℕ) (xs : Ps) → RiseByCost xs → Rest o n xs
rest-after o n [] h = sym (drop-none n)
rest-after o n (x ∷ xs) h = rest-by o n x xs (is_past o x) refl h.0 (rest-after o n xs h.1) (λ m. rest-after (Some x) m xs h.1)

pub take-drop : (n : ℕ) (xs : Ps) → xs ≡ take n xs ++ drop n xs
take-drop zero xs = refl
take-drop (suc n) [] = refl
take-drop (suc n) (x ∷ xs) = ap (λ (l : Ps). x ∷ l) (take-drop n xs)

none-left : (n : ℕ) (xs : Ps) → length (take n xs) < n → drop n xs ≡ []
none-left zero xs h = absurd (omega (arith, h))
none-left (suc n) [] h = refl
none-left (suc n) (x ∷ xs) h = none-left n xs (omega (arith, h))

-- ---- one look after another

-- all that is to be taken
abbrev pub Whole : Ps → Taken → Ps
Whole all t = t.pairings ++ taken_from t.share t.pairings (filter (is_past t.last) all)

module _ (all : Ps) (rise : RiseByCost all) (t : Taken) (n : ℕ) where
  abbrev Apart : Ps
  Apart = filter (is_apart t.share t.pairings) all

  abbrev Left : Ps
  Left = filter (is_past t.last) Apart

  abbrev pub Found : Ps
  Found = take n (filter (may_take t) all)

  abbrev After : Taken
  After = looked_at t (take n Left)

  left-is : filter (may_take t) all ≡ Left
  left-is = filter-both (is_past t.last) (is_apart t.share t.pairings) all

  before : taken_from t.share t.pairings (filter (is_past t.last) all) ≡ taken_from t.share t.pairings Left
  before =
      taken-passing t.share t.pairings t.pairings (filter (is_past t.last) all) (at-least-itself t.pairings)
      ∙ ap (taken_from t.share t.pairings) (filter-turned (is_apart t.share t.pairings) (is_past t.last) all)

  after : taken_from t.share After.pairings (filter (is_past After.last) all) ≡ taken_from t.share After.pairings (drop n Left)
  after =
      taken-passing t.share t.pairings After.pairings (filter (is_past After.last) all) (at-least-more t.pairings t.pairings (taken_from t.share t.pairings (take n Left)) (at-least-itself t.pairings))
      ∙ (ap (taken_from t.share After.pairings) (filter-turned (is_apart t.share t.pairings) (is_past After.last) all)
      ∙ ap (taken_from t.share After.pairings) (rest-after t.last n Apart (rise-filter (is_apart t.share t.pairings) all rise)))

  both : taken_from t.share t.pairings Left ≡ taken_from t.share t.pairings (take n Left) ++ taken_from t.share After.pairings (drop n Left)
  both = ap (taken_from t.share t.pairings) (take-drop n Left) ∙ taken-append t.share t.pairings (take n Left) (drop n Left)

  whole-after : Whole all After ≡ Whole all t
  whole-after =
      ap (λ (l : Ps). After.pairings ++ l) after
      ∙ (append_assoc t.pairings (taken_from t.share t.pairings (take n Left)) (taken_from t.share After.pairings (drop n Left))
      ∙ ap (λ (l : Ps). t.pairings ++ l) (sym (before ∙ both)))

  -- a look leaves it as it is
  pub whole-kept : Whole all (looked_at t Found) ≡ Whole all t
  whole-kept = ap (λ (l : Ps). Whole all (looked_at t (take n l))) left-is ∙ whole-after

  -- and after the last look it is what is taken
  pub whole-ended : length Found < n → Whole all (looked_at t Found) ≡ (looked_at t Found).pairings
  whole-ended few =
      let short : length (take n Left) < n = subst (λ (l : Ps). length (take n l) < n) left-is few in
      let end : Whole all After ≡ After.pairings = ap (λ (l : Ps). After.pairings ++ l) (after ∙ ap (taken_from t.share After.pairings) (none-left n Left short)) ∙ append-nil After.pairings in
      subst (λ (l : Ps). Whole all (looked_at t (take n l)) ≡ (looked_at t (take n l)).pairings) (sym left-is) end

past-none : (xs : Ps) → filter (is_past None) xs ≡ xs
past-none [] = refl
past-none (x ∷ xs) = ap (λ (l : Ps). x ∷ l) (past-none xs)

pub whole-begun : (share : ℕ) (all : Ps) → Whole all (none_taken share) ≡ taken_from share [] all
whole-begun share all = ap (taken_from share []) (past-none all)

pub whole-first : (limit : ℕ) (all : Ps) (t : Taken) → limit ≤ length t.pairings → take limit t.pairings ≡ take limit (Whole all t)
whole-first limit all t h = sym (rw take-append-le refl)

-- ---- each look at some takes one

true-both : (a b : Bool) → (a && b) ≡ true → b ≡ true
true-both true b e = e
true-both false b e = cc

longer : (t u : Ps) (x : PricedPairing) → length t < length (t ++ x ∷ u)
longer [] u x = omega arith
longer (y ∷ t) u x = let h = longer t u x in omega (arith, h)

pub gains : (t : Taken) (x : PricedPairing) (xs : Ps) → may_take t x ≡ true → length t.pairings < length (looked_at t (x ∷ xs)).pairings
gains t x xs e =
    let is = true-both (is_past t.last x) (is_apart t.share t.pairings x) e in
    subst (λ c. length t.pairings < length (t.pairings ++ cond c (x ∷ taken_from t.share (t.pairings ++ x ∷ []) xs) (taken_from t.share t.pairings xs))) (sym is) (longer t.pairings (taken_from t.share (t.pairings ++ x ∷ []) xs) x)
