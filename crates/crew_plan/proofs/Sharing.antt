-- Pairings that share few flights: there is one list of them, a greater limit goes on, and with room
-- for all they are the cheapest.
use Rattle.std.proofs.Common.{◌≡◌, ◌∙◌, ◌≤◌, ◌<◌, ◌+◌, ℕ, zero, suc, Bool, true, false, cond, ◌&&◌, ◌||◌, List, [], ◌∷◌, ◌++◌, refl, sym, ap, subst, arith, append_assoc, length, length-append, take, drop}
use Rattle.std.specs.Prelude.{count_by, nat_eq, nat_lt}
use Rattle.std.specs.List.{list_all, list_any}
use Rattle.std.proofs.lemmas.Bool.Decides.{nat_tests}
use Rattle.std.proofs.lemmas.List.{append-nil}
use Rattle.std.proofs.lemmas.List.Sums.{count_by-le-length, sum_by-append}
use Rattle.crew_resource.proofs.Rising.{same-rising}
use Rattle.crew_fronts.proofs.crew_solve_lemmas.Keeping.{rise-take, take-few, take-or, take-out}
use Rattle.crew_fronts.proofs.crew_solve_lemmas.Taking.{take-drop}
use Rattle.crew_plan.proofs.Shorter.{rise-back, rise-too}
use Rattle.crew_plan.proofs.OneList.{one-list, rising}
use Rattle.crew_plan.specs.Apart.{AreAll, AreTaken, flies, flown, is_apart, taken_from}
use Rattle.crew_plan.specs.Cheapest.{AreFirst, pairing_cmp, pairing_total}
use Rattle.crew_fronts.specs.crew_solve.crew_vector.declared.priced.PricedPairing.{PricedPairing}

abbrev Ps : Type 0
Ps = List PricedPairing

-- ---- the first of the first

take-of-take : (m n : ℕ) (xs : Ps) → m ≤ n → take m xs ≡ take m (take n xs)
take-of-take zero n xs h = refl
take-of-take (suc m) zero xs h = absurd (omega (arith, h))
take-of-take (suc m) (suc n) [] h = refl
take-of-take (suc m) (suc n) (x ∷ xs) h = ap (λ (l : Ps). x ∷ l) (take-of-take m n xs (omega (arith, h)))

-- ---- with room for all each is taken

fewer-than : (m n share : ℕ) → m ≤ n → n < share → nat_lt m share ≡ true
fewer-than m n share h k = grind (arith, nat_tests)

both-of : (a b : Bool) → a ≡ true → b ≡ true → (a && b) ≡ true
both-of a b h k = ap (λ x. x && b) h ∙ k

room-by : (share : ℕ) (g : ℕ → ℕ) → ((f : ℕ) → nat_lt (g f) share ≡ true) → (fs : List ℕ) → list_all (λ f. nat_lt (g f) share) fs ≡ true
room-by share g h [] = refl
room-by share g h (f ∷ fs) = both-of (nat_lt (g f) share) (list_all (λ i. nat_lt (g i) share) fs) (h f) (room-by share g h fs)

room-for : (share : ℕ) (t : Ps) (p : PricedPairing) → length t < share → is_apart share t p ≡ true
room-for share t p h = room-by share (λ f. count_by (flies f) t) (λ f. fewer-than (count_by (flies f) t) (length t) share (count_by-le-length (flies f) t) h) (flown p.walk)

-- those taken beside some, where there is room for these and the first of the list
each-taken : (limit share : ℕ) (t xs : Ps) → length t + length (take limit xs) ≤ share → take limit (taken_from share t xs) ≡ take limit xs
each-taken zero share t xs h = refl
each-taken (suc limit) share t [] h = refl
each-taken (suc limit) share t (x ∷ xs) h =
    let room : length t < share = omega (arith, h) in
    let more = length-append t (x ∷ []) in
    let rest : length (t ++ x ∷ []) + length (take limit xs) ≤ share = omega (arith, h, more) in
    ap (λ c. take (suc limit) (cond c (x ∷ taken_from share (t ++ x ∷ []) xs) (taken_from share t xs))) (room-for share t x room)
    ∙ ap (λ (l : Ps). x ∷ l) (each-taken limit share (t ++ x ∷ []) xs rest)

-- ---- no flight is flown more often

true-left : (a b : Bool) → (a && b) ≡ true → a ≡ true
true-left true b e = refl
true-left false b e = cc

true-right : (a b : Bool) → (a && b) ≡ true → b ≡ true
true-right true b e = e
true-right false b e = cc

same-number : (a b : ℕ) → nat_eq a b ≡ true → b ≡ a
same-number a b e = grind (arith, nat_tests)

is-less : (a b : ℕ) → nat_lt a b ≡ true → a < b
is-less a b e = grind (arith, nat_tests)

room-or : (p : ℕ → Bool) (f g : ℕ) (b : Bool) (fs : List ℕ) → nat_eq f g ≡ b → p g ≡ true → (list_any (nat_eq f) fs ≡ true → p f ≡ true) → (b || list_any (nat_eq f) fs) ≡ true → p f ≡ true
room-or p f g true fs e h k a = ap p (sym (same-number f g e)) ∙ h
room-or p f g false fs e h k a = k a

room-of : (p : ℕ → Bool) (f : ℕ) (fs : List ℕ) → list_all p fs ≡ true → list_any (nat_eq f) fs ≡ true → p f ≡ true
room-of p f [] h a = cc
room-of p f (g ∷ fs) h a = room-or p f g (nat_eq f g) fs refl (true-left (p g) (list_all p fs) h) (room-of p f fs (true-right (p g) (list_all p fs) h)) a

one-more : (share f : ℕ) (t : Ps) (x : PricedPairing) (b : Bool) → flies f x ≡ b → is_apart share t x ≡ true → count_by (flies f) t ≤ share → count_by (flies f) t + cond b 1 0 ≤ share
one-more share f t x true e h most = let less = is-less (count_by (flies f) t) share (room-of (λ g. nat_lt (count_by (flies g) t) share) f (flown x.walk) h e) in omega (arith, less)
one-more share f t x false e h most = omega (arith, most)

with-one : (share f : ℕ) (t : Ps) (x : PricedPairing) → is_apart share t x ≡ true → count_by (flies f) t ≤ share → count_by (flies f) (t ++ x ∷ []) ≤ share
with-one share f t x h most =
    let parts : count_by (flies f) (t ++ x ∷ []) ≡ count_by (flies f) t + count_by (flies f) (x ∷ []) = sum_by-append (λ y. cond (flies f y) 1 0) t (x ∷ []) in
    let own : count_by (flies f) (x ∷ []) ≡ cond (flies f x) 1 0 = omega arith in
    let few = one-more share f t x (flies f x) refl h most in
    omega (arith, parts, own, few)

most-by : (share f : ℕ) (t : Ps) (x : PricedPairing) (xs : Ps) (b : Bool) → is_apart share t x ≡ b → count_by (flies f) t ≤ share
    → (count_by (flies f) (t ++ x ∷ []) ≤ share → count_by (flies f) ((t ++ x ∷ []) ++ taken_from share (t ++ x ∷ []) xs) ≤ share) → count_by (flies f) (t ++ taken_from share t xs) ≤ share
    → count_by (flies f) (t ++ cond b (x ∷ taken_from share (t ++ x ∷ []) xs) (taken_from share t xs)) ≤ share
most-by share f t x xs true e most h k = subst (λ (l : Ps). count_by (flies f) l ≤ share) (append_assoc t (x ∷ []) (taken_from share (t ++ x ∷ []) xs)) (h (with-one share f t x e most))
most-by share f t x xs false e most h k = k

most-of : (share f : ℕ) (t xs : Ps) → count_by (flies f) t ≤ share → count_by (flies f) (t ++ taken_from share t xs) ≤ share
most-of share f t [] most = subst (λ (l : Ps). count_by (flies f) l ≤ share) (sym (append-nil t)) most
most-of share f t (x ∷ xs) most = most-by share f t x xs (is_apart share t x) refl most (most-of share f (t ++ x ∷ []) xs) (most-of share f t xs most)

none-most : (n : ℕ) → 0 ≤ n
none-most n = omega arith

first-most : (p : PricedPairing → Bool) (n : ℕ) (xs : Ps) → count_by p (take n xs) ≤ count_by p xs
first-most p n xs =
    let parts : count_by p (take n xs ++ drop n xs) ≡ count_by p (take n xs) + count_by p (drop n xs) = sum_by-append (λ y. cond (p y) 1 0) (take n xs) (drop n xs) in
    let whole : count_by p xs ≡ count_by p (take n xs ++ drop n xs) = ap (count_by p) (take-drop n xs) in
    omega (arith, parts, whole)

module _ (Shown : PricedPairing → Type 0) where
  pub flown-most : (limit share flight : ℕ) (ps : Ps) → AreTaken Shown limit share ps → count_by (flies flight) ps ≤ share
  flown-most limit share flight ps h =
      let all = most-of share flight [] h.all (none-most share) in
      let few = first-most (flies flight) limit (taken_from share [] h.all) in
      subst (λ (l : Ps). count_by (flies flight) l ≤ share) (sym h.first) (omega (arith, all, few))

  -- all pairings are one list
  pub one-all : (a b : Ps) → AreAll Shown a → AreAll Shown b → a ≡ b
  one-all a b h k = same-rising pairing_cmp pairing_total a b (rising a h.rise) (rising b k.rise) (λ p m. k.each p (h.shown p m)) (λ p m. h.each p (k.shown p m))

  pub one-apart : (limit share : ℕ) (a b : Ps) → AreTaken Shown limit share a → AreTaken Shown limit share b → a ≡ b
  one-apart limit share a b h k = h.first ∙ (ap (λ (l : Ps). take limit (taken_from share [] l)) (one-all h.all k.all h.are k.are) ∙ sym k.first)

  pub begins-more : (limit more share : ℕ) (a b : Ps) → limit ≤ more → AreTaken Shown limit share a → AreTaken Shown more share b → a ≡ take limit b
  begins-more limit more share a b le h k =
      h.first
      ∙ (ap (λ (l : Ps). take limit (taken_from share [] l)) (one-all h.all k.all h.are k.are)
      ∙ (take-of-take limit more (taken_from share [] k.all) le ∙ ap (take limit) (sym k.first)))

  -- the first of all are the cheapest
  first-cheapest : (limit : ℕ) (all : Ps) → AreAll Shown all → AreFirst Shown limit (take limit all)
  first-cheapest limit all h = record {
    rise = rise-too (take limit all) (rise-take limit all (rise-back all h.rise));
    few = take-few limit all;
    shown = λ p m. h.shown p (take-out limit all p m);
    least = λ q is. take-or limit all q (rise-back all h.rise) (h.each q is);
  }

  pub with-room : (limit share : ℕ) (a b : Ps) → length b ≤ share → AreTaken Shown limit share a → AreFirst Shown limit b → a ≡ b
  with-room limit share a b few h k =
      let same : take limit h.all ≡ b = one-list Shown limit (take limit h.all) b (first-cheapest limit h.all h.are) k in
      let room : length (take limit h.all) ≤ share = subst (λ (l : Ps). length l ≤ share) (sym same) few in
      h.first ∙ (each-taken limit share [] h.all (omega (arith, room)) ∙ same)
