-- The least that may be taken beside others are the first of these in order.
use Rattle.std.proofs.Common.{◌≡◌, ◌∙◌, ◌<◌, ◌≤◌, ℕ, pos, Bool, true, false, ◌&&◌, List, [], ◌∷◌, ◌++◌, Option, Some, inl, inr, refl, sym, ap, subst, ⊎_elim, arith, length, take}
use Rattle.std.specs.Prelude.{filter}
use Rattle.std.specs.Ordering.{ordering_reverse}
use Rattle.std.specs.declared.cmp.Ordering.TheVariants.{Less, Equal, Greater}
use Rattle.crew_pairing.proofs.Tree.{Each-member}
use Rattle.crew_pairing.specs.Legs.{Leg}
use Rattle.crew_resource.proofs.Members.{Member-append, Member-append_right, Member-filter_in, Member-filter_out}
use Rattle.crew_resource.proofs.Rising.{same-rising}
use Rattle.crew_resource.specs.Members.{Member}
use Rattle.crew_solve.proofs.Keeping.{in-order-among, in-order-each, in-order-rise, kept-beside, sorted, sorted-out, take-out}
use Rattle.crew_solve.proofs.OneList.{rising}
use Rattle.crew_solve.proofs.Taking.{Whole, apart-from-fewer, at-least-itself, at-least-more, gains, later-by, past-later, rise-filter, whole-ended, whole-kept}
use Rattle.crew_solve.specs.Apart.{is_apart, taken_from}
use Rattle.crew_solve.specs.Cheapest.{RiseByCost, pairing_cmp, pairing_total}
use Rattle.crew_solve.specs.Machinery.Floors.{may_begin}
use Rattle.crew_solve.specs.Machinery.Keeps.{least_beside}
use Rattle.crew_solve.specs.Machinery.Takes.{AreInOrder, Taken, is_past, last_of, looked_at, may_take}
use Rattle.crew_vector.specs.declared.priced.PricedPairing.{PricedPairing}

abbrev Ps : Type 0
Ps = List PricedPairing

abbrev Test : Type 0
Test = PricedPairing → Bool

-- of a list that rises no two tie
no-tie : (xs : Ps) → RiseByCost xs → (p q : PricedPairing) → Member xs p → Member xs q → pairing_cmp p q ≡ Equal → p ≡ q
no-tie [] h p q m n e = absurd m
no-tie (x ∷ xs) h p q (inl i) (inl j) e = sym i ∙ j
no-tie (x ∷ xs) h p q (inl i) (inr n) e =
    let less = subst (λ z. pairing_cmp z q ≡ Less) i (Each-member (λ l. pairing_cmp x l ≡ Less) xs q h.0 n) in
    let both : Less ≡ Equal = sym less ∙ e in (cc)
no-tie (x ∷ xs) h p q (inr m) (inl j) e =
    let less = subst (λ z. pairing_cmp z p ≡ Less) j (Each-member (λ l. pairing_cmp x l ≡ Less) xs p h.0 m) in
    let both : Greater ≡ Equal = sym (pairing_total.antisymm p q ∙ ap ordering_reverse less) ∙ e in (cc)
no-tie (x ∷ xs) h p q (inr m) (inr n) e = no-tie xs h.1 p q m n e

module _ (ps all : Ps) (are : AreInOrder ps all) where
  same-of : (f : Test) (p q : PricedPairing) → Member (filter f ps) p → Member (filter f ps) q → pairing_cmp p q ≡ Equal → p ≡ q
  same-of f p q m n = no-tie all are.rise p q (are.each p (Member-filter_out f ps p m).0) (are.each q (Member-filter_out f ps q n).0)

  passing : (f : Test) → sorted [] (filter f ps) ≡ filter f all
  passing f =
      same-rising pairing_cmp pairing_total (sorted [] (filter f ps)) (filter f all)
      (rising (sorted [] (filter f ps)) (in-order-rise (filter f ps) (same-of f) 0))
      (rising (filter f all) (rise-filter f all are.rise))
      (λ p m. let k = Member-filter_out f ps p (in-order-among (filter f ps) (same-of f) 0 p m) in Member-filter_in f all p (are.each p k.0) k.1)
      (λ p m. let k = Member-filter_out f all p m in in-order-each (filter f ps) (same-of f) 0 p (Member-filter_in f ps p (are.among p k.0) k.1))

  pub least-found : (n : ℕ) (t : Taken) → least_beside n t ps ≡ take n (filter (may_take t) all)
  least-found n t = kept-beside n t ps ∙ ap (take n) (passing (may_take t))

  -- a look at them leaves what is to be taken
  pub still-whole : (n : ℕ) (t next : Taken) → next ≡ looked_at t (least_beside n t ps) → Whole all next ≡ Whole all t
  still-whole n t next e = ap (Whole all) (e ∙ ap (looked_at t) (least-found n t)) ∙ whole-kept all are.rise t n

  -- and where they are fewer it is all
  pub all-whole : (n : ℕ) (t next : Taken) → next ≡ looked_at t (least_beside n t ps) → length (least_beside n t ps) < n → next.pairings ≡ Whole all next
  all-whole n t next e few =
      let is = e ∙ ap (looked_at t) (least-found n t) in
      let short : length (take n (filter (may_take t) all)) < n = subst (λ (l : Ps). length l < n) (least-found n t) few in
      sym (subst (λ (x : Taken). Whole all x ≡ x.pairings) (sym is) (whole-ended all are.rise t n short))

gained : (n : ℕ) (t : Taken) (found : Ps) → ((p : PricedPairing) → Member found p → may_take t p ≡ true) → 0 < n → n ≤ length found → length t.pairings < length (looked_at t found).pairings
gained n t [] h some full = absurd (omega (arith, some, full))
gained n t (x ∷ xs) h some full = gains t x xs (h x (inl refl))

found-may : (n : ℕ) (t : Taken) (ps : Ps) (p : PricedPairing) → Member (least_beside n t ps) p → may_take t p ≡ true
found-may n t ps p m =
    let all = sorted [] (filter (may_take t) ps) in
    (Member-filter_out (may_take t) ps p (sorted-of (filter (may_take t) ps) p (take-out n all p (subst (λ (l : Ps). Member l p) (kept-beside n t ps) m)))).1
  where
    sorted-of : (qs : Ps) (p : PricedPairing) → Member (sorted [] qs) p → Member qs p
    sorted-of qs p m = ⊎_elim {C = Member qs p} (λ k. absurd k) (λ k. k) (sorted-out [] qs p m)

-- each look at some takes one
pub more-each : (n : ℕ) (t next : Taken) (ps : Ps) → next ≡ looked_at t (least_beside n t ps) → 0 < n → n ≤ length (least_beside n t ps) → length t.pairings < length next.pairings
more-each n t next ps e some full =
    subst (λ (x : Taken). length t.pairings < length x.pairings) (sym e) (gained n t (least_beside n t ps) (found-may n t ps) some full)

-- ---- and what may be taken after it might be taken before

left-true : (a b : Bool) → (a && b) ≡ true → a ≡ true
left-true true b e = refl
left-true false b e = cc

right-true : (a b : Bool) → (a && b) ≡ true → b ≡ true
right-true true b e = e
right-true false b e = cc

both-true : (a b : Bool) → a ≡ true → b ≡ true → (a && b) ≡ true
both-true a b h k = ap (λ x. x && b) h ∙ k

last-among : (x : PricedPairing) (xs : Ps) → (q : PricedPairing) × Member (x ∷ xs) q × (last_of (Some x) xs ≡ Some q)
last-among x [] = (x, inl refl, refl)
last-among x (y ∷ xs) = let r = last-among y xs in (r.0, inr r.1, r.2)

past-before : (o : Option PricedPairing) (found : Ps) (p : PricedPairing) → ((q : PricedPairing) → Member found q → is_past o q ≡ true) → is_past (last_of o found) p ≡ true → is_past o p ≡ true
past-before o [] p h e = e
past-before o (x ∷ xs) p h e =
    let r = last-among x xs in
    past-later o r.0 p (h r.0 r.1) (later-by (pairing_cmp r.0 p) (ap (λ l. is_past l p) (sym r.2) ∙ e))

might-look : (t : Taken) (found : Ps) (p : PricedPairing) → ((q : PricedPairing) → Member found q → may_take t q ≡ true) → may_take (looked_at t found) p ≡ true → may_take t p ≡ true
might-look t found p h e =
    let after = t.pairings ++ taken_from t.share t.pairings found in
    let past = left-true (is_past (last_of t.last found) p) (is_apart t.share after p) e in
    let apart = right-true (is_past (last_of t.last found) p) (is_apart t.share after p) e in
    both-true (is_past t.last p) (is_apart t.share t.pairings p)
    (past-before t.last found p (λ q m. left-true (is_past t.last q) (is_apart t.share t.pairings q) (h q m)) past)
    (apart-from-fewer t.share t.pairings after p (at-least-more t.pairings t.pairings (taken_from t.share t.pairings found) (at-least-itself t.pairings)) apart)

pub might-before : (n : ℕ) (t next : Taken) (ps : Ps) → next ≡ looked_at t (least_beside n t ps) → (p : PricedPairing) → may_take next p ≡ true → may_take t p ≡ true
might-before n t next ps e p may = might-look t (least_beside n t ps) p (found-may n t ps) (ap (λ x. may_take x p) (sym e) ∙ may)

-- what begins nothing that may be taken begins nothing after it
fewer-begin : (a b : Bool) → (b ≡ true → a ≡ true) → a ≡ false → b ≡ false
fewer-begin a false h e = refl
fewer-begin a true h e = let both : true ≡ false = sym (h refl) ∙ e in absurd (let z : ⊥ = (cc) in z)

pub begins-none : (n : ℕ) (t next : Taken) (ps : Ps) → next ≡ looked_at t (least_beside n t ps) → (w : List (List Leg)) → may_begin (Some t) w ≡ false → may_begin (Some next) w ≡ false
begins-none n t next ps e w none =
    let p : PricedPairing = record { base = []; walk = w; cost = pos 0; pay = pos 0; away = pos 0 } in
    let found = least_beside n t ps in
    let after = t.pairings ++ taken_from t.share t.pairings found in
    let less = apart-from-fewer t.share t.pairings after p (at-least-more t.pairings t.pairings (taken_from t.share t.pairings found) (at-least-itself t.pairings)) in
    ap (λ (x : Taken). may_begin (Some x) w) e ∙ fewer-begin (is_apart t.share t.pairings p) (is_apart t.share after p) less none

-- ---- some of a list that are gone through once more

pub again-in-order : (qs ps all : Ps) → ((p : PricedPairing) → Member qs p → Member ps p) → AreInOrder ps all → AreInOrder (qs ++ ps) all
again-in-order qs ps all among are = record {
  rise = are.rise;
  among = λ p m. Member-append_right qs ps p (are.among p m);
  each = λ p m. ⊎_elim {C = Member all p} (λ n. are.each p (among p n)) (are.each p) (Member-append qs ps p m);
}
