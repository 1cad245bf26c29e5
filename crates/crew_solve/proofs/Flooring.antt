-- What the pairings of departures cost at least.
use Rattle.std.proofs.Common.{◌≡◌, ◌≢◌, ◌∙◌, ◌⊎◌, ◌<◌, ◌+◌, ℕ, zero, suc, Bool, true, false, cond, List, [], ◌∷◌, ◌++◌, Option, Some, None, ℤ, inl, inr, refl, sym, ap, subst, arith, get_or, length, map, replicate, set, take, ⊎_elim}
use Rattle.std.specs.Prelude.{◌≤ℤ◌, slice_get}
use Rattle.std.specs.Int.{int_min}
use Rattle.std.specs.List.{range_with_len}
use Rattle.std.proofs.lemmas.List.FromFn.{get_or-range_with_len, length-range_with_len}
use Rattle.std.specs.BTreeSet.{insert_key}
use Rattle.std.proofs.lemmas.Int.{ints}
use Rattle.std.proofs.lemmas.List.{get_or-set_other, get_or-set_same, length-set}
use Rattle.crew_anchor.specs.Anchors.{shown}
use Rattle.crew_anchor.specs.Stages.{anchored_board}
use Rattle.crew_pairing.specs.Legs.{Leg}
use Rattle.crew_pairing.specs.declared.duty.Duty.{Duty}
use Rattle.crew_pairing.specs.declared.vector.PairingVector.{PairingVector}
use Rattle.crew_resource.proofs.Members.{Member-append, Member-flat_map_in, Member-flat_map_out, Member-get, Member-map_out}
use Rattle.crew_resource.specs.Events.{labelled}
use Rattle.crew_resource.specs.Members.{Member}
use Rattle.crew_solve.proofs.Floored.{keep-all-none, labelled-walk}
use Rattle.crew_solve.proofs.Keeping.{keep-append, still-beside}
use Rattle.crew_solve.proofs.Listed.{get-same}
use Rattle.crew_solve.specs.Cheapest.{pairing_cmp}
use Rattle.crew_solve.specs.Machinery.Floors.{AreFloors, AreKnown, CostFrom, IsKnown, Known, MayCost, may_begin, nothing_known}
use Rattle.crew_solve.specs.Machinery.Homes.{boarding, ended_by, home_from, home_of, priced, resource_of, walk_by_key}
use Rattle.crew_solve.specs.Machinery.Keeps.{CheapestSoFar, KeepsSome, is_wanted, keep, keep_all}
use Rattle.crew_solve.specs.Machinery.Takes.{Taken}
use Rattle.crew_sweep.specs.Sweeps.{BaseSweep, keyed}
use Rattle.crew_vector.specs.declared.priced.PricedPairing.{PricedPairing}

abbrev Ps : Type 0
Ps = List PricedPairing

-- ---- the floor of a list

least-left : (a b c : ℤ) → a ≤ℤ c → int_min a b ≤ℤ c
least-left a b c h = grind (arith, ints)

least-right : (a b c : ℤ) → b ≤ℤ c → int_min a b ≤ℤ c
least-right a b c h = grind (arith, ints)

at-most : (a b c : ℤ) → a ≤ℤ b → b ≤ℤ c → a ≤ℤ c
at-most a b c h k = omega (arith, ints)

same-least : (n : ℤ) → n ≡ int_min n n
same-least n = grind (arith, ints)

pub from-none : (beside : Option Taken) (floor : ℤ) → CostFrom beside floor []
from-none beside floor p m e = absurd m

from-both : (beside : Option Taken) (a b : ℤ) (ps qs : Ps) → CostFrom beside a ps → CostFrom beside b qs → CostFrom beside (int_min a b) (ps ++ qs)
from-both beside a b [] qs h k p m e = least-right a b p.cost (k p m e)
from-both beside a b (x ∷ ps) qs h k p (inl i) e = least-left a b p.cost (h p (inl i) e)
from-both beside a b (x ∷ ps) qs h k p (inr m) e = from-both beside a b ps qs (λ q n. h q (inr n)) k p m e

-- with more, that are kept after others
pub from-more : (first k : CheapestSoFar) (ps qs : Ps) (a b n : ℤ) → k ≡ keep_all first ps → CostFrom first.beside a ps → CostFrom k.beside b qs → n ≡ int_min a b → CostFrom first.beside n (ps ++ qs)
from-more first k ps qs a b n is h more e =
    let same : k.beside ≡ first.beside = ap (λ (z : CheapestSoFar). z.beside) is ∙ still-beside first ps in
    subst (λ z. CostFrom first.beside z (ps ++ qs)) (sym e) (from-both first.beside a b ps qs h (subst (λ o. CostFrom o b qs) same more))

-- with more, and a floor that is no greater
pub from-below : (first k : CheapestSoFar) (ps qs : Ps) (a n : ℤ) → k ≡ keep_all first ps → CostFrom first.beside a ps → n ≤ℤ a → CostFrom k.beside n qs → CostFrom first.beside n (ps ++ qs)
from-below first k ps qs a n is h less more = from-more first k ps qs n n n is (λ p m e. at-most n a p.cost less (h p m e)) more (same-least n)

-- where none is asked for
pub from-unasked : (beside : Option Taken) (floor : ℤ) (ps : Ps) → ((p : PricedPairing) → Member ps p → is_wanted beside p ≡ false) → CostFrom beside floor ps
from-unasked beside floor ps h p m e = let both : true ≡ false = sym e ∙ h p m in absurd (let z : ⊥ = (cc) in z)

pub from-one : (beside : Option Taken) (floor : ℤ) (p : PricedPairing) → floor ≤ℤ p.cost → CostFrom beside floor (p ∷ [])
from-one beside floor p h q (inl i) e = subst (λ (z : PricedPairing). floor ≤ℤ z.cost) i h
from-one beside floor p h q (inr m) e = absurd m

pub from-unasked-one : (beside : Option Taken) (floor : ℤ) (p : PricedPairing) → is_wanted beside p ≡ false → CostFrom beside floor (p ∷ [])
from-unasked-one beside floor p h q (inl i) e = let both : true ≡ false = sym e ∙ (ap (is_wanted beside) (sym i) ∙ h) in absurd (let z : ⊥ = (cc) in z)
from-unasked-one beside floor p h q (inr m) e = absurd m

-- ---- what changes nothing

pub keep-unasked : (k : CheapestSoFar) (p : PricedPairing) → is_wanted k.beside p ≡ false → keep k p ≡ k
keep-unasked k p e = ap (λ b. let z : CheapestSoFar = record { limit = k.limit; beside = k.beside; pairings = cond b (take k.limit (insert_key pairing_cmp k.pairings p)) k.pairings } in z) e

above-by : (k : CheapestSoFar) (p : PricedPairing) (b : Bool) → is_wanted k.beside p ≡ b → (b ≡ true → keep k p ≡ k) → keep k p ≡ k
above-by k p true e h = h refl
above-by k p false e h = keep-unasked k p e

-- where what costs the floor or more changes nothing
pub keep-above : (k : CheapestSoFar) (floor : ℤ) (ps : Ps) → CostFrom k.beside floor ps → ((p : PricedPairing) → floor ≤ℤ p.cost → keep k p ≡ k) → keep_all k ps ≡ k
keep-above k floor ps from none = keep-all-none k ps (λ p m. above-by k p (is_wanted k.beside p) refl (λ e. none p (from p m e)))

pub keep-all-unasked : (k : CheapestSoFar) (ps : Ps) → ((p : PricedPairing) → Member ps p → is_wanted k.beside p ≡ false) → keep_all k ps ≡ k
keep-all-unasked k ps h = keep-all-none k ps (λ p m. keep-unasked k p (h p m))

-- ---- the last duty of a pairing that a duty ends

abbrev pub EndsWith : List Leg → PricedPairing → Type 0
EndsWith key p = (before : List (List Leg)) × (p.walk ≡ before ++ key ∷ [])

pub ended-with : (b : BaseSweep) (index : ℕ) (d : Duty) (p : PricedPairing) → Member (ended_by b index d) p → EndsWith d.key p
ended-with b index d p m =
    let r = resource_of b in
    let rate = b.net.settings.trip_rig in
    let e = Member-map_out (λ (e : PairingVector × List (List Leg)). priced rate b.base (shown rate d.release e.0) e.1) (boarding b index d) p m in
    let next = λ (e : PairingVector × List (List Leg)). labelled (anchored_board r e.0 d) (e.1 ++ d.key ∷ []) in
    let from = Member-flat_map_out next (keyed b.net b.walks (get_or b.pools index [])) e.0 e.1 in
    let walk = labelled-walk (anchored_board r from.0.0 d) (from.0.1 ++ d.key ∷ []) e.0 from.2 in
    let own : e.0.1 ≡ p.walk = ap (λ (q : PricedPairing). q.walk) e.2 in
    (from.0.1, sym (walk ∙ own))

-- ---- the floors of departures and of bases

nothing-at : (n k : ℕ) → get_or (replicate n (let o : Option ℤ = None in o)) k None ≡ None
nothing-at zero k = refl
nothing-at (suc n) zero = refl
nothing-at (suc n) (suc k) = nothing-at n k

long-nothing : (n : ℕ) → length (replicate n (let o : Option ℤ = None in o)) ≡ n
long-nothing zero = refl
long-nothing (suc n) = ap suc (long-nothing n)

pub floors-unknown : (beside : Option Taken) (b : BaseSweep) (n : ℕ) (floors : List (Option ℤ)) → floors ≡ replicate n None → n ≡ length b.net.by_report → AreFloors beside b floors
floors-unknown beside b n floors is many = record {
  many = ap length is ∙ (long-nothing n ∙ many);
  right = λ index. subst (λ o. MayCost beside o (home_from b index)) (sym (ap (λ l. get_or l index None) is ∙ nothing-at n index)) tt;
}

set-by : (beside : Option Taken) (b : BaseSweep) (floors : List (Option ℤ)) (index : ℕ) (x : Option ℤ) → AreFloors beside b floors → index < length floors → MayCost beside x (home_from b index)
    → (k : ℕ) → (k ≡ index) ⊎ (k ≢ index) → MayCost beside (get_or (set floors index x) k None) (home_from b k)
set-by beside b floors index x h low more k (inl e) =
    let same : get_or (set floors index x) index None ≡ x = get_or-set_same floors index x None low in
    subst (λ j. MayCost beside (get_or (set floors index x) j None) (home_from b j)) (sym e) (subst (λ o. MayCost beside o (home_from b index)) (sym same) more)
set-by beside b floors index x h low more k (inr n) =
    let other : get_or (set floors index x) k None ≡ get_or floors k None = get_or-set_other floors index k x None n in
    subst (λ o. MayCost beside o (home_from b k)) (sym other) (h.right k)

pub same-or : (m n : ℕ) → (m ≡ n) ⊎ (m ≢ n)
same-or zero zero = inl refl
same-or zero (suc n) = inr (λ e. omega (arith, e))
same-or (suc m) zero = inr (λ e. omega (arith, e))
same-or (suc m) (suc n) = ⊎_elim {C = (suc m ≡ suc n) ⊎ (suc m ≢ suc n)} (λ e. inl (ap suc e)) (λ h. inr (λ e. h (omega (arith, e)))) (same-or m n)

pub floors-set : (beside : Option Taken) (b : BaseSweep) (floors : List (Option ℤ)) (index : ℕ) (x : Option ℤ) → AreFloors beside b floors → index < length floors → MayCost beside x (home_from b index)
    → AreFloors beside b (set floors index x)
floors-set beside b floors index x h low more = record {
  many = length-set floors index x ∙ h.many;
  right = λ k. set-by beside b floors index x h low more k (same-or k index);
}

at-end : (beside : Option Taken) (b : BaseSweep) (f : Known) → IsKnown beside b f → (place : ℕ) (x : BaseSweep) → slice_get (b ∷ []) place ≡ Some x → IsKnown beside x (get_or (f ∷ []) place nothing_known)
at-end beside b f h zero x e = let q : b ≡ x = (cc) in subst (λ z. IsKnown beside z f) q h
at-end beside b f h (suc n) x e = absurd (let q : ⊥ = (cc) in q)

-- those of a base more
pub known-more : (beside : Option Taken) (ss : List BaseSweep) (fs : List Known) (b : BaseSweep) (f : Known) → AreKnown beside ss fs → IsKnown beside b f
    → AreKnown beside (ss ++ b ∷ []) (fs ++ f ∷ [])
known-more beside [] [] b f h k = record { many = refl; right = at-end beside b f k }
known-more beside [] (g ∷ fs) b f h k = absurd (omega (arith, h.many))
known-more beside (s ∷ ss) [] b f h k = absurd (omega (arith, h.many))
known-more beside (s ∷ ss) (g ∷ fs) b f h k =
    let rest : AreKnown beside ss fs = record { many = omega (arith, h.many); right = λ place x e. h.right (suc place) x e } in
    let more = known-more beside ss fs b f rest k in
    record { many = ap suc more.many; right = both-ends more.right (λ x e. h.right zero x e) }
  where
    both-ends : ((place : ℕ) (x : BaseSweep) → slice_get (ss ++ b ∷ []) place ≡ Some x → IsKnown beside x (get_or (fs ++ f ∷ []) place nothing_known)) → ((x : BaseSweep) → slice_get (s ∷ ss) zero ≡ Some x → IsKnown beside x g)
        → (place : ℕ) (x : BaseSweep) → slice_get (s ∷ (ss ++ b ∷ [])) place ≡ Some x → IsKnown beside x (get_or (g ∷ (fs ++ f ∷ [])) place nothing_known)
    both-ends later first zero x e = first x e
    both-ends later first (suc n) x e = later n x e

set-of-by : (beside : Option Taken) (ss : List BaseSweep) (fs : List Known) (place : ℕ) (b : BaseSweep) (f : Known) → AreKnown beside ss fs → slice_get ss place ≡ Some b → place < length fs → IsKnown beside b f
    → (k : ℕ) (x : BaseSweep) → slice_get ss k ≡ Some x → (k ≡ place) ⊎ (k ≢ place) → IsKnown beside x (get_or (set fs place f) k nothing_known)
set-of-by beside ss fs place b f h at low more k x e (inl i) =
    let same : get_or (set fs place f) place nothing_known ≡ f = get_or-set_same fs place f nothing_known low in
    let own : Some b ≡ Some x = sym at ∙ (ap (slice_get ss) (sym i) ∙ e) in
    let is : b ≡ x = (cc) in
    subst (λ j. IsKnown beside x (get_or (set fs place f) j nothing_known)) (sym i) (subst (IsKnown beside x) (sym same) (subst (λ z. IsKnown beside z f) is more))
set-of-by beside ss fs place b f h at low more k x e (inr n) =
    let other : get_or (set fs place f) k nothing_known ≡ get_or fs k nothing_known = get_or-set_other fs place k f nothing_known n in
    subst (IsKnown beside x) (sym other) (h.right k x e)

pub known-set : (beside : Option Taken) (ss : List BaseSweep) (fs : List Known) (place : ℕ) (b : BaseSweep) (f : Known) → AreKnown beside ss fs → slice_get ss place ≡ Some b → place < length fs → IsKnown beside b f
    → AreKnown beside ss (set fs place f)
known-set beside ss fs place b f h at low more = record {
  many = length-set fs place f ∙ h.many;
  right = λ k x e. set-of-by beside ss fs place b f h at low more k x e (same-or k place);
}

-- what is known of a base, at its place, whatever stands beyond the end
pub known-at : (beside : Option Taken) (ss : List BaseSweep) (fs : List Known) (place : ℕ) (b : BaseSweep) (d : Known) → AreKnown beside ss fs → slice_get ss place ≡ Some b → place < length fs → IsKnown beside b (get_or fs place d)
known-at beside ss fs place b d h at low = subst (IsKnown beside b) (get-same fs place nothing_known d low) (h.right place b at)

pub mapped-at : {A X : Type 0} (f : A → X) (xs : List A) (k : ℕ) (x : A) → slice_get xs k ≡ Some x → slice_get (map f xs) k ≡ Some (f x)
mapped-at f [] k x e = absurd (let q : ⊥ = (cc) in q)
mapped-at f (y ∷ xs) zero x e = let q : y ≡ x = (cc) in ap (λ z. Some (f z)) q
mapped-at f (y ∷ xs) (suc k) x e = mapped-at f xs k x e

pub long-map : {A X : Type 0} (f : A → X) (xs : List A) → length (map f xs) ≡ length xs
long-map f [] = refl
long-map f (x ∷ xs) = ap suc (long-map f xs)

-- a list that stands in the place of one as long
take-own : {X : Type 0} (xs ys : List X) → take (length xs) (xs ++ ys) ≡ xs
take-own [] ys = refl
take-own {X = X} (x ∷ xs) ys = ap (λ (l : List X). x ∷ l) (take-own xs ys)

pub written : {X : Type 0} (n : ℕ) (xs ys : List X) → n ≡ length xs → take n (xs ++ ys) ≡ xs
written n xs ys e = ap (λ k. take k (xs ++ ys)) e ∙ take-own xs ys

-- ---- what is known stays true while less may be taken

stays : (t next : Option Taken) (o : Option ℤ) (ps : Ps) → ((p : PricedPairing) → is_wanted next p ≡ true → is_wanted t p ≡ true) → MayCost t o ps → MayCost next o ps
stays t next None ps less h = tt
stays t next (Some floor) ps less h = λ p m e. h p m (less p e)

floors-stay : (t next : Option Taken) (b : BaseSweep) (f : List (Option ℤ)) → ((p : PricedPairing) → is_wanted next p ≡ true → is_wanted t p ≡ true) → AreFloors t b f → AreFloors next b f
floors-stay t next b f less h = record { many = h.many; right = λ index. stays t next (get_or f index None) (home_from b index) less (h.right index) }

pub known-stays : (t next : Option Taken) (ss : List BaseSweep) (ks : List Known) → ((p : PricedPairing) → is_wanted next p ≡ true → is_wanted t p ≡ true) → ((w : List (List Leg)) → may_begin t w ≡ false → may_begin next w ≡ false)
    → AreKnown t ss ks → AreKnown next ss ks
known-stays t next ss ks less none h = record {
  many = h.many;
  right = λ place b e. let k = h.right place b e in record {
    floors = floors-stay t next b (get_or ks place nothing_known).floors less k.floors;
    marks = λ walk m. none (walk_by_key b (record { walk = walk; duty = 4_294_967_295 })) (k.marks walk m);
  };
}

-- ---- some of a list

pub keeps-none : (ps : Ps) (k : CheapestSoFar) → KeepsSome ps k k
keeps-none ps k = record { some = []; among = λ p m. absurd m; kept = refl }

pub keeps-all : (ps : Ps) (k j : CheapestSoFar) → j ≡ keep_all k ps → KeepsSome ps k j
keeps-all ps k j e = record { some = ps; among = λ p m. m; kept = e }

pub keeps-more : (ps qs : Ps) (k j i : CheapestSoFar) → KeepsSome ps k j → KeepsSome qs j i → ((p : PricedPairing) → Member qs p → Member ps p) → KeepsSome ps k i
keeps-more ps qs k j i h g among = record {
  some = h.some ++ g.some;
  among = λ p m. ⊎_elim {C = Member ps p} (h.among p) (λ n. among p (g.among p n)) (Member-append h.some g.some p m);
  kept = g.kept ∙ (ap (λ z. keep_all z g.some) h.kept ∙ sym (keep-append k h.some g.some));
}

pub some-beside : (ps : Ps) (k j : CheapestSoFar) → KeepsSome ps k j → j.beside ≡ k.beside
some-beside ps k j h = ap (λ (z : CheapestSoFar). z.beside) h.kept ∙ still-beside k h.some

pub range-member : (n i : ℕ) → i < n → Member (range_with_len 0 n) i
range-member n i h =
    let long = length-range_with_len 0 n in
    let at = get_or-range_with_len 0 n i 0 h in
    let own : 0 + i ≡ i = omega arith in
    subst (Member (range_with_len 0 n)) (at ∙ own) (Member-get (range_with_len 0 n) i 0 (omega (arith, h, long)))

pub home-among : (b : BaseSweep) (index : ℕ) → index < length b.net.by_report → (p : PricedPairing) → Member (home_from b index) p → Member (home_of b) p
home-among b index h p m = Member-flat_map_in (home_from b) (range_with_len 0 (length b.net.by_report)) index p (range-member (length b.net.by_report) index h) m
