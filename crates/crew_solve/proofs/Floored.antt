-- What the pairings that a duty ends cost at least.
use Rattle.std.proofs.Common.{◌≡◌, ◌∙◌, ◌^◌, ◌<◌, ◌+◌, ℕ, ℤ, pos, List, [], ◌∷◌, ◌++◌, Option, Some, None, Bool, true, false, cond, ◌&&◌, inl, inr, ⊎_elim, refl, sym, ap, subst, arith, get_or, length, map, take, w64, ◌+ℤ◌, ◌-ℤ◌}
use Rattle.std.specs.Prelude.{◌≤ℤ◌, count_by, nat_lt, negsuc, slice_get}
use Rattle.std.specs.List.{flat_map, list_all}
use Rattle.std.specs.Int.{int_max, saturate_signed}
use Rattle.std.proofs.lemmas.Int.{ints}
use Rattle.crew_anchor.specs.Anchors.{shown}
use Rattle.crew_anchor.specs.Stages.{anchored_board, flown, is_within_caps_at}
use Rattle.crew_pairing.specs.Events.{departure_of}
use Rattle.crew_pairing.specs.Legs.{Leg}
use Rattle.crew_pairing.specs.Vectors.{reduced_cost}
use Rattle.crew_pairing.specs.declared.duty.Duty.{Duty}
use Rattle.crew_pairing.specs.declared.vector.PairingVector.{PairingVector}
use Rattle.crew_pool.specs.LabelWalks.{shown as with_walk}
use Rattle.crew_pool.specs.Ranks.{key_at}
use Rattle.crew_pool.specs.declared.label_walk.LabelWalk.{LabelWalk}
use Rattle.crew_resource.proofs.Members.{Member-append, Member-flat_map_out, Member-map_out}
use Rattle.crew_resource.specs.Events.{labelled}
use Rattle.crew_resource.specs.Machinery.Sum.{LiesWithin}
use Rattle.crew_resource.specs.Members.{Member}
use Rattle.crew_solve.proofs.Listed.{take-more}
use Rattle.crew_solve.proofs.Rooms.{room-last}
use Rattle.crew_solve.specs.Apart.{flies, flown as flown-of, flown_on, is_apart}
use Rattle.crew_solve.specs.Machinery.Floors.{CostFrom, IsFloor, least_by, may_begin}
use Rattle.crew_solve.specs.Machinery.Homes.{IsFit, boarding, ended_by, priced, resource_of, walk_by_key}
use Rattle.crew_solve.specs.Machinery.Keeps.{CheapestSoFar, is_wanted, keep, keep_all}
use Rattle.crew_solve.specs.Machinery.Takes.{Taken, is_past}
use Rattle.crew_sweep.specs.Sweeps.{BaseSweep, keyed}
use Rattle.crew_net.specs.Positions.{in_order}
use Rattle.crew_vector.specs.declared.priced.PricedPairing.{PricedPairing}

pub as-much : (a b : ℤ) → a ≡ b → a ≤ℤ b
as-much a b e = omega (arith, ints, e)

-- a sum that is cut to fit is at most what fits and is no less than the sum
saturated-most : (z c : ℤ) → z ≤ℤ c → LiesWithin (2 ^ 61) c → saturate_signed w64 z ≤ℤ c
saturated-most (pos n) c h k = let l = k.least in let u = k.most in grind (arith, ints)
saturated-most (negsuc n) c h k = let l = k.least in let u = k.most in grind (arith, ints)

pub saturated-same : (a b : ℤ) → a ≡ b → saturate_signed w64 a ≡ saturate_signed w64 b
saturated-same a b e = ap (saturate_signed w64) e

costs-pay : (a b c : ℤ) → a ≤ℤ int_max (int_max a b) c
costs-pay a b c = grind (arith, ints)

at-most : (a b c : ℤ) → a ≤ℤ b → b ≤ℤ c → a ≤ℤ c
at-most a b c h k = omega (arith, ints)

more-on : (a b c : ℤ) → a ≤ℤ b → (a +ℤ c) ≤ℤ (b +ℤ c)
more-on a b c h = omega (arith, ints)

-- with one label more
pub floor-more : (beside : Option Taken) (b : BaseSweep) (xs : List (PairingVector × LabelWalk)) (k : ℕ) (d : PairingVector × LabelWalk) (floor next : ℤ) → k < length xs → IsFloor beside b floor (take k xs) → next ≤ℤ floor
    → (may_begin beside (walk_by_key b (get_or xs k d).1) ≡ true → next ≤ℤ (get_or xs k d).0.duty_pay) → IsFloor beside b next (take (k + 1) xs)
floor-more beside b xs k d floor next h low less own l m may =
    let x = get_or xs k d in
    ⊎_elim {C = next ≤ℤ l.0.duty_pay}
    (λ n. at-most next floor l.0.duty_pay less (low l n may))
    (λ n. ⊎_elim {C = next ≤ℤ l.0.duty_pay}
    (λ e. subst (λ (z : PairingVector × LabelWalk). next ≤ℤ z.0.duty_pay) e (own (subst (λ (z : PairingVector × LabelWalk). may_begin beside (walk_by_key b z.1) ≡ true) (sym e) may)))
    (λ n. absurd n) n)
    (Member-append (take k xs) (x ∷ []) l (subst (λ ls. Member ls l) (take-more xs k d h) m))

-- a label of a pool stands before each that boards
boarded-by : (t : Bool) (u v : PairingVector) (w x : List (List Leg)) → Member (labelled (cond t (Some u) None) w) (v, x) → u ≡ v
boarded-by true u v w x (inl e) = ap (λ (l : PairingVector × List (List Leg)). l.0) e
boarded-by true u v w x (inr m) = absurd m
boarded-by false u v w x m = absurd m

pub labelled-walk : (o : Option PairingVector) (w : List (List Leg)) (e : PairingVector × List (List Leg)) → Member (labelled o w) e → w ≡ e.1
labelled-walk None w e m = absurd m
labelled-walk (Some v) w e (inl q) = ap (λ (z : PairingVector × List (List Leg)). z.1) q
labelled-walk (Some v) w e (inr m) = absurd m

abbrev CameFrom : BaseSweep → ℕ → Duty → PairingVector → List (List Leg) → Type 0
CameFrom b index d v w = (l : PairingVector × LabelWalk) × Member (get_or b.pools index []) l × (flown (resource_of b) l.0 d ≡ v) × (walk_by_key b l.1 ++ d.key ∷ [] ≡ w)

came-from : (b : BaseSweep) (index : ℕ) (d : Duty) (v : PairingVector) (w : List (List Leg)) → Member (boarding b index d) (v, w) → CameFrom b index d v w
came-from b index d v w m =
    let r = resource_of b in
    let labels = get_or b.pools index [] in
    let next = λ (e : PairingVector × List (List Leg)). labelled (anchored_board r e.0 d) (e.1 ++ d.key ∷ []) in
    let by = λ (e : PairingVector × List ℕ). let z : PairingVector × List (List Leg) = (e.0, map (key_at b.net.duties) e.1) in z in
    let e = Member-flat_map_out next (keyed b.net b.walks labels) (v, w) m in
    let f = Member-map_out by (map (with_walk b.walks) labels) e.0 e.1 in
    let l = Member-map_out (with_walk b.walks) labels f.0 f.1 in
    let same : l.0.0 ≡ e.0.0 = ap (λ (z : PairingVector × List ℕ). z.0) l.2 ∙ ap (λ (z : PairingVector × List (List Leg)). z.0) f.2 in
    let walk : walk_by_key b l.0.1 ≡ e.0.1 = ap (λ (z : PairingVector × List ℕ). map (key_at b.net.duties) z.1) l.2 ∙ ap (λ (z : PairingVector × List (List Leg)). z.1) f.2 in (
      l.0,
      l.1,
      ap (λ u. flown r u d) same ∙ boarded-by (is_within_caps_at r d.release (flown r e.0.0 d)) (flown r e.0.0 d) v (e.0.1 ++ d.key ∷ []) w e.2,
      ap (λ z. z ++ d.key ∷ []) walk ∙ labelled-walk (anchored_board r e.0.0 d) (e.0.1 ++ d.key ∷ []) (v, w) e.2,
    )

right-true : (a b : Bool) → (a && b) ≡ true → b ≡ true
right-true true b e = e
right-true false b e = cc

-- what begins a pairing that is asked for may begin one
begins : (beside : Option Taken) (p : PricedPairing) (before : List (List Leg)) (key : List Leg) → p.walk ≡ before ++ key ∷ [] → is_wanted beside p ≡ true → may_begin beside before ≡ true
begins None p before key is e = refl
begins (Some t) p before key is e =
    let room = λ (flight : ℕ). nat_lt (count_by (flies flight) t.pairings) t.share in
    let apart = right-true (is_past t.last p) (is_apart t.share t.pairings p) e in
    right-true (list_all room (flat_map flown_on key)) (list_all room (flown-of before)) (sym (room-last room before key) ∙ (ap (λ w. list_all room (flown-of w)) (sym is) ∙ apart))

-- a pairing that is asked for and that the duty ends costs no less than the floor and what the duty adds
pub ended-costs : (beside : Option Taken) (b : BaseSweep) (index : ℕ) (d : Duty) (floor : ℤ) → IsFit b → Member b.net.duties d → slice_get (in_order b.net) index ≡ Some (departure_of d)
    → LiesWithin 2_147_483_648 d.release → IsFloor beside b floor (get_or b.pools index []) → CostFrom beside (least_by d floor) (ended_by b index d)
ended-costs beside b index d floor fit known own within low p m wanted =
    let rate = b.net.settings.trip_rig in
    let e = Member-map_out (λ (e : PairingVector × List (List Leg)). priced rate b.base (shown rate d.release e.0) e.1) (boarding b index d) p m in
    let v = e.0.0 in
    let pay = (fit.shows index d known own within v e.0.1 e.1).pay in
    let from = came-from b index d v e.0.1 e.1 in
    let walk : p.walk ≡ walk_by_key b from.0.1 ++ d.key ∷ [] = ap (λ (q : PricedPairing). q.walk) (sym e.2) ∙ sym from.3 in
    let may = begins beside p (walk_by_key b from.0.1) d.key walk wanted in
    let part : (from.0.0.duty_pay +ℤ (d.pay -ℤ d.price)) ≡ v.duty_pay = ap (λ (u : PairingVector). u.duty_pay) from.2 in
    let least = more-on floor from.0.0.duty_pay (d.pay -ℤ d.price) (low from.0 from.1 may) in
    let u = shown rate d.release v in
    let cost : v.duty_pay ≤ℤ reduced_cost u = costs-pay u.duty_pay u.trip_rig u.guarantee in
    let sum = at-most _ _ _ (subst (λ z. (floor +ℤ (d.pay -ℤ d.price)) ≤ℤ z) part least) cost in
    let most = saturated-most (floor +ℤ (d.pay -ℤ d.price)) (reduced_cost u) sum pay.cost in
    subst (λ (q : PricedPairing). least_by d floor ≤ℤ q.cost) e.2 most

-- where none is wanted, none is kept
pub keep-all-none : (k : CheapestSoFar) (ps : List PricedPairing) → ((p : PricedPairing) → Member ps p → keep k p ≡ k) → keep_all k ps ≡ k
keep-all-none k [] h = refl
keep-all-none k (p ∷ ps) h = ap (λ j. keep_all j ps) (h p (inl refl)) ∙ keep-all-none k ps (λ q m. h q (inr m))
