-- The first place of a moment.
use Rattle.std.proofs.Common.{◌≡◌, ◌<◌, ◌+◌, inl, inr, ℕ, suc, ℤ, pos, ◌≤ℤ◌, List, [], ◌∷◌, length, refl, sym, ap, subst, ◌∙◌, arith, get_or}
use Rattle.std.proofs.lemmas.List.{get_or-map, length-map}
use Rattle.std.proofs.lemmas.List.Sorted.{IsPermutation-sym}
use Rattle.std.proofs.lemmas.Int.{ints}
use Rattle.crew_resource.specs.Members.{Member}
use Rattle.crew_resource.proofs.Members.{Member-get}
use Rattle.crew_pairing.proofs.Shuffled.{Member-shuffled}
use Rattle.crew_net.specs.Machinery.Moments.{AreInOrder, slots_from}
use Rattle.crew_net.specs.Machinery.Timelines.{IsTimeline}
use Rattle.crew_net.specs.Machinery.Moments.{Slot}
use Rattle.crew_net.specs.declared.timeline.Timeline.{Timeline}
use Rattle.crew_net.proofs.InOrder.{ascends}
use Rattle.crew_net.proofs.Segments.{after-start, before-start, le-or-lt}

-- a slot at home stands for the moment at its place
own-place : (i : ℕ) (ats : List ℤ) (s : Slot) → Member (slots_from i ats) s → (k : ℕ) × (k < length ats) × (s.place ≡ i + k) × ((m : ℤ) → get_or ats k m ≡ s.at)
own-place i [] s m = absurd m
own-place i (a ∷ ats) s (inl e) = (0, omega arith, sym (ap (λ (t : Slot). t.place) e) ∙ omega arith, λ m. ap (λ (t : Slot). t.at) e)
own-place i (a ∷ ats) s (inr m) = let r = own-place (suc i) ats s m in let e = r.2 in (suc r.0, (let h = r.1 in omega (arith, h)), omega (arith, e), r.3)

pub slot-place : (ats : List ℤ) (slots : List Slot) → AreInOrder ats slots → (x : ℕ) (s : Slot) → x < length slots → ((get_or slots x s).place < length ats) × ((m : ℤ) → get_or ats (get_or slots x s).place m ≡ (get_or slots x s).at)
slot-place ats slots order x s h =
    let mine = Member-shuffled slots (slots_from 0 ats) (get_or slots x s) (IsPermutation-sym (slots_from 0 ats) slots order.all) (Member-get slots x s h) in
    let r = own-place 0 ats (get_or slots x s) mine in
    let e : (get_or slots x s).place ≡ r.0 = let f = r.2 in omega (arith, f) in
    ((let h = r.1 in omega (arith, e, h)), λ m. ap (λ (n : ℕ). get_or ats n m) e ∙ r.3 m)

-- where a moment begins, a slot of its own stands
start-own : (ats : List ℤ) (t : Timeline) (it : IsTimeline ats t) (k d : ℕ) (s : Slot) (e : ℤ) → k < length t.moments.items
    → (get_or t.starts.items k d < length it.slots) × ((get_or it.slots (get_or t.starts.items k d) s).at ≡ get_or t.moments.items k e)
start-own ats t it k d s e h =
    let ms = t.moments.items in
    let starts = t.starts.items in
    let x = get_or starts k d in
    let some = it.are_moments.some k e h in
    let low = after-start it.slots ms starts it.are_moments it.are_starts some.0 k k s e d some.1 h (sym (some.2 s)) (omega (arith, h)) (omega arith) in
    let hi = some.1 in
    let hx : x < length it.slots = omega (arith, low, hi) in
    let own = it.are_moments.every x s hx in
    let j = own.0 in
    let here = own.2 e in
    let up : (get_or it.slots x s).at ≤ℤ (get_or it.slots some.0 s).at = ascends it.slots it.in_order.sorted x some.0 s low some.1 in
    let there = some.2 s in (
      hx,
      elim (le-or-lt k j) [
        | inr l ↦ absurd (let b = before-start it.slots ms starts it.are_moments it.are_starts x j k s e d hx own.1 here (omega (arith, h)) l in omega (arith, b))
        | inl l ↦ elim (le-or-lt j k) [
          | inl r ↦ sym here ∙ ap (λ (n : ℕ). get_or ms n e) (omega (arith, l, r))
          | inr r ↦ absurd (let q = it.are_moments.rising k j e r own.1 in omega (arith, ints, q, here, up, there))
        ]
      ],
    )

pub first-place : (ats : List ℤ) (t : Timeline) → IsTimeline ats t → (k d f : ℕ) (e m : ℤ) → k < length t.moments.items
    → (get_or t.starts.items k d < length t.places.items) × (get_or t.places.items (get_or t.starts.items k d) f < length ats)
    × (get_or ats (get_or t.places.items (get_or t.starts.items k d) f) m ≡ get_or t.moments.items k e)
first-place ats t it k d f e m h = by it.slots refl
  where
    by : (slots : List Slot) → it.slots ≡ slots → (get_or t.starts.items k d < length t.places.items) × (get_or t.places.items (get_or t.starts.items k d) f < length ats)
        × (get_or ats (get_or t.places.items (get_or t.starts.items k d) f) m ≡ get_or t.moments.items k e)
    by [] q = absurd (let own = it.are_moments.some k e h in let n = own.1 in let l = ap length q in omega (arith, n, l))
    by (s ∷ rest) q =
        let x = get_or t.starts.items k d in
        let own = start-own ats t it k d s e h in
        let place = slot-place ats it.slots it.in_order x s own.0 in
        let long = length-map it.slots (λ (u : Slot). u.place) in
        let same = ap length it.are_places in
        let at : get_or t.places.items x f ≡ (get_or it.slots x s).place = ap (λ (l : List ℕ). get_or l x f) it.are_places ∙ get_or-map (λ (u : Slot). u.place) it.slots x s f own.0 in (
          (let h = own.0 in omega (arith, long, same, h)),
          (let h = place.0 in omega (arith, at, h)),
          ap (λ (n : ℕ). get_or ats n m) at ∙ (place.1 m ∙ own.1),
        )

-- the same of a start and a rank that were read
pub read-start : (ats : List ℤ) (t : Timeline) → IsTimeline ats t → (k start : ℕ) → k < length t.moments.items → start ≡ get_or t.starts.items k start → start < length t.places.items
read-start ats t it k start h e = subst (λ (n : ℕ). n < length t.places.items) (sym e) (first-place ats t it k start 0 (pos 0) (pos 0) h).0

pub read-rank : (ats : List ℤ) (t : Timeline) → IsTimeline ats t → (k start rank : ℕ) → k < length t.moments.items → start ≡ get_or t.starts.items k start → rank ≡ get_or t.places.items start rank
    → (rank < length ats) × ((m : ℤ) → get_or ats rank m ≡ get_or t.moments.items k m)
read-rank ats t it k start rank h e f =
    let same : rank ≡ get_or t.places.items (get_or t.starts.items k start) rank = f ∙ ap (λ (n : ℕ). get_or t.places.items n rank) e in (
      subst (λ (n : ℕ). n < length ats) (sym same) (first-place ats t it k start rank (pos 0) (pos 0) h).1,
      λ m. ap (λ (n : ℕ). get_or ats n m) same ∙ (first-place ats t it k start rank m m h).2,
    )
