-- Departures by report.
use Rattle.std.proofs.Common.{◌≡◌, ◌≤◌, ◌<◌, ◌+◌, ℕ, suc, ℤ, pos, ◌≤ℤ◌, List, [], ◌∷◌, Some, length, refl, sym, ap, subst, ◌∙◌, arith, get_or, map}
use Rattle.std.specs.Prelude.{slice_get, IsPermutation}
use Rattle.std.specs.List.{range_with_len}
use Rattle.std.proofs.lemmas.Int.{ints}
use Rattle.std.proofs.lemmas.List.{get_or-map, length-map}
use Rattle.std.proofs.lemmas.List.Sorted.{IsPermutation-map, length_permutation}
use Rattle.std.proofs.lemmas.Option.{get_or_from_slice_get}
use Rattle.crew_net.specs.Machinery.Moments.{AreInOrder, slots_from}
use Rattle.crew_net.specs.Machinery.Timelines.{IsTimeline}
use Rattle.crew_net.specs.Nets.{AreByReport}
use Rattle.crew_net.specs.declared.timeline.Timeline.{Timeline}
use Rattle.crew_net.specs.Machinery.Moments.{Slot}
use Rattle.crew_net.proofs.Firsts.{slot-place}
use Rattle.crew_net.proofs.InOrder.{ascends, length-slots_from}
use Rattle.crew_pairing.proofs.Tree.{slice_get-within}
use Rattle.crew_pairing.specs.declared.events.Departure.{Departure}

home-range : (i : ℕ) (ats : List ℤ) → map (λ s. s.place) (slots_from i ats) ≡ range_with_len i (length ats)
home-range i [] = refl
home-range i (a ∷ ats) =
    let on : suc i ≡ i + 1 = omega arith in
    ap (λ (l : List ℕ). i ∷ l) (home-range (suc i) ats ∙ ap (λ (n : ℕ). range_with_len n (length ats)) on)

pub by-report : (departures : List Departure) (slots : List Slot) (places : List ℕ) → AreInOrder (map (λ g. g.report) departures) slots → places ≡ map (λ s. s.place) slots → AreByReport departures places
by-report departures slots places order e = rw e (record { all = all; rising = rising })
  where
    ats : List ℤ
    ats = map (λ (g : Departure). g.report) departures

    here : List ℕ
    here = map (λ (s : Slot). s.place) slots

    all : IsPermutation (range_with_len 0 (length departures)) here
    all =
        let whole = home-range 0 ats ∙ ap (range_with_len 0) (length-map departures (λ (g : Departure). g.report)) in
        subst (λ (l : List ℕ). IsPermutation l here) whole (IsPermutation-map (λ (s : Slot). s.place) (slots_from 0 ats) slots order.all)

    -- the report of the departure whose place stands at i
    own : (i p : ℕ) (s : Slot) (g : Departure) → slice_get here i ≡ Some p → slice_get departures p ≡ Some g → (i < length slots) × ((get_or slots i s).at ≡ g.report)
    own i p s g h k =
        let long = length-map slots (λ (s : Slot). s.place) in
        let w = slice_get-within here i p h in
        let within : i < length slots = omega (arith, long, w) in
        let place : (get_or slots i s).place ≡ p = sym (get_or-map (λ (s : Slot). s.place) slots i s p within) ∙ get_or_from_slice_get here i p p h in
        let at = (slot-place ats slots order i s within).1 (pos 0) in
        let there : get_or ats p (pos 0) ≡ g.report = get_or-map (λ (g : Departure). g.report) departures p g (pos 0) (slice_get-within departures p g k) ∙ ap (λ (g : Departure). g.report) (get_or_from_slice_get departures p g g k) in
        (within, sym at ∙ (ap (λ (n : ℕ). get_or ats n (pos 0)) place ∙ there))

    rising : (i j p q : ℕ) (g h : Departure) → i ≤ j → slice_get here i ≡ Some p → slice_get here j ≡ Some q → slice_get departures p ≡ Some g → slice_get departures q ≡ Some h → g.report ≤ℤ h.report
    rising i j p q g h a hi hj hp hq =
        let s : Slot = record { at = pos 0; place = 0 } in
        let x = own i p s g hi hp in
        let y = own j q s h hj hq in
        let up = ascends slots order.sorted i j s a y.0 in
        let u = x.1 in
        let v = y.1 in
        omega (arith, ints, up, u, v)

-- there are no more moments than what happens
pub few-moments : (ats : List ℤ) (t : Timeline) → IsTimeline ats t → length t.moments.items ≤ length ats
few-moments ats t it =
    let few = it.are_moments.few in
    let same = length_permutation (slots_from 0 ats) it.slots it.in_order.all in
    let long = length-slots_from 0 ats in
    omega (arith, few, same, long)
