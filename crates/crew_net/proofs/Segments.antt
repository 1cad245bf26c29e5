-- The places of a window of moments.
use Rattle.std.proofs.Common.{◌≡◌, ◌≤◌, ◌<◌, ◌+◌, ◌-◌, ◌⊎◌, ◌&&◌, inl, inr, ℕ, zero, suc, ℤ, pos, List, [], ◌∷◌, Bool, true, false, length, refl, sym, ap, subst, ◌∙◌, arith, get_or, take, drop, filter, map, int_le}
use Rattle.std.specs.Prelude.{IsPermutation, IsSorted, ◌↔◌}
use Rattle.std.specs.List.Sorted.{IsSortedBy}
use Rattle.std.specs.Ordering.{int_cmp, int_eq, is_eq, is_lt, nat_cmp, ordering_then}
use Rattle.std.specs.declared.cmp.Ordering.{Ordering}
use Rattle.std.specs.declared.cmp.Ordering.TheVariants.{Equal, Greater, Less}
use Rattle.std.specs.Cmp.{signed_Decides}
use Rattle.std.proofs.lemmas.List.{get_or-drop, get_or_default, length-drop, get_or-map, length-map}
use Rattle.std.proofs.lemmas.List.Kept.{IsSortedBy-filter}
use Rattle.std.proofs.lemmas.List.Sorted.{IsPermutation-refl}
use Rattle.std.proofs.lemmas.Bool.{and_parts, and_from}
use Rattle.std.proofs.lemmas.Int.{ints}
use Rattle.crew_resource.specs.Members.{Member}
use Rattle.crew_resource.proofs.Members.{Member-get}
use Rattle.crew_pairing.proofs.InList.{filter-Member}
use Rattle.crew_pairing.proofs.Windows.{window}
use Rattle.crew_net.specs.Machinery.Moments.{AreMoments, AreStarts, slot_cmp}
use Rattle.crew_net.specs.Machinery.Timelines.{IsShape, IsTimeline, IsWithin}
use Rattle.crew_net.specs.Ranks.{places_from}
use Rattle.crew_net.specs.Machinery.Moments.{Slot}
use Rattle.crew_net.specs.declared.timeline.Timeline.{Timeline}
use Rattle.crew_net.specs.declared.window.Window.{Window}
use Rattle.crew_net.proofs.InOrder.{rise-far, slot-order}
use Rattle.crew_net.proofs.Places.{sorted-places}

pub le-or-lt : (i k : ℕ) → (i ≤ k) ⊎ (k < i)
le-or-lt zero k = inl (omega arith)
le-or-lt (suc i) zero = inr (omega arith)
le-or-lt (suc i) (suc k) = elim (le-or-lt i k) [ inl l ↦ inl (omega (arith, l)) | inr l ↦ inr (omega (arith, l)) ]

-- a slot stands before the start of the k-th moment just where its own moment is an earlier one
pub before-start : (slots : List Slot) (ms : List ℤ) (starts : List ℕ) → AreMoments slots ms → AreStarts slots ms starts → (i j k : ℕ) (s : Slot) (e : ℤ) (d : ℕ)
    → i < length slots → j < length ms → get_or ms j e ≡ (get_or slots i s).at → k ≤ length ms → j < k → i < get_or starts k d
before-start slots ms starts am st i j k s e d hi hj same hk below = elim (le-or-lt (length ms) k) [
  | inl l ↦ (let n : k ≡ length ms = omega (arith, l, hk) in let end = st.end d in let f = ap (λ (n : ℕ). get_or starts n d) n in omega (arith, end, f, hi))
  | inr l ↦ elim (le-or-lt (get_or starts k d) i) [
    | inl over ↦ absurd (let p = (st.points k d e l).1 i s over hi in let up = am.rising j k e below l in grind (arith, ints, p, up, same))
    | inr under ↦ under
  ]
]

pub after-start : (slots : List Slot) (ms : List ℤ) (starts : List ℕ) → AreMoments slots ms → AreStarts slots ms starts → (i j k : ℕ) (s : Slot) (e : ℤ) (d : ℕ)
    → i < length slots → j < length ms → get_or ms j e ≡ (get_or slots i s).at → k ≤ length ms → k ≤ j → get_or starts k d ≤ i
after-start slots ms starts am st i j k s e d hi hj same hk above = elim (le-or-lt (get_or starts k d) i) [
  | inl over ↦ over
  | inr under ↦ absurd (let p = (st.points k d e (omega (arith, above, hj))).0 i s (omega arith) under in let up = rise-far ms am.rising k j e above hj in grind (arith, ints, p, up, same))
]

-- the starts do not fall
starts-rise : (slots : List Slot) (ms : List ℤ) (starts : List ℕ) → AreMoments slots ms → AreStarts slots ms starts → (i j d : ℕ) → i ≤ j → j < length starts → get_or starts i d ≤ get_or starts j d
starts-rise [] ms starts am st i j d a b = let long = st.long in let w = st.within i d (omega (arith, a, b)) in omega (arith, w)
starts-rise (s ∷ rest) ms starts am st i j d a b = elim (le-or-lt (get_or starts i d) (get_or starts j d)) [
  | inl l ↦ l
  | inr under ↦ absurd (
      let slots = s ∷ rest in
      let x = get_or starts j d in
      let long = st.long in
      let w = st.within i d (omega (arith, a, b)) in
      let hx : x < length slots = omega (arith, under, w) in
      let own = am.every x s hx in
      elim (le-or-lt j own.0) [
        | inl l ↦ (let k = after-start slots ms starts am st x own.0 i s (pos 0) d hx own.1 (own.2 (pos 0)) (omega (arith, a, b, long)) (omega (arith, a, l)) in omega (arith, k, under))
        | inr l ↦ (let k = before-start slots ms starts am st x own.0 j s (pos 0) d hx own.1 (own.2 (pos 0)) (omega (arith, b, long)) l in omega (arith, k))
      ])
]

pub shape : (ats : List ℤ) (t : Timeline) → IsTimeline ats t → IsShape t
shape ats t it = record {
  long = it.are_starts.long;
  rising = starts-rise it.slots t.moments.items t.starts.items it.are_moments it.are_starts;
  within = λ k d h. (let w = it.are_starts.within k d h in let n = ap length it.are_places in let m = length-map it.slots (λ (s : Slot). s.place) in omega (arith, w, n, m));
}

bool-cases : (b : Bool) → (b ≡ true) ⊎ (b ≡ false)
bool-cases true = inl refl
bool-cases false = inr refl

-- the slots of a window of moments
segment : (slots : List Slot) (ms : List ℤ) (starts : List ℕ) → AreMoments slots ms → AreStarts slots ms starts → (q : ℤ → Bool) (w : Window) (d : ℕ) → w.from ≤ w.end → w.end ≤ length ms
    → ((k : ℕ) (e : ℤ) → k < length ms → (q (get_or ms k e) ≡ true) ↔ ((w.from ≤ k) × (k < w.end)))
    → take (get_or starts w.end d - get_or starts w.from d) (drop (get_or starts w.from d) slots) ≡ filter (λ s. q s.at) slots
segment slots ms starts am st q w d ordered bound agree =
    let i = get_or starts w.from d in
    let n = get_or starts w.end d in
    let long = length-drop i slots in
    let starts-long = st.long in
    let up = starts-rise slots ms starts am st w.from w.end d ordered (omega (arith, bound, starts-long)) in
    let end = st.within w.end d (omega (arith, bound, starts-long)) in
    window (λ (s : Slot). q s.at) slots i (n - i) (omega (arith, long, end))
    (λ k s a b. early k s b a)
    (λ k s a. subst (λ (x : Slot). q x.at ≡ true) (sym (get_or-drop i slots k s)) (inside (i + k) s (omega (arith, a, end, up)) (omega arith) (omega (arith, a, up))))
    (λ k s a b. subst (λ (x : Slot). q x.at ≡ false) (sym (get_or-drop i slots k s)) (late (i + k) s (omega (arith, b, long)) (omega (arith, a, up))))
  where
    not-true : (b : Bool) → (b ≡ true → ⊥) → b ≡ false
    not-true b f = elim (bool-cases b) [ inl e ↦ absurd (f e) | inr e ↦ e ]

    early : (x : ℕ) (s : Slot) → x < length slots → x < get_or starts w.from d → q (get_or slots x s).at ≡ false
    early x s hx a =
        let own = am.every x s hx in
        let same = own.2 (pos 0) in
        not-true (q (get_or slots x s).at) (λ t.
        let in-window = (agree own.0 (pos 0) own.1).0 (subst (λ (z : ℤ). q z ≡ true) (sym same) t) in
        let k = after-start slots ms starts am st x own.0 w.from s (pos 0) d hx own.1 same (omega (arith, ordered, bound)) in-window.0 in
        omega (arith, k, a))

    inside : (x : ℕ) (s : Slot) → x < length slots → get_or starts w.from d ≤ x → x < get_or starts w.end d → q (get_or slots x s).at ≡ true
    inside x s hx a b =
        let own = am.every x s hx in
        let same = own.2 (pos 0) in
        let from : w.from ≤ own.0 = elim (le-or-lt w.from own.0) [ inl l ↦ l | inr l ↦ absurd (let k = before-start slots ms starts am st x own.0 w.from s (pos 0) d hx own.1 same (omega (arith, ordered, bound)) l in omega (arith, k, a)) ] in
        let end : own.0 < w.end = elim (le-or-lt w.end own.0) [ inl l ↦ absurd (let k = after-start slots ms starts am st x own.0 w.end s (pos 0) d hx own.1 same bound l in omega (arith, k, b)) | inr l ↦ l ] in
        subst (λ (z : ℤ). q z ≡ true) same ((agree own.0 (pos 0) own.1).1 (from, end))

    late : (x : ℕ) (s : Slot) → x < length slots → get_or starts w.end d ≤ x → q (get_or slots x s).at ≡ false
    late x s hx a =
        let own = am.every x s hx in
        let same = own.2 (pos 0) in
        not-true (q (get_or slots x s).at) (λ t.
        let in-window = (agree own.0 (pos 0) own.1).0 (subst (λ (z : ℤ). q z ≡ true) (sym same) t) in
        let k = before-start slots ms starts am st x own.0 w.end s (pos 0) d hx own.1 same bound in-window.1 in
        omega (arith, k, a))

drop-map : {X Y : Type 0} (f : X → Y) (i : ℕ) (xs : List X) → drop i (map f xs) ≡ map f (drop i xs)
drop-map f zero xs = refl
drop-map f (suc i) [] = refl
drop-map f (suc i) (x ∷ xs) = drop-map f i xs

take-map : {X Y : Type 0} (f : X → Y) (n : ℕ) (xs : List X) → take n (map f xs) ≡ map f (take n xs)
take-map f zero xs = refl
take-map f (suc n) [] = refl
take-map {X} {Y} f (suc n) (x ∷ xs) = ap (λ (l : List Y). f x ∷ l) (take-map f n xs)

-- and their places
pub segment-places : (ats : List ℤ) (t : Timeline) (it : IsTimeline ats t) (q : ℤ → Bool) (w : Window) (d : ℕ) → w.from ≤ w.end → w.end ≤ length t.moments.items
    → ((k : ℕ) (e : ℤ) → k < length t.moments.items → (q (get_or t.moments.items k e) ≡ true) ↔ ((w.from ≤ k) × (k < w.end)))
    → take (get_or t.starts.items w.end d - get_or t.starts.items w.from d) (drop (get_or t.starts.items w.from d) t.places.items) ≡ map (λ s. s.place) (filter (λ s. q s.at) it.slots)
segment-places ats t it q w d ordered bound agree =
    let place : Slot → ℕ = λ s. s.place in
    let i = get_or t.starts.items w.from d in
    let n = get_or t.starts.items w.end d - i in
    ap (λ (l : List ℕ). take n (drop i l)) it.are_places
    ∙ (ap (take n) (drop-map place i it.slots)
    ∙ (take-map place n (drop i it.slots)
    ∙ ap (map place) (segment it.slots t.moments.items t.starts.items it.are_moments it.are_starts q w d ordered bound agree)))

-- put in order, they are those of what happens then
pub window-ranks : (ats : List ℤ) (t : Timeline) → IsTimeline ats t → (q : ℤ → Bool) (w : Window) (d : ℕ) → w.from ≤ w.end → w.end ≤ length t.moments.items
    → ((k : ℕ) (e : ℤ) → k < length t.moments.items → (q (get_or t.moments.items k e) ≡ true) ↔ ((w.from ≤ k) × (k < w.end)))
    → (sorted : List ℕ) → IsPermutation (take (get_or t.starts.items w.end d - get_or t.starts.items w.from d) (drop (get_or t.starts.items w.from d) t.places.items)) sorted
    → IsSorted nat_cmp sorted → sorted ≡ places_from 0 q ats
window-ranks ats t it q w d ordered bound agree sorted perm up =
    sorted-places q ats it.slots sorted it.in_order.all (subst (λ (l : List ℕ). IsPermutation l sorted) (segment-places ats t it q w d ordered bound agree) perm) up

tie-places : (m : ℤ) (a b : Slot) → int_eq m a.at ≡ true → int_eq m b.at ≡ true → is_lt (slot_cmp a b) ≡ false → is_lt (nat_cmp a.place b.place) ≡ false
tie-places m a b ha hb h =
    let ea : m ≡ a.at = (signed_Decides m a.at).0 ha in
    let eb : m ≡ b.at = (signed_Decides m b.at).0 hb in
    let same : int_eq a.at b.at ≡ true = (signed_Decides a.at b.at).1 (sym ea ∙ eb) in
    by (int_cmp a.at b.at) same h
  where
    by : (r : Ordering) → is_eq r ≡ true → is_lt (ordering_then r (nat_cmp a.place b.place)) ≡ false → is_lt (nat_cmp a.place b.place) ≡ false
    by Less e h = absurd (cc)
    by Equal e h = h
    by Greater e h = absurd (cc)

-- at one moment the places rise
tied-sorted : (m : ℤ) (slots : List Slot) → IsSorted slot_cmp slots → IsSorted nat_cmp (map (λ s. s.place) (filter (λ s. int_eq m s.at) slots))
tied-sorted m slots up k d a b = by (filter (λ (s : Slot). int_eq m s.at) slots) refl b
  where
    by : (kept : List Slot) → kept ≡ filter (λ (s : Slot). int_eq m s.at) slots → k + 1 < length (map (λ (s : Slot). s.place) kept) → is_lt (nat_cmp (get_or (map (λ (s : Slot). s.place) kept) (k + 1) d) (get_or (map (λ (s : Slot). s.place) kept) k d)) ≡ false
    by [] e h = absurd (omega (arith, h))
    by (x ∷ rest) e h =
        let kept = x ∷ rest in
        let test : Slot → Bool = λ s. int_eq m s.at in
        let long = length-map kept (λ (s : Slot). s.place) in
        let in-order = subst (λ (l : List Slot). IsSortedBy (λ (a b : Slot). is_lt (slot_cmp a b)) l) (sym e) (IsSortedBy-filter (λ (a b : Slot). is_lt (slot_cmp a b)) slot-order test slots up) in
        let passes : (j : ℕ) → j < length kept → test (get_or kept j x) ≡ true = λ j hj. (filter-Member test slots (get_or kept j x) (subst (λ (l : List Slot). Member l (get_or kept j x)) e (Member-get kept j x hj))).0 in
        rw (get_or-map (λ (s : Slot). s.place) kept (k + 1) x d (omega (arith, long, h)), get_or-map (λ (s : Slot). s.place) kept k x d (omega (arith, long, h)))
        (tie-places m (get_or kept (k + 1) x) (get_or kept k x) (passes (k + 1) (omega (arith, long, h))) (passes k (omega (arith, long, h))) (in-order k x (omega arith) (omega (arith, long, h))))

-- the places of one moment
pub moment-ranks : (ats : List ℤ) (t : Timeline) → IsTimeline ats t → (k d : ℕ) (e : ℤ) → k < length t.moments.items
    → take (get_or t.starts.items (k + 1) d - get_or t.starts.items k d) (drop (get_or t.starts.items k d) t.places.items) ≡ places_from 0 (int_eq (get_or t.moments.items k e)) ats
moment-ranks ats t it k d e h =
    let ms = t.moments.items in
    let m = get_or ms k e in
    let w : Window = record { from = k; end = k + 1 } in
    let here = segment-places ats t it (int_eq m) w d (omega arith) (omega (arith, h)) agree in
    here ∙ sorted-places (int_eq m) ats it.slots (map (λ (s : Slot). s.place) (filter (λ (s : Slot). int_eq m s.at) it.slots)) it.in_order.all (IsPermutation-refl (map (λ (s : Slot). s.place) (filter (λ (s : Slot). int_eq m s.at) it.slots))) (tied-sorted m it.slots it.in_order.sorted)
  where
    same-place : (j : ℕ) (f : ℤ) → j < length t.moments.items → get_or t.moments.items k e ≡ get_or t.moments.items j f → (k ≤ j) × (j < k + 1)
    same-place j f hj same = elim (le-or-lt k j) [
      | inr l ↦ absurd (let up = it.are_moments.rising j k f l h in let x = get_or_default t.moments.items k e f h in omega (arith, ints, up, same, x))
      | inl l ↦ (
        l,
        elim (le-or-lt (k + 1) j) [
          | inl over ↦ absurd (let up = it.are_moments.rising k j f (omega (arith, over)) hj in let x = get_or_default t.moments.items k e f h in omega (arith, ints, up, same, x))
          | inr under ↦ under
        ],
      )
    ]

    agree : (j : ℕ) (f : ℤ) → j < length t.moments.items → (int_eq (get_or t.moments.items k e) (get_or t.moments.items j f) ≡ true) ↔ ((k ≤ j) × (j < k + 1))
    agree j f hj = (
      λ q. same-place j f hj ((signed_Decides (get_or t.moments.items k e) (get_or t.moments.items j f)).0 q),
      λ p. (signed_Decides (get_or t.moments.items k e) (get_or t.moments.items j f)).1 (let u = p.0 in let v = p.1 in let x = get_or_default t.moments.items k e f h in x ∙ ap (λ (n : ℕ). get_or t.moments.items n f) (omega (arith, u, v))),
    )

-- what lies within two moments
abbrev pub is_within : ℤ → ℤ → ℤ → Bool
is_within low high x = int_le low x && int_le x high

pub within-agrees : (ms : List ℤ) (low high : ℤ) (w : Window) → IsWithin ms low high w → (k : ℕ) (e : ℤ) → k < length ms → (is_within low high (get_or ms k e) ≡ true) ↔ ((w.from ≤ k) × (k < w.end))
within-agrees ms low high w iw k e h =
    let x = get_or ms k e in (
      λ q. (let p = and_parts (int_le low x) (int_le x high) q in let a = p.0 in let b = p.1 in (iw.exact k e h).0 (grind (arith, ints, a), grind (arith, ints, b))),
      λ q. (let p = (iw.exact k e h).1 q in let a = p.0 in let b = p.1 in and_from (int_le low x) (int_le x high) (grind (arith, ints, a)) (grind (arith, ints, b))),
    )
