-- The moments of slots, each once, and where they begin.
use Rattle.std.proofs.Common.{◌⊎◌, inl, inr, ◌≡◌, ◌≤◌, ◌<◌, ◌+◌, ◌-◌, ℕ, zero, suc, ℤ, pos, ◌≤ℤ◌, ◌<ℤ◌, List, [], ◌∷◌, ◌++◌, true, false, length, refl, sym, ap, subst, ◌∙◌, arith, drop, get_or, int_le}
use Rattle.std.specs.Prelude.{int_lt}
use Rattle.std.specs.List.Sorted.{IsPartitionPoint}
use Rattle.std.specs.Ordering.{int_cmp}
use Rattle.std.specs.declared.cmp.Ordering.{Ordering}
use Rattle.std.specs.declared.cmp.Ordering.TheVariants.{Equal, Greater, Less}
use Rattle.std.proofs.lemmas.List.{get_or-drop, length-drop, length_push, get_or_append_left, get_or_push}
use Rattle.std.proofs.lemmas.Cmp.{int_ranked}
use Rattle.std.proofs.lemmas.Int.{ints}
use Rattle.crew_net.specs.Machinery.Moments.{AreMoments, AreStarts, Ascend, IsStart, Rise}
use Rattle.crew_net.specs.Machinery.Timelines.{IsWithin}
use Rattle.crew_net.specs.Machinery.Moments.{Slot}

-- the moments of the first n slots, each once, and where each begins
pub record SoFar (slots : List Slot) (n : ℕ) (moments : List ℤ) (starts : List ℕ) : Type 0 where
  pub few : length moments ≤ n
  pub long : length starts ≡ length moments
  pub rising : Rise moments
  pub every : (i : ℕ) (d : Slot) → i < n → (k : ℕ) × (k < length moments) × ((e : ℤ) → get_or moments k e ≡ (get_or slots i d).at)
  pub some : (k : ℕ) (e : ℤ) → k < length moments → (i : ℕ) × (i < n) × ((d : Slot) → (get_or slots i d).at ≡ get_or moments k e)
  pub within : (k d : ℕ) → k < length moments → get_or starts k d ≤ length slots
  pub points : (k d : ℕ) (e : ℤ) → k < length moments → IsStart slots (get_or moments k e) (get_or starts k d)

pub nothing-yet : (slots : List Slot) → SoFar slots 0 [] []
nothing-yet slots = record {
  few = omega arith;
  long = refl;
  rising = λ i j d a b. absurd (omega (arith, b));
  every = λ i d h. absurd (omega (arith, h));
  some = λ k e h. absurd (omega (arith, h));
  within = λ k d h. absurd (omega (arith, h));
  points = λ k d e h. absurd (omega (arith, h));
}

pub under-cases : (k n : ℕ) → k < n + 1 → (k < n) ⊎ (k ≡ n)
under-cases zero zero h = inr refl
under-cases zero (suc n) h = inl (omega arith)
under-cases (suc k) zero h = absurd (omega (arith, h))
under-cases (suc k) (suc n) h = elim (under-cases k n (omega (arith, h))) [ inl l ↦ inl (omega (arith, l)) | inr e ↦ inr (ap suc e) ]

strict : (x y : ℤ) → x ≤ℤ y → (x ≡ y → ⊥) → x <ℤ y
strict x y h f = by (int_cmp x y) refl
  where
    by : (r : Ordering) → int_cmp x y ≡ r → x <ℤ y
    by Less e = int_ranked x y Less (sym e)
    by Equal e = absurd (f (int_ranked x y Equal (sym e)))
    by Greater e = absurd (let r = int_ranked x y Greater (sym e) in omega (arith, ints, r, h))

module _ (slots : List Slot) (up : Ascend slots) (n : ℕ) (ms : List ℤ) (starts : List ℕ) (so : SoFar slots n ms starts) (at : ℤ) (low : n < length slots) (own : (d : Slot) → (get_or slots n d).at ≡ at) where
  one : Slot
  one = record { at = at; place = 0 }

  most : (k : ℕ) (e : ℤ) → k < length ms → get_or ms k e ≤ℤ at
  most k e h =
      let i = so.some k e h in
      let before = i.1 in
      let rise = up i.0 n one (omega (arith, before)) low in
      let is = i.2 one in
      let here = own one in
      omega (arith, ints, rise, is, here)

  -- the next slot is of the last moment
  pub same-moment : 0 < length ms → ((e : ℤ) → get_or ms (length ms - 1) e ≡ at) → SoFar slots (n + 1) ms starts
  same-moment some last = record {
    few = let h = so.few in omega (arith, h);
    long = so.long;
    rising = so.rising;
    every = λ i d h. elim (under-cases i n h) [
      | inl l ↦ so.every i d l
      | inr e ↦ (length ms - 1, omega (arith, some), λ x. last x ∙ (sym (own d) ∙ ap (λ (j : ℕ). (get_or slots j d).at) (sym e)))
    ];
    some = λ k e h. (let i = so.some k e h in let l = i.1 in (i.0, omega (arith, l), i.2));
    within = so.within;
    points = so.points;
  }

  module _ (apart : (e : ℤ) → 0 < length ms → get_or ms (length ms - 1) e ≡ at → ⊥) where
    less : (k : ℕ) (e : ℤ) → k < length ms → get_or ms k e <ℤ at
    less k e h =
        let last = length ms - 1 in
        let some : 0 < length ms = omega (arith, h) in
        let end : last < length ms = omega (arith, some) in
        let top = strict (get_or ms last e) at (most last e end) (apart e some) in
        elim (under-cases k last (omega (arith, h))) [
          | inl l ↦ (let rise = so.rising k last e l end in omega (arith, ints, rise, top))
          | inr q ↦ subst (λ (j : ℕ). get_or ms j e <ℤ at) (sym q) top
        ]

    begins : IsStart slots at n
    begins = (
      λ k d a l. (let e = so.every k d l in let under = less e.0 (pos 0) e.1 in let is = e.2 (pos 0) in grind (arith, ints, under, is)),
      λ k d a l. (let rise = up n k d a l in let here = own d in grind (arith, ints, rise, here)),
    )

    -- the next slot is of a moment of its own
    pub new-moment : SoFar slots (n + 1) (ms ++ at ∷ []) (starts ++ n ∷ [])
    new-moment =
        let long = length_push ms at in
        let starts-long = length_push starts n in
        let same = so.long in
        let few = so.few in
        let left : (k : ℕ) (e : ℤ) → k < length ms → get_or (ms ++ at ∷ []) k e ≡ get_or ms k e = λ k e l. get_or_append_left ms (at ∷ []) e k l in
        let right : (k : ℕ) (e : ℤ) → k ≡ length ms → get_or (ms ++ at ∷ []) k e ≡ at = λ k e q. get_or_push ms at e k (sym q) in
        let left' : (k d : ℕ) → k < length ms → get_or (starts ++ n ∷ []) k d ≡ get_or starts k d = λ k d l. get_or_append_left starts (n ∷ []) d k (omega (arith, l, same)) in
        let right' : (k d : ℕ) → k ≡ length ms → get_or (starts ++ n ∷ []) k d ≡ n = λ k d q. get_or_push starts n d k (same ∙ sym q) in
        let case : (k : ℕ) → k < length (ms ++ at ∷ []) → (k < length ms) ⊎ (k ≡ length ms) = λ k h. under-cases k (length ms) (omega (arith, h, long)) in
        record {
          few = omega (arith, long, few);
          long = omega (arith, long, starts-long, same);
          rising = λ i j d a b. elim (case j b) [
            | inl l ↦ (let p = left i d (omega (arith, a, l)) in let q = left j d l in let rise = so.rising i j d a l in omega (arith, ints, p, q, rise))
            | inr e ↦ (let p = left i d (omega (arith, a, e)) in let q = right j d e in let under = less i d (omega (arith, a, e)) in omega (arith, ints, p, q, under))
          ];
          every = λ i d h. elim (under-cases i n h) [
            | inl l ↦ (let e = so.every i d l in let in' = e.1 in (e.0, omega (arith, in', long), λ x. left e.0 x e.1 ∙ e.2 x))
            | inr q ↦ (length ms, omega (arith, long), λ x. right (length ms) x refl ∙ (sym (own d) ∙ ap (λ (j : ℕ). (get_or slots j d).at) (sym q)))
          ];
          some = λ k e h. elim (case k h) [
            | inl l ↦ (let i = so.some k e l in let before = i.1 in (i.0, omega (arith, before), λ d. i.2 d ∙ sym (left k e l)))
            | inr q ↦ (n, omega arith, λ d. own d ∙ sym (right k e q))
          ];
          within = λ k d h. elim (case k h) [
            | inl l ↦ (let p = left' k d l in let w = so.within k d l in omega (arith, p, w))
            | inr q ↦ (let p = right' k d q in omega (arith, p, low))
          ];
          points = λ k d e h. elim (case k h) [
            | inl l ↦ subst (λ (m : ℤ). IsStart slots m (get_or (starts ++ n ∷ []) k d)) (sym (left k e l)) (subst (IsStart slots (get_or ms k e)) (sym (left' k d l)) (so.points k d e l))
            | inr q ↦ subst (λ (m : ℤ). IsStart slots m (get_or (starts ++ n ∷ []) k d)) (sym (right k e q)) (subst (IsStart slots at) (sym (right' k d q)) begins)
          ];
        }

module _ (slots : List Slot) (n : ℕ) (ms : List ℤ) (starts : List ℕ) (so : SoFar slots n ms starts) (all : n ≡ length slots) where
  pub all-moments : AreMoments slots ms
  all-moments =
      let few = so.few in
      record {
        few = omega (arith, few, all);
        rising = so.rising;
        every = λ i d h. so.every i d (omega (arith, h, all));
        some = λ k e h. (let i = so.some k e h in let l = i.1 in (i.0, omega (arith, l, all), i.2));
      }

  pub all-starts : (end : ℕ) → end ≡ length slots → AreStarts slots ms (starts ++ end ∷ [])
  all-starts end is =
      let long = length_push starts end in
      let before = so.long in
      record {
        long = omega (arith, long, before);
        within = λ k d h. elim (under-cases k (length ms) (omega (arith, h, long, before))) [
          | inl l ↦ (let e = get_or_append_left starts (end ∷ []) d k (omega (arith, l, before)) in let q = so.within k d l in omega (arith, e, q))
          | inr e ↦ (let f = get_or_push starts end d k (before ∙ sym e) in omega (arith, f, is))
        ];
        points = λ k d e l. subst (IsStart slots (get_or ms k e)) (sym (get_or_append_left starts (end ∷ []) d k (omega (arith, l, before)))) (so.points k d e l);
        end = λ d. get_or_push starts end d (length ms) before ∙ is;
      }

-- the moments between two partition points
pub within : (ms : List ℤ) (low high : ℤ) (i n : ℕ) → i ≤ length ms → n ≤ length (drop i ms)
    → IsPartitionPoint (λ x. int_lt x low ≡ true) (λ x. int_lt x low ≡ false) ms i
    → IsPartitionPoint (λ x. int_le x high ≡ true) (λ x. int_le x high ≡ false) (drop i ms) n
    → IsWithin ms low high (record { from = i; end = i + n })
within ms low high i n a b early late =
    let long = length-drop i ms in
    record {
      ordered = omega arith;
      bound = omega (arith, long, a, b);
      exact = λ k e h. (
        λ p. (from k e h p, below k e h p),
        λ p. (let f = early.1 k e p.0 h in grind (arith, ints, f), least k e h p),
      );
    }
  where
    from : (k : ℕ) (e : ℤ) → k < length ms → (low ≤ℤ get_or ms k e) × (get_or ms k e ≤ℤ high) → i ≤ k
    from k e h p = elim (cases i k) [ inl l ↦ l | inr l ↦ absurd (let f = early.0 k e (omega arith) l in let q = p.0 in grind (arith, ints, f, q)) ]
      where
        cases : (i k : ℕ) → (i ≤ k) ⊎ (k < i)
        cases zero k = inl (omega arith)
        cases (suc i) zero = inr (omega arith)
        cases (suc i) (suc k) = elim (cases i k) [ inl l ↦ inl (omega (arith, l)) | inr l ↦ inr (omega (arith, l)) ]

    below : (k : ℕ) (e : ℤ) → k < length ms → (low ≤ℤ get_or ms k e) × (get_or ms k e ≤ℤ high) → k < i + n
    below k e h p = elim (cases k (i + n)) [
      | inl l ↦ l
      | inr l ↦ absurd (
          let long = length-drop i ms in
          let over = late.1 (k - i) e (omega (arith, l)) (omega (arith, long, h, l)) in
          let place = get_or-drop i ms (k - i) e in
          let same : i + (k - i) ≡ k = omega (arith, l) in
          let x : get_or (drop i ms) (k - i) e ≡ get_or ms k e = place ∙ ap (λ (j : ℕ). get_or ms j e) same in
          let q = p.1 in
          grind (arith, ints, over, x, q))
    ]
      where
        cases : (k m : ℕ) → (k < m) ⊎ (m ≤ k)
        cases k zero = inr (omega arith)
        cases zero (suc m) = inl (omega arith)
        cases (suc k) (suc m) = elim (cases k m) [ inl l ↦ inl (omega (arith, l)) | inr l ↦ inr (omega (arith, l)) ]

    least : (k : ℕ) (e : ℤ) → k < length ms → (i ≤ k) × (k < i + n) → get_or ms k e ≤ℤ high
    least k e h p =
        let under = late.0 (k - i) e (omega arith) (let u = p.0 in let v = p.1 in omega (arith, u, v)) in
        let place = get_or-drop i ms (k - i) e in
        let same : i + (k - i) ≡ k = let u = p.0 in omega (arith, u) in
        let x : get_or (drop i ms) (k - i) e ≡ get_or ms k e = place ∙ ap (λ (j : ℕ). get_or ms j e) same in
        grind (arith, ints, under, x)
