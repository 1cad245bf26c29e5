-- Counts of one flight more, and of more flights.
use Rattle.std.proofs.Common.{Some, ◌≡◌, ◌≤◌, ◌<◌, ◌+◌, ◌-◌, min, ℕ, zero, suc, List, [], ◌∷◌, ◌++◌, length, refl, sym, ap, ◌∙◌, subst, arith, sum, get_or, append-nil, length-append, Bool, true, false, nat_lt, ◌⊎◌, inl, inr}
use Rattle.std.proofs.lemmas.Bool.Decides.{nat_tests}
use Rattle.std.specs.List.{flat_map, range_with_len}
use Rattle.std.proofs.lemmas.Grind.{flat_map-append}
use Rattle.std.proofs.lemmas.List.Sums.{sum_by-cons}
use Rattle.std.specs.Prelude.{slice_get}
use Rattle.crew_flights.specs.declared.flight.Flight.{Flight}
use Rattle.crew_rules.specs.declared.settings.Settings.{Settings}
use Rattle.crew_duty.specs.Machinery.Counts.{AreCounts, AreExact}
use Rattle.crew_pairing.specs.Flights.{Flights}
use Rattle.crew_pairing.specs.Machinery.Listing.{all_duties, from_flight, from_place}
use Rattle.crew_pairing.specs.declared.duty.Duty.{Duty}
use Rattle.crew_duty.proofs.Parts.{all-places}

pub range-more : (i n : ℕ) → range_with_len i (n + 1) ≡ range_with_len i n ++ (i + n) ∷ []
range-more i zero = let e : i + 0 ≡ i = omega arith in rw e refl
range-more i (suc n) =
    let on : (i + 1) + n ≡ i + suc n = omega arith in
    let at : suc n + 1 ≡ suc (n + 1) = omega arith in
    rw at (ap (λ (l : List ℕ). i ∷ l) (range-more (i + 1) n ∙ ap (λ (k : ℕ). range_with_len (i + 1) n ++ k ∷ []) on))

pub range-append : (i m n : ℕ) → range_with_len i (m + n) ≡ range_with_len i m ++ range_with_len (i + m) n
range-append i zero n =
    let e : i + 0 ≡ i = omega arith in
    let z : 0 + n ≡ n = omega arith in
    rw (e, z) refl
range-append i (suc m) n =
    let on : (i + 1) + m ≡ i + suc m = omega arith in
    let at : suc m + n ≡ suc (m + n) = omega arith in
    rw at (ap (λ (l : List ℕ). i ∷ l) (range-append (i + 1) m n ∙ ap (λ (k : ℕ). range_with_len (i + 1) m ++ range_with_len k n) on))

pub sum-cons : (n : ℕ) (ns : List ℕ) → sum (n ∷ ns) ≡ n + sum ns
sum-cons n ns = sum_by-cons (λ (m : ℕ). m) n ns

pub sum-append : (ms ns : List ℕ) → sum (ms ++ ns) ≡ sum ms + sum ns
sum-append [] ns = omega arith
sum-append (m ∷ ms) ns = omega (arith, sum-append ms ns, sum-cons m ms, sum-cons m (ms ++ ns))

pub exact-append : (F : ℕ → List Duty) (from : ℕ) (ms ns : List ℕ) → AreExact F from ms → AreExact F (from + length ms) ns → AreExact F from (ms ++ ns)
exact-append F from [] ns h k = let e : from + 0 ≡ from = omega arith in rw e at k
exact-append F from (m ∷ ms) ns h k =
    let e : from + suc (length ms) ≡ (from + 1) + length ms = omega arith in
    (h.0, exact-append F (from + 1) ms ns h.1 (rw e at k))

-- exact counts come to the length of all
pub exact-total : (F : ℕ → List Duty) (from : ℕ) (ns : List ℕ) → AreExact F from ns → sum ns ≡ length (flat_map F (range_with_len from (length ns)))
exact-total F from [] h = refl
exact-total F from (n ∷ ns) h =
    omega (arith, h.0, exact-total F (from + 1) ns h.1, sum-cons n ns, length-append (F from) (flat_map F (range_with_len (from + 1) (length ns))))

-- the lists of one flight more
pub all-more : (F : ℕ → List Duty) (from i : ℕ) → flat_map F (range_with_len from (i + 1)) ≡ flat_map F (range_with_len from i) ++ F (from + i)
all-more F from i = ap (flat_map F) (range-more from i) ∙ flat_map-append F (range_with_len from i) ((from + i) ∷ []) ∙ ap (λ (l : List Duty). flat_map F (range_with_len from i) ++ l) (append-nil (F (from + i)))

-- none are counted yet
pub counts-none : (F : ℕ → List Duty) (from : ℕ) → AreCounts F from 0 []
counts-none F from = record { all = refl; exact = λ h. tt; over = λ h. absurd (omega (arith, h)) }

-- one flight more
pub counts-more : (F : ℕ → List Duty) (from i : ℕ) (ns : List ℕ) (total longer : ℕ) → AreCounts F from i ns → total ≡ sum ns → total ≡ min (length (flat_map F (range_with_len from i))) 200_001
    → longer ≡ min (total + length (F (from + i))) 200_001 → AreCounts F from (i + 1) (ns ++ (longer - total) ∷ [])
counts-more F from i ns total longer are t m l =
    let n = longer - total in
    let all = are.all in
    let added = sum-append ns (n ∷ []) in
    let alone = sum-cons n [] in
    let grown = ap (flat_map F) (range-more from i) ∙ flat_map-append F (range_with_len from i) ((from + i) ∷ []) in
    let long = length-append (flat_map F (range_with_len from i)) (flat_map F ((from + i) ∷ [])) in
    let one = length-append (F (from + i)) [] in record {
      all = omega (arith, length-append ns (n ∷ []), all);
      exact = λ few. exact-append F from ns (n ∷ []) (are.exact (omega (arith, few, added)))
          (let here : n ≡ length (F (from + i)) = omega (arith, few, added, alone, t, l) in
          let at : from + length ns ≡ from + i = omega (arith, all) in
          rw at (here, tt));
      over = λ more. omega (arith, more, added, alone, t, m, l, ap length grown, long, one);
    }

few-or-more : (n : ℕ) → (200_000 < n) ⊎ (n ≤ 200_000)
few-or-more n = by (nat_lt 200_000 n) refl
  where
    by : (b : Bool) → nat_lt 200_000 n ≡ b → (200_000 < n) ⊎ (n ≤ 200_000)
    by true e = inl (grind (arith, nat_tests, e))
    by false e = inr (grind (arith, nat_tests, e))

-- the counts of more flights behind these
pub counts-append : (F : ℕ → List Duty) (from i j : ℕ) (ms ns : List ℕ) → AreCounts F from i ms → AreCounts F (from + i) j ns → AreCounts F from (i + j) (ms ++ ns)
counts-append F from i j ms ns a b =
    let added = sum-append ms ns in
    let all-a = a.all in
    let all-b = b.all in
    let whole = ap (flat_map F) (range-append from i j) ∙ flat_map-append F (range_with_len from i) (range_with_len (from + i) j) in
    let long = length-append (flat_map F (range_with_len from i)) (flat_map F (range_with_len (from + i) j)) in record {
      all = omega (arith, length-append ms ns, all-a, all-b);
      exact = λ few. exact-append F from ms ns (a.exact (omega (arith, few, added))) (let at : from + i ≡ from + length ms = omega (arith, all-a) in rw at at (b.exact (omega (arith, few, added))));
      over = λ more. over-by more added whole long;
    }
  where
    both-few : sum ms ≤ 200_000 → sum ns ≤ 200_000 → sum ms + sum ns ≡ length (flat_map F (range_with_len from i)) + length (flat_map F (range_with_len (from + i) j))
    both-few h k =
        let x = exact-total F from ms (a.exact h) in
        let y = exact-total F (from + i) ns (b.exact k) in
        let ea = ap (λ (n : ℕ). length (flat_map F (range_with_len from n))) a.all in
        let eb = ap (λ (n : ℕ). length (flat_map F (range_with_len (from + i) n))) b.all in
        omega (arith, x, y, ea, eb)

    over-by : 200_000 < sum (ms ++ ns) → sum (ms ++ ns) ≡ sum ms + sum ns → flat_map F (range_with_len from (i + j)) ≡ flat_map F (range_with_len from i) ++ flat_map F (range_with_len (from + i) j)
        → length (flat_map F (range_with_len from i) ++ flat_map F (range_with_len (from + i) j)) ≡ length (flat_map F (range_with_len from i)) + length (flat_map F (range_with_len (from + i) j)) → 200_000 < length (flat_map F (range_with_len from (i + j)))
    over-by more added whole long = elim (few-or-more (sum ms)) [
      | inl h ↦ omega (arith, a.over h, ap length whole, long)
      | inr h ↦ elim (few-or-more (sum ns)) [
        | inl k ↦ omega (arith, b.over k, ap length whole, long)
        | inr k ↦ omega (arith, both-few h k, more, added, ap length whole, long)
      ]
    ]

pub sum-more : (F : ℕ → List Duty) (from i : ℕ) (ns : List ℕ) (total longer : ℕ) → total ≡ sum ns → total ≡ min (length (flat_map F (range_with_len from i))) 200_001
    → longer ≡ min (total + length (F (from + i))) 200_001 → longer ≡ sum (ns ++ (longer - total) ∷ [])
sum-more F from i ns total longer t m l = omega (arith, t, m, l, sum-append ns ((longer - total) ∷ []), sum-cons (longer - total) [])

pub total-more : (F : ℕ → List Duty) (from i total longer : ℕ) → total ≡ min (length (flat_map F (range_with_len from i))) 200_001
    → longer ≡ min (total + length (F (from + i))) 200_001 → longer ≡ min (length (flat_map F (range_with_len from (i + 1)))) 200_001
total-more F from i total longer m l =
    omega (arith, m, l, ap length (all-more F from i), length-append (flat_map F (range_with_len from i)) (F (from + i)))

-- the counts of all flights
pub all-listed : (s : Settings) (flights : Flights) → flat_map (from_place s flights) (range_with_len 0 (length flights.list)) ≡ all_duties s flights
all-listed s flights = all-places (from_flight s flights) flights.list flights.list 0 (λ k f e. subst (λ (m : ℕ). slice_get flights.list m ≡ Some f) (omega arith) e)

-- too many are counted only where there are
pub counts-over : (s : Settings) (flights : Flights) (counts : List ℕ) → AreCounts (from_place s flights) 0 (length flights.list) counts → 200_000 < sum counts → 200_000 < length (all_duties s flights)
counts-over s flights counts are more = rw (← all-listed s flights) (are.over more)

-- and few only where there are few
pub counts-few : (s : Settings) (flights : Flights) (counts : List ℕ) → AreCounts (from_place s flights) 0 (length flights.list) counts → sum counts ≤ 200_000 → length (all_duties s flights) ≡ sum counts
counts-few s flights counts are few =
    let total = exact-total (from_place s flights) 0 counts (are.exact few) in
    let all = are.all in
    sym (total ∙ ap (λ (n : ℕ). length (flat_map (from_place s flights) (range_with_len 0 n))) all ∙ ap length (all-listed s flights))

-- the count of one flight, and what stands before it
pub exact-at : (F : ℕ → List Duty) (from : ℕ) (ns : List ℕ) (i d : ℕ) → i < length ns → AreExact F from ns
    → (get_or ns i d ≡ length (F (from + i))) × (length (flat_map F (range_with_len from i)) + get_or ns i d ≤ sum ns)
exact-at F from [] i d h e = absurd (omega (arith, h))
exact-at F from (n ∷ ns) zero d h e =
    let z : from + 0 ≡ from = omega arith in
    (rw z e.0, omega (arith, sum-cons n ns))
exact-at F from (n ∷ ns) (suc i) d h e =
    let r = exact-at F (from + 1) ns i d (omega (arith, h)) e.1 in
    let on : from + suc i ≡ (from + 1) + i = omega arith in
    (rw on r.0, omega (arith, r.1, e.0, sum-cons n ns, length-append (F from) (flat_map F (range_with_len (from + 1) i))))

-- the lists before one, and that one, are no longer than all
pub length-at : (F : ℕ → List Duty) (i many : ℕ) → i < many → length (flat_map F (range_with_len 0 i)) + length (F i) ≤ length (flat_map F (range_with_len 0 many))
length-at F i many h =
    let rest : many ≡ (i + 1) + (many - (i + 1)) = omega (arith, h) in
    let cut = ap (λ (n : ℕ). flat_map F (range_with_len 0 n)) rest ∙ ap (flat_map F) (range-append 0 (i + 1) (many - (i + 1))) ∙ flat_map-append F (range_with_len 0 (i + 1)) (range_with_len (0 + (i + 1)) (many - (i + 1))) in
    let long = length-append (flat_map F (range_with_len 0 (i + 1))) (flat_map F (range_with_len (0 + (i + 1)) (many - (i + 1)))) in
    let here : 0 + i ≡ i = omega arith in
    let more = all-more F 0 i ∙ ap (λ (n : ℕ). flat_map F (range_with_len 0 i) ++ F n) here in
    omega (arith, ap length cut, long, ap length more, length-append (flat_map F (range_with_len 0 i)) (F i))
