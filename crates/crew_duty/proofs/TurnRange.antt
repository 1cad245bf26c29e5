-- The turns of one earlier flight are one range of all.
use Rattle.std.proofs.Common.{◌≡◌, ◌≤◌, ◌<◌, ◌+◌, ◌∙◌, ℕ, zero, suc, List, [], ◌∷◌, Bool, true, false, ◌&&◌, length, refl, sym, ap, arith, take, drop, get_or, filter, nat_lt, nat_le}
use Rattle.std.specs.Prelude.{◌==◌, T}
use Rattle.std.specs.Bool.{Decides}
use Rattle.std.specs.List.Sorted.{IsPartitionPoint, IsPartitionedBy}
use Rattle.std.specs.declared.cmp.Ordering.{Ordering}
use Rattle.std.specs.declared.cmp.Ordering.TheVariants.{Equal, Greater, Less}
use Rattle.std.specs.Ordering.{eq_by_cmp, is_lt, nat_cmp, ordering_then}
use Rattle.std.specs.Cmp.{unsigned_tied}
use Rattle.std.specs.FinMap as map
use Rattle.std.specs.FinMap.{is_sorted}
use Rattle.std.specs.FinMap.Entries.{below_all}
use Rattle.std.proofs.lemmas.Bool.{and_from, and_parts}
use Rattle.std.proofs.lemmas.Bool.Decides.{Decides-eqb, nat_tests}
use Rattle.std.proofs.lemmas.Cmp.{ranked}
use Rattle.std.proofs.lemmas.List.{get_or-drop, length-drop}
use Rattle.crew_flights.specs.Codes.{pair_cmp}
use Rattle.crew_flights.specs.Timetable.{Turns}
use Rattle.crew_pairing.proofs.Windows.{window}

abbrev pub Entries : Type 0
Entries = List ((ℕ × ℕ) × ℕ)

-- the earlier flights of turns climb
abbrev pub Climbs : Entries → Type 0
Climbs es = (i j : ℕ) (d : (ℕ × ℕ) × ℕ) → i ≤ j → j < length es → (get_or es i d).0.0 ≤ (get_or es j d).0.0

first-most : (a b : ℕ) (rest : Ordering) → is_lt (ordering_then (nat_cmp a b) rest) ≡ true → a ≤ b
first-most a b rest h = by (nat_cmp a b) refl h
  where
    by : (r : Ordering) → nat_cmp a b ≡ r → is_lt (ordering_then r rest) ≡ true → a ≤ b
    by Less e k = let q : a < b = ranked a b Less (sym e) in omega (arith, q)
    by Equal e k = let q : a ≡ b = ranked a b Equal (sym e) in omega (arith, q)
    by Greater e k = absurd (cc)

below-all : (x : ℕ × ℕ) (es : Entries) (k : ℕ) (d : (ℕ × ℕ) × ℕ) → below_all pair_cmp x es ≡ true → k < length es → x.0 ≤ (get_or es k d).0.0
below-all x [] k d h within = absurd (omega (arith, within))
below-all x (e ∷ es) zero d h within = first-most x.0 e.0.0 (nat_cmp x.1 e.0.1) (and_parts (is_lt (pair_cmp x e.0)) (below_all pair_cmp x es) h).0
below-all x (e ∷ es) (suc k) d h within = below-all x es k d (and_parts (is_lt (pair_cmp x e.0)) (below_all pair_cmp x es) h).1 (omega (arith, within))

pub climbs : (es : Entries) → is_sorted pair_cmp es ≡ true → Climbs es
climbs [] h i j d a b = absurd (omega (arith, b))
climbs (e ∷ es) h zero zero d a b = omega arith
climbs (e ∷ es) h zero (suc j) d a b = below-all e.0 es j d (and_parts (below_all pair_cmp e.0 es) (is_sorted pair_cmp es) h).0 (omega (arith, b))
climbs (e ∷ es) h (suc i) zero d a b = absurd (omega (arith, a))
climbs (e ∷ es) h (suc i) (suc j) d a b = climbs es (and_parts (below_all pair_cmp e.0 es) (is_sorted pair_cmp es) h).1 i j d (omega (arith, a)) (omega (arith, b))

pub climbs-drop : (es : Entries) (n : ℕ) → Climbs es → Climbs (drop n es)
climbs-drop es zero up = up
climbs-drop [] (suc n) up = λ i j d a b. absurd (omega (arith, b))
climbs-drop (e ∷ es) (suc n) up = climbs-drop es n (λ i j d a b. up (suc i) (suc j) d (omega (arith, a)) (omega (arith, b)))

pub early-parted : (es : Entries) (n : ℕ) → Climbs es → IsPartitionedBy (λ e. nat_lt e.0.0 n) es
early-parted es n up i j d a b h = let k = up i j d a b in grind (arith, nat_tests)

pub late-parted : (es : Entries) (n : ℕ) → Climbs es → IsPartitionedBy (λ e. nat_le e.0.0 n) es
late-parted es n up i j d a b h = let k = up i j d a b in grind (arith, nat_tests)

too-early : (a n : ℕ) → nat_lt a n ≡ true → eq_by_cmp nat_cmp a n ≡ false
too-early a n h = let q : (a == n) ≡ false = grind (arith, nat_tests) in unsigned_tied a n ∙ q

just : (a n : ℕ) → nat_lt a n ≡ false → nat_le a n ≡ true → eq_by_cmp nat_cmp a n ≡ true
just a n h k = let q : (a == n) ≡ true = grind (arith, nat_tests) in unsigned_tied a n ∙ q

too-late : (a n : ℕ) → nat_le a n ≡ false → eq_by_cmp nat_cmp a n ≡ false
too-late a n h = let q : (a == n) ≡ false = grind (arith, nat_tests) in unsigned_tied a n ∙ q

-- what stands between two partition points
pub between-turns : (es : Entries) (number i n : ℕ) → i ≤ length es → n ≤ length (drop i es)
    → IsPartitionPoint (λ e. nat_lt e.0.0 number ≡ true) (λ e. nat_lt e.0.0 number ≡ false) es i
    → IsPartitionPoint (λ e. nat_le e.0.0 number ≡ true) (λ e. nat_le e.0.0 number ≡ false) (drop i es) n
    → take n (drop i es) ≡ filter (λ e. eq_by_cmp nat_cmp e.0.0 number) es
between-turns es number i n a b early late =
    window (λ (e : (ℕ × ℕ) × ℕ). eq_by_cmp nat_cmp e.0.0 number) es i n b
    (λ k d m o. too-early (get_or es k d).0.0 number (early.0 k d (omega arith) m))
    (λ k d m.
    let long = length-drop i es in
    let place = get_or-drop i es k d in
    let later = early.1 (i + k) d (omega arith) (omega (arith, long, b, m, a)) in
    just (get_or (drop i es) k d).0.0 number (rw place later) (late.0 k d (omega arith) m))
    (λ k d m o. too-late (get_or (drop i es) k d).0.0 number (late.1 k d m o))

true-to-T : (b : Bool) → b ≡ true → T b
true-to-T true h = tt
true-to-T false h = absurd (cc)

-- the entries of turns that are held in order
pub entries-held : (es : Entries) → is_sorted pair_cmp es ≡ true → map.entries (map.from_sorted {R = pair_cmp} es) ≡ es
entries-held es h = map.entries-from_sorted pair_cmp es (true-to-T (is_sorted pair_cmp es) h)

T-to-true : (b : Bool) → T b → b ≡ true
T-to-true true h = refl
T-to-true false h = absurd h

pub entries-in-order : (turns : Turns) → is_sorted pair_cmp (map.entries turns) ≡ true
entries-in-order turns = T-to-true (is_sorted pair_cmp (map.entries turns)) (map.entries_sorted turns)

-- turns again, from their entries
pub turns-again : (turns : Turns) (es : Entries) → es ≡ map.entries turns → map.from_sorted {R = pair_cmp} es ≡ turns
turns-again turns es e = map.same_entries_map (map.from_sorted es) turns (entries-held es (rw e (entries-in-order turns)) ∙ e)

-- turns that are found equal are one
turn-equal : (a b : ℕ) → eq_by_cmp nat_cmp a b ≡ true → a ≡ b
turn-equal a b h = (Decides-eqb a b).0 (sym (unsigned_tied a b) ∙ h)

equal-turn : (a b : ℕ) → a ≡ b → eq_by_cmp nat_cmp a b ≡ true
equal-turn a b e = unsigned_tied a b ∙ (Decides-eqb a b).1 e

pub turn-decides : (x y : (ℕ × ℕ) × ℕ) → Decides ((eq_by_cmp nat_cmp x.0.0 y.0.0 && eq_by_cmp nat_cmp x.0.1 y.0.1) && (x.1 == y.1)) (x ≡ y)
turn-decides x y = (
  λ t.
      let a = and_parts (eq_by_cmp nat_cmp x.0.0 y.0.0 && eq_by_cmp nat_cmp x.0.1 y.0.1) (x.1 == y.1) t in
      let b = and_parts (eq_by_cmp nat_cmp x.0.0 y.0.0) (eq_by_cmp nat_cmp x.0.1 y.0.1) a.0 in
      let first = turn-equal x.0.0 y.0.0 b.0 in
      let second = turn-equal x.0.1 y.0.1 b.1 in
      let minutes = (Decides-eqb x.1 y.1).0 a.1 in
      λ i. ((first i, second i), minutes i),
  λ e.
      and_from (eq_by_cmp nat_cmp x.0.0 y.0.0 && eq_by_cmp nat_cmp x.0.1 y.0.1) (x.1 == y.1)
      (and_from (eq_by_cmp nat_cmp x.0.0 y.0.0) (eq_by_cmp nat_cmp x.0.1 y.0.1) (equal-turn x.0.0 y.0.0 (ap (λ (z : (ℕ × ℕ) × ℕ). z.0.0) e)) (equal-turn x.0.1 y.0.1 (ap (λ (z : (ℕ × ℕ) × ℕ). z.0.1) e)))
      ((Decides-eqb x.1 y.1).1 (ap (λ (z : (ℕ × ℕ) × ℕ). z.1) e)),
)
