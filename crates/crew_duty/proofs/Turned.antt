-- The turn between two flights, among those of the first.
use Rattle.std.proofs.Common.{◌≡◌, ◌∙◌, ◌&&◌, ℕ, Bool, true, false, cond, List, [], ◌∷◌, Option, Some, refl, sym, ap, filter}
use Rattle.std.specs.declared.cmp.Ordering.{Ordering}
use Rattle.std.specs.declared.cmp.Ordering.TheVariants.{Equal, Greater, Less}
use Rattle.std.specs.Ordering.{eq_by_cmp, is_eq, nat_cmp, ordering_then}
use Rattle.std.specs.Cmp.{eq_by_cmp_equiv, nat_cmp_total}
use Rattle.std.specs.FinMap as map
use Rattle.std.specs.FinMap.{find}
use Rattle.crew_flights.specs.Codes.{pair_cmp}
use Rattle.crew_flights.specs.Timetable.{Turns}
use Rattle.crew_flights.specs.declared.flight.Flight.{Flight}
use Rattle.crew_duty.specs.Machinery.Turns.{minutes_to, turns_from}

-- both parts of a pair tie
both-equal : (r q : Ordering) → is_eq (ordering_then r q) ≡ (is_eq r && is_eq q)
both-equal Less q = refl
both-equal Equal q = refl
both-equal Greater q = refl

-- an entry that is looked for by both flights, and by the second among those of the first
one-entry : (a b : Bool) (v : ℕ) (found : Option ℕ) (rest : List ((ℕ × ℕ) × ℕ)) (e : (ℕ × ℕ) × ℕ) (after : ℕ) → eq_by_cmp nat_cmp e.0.1 after ≡ b → e.1 ≡ v → found ≡ minutes_to after rest
    → cond (a && b) (Some v) found ≡ minutes_to after (cond a (e ∷ rest) rest)
one-entry true true v found rest e after is value h = ap (λ (t : Bool). cond t (Some v) found) (sym is) ∙ (λ i. cond (eq_by_cmp nat_cmp e.0.1 after) (Some (sym value i)) (h i))
one-entry true false v found rest e after is value h = h ∙ ap (λ (t : Bool). cond t (Some e.1) (minutes_to after rest)) (sym is)
one-entry false b v found rest e after is value h = h

found-among : (before after : ℕ) (es : List ((ℕ × ℕ) × ℕ)) → find pair_cmp (before, after) es ≡ minutes_to after (filter (λ e. eq_by_cmp nat_cmp e.0.0 before) es)
found-among before after [] = refl
found-among before after (e ∷ es) =
    let swapped = (eq_by_cmp_equiv nat_cmp_total).symm before e.0.0 in
    let second = (eq_by_cmp_equiv nat_cmp_total).symm after e.0.1 in
    let tests : eq_by_cmp pair_cmp (before, after) e.0 ≡ (eq_by_cmp nat_cmp e.0.0 before && eq_by_cmp nat_cmp e.0.1 after) =
    both-equal (nat_cmp before e.0.0) (nat_cmp after e.0.1) ∙ (λ i. swapped i && second i) in
    ap (λ (t : Bool). cond t (Some e.1) (find pair_cmp (before, after) es)) tests
    ∙ one-entry (eq_by_cmp nat_cmp e.0.0 before) (eq_by_cmp nat_cmp e.0.1 after) e.1 (find pair_cmp (before, after) es) (filter (λ x. eq_by_cmp nat_cmp x.0.0 before) es) e after refl refl (found-among before after es)

-- the turn between two flights stands among those of the first
pub turn-among : (turns : Turns) (before after : ℕ) → map.get turns (before, after) ≡ minutes_to after (turns_from turns before)
turn-among turns before after = map.get-entries turns (before, after) ∙ found-among before after (map.entries turns)

-- one filter after another
pub filter-both : {X : Type 0} (p q : X → Bool) (xs : List X) → filter (λ x. p x && q x) xs ≡ filter p (filter q xs)
filter-both p q [] = refl
filter-both {X} p q (x ∷ xs) = by (p x) (q x) refl (filter-both p q xs)
  where
    by : (a b : Bool) → p x ≡ a → filter (λ y. p y && q y) xs ≡ filter p (filter q xs)
        → cond (a && b) (x ∷ filter (λ y. p y && q y) xs) (filter (λ y. p y && q y) xs) ≡ filter p (cond b (x ∷ filter q xs) (filter q xs))
    by true true e h = rw e (ap (λ (l : List X). x ∷ l) h)
    by true false e h = h
    by false true e h = rw e h
    by false false e h = h

-- one filter by another test that answers alike
pub filter-alike : (p q : Flight → Bool) (fs : List Flight) → ((f : Flight) → p f ≡ q f) → filter p fs ≡ filter q fs
filter-alike p q [] h = refl
filter-alike p q (f ∷ fs) h = rw (h f, filter-alike p q fs h) refl
