-- The bases of a timetable rise.
use Rattle.std.proofs.Common.{◌≡◌, ℕ, ℤ, Bool, true, false, List, [], ◌∷◌, refl, map, ◌&&◌}
use lib.Dec.{T}
use Rattle.std.specs.declared.cmp.Ordering.{Ordering}
use Rattle.std.specs.declared.cmp.Ordering.TheVariants.{Less, Equal, Greater}
use Rattle.std.specs.Ordering.{is_lt}
use Rattle.std.specs.FinMap as fin
use Rattle.std.specs.FinMap.{is_sorted}
use Rattle.std.specs.FinMap.Entries.{below_all}
use Rattle.crew_flights.specs.Codes.{code_cmp}
use Rattle.crew_flights.specs.Timetable.{Timetable}
use Rattle.crew_net.specs.Nets.{RiseByCode}
use Rattle.crew_resource.specs.Members.{Each}

both-first : (a b : Bool) → (a && b) ≡ true → a ≡ true
both-first true b e = refl
both-first false b e = cc

both-second : (a b : Bool) → (a && b) ≡ true → b ≡ true
both-second true b e = e
both-second false b e = cc

is-less : (r : Ordering) → is_lt r ≡ true → r ≡ Less
is-less Less e = refl
is-less Equal e = cc
is-less Greater e = cc

true-of : (b : Bool) → T b → b ≡ true
true-of true h = refl
true-of false h = absurd h

each-below : (k : List ℕ) (es : List (List ℕ × ℤ)) → below_all code_cmp k es ≡ true → Each (λ l. code_cmp k l ≡ Less) (map (λ (e : List ℕ × ℤ). e.0) es)
each-below k [] b = tt
each-below k (h ∷ es) b = (is-less (code_cmp k h.0) (both-first _ _ b), each-below k es (both-second _ _ b))

rises : (es : List (List ℕ × ℤ)) → is_sorted code_cmp es ≡ true → RiseByCode (map (λ (e : List ℕ × ℤ). e.0) es)
rises [] s = tt
rises (h ∷ es) s = (each-below h.0 es (both-first _ _ s), rises es (both-second _ _ s))

pub keys-rise : (t : Timetable) → RiseByCode (fin.keys t.bases)
keys-rise t = rises (fin.entries t.bases) (true-of (is_sorted code_cmp (fin.entries t.bases)) (fin.entries_sorted t.bases))
