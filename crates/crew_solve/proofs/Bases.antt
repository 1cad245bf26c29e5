-- The entries of the bases are what the map holds.
use Rattle.std.proofs.Common.{◌≡◌, ℕ, ℤ, Bool, true, false, cond, List, [], ◌∷◌, Some, refl, sym, ap, subst, map, ◌∙◌, ◌&&◌, inl, inr}
use lib.Dec.{T}
use Rattle.std.specs.declared.cmp.Ordering.{Ordering}
use Rattle.std.specs.declared.cmp.Ordering.TheVariants.{Less, Equal, Greater}
use Rattle.std.specs.Ordering.{eq_by_cmp, is_eq, is_lt, ordering_reverse}
use Rattle.std.proofs.lemmas.Cmp.{tied_itself}
use Rattle.std.specs.FinMap as fin
use Rattle.std.specs.FinMap.{find, is_sorted}
use Rattle.std.specs.FinMap.Entries.{below_all}
use Rattle.crew_flights.specs.Codes.{code_cmp, code_cmp_total}
use Rattle.crew_flights.specs.Timetable.{Timetable}
use Rattle.crew_resource.specs.Members.{Each, Member}
use Rattle.crew_vector.proofs.Orders.{same-code}

abbrev Bases : Type 0
Bases = List (List ℕ × ℤ)

both-first : (a b : Bool) → (a && b) ≡ true → a ≡ true
both-first true b e = refl
both-first false b e = cc

both-second : (a b : Bool) → (a && b) ≡ true → b ≡ true
both-second true b e = e
both-second false b e = cc

is-less : (r : Ordering) → is_lt r ≡ true → r ≡ Less
is-less Less e = refl
is-less Equal e = cc
is-less Greater e = cc

true-of : (b : Bool) → T b → b ≡ true
true-of true h = refl
true-of false h = absurd h

later : (k : List ℕ) (es : Bases) (e : List ℕ × ℤ) → below_all code_cmp k es ≡ true → Member es e → code_cmp k e.0 ≡ Less
later k [] e b m = absurd m
later k (h ∷ es) e b (inl i) = rw (← i) (is-less (code_cmp k h.0) (both-first _ _ b))
later k (h ∷ es) e b (inr m) = later k es e (both-second _ _ b) m

-- an entry of a list in order is found by its code
found : (es : Bases) (e : List ℕ × ℤ) → is_sorted code_cmp es ≡ true → Member es e → find code_cmp e.0 es ≡ Some e.1
found [] e s m = absurd m
found (h ∷ es) e s (inl i) =
    let tied : code_cmp e.0 h.0 ≡ Equal = rw i (tied_itself code_cmp_total e.0) in
    ap (λ r. cond (is_eq r) (Some h.1) (find code_cmp e.0 es)) tied ∙ ap (λ (x : List ℕ × ℤ). Some x.1) i
found (h ∷ es) e s (inr m) =
    let less = later h.0 es e (both-first _ _ s) m in
    let above : code_cmp e.0 h.0 ≡ Greater = code_cmp_total.antisymm e.0 h.0 ∙ ap ordering_reverse less in
    ap (λ r. cond (is_eq r) (Some h.1) (find code_cmp e.0 es)) above ∙ found es e (both-second _ _ s) m

-- and what is found is an entry
entry-by : (k : List ℕ) (v : ℤ) (h : List ℕ × ℤ) (es : Bases) (b : Bool) → eq_by_cmp code_cmp k h.0 ≡ b → cond b (Some h.1) (find code_cmp k es) ≡ Some v → (find code_cmp k es ≡ Some v → Member es (k, v))
    → Member (h ∷ es) (k, v)
entry-by k v h es true t e deeper =
    let key : k ≡ h.0 = same-code k h.0 t in
    let value : h.1 ≡ v = cc in
    inl (λ i. (sym key i, value i))
entry-by k v h es false t e deeper = inr (deeper e)

entry : (es : Bases) (k : List ℕ) (v : ℤ) → find code_cmp k es ≡ Some v → Member es (k, v)
entry [] k v e = cc
entry (h ∷ es) k v e = entry-by k v h es (eq_by_cmp code_cmp k h.0) refl e (λ d. entry es k v d)

pub price-of : (t : Timetable) (e : List ℕ × ℤ) → Member (fin.entries t.bases) e → fin.get t.bases e.0 ≡ Some e.1
price-of t e m = fin.get-entries t.bases e.0 ∙ found (fin.entries t.bases) e (true-of (is_sorted code_cmp (fin.entries t.bases)) (fin.entries_sorted t.bases)) m

pub entry-of : (t : Timetable) (k : List ℕ) (v : ℤ) → fin.get t.bases k ≡ Some v → Member (fin.entries t.bases) (k, v)
entry-of t k v e = entry (fin.entries t.bases) k v (sym (fin.get-entries t.bases k) ∙ e)

-- the base of an entry has the entry's price
pub price-found : (t : Timetable) (e : List ℕ × ℤ) (base : List ℕ) → Member (fin.entries t.bases) e → e.0 ≡ base → fin.get t.bases base ≡ Some e.1
price-found t e base m is = subst (λ k. fin.get t.bases k ≡ Some e.1) is (price-of t e m)

-- bases rise
abbrev pub RiseByBase : List (List ℕ) → Type 0
RiseByBase [] = Unit {0}
RiseByBase (k ∷ ks) = Each (λ l. code_cmp k l ≡ Less) ks × RiseByBase ks

each-below : (k : List ℕ) (es : Bases) → below_all code_cmp k es ≡ true → Each (λ l. code_cmp k l ≡ Less) (map (λ (e : List ℕ × ℤ). e.0) es)
each-below k [] b = tt
each-below k (h ∷ es) b = (is-less (code_cmp k h.0) (both-first _ _ b), each-below k es (both-second _ _ b))

rises : (es : Bases) → is_sorted code_cmp es ≡ true → RiseByBase (map (λ (e : List ℕ × ℤ). e.0) es)
rises [] s = tt
rises (h ∷ es) s = (each-below h.0 es (both-first _ _ s), rises es (both-second _ _ s))

pub keys-rise : (t : Timetable) → RiseByBase (fin.keys t.bases)
keys-rise t = rises (fin.entries t.bases) (true-of (is_sorted code_cmp (fin.entries t.bases)) (fin.entries_sorted t.bases))
