-- The partials of all bases are exactly the partial pairings of the timetable, by base and walk.
use Rattle.std.proofs.Common.{◌≡◌, ℕ, ℤ, Bool, true, false, cond, List, [], ◌∷◌, Some, refl, sym, ap, subst, ◌∙◌, ◌&&◌, arith, inl, inr}
use lib.Dec.{T}
use Rattle.std.specs.List.{flat_map}
use Rattle.std.specs.declared.cmp.Ordering.{Ordering}
use Rattle.std.specs.declared.cmp.Ordering.TheVariants.{Less, Equal, Greater}
use Rattle.std.specs.Ordering.{eq_by_cmp, is_eq, is_lt, ordering_reverse, ordering_then}
use Rattle.std.proofs.lemmas.Cmp.{tied_itself}
use Rattle.std.proofs.lemmas.Map.Lookups.{exact_bytes}
use Rattle.std.proofs.lemmas.Map.Views.{tells_apart}
use Rattle.std.specs.FinMap as fin
use Rattle.std.specs.FinMap.{find, is_sorted}
use Rattle.std.specs.FinMap.Entries.{below_all}
use Rattle.crew_flights.specs.Codes.{code_cmp, code_cmp_total}
use Rattle.crew_flights.specs.Timetable.{IsBasePrice, IsSound, Timetable}
use Rattle.crew_rules.specs.declared.settings.Settings.{Settings}
use Rattle.crew_pairing.specs.Duties.{flights_of}
use Rattle.crew_pairing.specs.Flights.{Flights}
use Rattle.crew_pairing.specs.Keys.{walk_cmp}
use Rattle.crew_resource.specs.Members.{Each, Member}
use Rattle.crew_pairing.proofs.InList.{Member-flat_map, flat_map-Member}
use Rattle.crew_pairing.proofs.Timetables.{flights-of-timetable}
use Rattle.crew_audit.specs.Machinery.Listing.{all_partials, of_base}
use Rattle.crew_audit.specs.Partials.{ArePartials, Rise, partial_cmp, partial_of}
use Rattle.crew_audit.specs.declared.partial.Partial.{Partial}
use Rattle.crew_audit.proofs.Beginnings.{long-tested, tested-long}
use Rattle.crew_audit.proofs.Chains.{within-caps}
use Rattle.crew_audit.proofs.Complete.{after-every}
use Rattle.crew_audit.proofs.Rising.{after-rises, each-of, rise-join}
use Rattle.crew_audit.proofs.Sound.{after-form}

abbrev Bases : Type 0
Bases = List (List ℕ × ℤ)

both-first : (a b : Bool) → (a && b) ≡ true → a ≡ true
both-first true b e = refl
both-first false b e = cc

both-second : (a b : Bool) → (a && b) ≡ true → b ≡ true
both-second true b e = e
both-second false b e = cc

is-less : (r : Ordering) → is_lt r ≡ true → r ≡ Less
is-less Less e = refl
is-less Equal e = cc
is-less Greater e = cc

true-of : (b : Bool) → T b → b ≡ true
true-of true h = refl
true-of false h = absurd h

later : (k : List ℕ) (es : Bases) (e : List ℕ × ℤ) → below_all code_cmp k es ≡ true → Member es e → code_cmp k e.0 ≡ Less
later k [] e b m = absurd m
later k (h ∷ es) e b (inl i) = rw (← i) (is-less (code_cmp k h.0) (both-first _ _ b))
later k (h ∷ es) e b (inr m) = later k es e (both-second _ _ b) m

-- an entry of a list in order is found by its code
found : (es : Bases) (e : List ℕ × ℤ) → is_sorted code_cmp es ≡ true → Member es e → find code_cmp e.0 es ≡ Some e.1
found [] e s m = absurd m
found (h ∷ es) e s (inl i) =
    let tied : code_cmp e.0 h.0 ≡ Equal = rw i (tied_itself code_cmp_total e.0) in
    ap (λ r. cond (is_eq r) (Some h.1) (find code_cmp e.0 es)) tied ∙ ap (λ (x : List ℕ × ℤ). Some x.1) i
found (h ∷ es) e s (inr m) =
    let less = later h.0 es e (both-first _ _ s) m in
    let above : code_cmp e.0 h.0 ≡ Greater = code_cmp_total.antisymm e.0 h.0 ∙ ap ordering_reverse less in
    ap (λ r. cond (is_eq r) (Some h.1) (find code_cmp e.0 es)) above ∙ found es e (both-second _ _ s) m

-- and what is found is an entry
entry-by : (k : List ℕ) (v : ℤ) (h : List ℕ × ℤ) (es : Bases) (b : Bool) → eq_by_cmp code_cmp k h.0 ≡ b → cond b (Some h.1) (find code_cmp k es) ≡ Some v → (find code_cmp k es ≡ Some v → Member es (k, v))
    → Member (h ∷ es) (k, v)
entry-by k v h es true t e deeper =
    let key : k ≡ h.0 = tells_apart exact_bytes k h.0 t in
    let value : h.1 ≡ v = cc in
    inl (λ i. (sym key i, value i))
entry-by k v h es false t e deeper = inr (deeper e)

entry : (es : Bases) (k : List ℕ) (v : ℤ) → find code_cmp k es ≡ Some v → Member es (k, v)
entry [] k v e = cc
entry (h ∷ es) k v e = entry-by k v h es (eq_by_cmp code_cmp k h.0) refl e (λ d. entry es k v d)

-- base by base, in order
bases-rise : (s : Settings) (flights : Flights) (es : Bases) → is_sorted code_cmp es ≡ true → ((b : List ℕ × ℤ) → Rise (of_base s flights b)) → Rise (flat_map (of_base s flights) es)
bases-rise s flights [] sorted each = tt
bases-rise s flights (b ∷ es) sorted each =
    rise-join (of_base s flights b) (flat_map (of_base s flights) es) (each b) (bases-rise s flights es (both-second _ _ sorted) each)
    (λ p q m k. earlier p q m (flat_map-Member (of_base s flights) es q k))
  where
    earlier : (p q : Partial) → Member (of_base s flights b) p → (c : List ℕ × ℤ) × Member es c × Member (of_base s flights c) q → partial_cmp p q ≡ Less
    earlier p q m k =
        let c = k.0 in
        let x = after-form s.max_duties s flights b.0 b.1 [] p m in
        let y = after-form s.max_duties s flights c.0 c.1 [] q k.2 in
        let own : p.base ≡ b.0 = ap (λ (z : Partial). z.base) x.given in
        let other : q.base ≡ c.0 = ap (λ (z : Partial). z.base) y.given in
        let less : code_cmp b.0 c.0 ≡ Less = later b.0 es c (both-first _ _ sorted) k.1 in
        let codes : code_cmp p.base q.base ≡ Less = rw (own, other) less in
        ap (λ r. ordering_then r (walk_cmp p.walk q.walk)) codes

pub all-partials : (s : Settings) (t : Timetable) → IsSound t → ArePartials s t (all_partials s t)
all-partials s t sound =
    let flights = flights_of t in
    let fs = flights-of-timetable t sound in
    let es = fin.entries t.bases in
    let sorted : is_sorted code_cmp es ≡ true = true-of (is_sorted code_cmp es) (fin.entries_sorted t.bases) in
    record {
      sound = λ p m.
          let b = flat_map-Member (of_base s flights) es p m in
          let base = b.0 in
          let on = after-form s.max_duties s flights base.0 base.1 [] p b.2 in
          record {
            base = base.0;
            price = base.1;
            first = on.next;
            others = on.more;
            held = fin.get-entries t.bases base.0 ∙ found es base sorted b.1;
            partial = long-tested s t base.0 on.next on.more sound (on.begun tt);
            given = on.given;
          };
      every = λ p h.
          let count = (within-caps s (h.first ∷ h.others) h.partial.capped).count in
          let here = after-every s.max_duties s flights h.base h.price [] h.first h.others fs (tested-long s t h.base h.first h.others sound h.partial) (omega arith) in
          let held = entry es h.base h.price (sym (fin.get-entries t.bases h.base) ∙ h.held) in
          subst (Member (all_partials s t)) (sym h.given) (Member-flat_map (of_base s flights) es (h.base, h.price) (partial_of s h.base h.price h.first h.others) held here);
      rising = bases-rise s flights es sorted (λ b. after-rises s.max_duties s flights b.0 b.1 [] fs.rising);
    }

-- the prices of bases lie in their limits
pub prices-fit : (t : Timetable) → IsSound t → Each (λ (b : List ℕ × ℤ). IsBasePrice b.1) (fin.entries t.bases)
prices-fit t sound =
    let es = fin.entries t.bases in
    let sorted : is_sorted code_cmp es ≡ true = true-of (is_sorted code_cmp es) (fin.entries_sorted t.bases) in
    each-of (λ (b : List ℕ × ℤ). IsBasePrice b.1) es (λ b m. sound.bases b.0 b.1 (fin.get-entries t.bases b.0 ∙ found es b sorted m))
