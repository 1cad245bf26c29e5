-- What a change of a map in memory does to the timetable.
use Rattle.std.proofs.Common.{◌≡◌, ℕ, ℤ, cond, not, List, Some, None, ap, refl, ◌∙◌}
use Rattle.std.specs.Prelude.{filter}
use Rattle.std.specs.declared.cmp.Ordering.{Ordering}
use Rattle.std.specs.Ordering.{nat_cmp, eq_by_cmp}
use Rattle.std.specs.Cmp.{IsTotalOrder, nat_cmp_total, eq_by_cmp_equiv}
use Rattle.std.specs.FinMap as map
use Rattle.std.specs.BTreeMap.{BTreeMap, IsOrdered, IsFromIterResult, get, is_at, keys}
use Rattle.std.proofs.lemmas.Map.Keys.{IsDistinct-from_sorted}
use Rattle.std.proofs.lemmas.Map.Lookups.{CmpEqualImpliesEq, exact_unsigned, exact_bytes, btree_map_from_get}
use Rattle.std.proofs.lemmas.Map.Made.{update_all_none}
use Rattle.crew_flights.specs.Codes.{code_cmp, code_cmp_total, pair_cmp, pair_cmp_total}
use Rattle.crew_flights.specs.FollowOns.{FollowOns, without_number}
use Rattle.crew_flights.specs.Timetable.{Timetable, timetable_of}
use Rattle.crew_flights.specs.Edits.{with_flight, without_flight, with_base, with_turn, without_turn, is_turn_of}
use Rattle.crew_flights.specs.declared.flight.Flight.{Flight}
use Rattle.crew_flights.proofs.Maps.{exact_flights, seen_insert, seen_remove, seen_retain}

pub flights_put : (m n : BTreeMap ℕ Flight) (bases : BTreeMap (List ℕ) ℤ) (turns : BTreeMap (ℕ × ℕ) ℕ) (f : FollowOns) (k : ℕ) (v : Flight) → IsOrdered nat_cmp m → IsOrdered nat_cmp n → ((q : ℕ) → get nat_cmp n q ≡ cond (is_at (nat_cmp k) q) (Some v) (get nat_cmp m q)) → timetable_of n bases turns f ≡ with_flight (timetable_of m bases turns f) k v
flights_put m n bases turns f k v s t u = ap (λ fs. let r : Timetable = record { flights = fs; bases = map.from_sorted bases.entries; turns = map.from_sorted turns.entries; follows = f.follows; leads = f.leads } in r) (seen_insert nat_cmp nat_cmp_total map.nat_cmp-IsAntisymmetric m.entries n.entries k v s t u)

-- with a flight go the turns before and after it
pub flights_removed : (m n : BTreeMap ℕ Flight) (bases : BTreeMap (List ℕ) ℤ) (turns left : BTreeMap (ℕ × ℕ) ℕ) (f g : FollowOns) (k : ℕ) → IsOrdered nat_cmp m → IsOrdered nat_cmp n → ((q : ℕ) → get nat_cmp n q ≡ cond (is_at (nat_cmp k) q) None (get nat_cmp m q))
    → IsOrdered pair_cmp turns → left.entries ≡ filter (λ e. not (is_turn_of k e.0)) turns.entries → g ≡ without_number f k → timetable_of n bases left g ≡ without_flight (timetable_of m bases turns f) k
flights_removed m n bases turns left f g k s t u o e l =
    let fs = seen_remove nat_cmp nat_cmp_total map.nat_cmp-IsAntisymmetric m.entries n.entries k s t u in
    let ts = ap (λ es. map.from_sorted {R = pair_cmp} es) e ∙ seen_retain pair_cmp pair_cmp_total exact_flights turns.entries (λ pair. not (is_turn_of k pair)) o in
    λ i. record { flights = fs i; bases = map.from_sorted bases.entries; turns = ts i; follows = (l i).follows; leads = (l i).leads }

pub bases_put : (flights : BTreeMap ℕ Flight) (m n : BTreeMap (List ℕ) ℤ) (turns : BTreeMap (ℕ × ℕ) ℕ) (f : FollowOns) (k : List ℕ) (v : ℤ) → IsOrdered code_cmp m → IsOrdered code_cmp n → ((q : List ℕ) → get code_cmp n q ≡ cond (is_at (code_cmp k) q) (Some v) (get code_cmp m q)) → timetable_of flights n turns f ≡ with_base (timetable_of flights m turns f) k v
bases_put flights m n turns f k v s t u = ap (λ bs. let r : Timetable = record { flights = map.from_sorted flights.entries; bases = bs; turns = map.from_sorted turns.entries; follows = f.follows; leads = f.leads } in r) (seen_insert code_cmp code_cmp_total (map.slice_cmp-IsAntisymmetric map.nat_cmp-IsAntisymmetric) m.entries n.entries k v s t u)

pub turns_put : (flights : BTreeMap ℕ Flight) (bases : BTreeMap (List ℕ) ℤ) (m n : BTreeMap (ℕ × ℕ) ℕ) (f : FollowOns) (before after minutes : ℕ) → IsOrdered pair_cmp m → IsOrdered pair_cmp n → ((q : ℕ × ℕ) → get pair_cmp n q ≡ cond (is_at (pair_cmp (before, after)) q) (Some minutes) (get pair_cmp m q)) → timetable_of flights bases n f ≡ with_turn (timetable_of flights bases m f) before after minutes
turns_put flights bases m n f before after minutes s t u = ap (λ ts. let r : Timetable = record { flights = map.from_sorted flights.entries; bases = map.from_sorted bases.entries; turns = ts; follows = f.follows; leads = f.leads } in r) (seen_insert pair_cmp pair_cmp_total exact_flights m.entries n.entries (before, after) minutes s t u)

pub turns_removed : (flights : BTreeMap ℕ Flight) (bases : BTreeMap (List ℕ) ℤ) (m n : BTreeMap (ℕ × ℕ) ℕ) (f : FollowOns) (before after : ℕ) → IsOrdered pair_cmp m → IsOrdered pair_cmp n → ((q : ℕ × ℕ) → get pair_cmp n q ≡ cond (is_at (pair_cmp (before, after)) q) None (get pair_cmp m q)) → timetable_of flights bases n f ≡ without_turn (timetable_of flights bases m f) before after
turns_removed flights bases m n f before after s t u = ap (λ ts. let r : Timetable = record { flights = map.from_sorted flights.entries; bases = map.from_sorted bases.entries; turns = ts; follows = f.follows; leads = f.leads } in r) (seen_remove pair_cmp pair_cmp_total exact_flights m.entries n.entries (before, after) s t u)

pub again : {K X : Type 0} {R : K → K → Ordering} → IsTotalOrder R → CmpEqualImpliesEq R → (m n : BTreeMap K X) → IsOrdered R m → IsFromIterResult R m.entries n → n.entries ≡ m.entries
again {R = R} o exact m n s f =
    btree_map_from_get o n m f.1 s (λ q. f.0 q ∙ update_all_none (eq_by_cmp_equiv o) (eq_by_cmp R) (λ x y. refl) m.entries q (IsDistinct-from_sorted R (keys m) s)) exact

-- maps that are collected from the entries of others hold the same timetable
pub timetable_again : (flights flights' : BTreeMap ℕ Flight) (bases bases' : BTreeMap (List ℕ) ℤ) (turns turns' : BTreeMap (ℕ × ℕ) ℕ) (f f' : FollowOns) → IsOrdered nat_cmp flights → IsOrdered code_cmp bases → IsOrdered pair_cmp turns
    → IsFromIterResult nat_cmp flights.entries flights' → IsFromIterResult code_cmp bases.entries bases' → IsFromIterResult pair_cmp turns.entries turns' → f' ≡ f → timetable_of flights' bases' turns' f' ≡ timetable_of flights bases turns f
timetable_again flights flights' bases bases' turns turns' f f' s t o d e h l =
    let es = again nat_cmp_total exact_unsigned flights flights' s d in
    let bs = again code_cmp_total exact_bytes bases bases' t e in
    let ts = again pair_cmp_total exact_flights turns turns' o h in
    λ i. record { flights = map.from_sorted (es i); bases = map.from_sorted (bs i); turns = map.from_sorted (ts i); follows = (l i).follows; leads = (l i).leads }
