-- A map in memory, seen as a finite map.
use Rattle.std.proofs.Common.{◌≡◌, Bool, true, false, cond, List, [], ◌∷◌, length, refl, sym, ◌∙◌, ap, subst, Some, None}
use Rattle.std.specs.Prelude.{T, ◌&&◌, filter}
use Rattle.std.specs.declared.cmp.Ordering.{Ordering}
use Rattle.std.specs.declared.cmp.Ordering.TheVariants.{Less, Equal}
use Rattle.std.specs.Ordering.{eq_by_cmp, is_lt, nat_cmp}
use Rattle.std.specs.Cmp.{IsTotalOrder, eq_by_cmp_equiv}
use Rattle.std.specs.List.{AllByRecursion}
use Rattle.std.specs.List.Sorted.{IsStrictlySortedBy}
use Rattle.std.specs.Map.{keys_of, lookup}
use Rattle.std.specs.BTreeMap.{is_at}
use Rattle.std.specs.FinMap as map
use Rattle.std.specs.FinMap.Entries.{find, find-where_key, is_sorted, is_sorted-where_key, below_all, where_key}
use Rattle.std.proofs.lemmas.Map.Keys.{sorted_head, sorted_tail}
use Rattle.std.proofs.lemmas.Map.Lookups.{exact_pairs, exact_unsigned}
use Rattle.crew_flights.specs.Codes.{pair_cmp}

both : (a b : Bool) → T a → T b → T (a && b)
both true b p q = q
both false b p q = p

module _ {K X : Type 0} (R : K → K → Ordering) where
  below_from : (k : K) (es : List (K × X)) → AllByRecursion (λ y. R k y ≡ Less) (keys_of es) → T (below_all R k es)
  below_from k [] h = tt
  below_from k (e ∷ es) h = subst (λ r. T (is_lt r && below_all R k es)) (sym h.0) (below_from k es h.1)

  pub sorted_from : (es : List (K × X)) → IsStrictlySortedBy R (keys_of es) → T (is_sorted R es)
  sorted_from [] h = tt
  sorted_from (e ∷ es) h = both _ _ (below_from e.0 es (sorted_head R e.0 (keys_of es) h)) (sorted_from es (sorted_tail R e.0 (keys_of es) h))

  pub find_lookup : (q : K) (es : List (K × X)) → find R q es ≡ lookup (is_at (R q)) es
  find_lookup q [] = refl
  find_lookup q (e ∷ es) = ap (cond (eq_by_cmp R q e.0) (Some e.1)) (find_lookup q es)

  pub get_seen : (es : List (K × X)) (q : K) → IsStrictlySortedBy R (keys_of es) → map.get (map.from_sorted {R = R} es) q ≡ lookup (is_at (R q)) es
  get_seen es q s = map.get-from_sorted R es q (sorted_from es s) ∙ find_lookup q es

  pub entries_seen : (es : List (K × X)) → IsStrictlySortedBy R (keys_of es) → map.entries (map.from_sorted {R = R} es) ≡ es
  entries_seen es s = map.entries-from_sorted R es (sorted_from es s)

  pub len_seen : (es : List (K × X)) → IsStrictlySortedBy R (keys_of es) → map.len (map.from_sorted {R = R} es) ≡ length es
  len_seen es s = map.len-entries _ ∙ ap length (entries_seen es s)

  pub seen_empty : (es : List (K × X)) → es ≡ [] → map.from_sorted {R = R} es ≡ map.empty
  seen_empty es e = map.empty_of_len (map.from_sorted es) (map.len-entries _ ∙ ap length (map.entries-from_sorted R es (subst (λ xs. T (is_sorted R xs)) (sym e) tt)) ∙ ap length e)

  module _ (o : IsTotalOrder R) (same : map.IsAntisymmetric R) where
    pub seen_insert : (es fs : List (K × X)) (k : K) (v : X) → IsStrictlySortedBy R (keys_of es) → IsStrictlySortedBy R (keys_of fs) → ((q : K) → lookup (is_at (R q)) fs ≡ cond (is_at (R k) q) (Some v) (lookup (is_at (R q)) es)) → map.from_sorted {R = R} fs ≡ map.insert (map.from_sorted es) k v
    seen_insert es fs k v s t u =
        map.same_map o same _ _ (λ q. get_seen fs q t ∙ u q
        ∙ ap (λ b. cond b (Some v) (lookup (is_at (R q)) es)) ((eq_by_cmp_equiv o).symm k q)
        ∙ sym (map.get-insert o (map.from_sorted es) k v q ∙ ap (cond (eq_by_cmp R q k) (Some v)) (get_seen es q s)))

    pub seen_remove : (es fs : List (K × X)) (k : K) → IsStrictlySortedBy R (keys_of es) → IsStrictlySortedBy R (keys_of fs) → ((q : K) → lookup (is_at (R q)) fs ≡ cond (is_at (R k) q) None (lookup (is_at (R q)) es)) → map.from_sorted {R = R} fs ≡ map.remove (map.from_sorted es) k
    seen_remove es fs k s t u =
        map.same_map o same _ _ (λ q. get_seen fs q t ∙ u q
        ∙ ap (λ b. cond b None (lookup (is_at (R q)) es)) ((eq_by_cmp_equiv o).symm k q)
        ∙ sym (map.get-remove o (map.from_sorted es) k q ∙ ap (cond (eq_by_cmp R q k) None) (get_seen es q s)))

    -- the entries whose keys pass a test, as a list
    pub retained : (m : map.FinMap R X) (p : K → Bool) → map.retain_keys m p ≡ map.from_sorted {R = R} (where_key R p (map.entries m))
    retained m p =
        map.same_map o same _ _ (λ q.
        let alike : (x : K) → R q x ≡ Equal → p x ≡ p q = λ x e. ap p (sym (same q x e)) in
        map.get-retain_keys m p q alike
        ∙ ap (λ found. cond (p q) found None) (map.get-entries m q)
        ∙ sym (find-where_key R p q alike (map.entries m))
        ∙ sym (map.get-from_sorted R (where_key R p (map.entries m)) q (is_sorted-where_key R p (map.entries m) (map.entries_sorted m))))

    pub seen_retain : (es : List (K × X)) (p : K → Bool) → IsStrictlySortedBy R (keys_of es) → map.from_sorted {R = R} (filter (λ e. p e.0) es) ≡ map.retain_keys (map.from_sorted es) p
    seen_retain es p s = sym (retained (map.from_sorted es) p ∙ ap (λ xs. map.from_sorted {R = R} (where_key R p xs)) (entries_seen es s))

-- only equal pairs of flights tie
pub exact_flights : map.IsAntisymmetric pair_cmp
exact_flights = exact_pairs nat_cmp nat_cmp exact_unsigned exact_unsigned
