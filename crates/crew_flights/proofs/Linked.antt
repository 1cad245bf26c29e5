-- What a change of links in memory does to follow-ons.
use Rattle.std.proofs.Common.{◌≡◌, ℕ, true, false, cond, Option, Some, None, ap, refl, sym, ◌∙◌}
use Rattle.std.specs.Ordering.{nat_cmp, eq_by_cmp}
use Rattle.std.specs.Cmp.{nat_cmp_total}
use Rattle.std.specs.FinMap as map
use Rattle.std.specs.BTreeMap.{BTreeMap, IsOrdered, IsFromIterResult, get, is_at}
use Rattle.std.proofs.lemmas.Map.Lookups.{exact_unsigned}
use Rattle.std.proofs.lemmas.Map.Views.{tells_apart}
use Rattle.crew_flights.specs.FollowOns.{Links, without_link}
use Rattle.crew_flights.proofs.Kept.{again}
use Rattle.crew_flights.proofs.Maps.{get_seen, seen_insert, seen_remove}

abbrev pub links : BTreeMap ℕ ℕ → Links
links m = map.from_sorted m.entries

-- of a map, in memory, one with another value at a number, or none
abbrev Changes : BTreeMap ℕ ℕ → BTreeMap ℕ ℕ → ℕ → Option ℕ → Type 0
Changes m n k w = (q : ℕ) → get nat_cmp n q ≡ cond (is_at (nat_cmp k) q) w (get nat_cmp m q)

pub link_found : (m : BTreeMap ℕ ℕ) (k : ℕ) → IsOrdered nat_cmp m → get nat_cmp m k ≡ map.get (links m) k
link_found m k s = sym (get_seen nat_cmp m.entries k s)

pub link_put : (m n : BTreeMap ℕ ℕ) (k v : ℕ) → IsOrdered nat_cmp m → IsOrdered nat_cmp n → Changes m n k (Some v) → links n ≡ map.insert (links m) k v
link_put m n k v s t u = seen_insert nat_cmp nat_cmp_total map.nat_cmp-IsAntisymmetric m.entries n.entries k v s t u

pub link_removed : (m n : BTreeMap ℕ ℕ) (k : ℕ) → IsOrdered nat_cmp m → IsOrdered nat_cmp n → Changes m n k None → links n ≡ map.remove (links m) k
link_removed m n k s t u = seen_remove nat_cmp nat_cmp_total map.nat_cmp-IsAntisymmetric m.entries n.entries k s t u

-- what was put where nothing was is taken back
taken_back : (l : Links) (k v : ℕ) → map.get l k ≡ None → map.remove (map.insert l k v) k ≡ l
taken_back l k v free =
    map.same_map nat_cmp_total map.nat_cmp-IsAntisymmetric _ _ (λ q.
    map.get-remove nat_cmp_total (map.insert l k v) k q
    ∙ ap (cond (eq_by_cmp nat_cmp q k) None) (map.get-insert nat_cmp_total l k v q)
    ∙ elim (eq_by_cmp nat_cmp q k) as (λ b. eq_by_cmp nat_cmp q k ≡ b → cond b None (cond b (Some v) (map.get l q)) ≡ map.get l q) [
      | true ↦ λ e. sym (ap (map.get l) (tells_apart exact_unsigned q k e) ∙ free)
      | false ↦ λ e. refl
    ] refl)

pub link_undone : (m n o : BTreeMap ℕ ℕ) (k v : ℕ) → IsOrdered nat_cmp m → IsOrdered nat_cmp n → IsOrdered nat_cmp o → Changes m n k (Some v) → Changes n o k None → map.get (links m) k ≡ None → links o ≡ links m
link_undone m n o k v s t u put out free =
    link_removed n o k t u out ∙ ap (λ l. map.remove l k) (link_put m n k v s t put) ∙ taken_back (links m) k v free

-- a link is taken out, and then another one, if one is named
pub links_removed : (m n o : BTreeMap ℕ ℕ) (k : ℕ) (named other : Option ℕ) → IsOrdered nat_cmp m → IsOrdered nat_cmp n → Changes m n k None → links o ≡ without_link (links n) named → named ≡ other → links o ≡ without_link (map.remove (links m) k) other
links_removed m n o k named other s t out left same =
    left ∙ ap (λ l. without_link l named) (link_removed m n k s t out) ∙ ap (without_link (map.remove (links m) k)) same

pub links_again : (m n : BTreeMap ℕ ℕ) → IsOrdered nat_cmp m → IsFromIterResult nat_cmp m.entries n → links n ≡ links m
links_again m n s f = ap (λ es. map.from_sorted {R = nat_cmp} es) (again nat_cmp_total exact_unsigned m n s f)
