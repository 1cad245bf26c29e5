-- Bases are those that have a price.
use Rattle.std.proofs.Common.{◌≡◌, ◌∙◌, inl, inr, ℕ, ℤ, true, List, Option, Some, None, sym, ap, subst, refl}
use Rattle.std.specs.Prelude.{◌↔◌}
use Rattle.std.specs.FinMap as map
use Rattle.std.specs.List.{list_any}
use Rattle.std.specs.Option.{is_some}
use Rattle.std.specs.Ordering.{eq_by_cmp}
use Rattle.crew_flights.specs.Codes.{code_cmp}
use Rattle.crew_flights.specs.Timetable.{Timetable}
use Rattle.crew_net.proofs.Geometry.{code-equal, equal-code}
use Rattle.crew_net.specs.Nets.{Net}
use Rattle.crew_resource.specs.Members.{Member}
use Rattle.crew_resource.proofs.Members.{list_any_false, list_any_true}
use Rattle.crew_dirty.proofs.Sames.{decide, not-both}
use Rattle.crew_dirty.specs.Dirty.{IsSameBase}

some-of : (o : Option ℤ) → is_some o ≡ true → (p : ℤ) × (o ≡ Some p)
some-of None e = absurd (let q : ⊥ = (cc) in q)
some-of (Some p) e = (p, refl)

pub has-price : (t : Timetable) (base : List ℕ) → Member (map.keys t.bases) base → (p : ℤ) × (map.get t.bases base ≡ Some p)
has-price t base m =
    some-of (map.get t.bases base)
    (map.contains_key-keys t.bases base
    ∙ elim (decide (list_any (eq_by_cmp code_cmp base) (map.keys t.bases))) as (λ _. list_any (eq_by_cmp code_cmp base) (map.keys t.bases) ≡ true) [
      | inl t' ↦ t'
      | inr f ↦ absurd (not-both (eq_by_cmp code_cmp base base) (equal-code base base refl) (list_any_false (eq_by_cmp code_cmp base) (map.keys t.bases) f base m))
    ])

pub is-base : (t : Timetable) (base : List ℕ) (p : ℤ) → map.get t.bases base ≡ Some p → Member (map.keys t.bases) base
is-base t base p e =
    let any : list_any (eq_by_cmp code_cmp base) (map.keys t.bases) ≡ true = sym (map.contains_key-keys t.bases base) ∙ ap is_some e in
    let x = list_any_true (eq_by_cmp code_cmp base) (map.keys t.bases) any in
    subst (Member (map.keys t.bases)) (sym (code-equal base x.0 x.2)) x.1

-- a base of the new network with the price that it had was one of the old network's
pub same-base : (t u : Timetable) (old new : Net) (base : List ℕ) → old.bases ≡ map.keys t.bases → new.bases ≡ map.keys u.bases → Member new.bases base
    → (map.get t.bases base ≡ map.get u.bases base) ↔ IsSameBase old (map.get t.bases base) (map.get u.bases base) base
same-base t u old new base olds news m =
    let p = has-price u base (subst (λ (bs : List (List ℕ)). Member bs base) news m) in (
      λ e. record { there = subst (λ (bs : List (List ℕ)). Member bs base) (sym olds) (is-base t base p.0 (e ∙ p.1)); price = e },
      λ same. same.price,
    )
