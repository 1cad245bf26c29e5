-- Histories of fixed size: the same periods are the same value, so they are ordered.
use Rattle.std.proofs.Common.{◌≡◌, ℕ, ◌+◌, ◌-◌, ◌≤◌, true, List, [], ◌∷◌, ◌++◌, length-append, ℤ, pos, take, drop, replicate, length, refl, sym, ◌∙◌, ap, subst, arith, Ordering}
use Rattle.std.proofs.Math.Seq.{drop-append_seam}
use Rattle.std.proofs.lemmas.List.{length-replicate}
use Rattle.std.specs.Cmp.Lexicographic.{slice_cmp}
use Rattle.std.specs.FinMap.{nat_cmp-IsAntisymmetric}
use Rattle.std.specs.Ordering.{int_cmp, nat_cmp, ordering_then}
use Rattle.std.specs.declared.cmp.Ordering.TheVariants.{Equal}
use Rattle.std.proofs.lemmas.List.{length-take, take-append-drop}
use Rattle.std.proofs.lemmas.Cmp.{int_ranked}
use Rattle.std.proofs.lemmas.Int.{ints}
use Rattle.crew_resource.specs.Machinery.BothLaws.{both_equal}
use Rattle.crew_resource.specs.Resource.{OrderLaws}
use Rattle.crew_resource.proofs.ListOrder.{lists_exact}
use Rattle.crew_history.specs.Histories.{IsHistory, IsNoMore}
use Rattle.crew_history.specs.HistoryValues.{periods_of, history_at_most}
use Rattle.crew_history.specs.declared.history.History.{History}
use Rattle.crew_history.specs.Machinery.Kept.{IsKept, kept_prop}
use Rattle.crew_history.proofs.Histories.{no_more_refl, no_more_trans, no_more_antisym, is_no_more_decides}

-- equal arrays and lengths are equal values
pub same_fields : (a b : History) → a.periods ≡ b.periods → a.len ≡ b.len → a ≡ b
same_fields a b e f =
    subst (λ xs. (k : IsKept b.len xs) → a ≡ record { periods = xs; len = b.len; kept = k }) e
    (subst (λ n. (k : IsKept n a.periods) → a ≡ record { periods = a.periods; len = n; kept = k }) f
    (λ k. ap (λ z. let r : History = record { periods = a.periods; len = a.len; kept = z } in r) (kept_prop a.len a.periods a.kept k)))
    b.kept

taken : (n : ℕ) (xs : List (ℤ × ℤ)) → n ≤ 12 → length xs ≡ 12 → length (take n xs) ≡ n
taken n xs h l = length-take n xs ∙ omega arith

whole : (n m : ℕ) (xs ys : List (ℤ × ℤ)) → take n xs ≡ take m ys → drop n xs ≡ drop m ys → xs ≡ ys
whole n m xs ys e f = sym (take-append-drop n xs) ∙ (ap (λ z. z ++ drop n xs) e ∙ (ap (λ z. take m ys ++ z) f ∙ take-append-drop m ys))

pub same_value : (a b : History) → periods_of a ≡ periods_of b → a ≡ b
same_value a b e =
    let same : a.len ≡ b.len = sym (taken a.len a.periods a.kept.0 a.kept.1) ∙ (ap length e ∙ taken b.len b.periods b.kept.0 b.kept.1) in
    same_fields a b
    (whole a.len b.len a.periods b.periods e (a.kept.3 ∙ (ap (λ n. replicate (12 - n) (pos 0, pos 0)) same ∙ sym b.kept.3)))
    same

pub at_most_is : (a b : History) → history_at_most a b ≡ true → IsNoMore (periods_of a) (periods_of b)
at_most_is a b = (is_no_more_decides (periods_of a) (periods_of b) a.kept.2 b.kept.2).0

pub at_most_yes : (a b : History) → IsNoMore (periods_of a) (periods_of b) → history_at_most a b ≡ true
at_most_yes a b = (is_no_more_decides (periods_of a) (periods_of b) a.kept.2 b.kept.2).1

pub history_antisym : (a b : History) → history_at_most a b ≡ true → history_at_most b a ≡ true → a ≡ b
history_antisym a b h k = same_value a b (no_more_antisym (periods_of a) (periods_of b) a.kept.2 b.kept.2 (at_most_is a b h) (at_most_is b a k))

abbrev pub pair_cmp : ℤ × ℤ → ℤ × ℤ → Ordering
pair_cmp p q = ordering_then (int_cmp p.0 q.0) (int_cmp p.1 q.1)

int_exact : (a b : ℤ) → int_cmp a b ≡ Equal → a ≡ b
int_exact a b e = let r = int_ranked a b (int_cmp a b) refl in grind (arith, ints)

pub pair_exact : (p q : ℤ × ℤ) → pair_cmp p q ≡ Equal → p ≡ q
pair_exact p q e =
    let k = both_equal (int_cmp p.0 q.0) (int_cmp p.1 q.1) e in
    ap (λ z. (z, p.1)) (int_exact p.0 q.0 k.0) ∙ ap (λ z. (q.0, z)) (int_exact p.1 q.1 k.1)

-- the derived listing, and the order
abbrev pub history_cmp : History → History → Ordering
history_cmp a b = ordering_then (slice_cmp pair_cmp a.periods b.periods) (nat_cmp a.len b.len)

pub history_order : OrderLaws history_cmp history_at_most
history_order = record {
  exact = λ a b e.
      let k = both_equal (slice_cmp pair_cmp a.periods b.periods) (nat_cmp a.len b.len) e in
      same_fields a b (lists_exact pair_cmp pair_exact a.periods b.periods k.0) (nat_cmp-IsAntisymmetric a.len b.len k.1);
  reflexive = λ a. at_most_yes a a (no_more_refl (periods_of a));
  transitive = λ a b d h k. at_most_yes a d (no_more_trans (periods_of a) (periods_of b) (periods_of d) (at_most_is a b h) (at_most_is b d k));
  antisymmetric = history_antisym;
}

-- the value of fixed size of a list of at most twelve periods
pub fixed : (h : List (ℤ × ℤ)) → IsHistory h → length h ≤ 12 → History
fixed h i l = record {
  periods = h ++ replicate (12 - length h) (pos 0, pos 0);
  len = length h;
  kept = (
    l,
    length-append h (replicate (12 - length h) (pos 0, pos 0)) ∙ (ap (λ n. length h + n) (length-replicate (12 - length h) (pos 0, pos 0)) ∙ full (length h) l),
    subst IsHistory (sym (taken_again h (replicate (12 - length h) (pos 0, pos 0)))) i,
    drop-append_seam h (replicate (12 - length h) (pos 0, pos 0)),
  );
}
  where
    full : (n : ℕ) → n ≤ 12 → n + (12 - n) ≡ 12
    full n h = omega arith

    taken_again : (h rest : List (ℤ × ℤ)) → take (length h) (h ++ rest) ≡ h
    taken_again [] rest = refl
    taken_again (p ∷ h) rest = ap (λ z. p ∷ z) (taken_again h rest)

pub periods_of_fixed : (h : List (ℤ × ℤ)) (i : IsHistory h) (l : length h ≤ 12) → periods_of (fixed h i l) ≡ h
unfolding fixed
periods_of_fixed h i l = again h (replicate (12 - length h) (pos 0, pos 0))
  where
    again : (h rest : List (ℤ × ℤ)) → take (length h) (h ++ rest) ≡ h
    again [] rest = refl
    again (p ∷ h) rest = ap (λ z. p ∷ z) (again h rest)

pub len_of_fixed : (h : List (ℤ × ℤ)) (i : IsHistory h) (l : length h ≤ 12) → (fixed h i l).len ≡ length h
unfolding fixed
len_of_fixed h i l = refl
