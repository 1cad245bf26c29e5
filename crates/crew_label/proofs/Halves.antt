-- The halves of a list, and lists of at most one label.
use Rattle.std.proofs.Common.{◌≡◌, ℕ, ◌<◌, ◌≤◌, ◌-◌, ◌/◌, Bool, true, List, [], ◌∷◌, ◌++◌, inl, inr, length, map, take, drop, sym, ◌∙◌, ap, subst, arith, Ordering, length-drop, length-take}
use Rattle.std.proofs.lemmas.List.{take_all, take-append-drop, map-append}
use Rattle.crew_resource.specs.Members.{Member}
use Rattle.crew_resource.proofs.Members.{Member-append_left, Member-append_right, Member-map_out}
use Rattle.crew_resource.proofs.Order.{IsOrder}
use Rattle.crew_forgetful.proofs.Covered.{stands_refl}
use Rattle.crew_label.specs.Walks.{ranks_at_most, shown}
use Rattle.crew_label.specs.Pools.{ArePoolOf, AreRising}
use Rattle.crew_label.specs.declared.label.Label.{Label}
use Rattle.crew_label.specs.declared.label.Link.{Link}
use Rattle.crew_label.proofs.MergedPools.{ranks_order}

module _ {X : Type 0} (xs : List X) where
  abbrev pub first_half : List X
  first_half = take (length xs / 2) xs

  abbrev pub second_half : List X
  second_half = take (length xs - length xs / 2) (drop (length xs / 2) xs)

  second_is : second_half ≡ drop (length xs / 2) xs
  second_is = let k = length-drop (length xs / 2) xs in take_all (length xs - length xs / 2) (drop (length xs / 2) xs) (omega (arith, k))

  both_halves : first_half ++ second_half ≡ xs
  both_halves = ap (λ ys. first_half ++ ys) second_is ∙ take-append-drop (length xs / 2) xs

  pub shorter_first : 2 ≤ length xs → length first_half < length xs
  shorter_first h = let k = length-take (length xs / 2) xs in omega (arith, k)

  pub shorter_second : 2 ≤ length xs → length second_half < length xs
  shorter_second h = let k = length-drop (length xs / 2) xs in let e = ap length second_is in omega (arith, k, e)

  pub member_first : (x : X) → Member first_half x → Member xs x
  member_first x m = subst (λ (ys : List X). Member ys x) both_halves (Member-append_left first_half second_half x m)

  pub member_second : (x : X) → Member second_half x → Member xs x
  member_second x m = subst (λ (ys : List X). Member ys x) both_halves (Member-append_right first_half second_half x m)

pub halves : {X Y : Type 0} (f : X → Y) (xs : List X) → map f (first_half xs) ++ map f (second_half xs) ≡ map f xs
halves f xs = sym (map-append f (first_half xs) (second_half xs)) ∙ ap (map f) (both_halves xs)

pub few_rise : {V : Type 0} (cmp : V → V → Ordering) (ls : List (Label V)) → length ls < 2 → AreRising cmp ls
few_rise cmp [] h = tt
few_rise cmp (l ∷ []) h = (tt, tt)
few_rise cmp (l ∷ m ∷ ls) h = absurd (omega arith)

few_equal : {X : Type 0} (xs : List X) → length xs < 2 → (x y : X) → Member xs x → Member xs y → x ≡ y
few_equal [] h x y m n = absurd m
few_equal (a ∷ []) h x y (inl e) (inl f) = sym e ∙ f
few_equal (a ∷ []) h x y (inl e) (inr n) = absurd n
few_equal (a ∷ []) h x y (inr m) n = absurd m
few_equal (a ∷ b ∷ xs) h x y m n = absurd (omega arith)

module _ {V : Type 0} (le same : V → V → Bool) (trail : Link → List ℕ) (order : IsOrder le) (same_itself : (a : V) → same a a ≡ true)
    (same_between : (a b c : V) → le a b ≡ true → le b c ≡ true → same a c ≡ true → (same a b ≡ true) × (same b c ≡ true)) where
  -- one label is a pool of itself
  pub few_pool : (ls : List (Label V)) → length ls < 2 → ArePoolOf le same trail (map (shown trail) ls) ls
  few_pool ls h = record {
    among = λ v w m. m;
    covers = λ x y m. (x, y, m, stands_refl V (List ℕ) le same ranks_at_most order ranks_order same_itself same_between x y);
    alone = λ v w x y m n s.
        let a = Member-map_out (shown trail) ls (v, w) m in
        let b = Member-map_out (shown trail) ls (x, y) n in
        let e : (v, w) ≡ (x, y) = sym a.2 ∙ (ap (shown trail) (few_equal ls h a.0 b.0 a.1 b.1) ∙ b.2) in
        (ap (λ p. p.0) e, ap (λ p. p.1) e);
  }
