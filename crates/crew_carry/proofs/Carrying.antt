-- Walks that are carried, one duty after another.
use Rattle.std.proofs.Common.{◌≡◌, ◌+◌, ◌⊎◌, ◌++◌, ◌∷◌, [], inl, inr, ℕ, zero, suc, List, Option, Some, length, length-append, set, refl, ap, arith, sym, ◌∙◌, subst}
use Rattle.std.specs.Prelude.{slice_get}
use Rattle.std.proofs.Math.Seq.{get_or-append_seam}
use Rattle.std.proofs.lemmas.List.{length-set, map-append}
use Rattle.crew_pool.specs.Arena.{walk_at}
use Rattle.crew_step.specs.Walks.{HasGrown}
use Rattle.crew_step.proofs.Grown.{grown-more}
use Rattle.crew_carry.specs.Carried.{AreTwinWalks, IsCarried, twin_of}
use Rattle.crew_carry.proofs.Pushed.{some-once}

-- what stands in a list after a write
set-out : {X : Type 0} (xs : List X) (i : ℕ) (y : X) (j : ℕ) (z : X) → slice_get (set xs i y) j ≡ Some z → ((j ≡ i) × (y ≡ z)) ⊎ (slice_get xs j ≡ Some z)
set-out [] i y j z e = inr e
set-out (x ∷ xs) zero y zero z e = inl (refl, some-once y z e)
set-out (x ∷ xs) zero y (suc j) z e = inr e
set-out (x ∷ xs) (suc i) y zero z e = inr e
set-out (x ∷ xs) (suc i) y (suc j) z e =
    elim (set-out xs i y j z e) [
      | inl h ↦ inl (let n = h.0 in (omega (arith, n)), h.1)
      | inr h ↦ inr h
    ]

-- one duty more on both sides
pub twins-more : (ranks : List (Option ℕ)) (w v : List ℕ) (r k : ℕ) → AreTwinWalks ranks w v → twin_of ranks r ≡ Some k → AreTwinWalks ranks (w ++ r ∷ []) (v ++ k ∷ [])
twins-more ranks w v r k h t =
    let some : ℕ → Option ℕ = λ n. Some n in
    map-append (twin_of ranks) w (r ∷ []) ∙ ((λ i. h i ++ t i ∷ []) ∙ sym (map-append some v (k ∷ [])))

-- walks that are carried are so where more walks stand
pub carried-grown : (ranks : List (Option ℕ)) (from to after : List (List ℕ)) (places : List (Option ℕ)) → IsCarried ranks from to places → HasGrown to after → IsCarried ranks from after places
carried-grown ranks from to after places h grown = record {
  long = h.long;
  there = λ p q e. let there = h.there p q e in let longer = grown.longer in omega (arith, there, longer);
  shows = λ p q e. subst (λ (w : List ℕ). AreTwinWalks ranks (walk_at from p) w) (sym (grown.same q (h.there p q e))) (h.shows p q e);
}

module _ (ranks : List (Option ℕ)) (from to : List (List ℕ)) (places : List (Option ℕ)) (h : IsCarried ranks from to places) where
  module _ (p : ℕ) (w v : List ℕ) (r k : ℕ) (walk : walk_at from p ≡ w ++ r ∷ []) (before : AreTwinWalks ranks w v) (twin : twin_of ranks r ≡ Some k) where
    abbrev now : List (List ℕ)
    now = to ++ (v ++ k ∷ []) ∷ []

    longer : length now ≡ length to + 1
    longer = length-append to ((v ++ k ∷ []) ∷ [])

    shows-new : (j q : ℕ) → j ≡ p → q ≡ length to → AreTwinWalks ranks (walk_at from j) (walk_at now q)
    shows-new j q a b =
        let old : w ++ r ∷ [] ≡ walk_at from j = sym (ap (walk_at from) a ∙ walk) in
        let new : v ++ k ∷ [] ≡ walk_at now q = sym (ap (walk_at now) b ∙ get_or-append_seam to (v ++ k ∷ []) [] []) in
        subst (λ (x : List ℕ). AreTwinWalks ranks x (walk_at now q)) old (subst (λ (y : List ℕ). AreTwinWalks ranks (w ++ r ∷ []) y) new (twins-more ranks w v r k before twin))

    shows-old : (j q : ℕ) → slice_get places j ≡ Some (Some q) → AreTwinWalks ranks (walk_at from j) (walk_at now q)
    shows-old j q e = subst (λ (y : List ℕ). AreTwinWalks ranks (walk_at from j) y) (sym ((grown-more to (v ++ k ∷ [])).same q (h.there j q e))) (h.shows j q e)

    put-now : IsCarried ranks from now (set places p (Some (length to)))
    put-now = record {
      long = length-set places p (Some (length to)) ∙ h.long;
      there = λ j q e.
          elim (set-out places p (Some (length to)) j (Some q) e) [
            | inl m ↦ (let s : length to ≡ q = some-once (length to) q m.1 in let l = longer in omega (arith, s, l))
            | inr o ↦ (let s = h.there j q o in let l = longer in omega (arith, s, l))
          ];
      shows = λ j q e.
          elim (set-out places p (Some (length to)) j (Some q) e) [
            | inl m ↦ shows-new j q m.0 (sym (some-once (length to) q m.1))
            | inr o ↦ shows-old j q o
          ];
    }

    -- a walk that has been added is carried
    pub put-carried : (after : List (List ℕ)) (place : ℕ) → after ≡ now → place ≡ length to → IsCarried ranks from after (set places p (Some place))
    put-carried after place a b =
        subst (λ (ws : List (List ℕ)). IsCarried ranks from ws (set places p (Some place))) (sym a)
        (subst (λ (n : ℕ). IsCarried ranks from now (set places p (Some n))) (sym b) put-now)
