-- Labels over walks that have grown.
use Rattle.std.proofs.Common.{◌≡◌, ◌+◌, ◌++◌, ◌<◌, ℕ, Bool, true, false, List, [], ◌∷◌, ℤ, pos, inl, inr, Some, length, map, refl, sym, take, ◌∙◌, ap, arith, length-append}
use Rattle.std.specs.Prelude.{nat_eq, slice_get}
use Rattle.std.proofs.Math.Seq.{get_or-append_seam}
use Rattle.std.proofs.lemmas.List.{get_or_append_left, map-append}
use Rattle.crew_pool.specs.Arena.{walk_at}
use Rattle.crew_pool.specs.Counted.{AreCounted, IsCounted}
use Rattle.crew_pool.specs.LabelWalks.{duty_of, shown, walk_of_label}
use Rattle.crew_pool.specs.declared.label_walk.LabelWalk.{LabelWalk}
use Rattle.crew_resource.specs.Members.{Member}
use Rattle.crew_pool.proofs.LabelWalkLemmas.{duty_some}
use Rattle.crew_step.specs.Walks.{HasGrown}
use Rattle.crew_step.proofs.Loops.{append-none, take-grown}

pub grown-itself : (walks : List (List ℕ)) → HasGrown walks walks
grown-itself walks = record { longer = omega arith; same = λ p h. refl }

pub grown-through : (a b c : List (List ℕ)) → HasGrown a b → HasGrown b c → HasGrown a c
grown-through a b c h k =
    let x = h.longer in
    let y = k.longer in
    record { longer = omega (arith, x, y); same = λ p l. k.same p (omega (arith, l, x)) ∙ h.same p l }

pub grown-more : (walks : List (List ℕ)) (w : List ℕ) → HasGrown walks (walks ++ w ∷ [])
grown-more walks w =
    let k = length-append walks (w ∷ []) in
    record { longer = omega (arith, k); same = λ p h. get_or_append_left walks (w ∷ []) [] p h }

pub shown-grown : {V : Type 0} (before after : List (List ℕ)) → HasGrown before after → (l : V × LabelWalk) → l.1.walk < length before → shown after l ≡ shown before l
shown-grown before after h l there = ap (λ w. (l.0, w ++ duty_of l.1.duty)) (h.same l.1.walk there)

pub counted-grown : {V : Type 0} (count : V → ℤ) (before after : List (List ℕ)) (whole : Bool) → HasGrown before after → (l : V × LabelWalk) → IsCounted count before whole l → IsCounted count after whole l
counted-grown count before after whole h l c =
    let x = h.longer in
    let y = c.there in
    record {
      there = omega (arith, x, y);
      stands = c.stands;
      counts = c.counts ∙ ap (λ w. pos (length (w ++ duty_of l.1.duty))) (sym (h.same l.1.walk c.there));
    }

-- labels whose walks were there show what they showed
pub all-shown-there : {V : Type 0} (before after : List (List ℕ)) → HasGrown before after → (ls : List (V × LabelWalk)) → ((l : V × LabelWalk) → Member ls l → l.1.walk < length before)
    → map (shown after) ls ≡ map (shown before) ls
all-shown-there before after h [] c = refl
all-shown-there before after h (l ∷ ls) c =
    ap (λ z. z ∷ map (shown after) ls) (shown-grown before after h l (c l (inl refl)))
    ∙ ap (λ zs. shown before l ∷ zs) (all-shown-there before after h ls (λ m k. c m (inr k)))

pub all-shown-grown : {V : Type 0} (count : V → ℤ) (before after : List (List ℕ)) (whole : Bool) → HasGrown before after → (ls : List (V × LabelWalk)) → AreCounted count before whole ls
    → map (shown after) ls ≡ map (shown before) ls
all-shown-grown count before after whole h ls c = all-shown-there before after h ls (λ l m. (c l m).there)

-- a label whose walk has been added
module _ {V : Type 0} (walks : List (List ℕ)) (value : V) (before : LabelWalk) (has : nat_eq before.duty 4294967295 ≡ false) where
  abbrev pub added : List (List ℕ)
  added = walks ++ (walk_at walks before.walk ++ before.duty ∷ []) ∷ []

  abbrev pub whole : LabelWalk
  whole = record { walk = length walks; duty = 4294967295 }

  walk-whole : walk_of_label added whole ≡ walk_of_label walks before
  walk-whole =
      append-none (walk_at added (length walks))
      ∙ (get_or-append_seam walks (walk_at walks before.walk ++ before.duty ∷ []) [] []
      ∙ ap (λ d. walk_at walks before.walk ++ d) (sym (duty_some before.duty has)))

  pub shown-whole : shown added (value, whole) ≡ shown walks (value, before)
  shown-whole = ap (λ w. (value, w)) walk-whole

  pub counted-whole : (count : V → ℤ) → count value ≡ pos (length (walk_of_label walks before)) → IsCounted count added true (value, whole)
  counted-whole count counts =
      let k = length-append walks ((walk_at walks before.walk ++ before.duty ∷ []) ∷ []) in
      record {
        there = omega (arith, k);
        stands = refl;
        counts = counts ∙ ap (λ w. pos (length w)) (sym walk-whole);
      }

-- vectors of labels are those that they show
pub vectors-shown : {V : Type 0} (walks : List (List ℕ)) (ls : List (V × LabelWalk)) → map (λ e. e.0) (map (shown walks) ls) ≡ map (λ l. l.0) ls
vectors-shown walks [] = refl
vectors-shown walks (l ∷ ls) = ap (λ vs. l.0 ∷ vs) (vectors-shown walks ls)

-- one label more
pub one-more-shown : {V : Type 0} (first now : List (List ℕ)) (ls ps : List (V × LabelWalk)) (i : ℕ) (x p : V × LabelWalk) → slice_get ps i ≡ Some p
    → map (shown now) ls ≡ map (shown first) (take i ps) → shown now x ≡ shown first p → map (shown now) (ls ++ x ∷ []) ≡ map (shown first) (take (i + 1) ps)
one-more-shown first now ls ps i x p at e s =
    map-append (shown now) ls (x ∷ [])
    ∙ (ap (λ zs. zs ++ shown now x ∷ []) e
    ∙ (ap (λ z. map (shown first) (take i ps) ++ z ∷ []) s
    ∙ sym (ap (map (shown first)) (take-grown ps i p at) ∙ map-append (shown first) (take i ps) (p ∷ []))))
