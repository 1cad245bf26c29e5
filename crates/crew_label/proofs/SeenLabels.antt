-- Labels that are seen, as a list of labels.
use Rattle.std.proofs.Common.{◌≡◌, ℕ, Bool, true, false, cond, not, List, [], ◌∷◌, ◌++◌, ◌||◌, ◌⊎◌, ℤ, suc, zero, Some, Ordering, ◌<◌, length, get_or, map, inl, inr, refl, sym, ◌∙◌, ap, subst, ⊎_elim}
use Rattle.std.specs.Prelude.{slice_get}
use Rattle.std.specs.Option.{option_map}
use Rattle.std.proofs.lemmas.Option.{slice_get-get_or, slice_get-map}
use Rattle.std.specs.List.{filter, list_any}
use Rattle.std.specs.declared.cmp.Ordering.TheVariants.{Less}
use Rattle.std.proofs.lemmas.Bool.{false≢true}
use Rattle.std.proofs.lemmas.List.{map-append}
use Rattle.std.proofs.Math.ListN.{get_or-map}
use Rattle.crew_resource.specs.Members.{Member}
use Rattle.crew_resource.proofs.Members.{Member-append, Member-filter_out, Member-map_in, Member-map_out}
use Rattle.crew_label.specs.Machinery.Merges.{ComesFirst}
use Rattle.crew_label.specs.Machinery.Seeing.{AreMarked, AreTold, labels_of}
use Rattle.crew_label.specs.declared.label.Label.{Label}
use Rattle.crew_label.specs.declared.seen.Seen.{Seen}
use Rattle.crew_label.proofs.Halves.{first_half, second_half, halves}

any-map : {X Y : Type 0} (f : X → Y) (p : Y → Bool) (xs : List X) → list_any p (map f xs) ≡ list_any (λ x. p (f x)) xs
any-map f p [] = refl
any-map f p (x ∷ xs) = ap (λ b. p (f x) || b) (any-map f p xs)

one_more : {X Y : Type 0} (f : X → Y) (b c : Bool) (x : X) (xs : List X) (ys : List Y) → b ≡ c → map f xs ≡ ys → map f (cond b (x ∷ xs) xs) ≡ cond c (f x ∷ ys) ys
one_more f true true x xs ys e h = ap (λ zs. f x ∷ zs) h
one_more f false false x xs ys e h = h
one_more f true false x xs ys e h = absurd (false≢true (sym e))
one_more f false true x xs ys e h = absurd (false≢true e)

filter-map : {X Y : Type 0} (f : X → Y) (q : X → Bool) (p : Y → Bool) → ((x : X) → q x ≡ p (f x)) → (xs : List X) → map f (filter q xs) ≡ filter p (map f xs)
filter-map f q p h [] = refl
filter-map f q p h (x ∷ xs) = one_more f (q x) (p (f x)) x (filter q xs) (filter p (map f xs)) (h x) (filter-map f q p h xs)

-- the labels of those that are free are those of the labels that are
pub labels-free : {V : Type 0} (stand : Label V → Label V → Bool) (list others : List (Seen V))
    → labels_of (filter (λ m. not (list_any (λ s. stand s.label.now m.label.now) others)) list)
    ≡ filter (λ m. not (list_any (λ l. stand l m) (labels_of others))) (labels_of list)
labels-free {V} stand list others =
    filter-map (λ (s : Seen V). s.label.now) (λ m. not (list_any (λ s. stand s.label.now m.label.now) others)) (λ m. not (list_any (λ l. stand l m) (labels_of others)))
    (λ m. ap not (sym (any-map (λ (s : Seen V). s.label.now) (λ l. stand l m.label.now) others))) list

module _ {V : Type 0} where
  pub member_label : (seen : List (Seen V)) (s : Seen V) → Member seen s → Member (labels_of seen) s.label.now
  member_label seen s m = Member-map_in (λ (z : Seen V). z.label.now) seen s m

  -- where each is one of two lists, so is each label
  pub labels_from : (whole one two : List (Seen V)) → ((s : Seen V) → Member whole s → Member one s ⊎ Member two s)
      → (l : Label V) → Member (labels_of whole) l → Member (labels_of one) l ⊎ Member (labels_of two) l
  labels_from whole one two f l m =
      let k = Member-map_out (λ (z : Seen V). z.label.now) whole l m in
      ⊎_elim
      (λ h. inl (subst (λ (z : Label V). Member (labels_of one) z) k.2 (member_label one k.0 h)))
      (λ h. inr (subst (λ (z : Label V). Member (labels_of two) z) k.2 (member_label two k.0 h)))
      (f k.0 k.1)

  pub labels-last : (seen more : List (Seen V)) (x : Seen V) → more ≡ seen ++ x ∷ [] → labels_of more ≡ labels_of seen ++ x.label.now ∷ []
  labels-last seen more x e = ap labels_of e ∙ map-append (λ (z : Seen V). z.label.now) seen (x ∷ [])

  pub label_at : (seen : List (Seen V)) (i : ℕ) (x : Seen V) → x ≡ get_or seen i x → x.label.now ≡ get_or (labels_of seen) i x.label.now
  label_at seen i x e = ap (λ (z : Seen V). z.label.now) e ∙ sym (get_or-map (λ (z : Seen V). z.label.now) seen i x)

  pub long : (seen : List (Seen V)) → length (labels_of seen) ≡ length seen
  long [] = refl
  long (x ∷ xs) = ap (λ n. suc n) (long xs)

  pub seen_last : (one two : List (Seen V)) (seen more : List (Seen V)) (x : Seen V) → more ≡ seen ++ x ∷ []
      → ((s : Seen V) → Member seen s → Member one s ⊎ Member two s) → Member one x ⊎ Member two x
      → (s : Seen V) → Member more s → Member one s ⊎ Member two s
  seen_last one two seen more x e f h s m = of (Member-append seen (x ∷ []) s (subst (λ (ls : List (Seen V)). Member ls s) e m)) where
    of : Member seen s ⊎ Member (x ∷ []) s → Member one s ⊎ Member two s
    of (inl k) = f s k
    of (inr (inl q)) = subst (λ (z : Seen V). Member one z ⊎ Member two z) q h
    of (inr (inr k)) = absurd k

  pub told_last : (marks : V → List ℤ) (seen more : List (Seen V)) (x : Seen V) → more ≡ seen ++ x ∷ []
      → AreTold marks seen → x.marks.now ≡ marks x.label.now.value → AreTold marks more
  told_last marks seen more x e f h s m = of (Member-append seen (x ∷ []) s (subst (λ (ls : List (Seen V)). Member ls s) e m)) where
    of : Member seen s ⊎ Member (x ∷ []) s → s.marks.now ≡ marks s.label.now.value
    of (inl k) = f s k
    of (inr (inl q)) = subst (λ (z : Seen V). z.marks.now ≡ marks z.label.now.value) q h
    of (inr (inr k)) = absurd k

  pub told_one : (marks : V → ℤ → List ℤ) (list others : List (Seen V)) → AreMarked marks list others
      → (x : Seen V) → Member list x → AreMarked marks (x ∷ []) others
  told_one marks list others t x m = (t.0, at, t.2) where
    at : AreTold (λ v. marks v t.0) (x ∷ [])
    at s (inl q) = subst (λ (z : Seen V). z.marks.now ≡ marks z.label.now.value t.0) q (t.1 x m)
    at s (inr k) = absurd k

  at_label : (seen : List (Seen V)) (k : ℕ) (l : Label V) → slice_get (labels_of seen) k ≡ Some l
      → (s : Seen V) × (slice_get seen k ≡ Some s) × (s.label.now ≡ l)
  at_label [] k l e = absurd (let q : ⊥ = (cc) in q)
  at_label (x ∷ xs) zero l e = (x, refl, (let q : x.label.now ≡ l = (cc) in q))
  at_label (x ∷ xs) (suc k) l e = at_label xs k l e

  pub first_label : (cmp : V → V → Ordering) (one two : List (Seen V)) (i j : ℕ) → ComesFirst (λ (s t : Seen V). cmp s.label.now.value t.label.now.value) one i two j
      → ComesFirst (λ (l m : Label V). cmp l.value m.value) (labels_of one) i (labels_of two) j
  first_label cmp one two i j c = record {
    there = subst (λ n. i < n) (sym (long one)) c.there;
    first = λ l m p q.
        let s = at_label one i l p in
        let t = at_label two j m q in
        subst (λ (z : Label V). cmp z.value m.value ≡ Less) s.2 (subst (λ (z : Label V). cmp s.0.label.now.value z.value ≡ Less) t.2 (c.first s.0 t.0 s.1 t.1));
  }

  -- what is free of a list is told from the moment from which the list is
  pub told_free : (marks : V → ℤ → List ℤ) (one two free : List (Seen V)) (p : Seen V → Bool) → free ≡ filter p two → AreMarked marks one two → AreMarked marks one free
  told_free marks one two free p e t = (t.0, t.1, λ s m. t.2 s ((Member-filter_out p two s (subst (λ (ls : List (Seen V)). Member ls s) e m)).0))

  -- where each of a list is of another, so is each label
  pub labels_all : (some all : List (Seen V)) → ((s : Seen V) → Member some s → Member all s) → (l : Label V) → Member (labels_of some) l → Member (labels_of all) l
  labels_all some all f l m =
      let k = Member-map_out (λ (z : Seen V). z.label.now) some l m in
      subst (λ (z : Label V). Member (labels_of all) z) k.2 (member_label all k.0 (f k.0 k.1))

  pub few_labels : (seen : List (Seen V)) {n : ℕ} → length seen < n → length (labels_of seen) < n
  few_labels seen {n} h = subst (λ k. k < n) (sym (long seen)) h

  pub seen_halves : {Y : Type 0} (f : Label V → Y) (seen : List (Seen V)) → map f (labels_of (first_half seen)) ++ map f (labels_of (second_half seen)) ≡ map f (labels_of seen)
  seen_halves f seen =
      let g = λ (s : Seen V). s.label.now in
      sym (map-append f (map g (first_half seen)) (map g (second_half seen))) ∙ ap (map f) (halves g seen)

  pub marks_told : (f : V → List ℤ) (marks : List (List ℤ)) (labels : List (Label V)) (k : ℕ) (x : Label V) → marks ≡ map (λ l. f l.value) labels → k < length labels → x ≡ get_or labels k x
      → slice_get marks k ≡ Some (f x.value)
  marks_told f marks labels k x e h i =
      ap (λ ms. slice_get ms k) e ∙ (slice_get-map (λ (l : Label V). f l.value) labels k ∙ ap (option_map (λ (l : Label V). f l.value)) (slice_get-get_or labels k x h ∙ ap Some (sym i)))
