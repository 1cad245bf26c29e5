-- What an index finds.
use Rattle.std.proofs.Common.{◌≡◌, ℕ, suc, ◌+◌, ◌<◌, Bool, true, false, List, [], ◌∷◌, ◌++◌, Option, Some, None, ℤ, length, inl, inr, refl, sym, ◌∙◌, ap, subst, arith}
use Rattle.std.specs.Prelude.{slice_get}
use Rattle.std.specs.List.{list_any}
use Rattle.crew_resource.specs.Members.{Member}
use Rattle.crew_resource.proofs.Members.{Member-append_left, Member-append_right, Member-at, list_any_true}
use Rattle.crew_label.specs.Machinery.Indexes.{IsGrouped, IsHeld, entries_from, finds_block, finds_entry, finds_group, passes}
use Rattle.crew_label.specs.Machinery.Marks.{are_at_most}
use Rattle.crew_label.specs.declared.blocks.Entry.{Entry}
use Rattle.crew_label.specs.declared.index.Group.{Group}
use Rattle.crew_label.proofs.Listed.{any_here}
use Rattle.crew_label.proofs.Marked.{and_second, and_true, at_most_between}

pub grouped_last : (groups new : List Group) (g : Group) (e : Entry) → new ≡ groups ++ g ∷ []
    → are_at_most g.least e.marks ≡ true → IsHeld g.blocks.items e → IsGrouped new e
grouped_last groups new g e p h k =
    record {
      group = g;
      among = subst (λ (gs : List Group). Member gs g) (sym p) (Member-append_right groups (g ∷ []) g (inl refl));
      below = h;
      held = k;
    }

pub grouped_more : (groups new : List Group) (g : Group) (e : Entry) → new ≡ groups ++ g ∷ []
    → IsGrouped groups e → IsGrouped new e
grouped_more groups new g e p k =
    record {
      group = k.group;
      among = subst (λ (gs : List Group). Member gs k.group) (sym p) (Member-append_left groups (g ∷ []) k.group k.among);
      below = k.below;
      held = k.held;
    }

module _ {X : Type 0} (marks : X → List ℤ) where
  abbrev pub entry : ℕ → X → Entry
  entry place l = record { marks = marks l; place = place }

  -- each label has an entry, where it stands
  Entered : ℕ → List X → X → Type 0
  Entered n ls l = (k : ℕ) × (slice_get ls k ≡ Some l) × Member (entries_from marks n ls) (entry (n + k) l)

  entered : (n : ℕ) (ls : List X) (l : X) → Member ls l → Entered n ls l
  unfolding Entered
  entered n [] l m = absurd m
  entered n (x ∷ ls) l (inl p) =
      let e : n ≡ n + 0 = omega arith in
      (0, ap Some p, inl (ap (λ k. entry k x) e ∙ ap (entry (n + 0)) p))
  entered n (x ∷ ls) l (inr m) =
      let r = entered (n + 1) ls l m in
      let e : n + 1 + r.0 ≡ n + suc r.0 = omega arith in
      (suc r.0, r.1, inr (subst (λ k. Member (entries_from marks (n + 1) ls) (entry k l)) e r.2))

  pub entry_of : (ls : List X) (l : X) → Member ls l
      → (k : ℕ) × (slice_get ls k ≡ Some l) × Member (entries_from marks 0 ls) (entry k l)
  unfolding Entered
  entry_of ls l m =
      let r = entered 0 ls l m in
      let e : 0 + r.0 ≡ r.0 = omega arith in
      (r.0, r.1, subst (λ k. Member (entries_from marks 0 ls) (entry k l)) e r.2)

  -- each entry is of what stands at its place
  abbrev EntryOf : ℕ → List X → Entry → Type 0
  EntryOf n ls e = (k : ℕ) × (l : X) × (n + k ≡ e.place) × (k < length ls) × (slice_get ls k ≡ Some l) × (marks l ≡ e.marks)

  entry_from : (n : ℕ) (ls : List X) (e : Entry) → Member (entries_from marks n ls) e → EntryOf n ls e
  entry_from n [] e m = absurd m
  entry_from n (x ∷ ls) e (inl q) =
      let p = ap (λ z. z.place) q in
      (0, x, omega (arith, p), omega arith, refl, ap (λ z. z.marks) q)
  entry_from n (x ∷ ls) e (inr m) =
      let r = entry_from (n + 1) ls e m in
      let p = r.2 in
      let h = r.3 in
      (suc r.0, r.1, omega (arith, p), omega (arith, h), r.4, r.5)

  pub entry_is : (ls : List X) (e : Entry) → Member (entries_from marks 0 ls) e
      → (l : X) × (slice_get ls e.place ≡ Some l) × (marks l ≡ e.marks)
  entry_is ls e m =
      let r = entry_from 0 ls e m in
      let p = r.2 in
      let k : r.0 ≡ e.place = omega (arith, p) in
      (r.1, subst (λ z. slice_get ls z ≡ Some r.1) k r.4, r.5)

  pub entry_within : (ls : List X) (e : Entry) → Member (entries_from marks 0 ls) e → e.place < length ls
  entry_within ls e m =
      let r = entry_from 0 ls e m in
      let p = r.2 in
      let h = r.3 in
      omega (arith, p, h)

  pub entry_same : (ls : List X) (e : Entry) (k : ℕ) (l : X) → Member (entries_from marks 0 ls) e → e.place ≡ k → slice_get ls k ≡ Some l → entry k l ≡ e
  entry_same ls e k l m p h =
      let r = entry_is ls e m in
      let o : Some r.0 ≡ Some l = sym r.1 ∙ (ap (slice_get ls) p ∙ h) in
      let same : r.0 ≡ l = (cc) in
      ap (λ (z : List ℤ). let f : Entry = record { marks = z; place = k } in f) (sym (ap marks same) ∙ r.2) ∙ ap (λ (z : ℕ). let f : Entry = record { marks = e.marks; place = z } in f) (sym p)

  pub no_entry : (ls : List X) (e : Entry) (k : ℕ) → Member (entries_from marks 0 ls) e → e.place ≡ k → slice_get ls k ≡ None → ⊥
  no_entry ls e k m p h =
      let r = entry_is ls e m in
      let o : None ≡ Some r.0 = sym h ∙ (ap (slice_get ls) (sym p) ∙ r.1) in
      (cc)

passed : {X : Type 0} (test : X → Bool) (o : Option X) → passes test o ≡ true
    → (x : X) × (o ≡ Some x) × (test x ≡ true)
passed test None h = let k : false ≡ true = h in absurd (grind (arith))
passed test (Some x) h = (x, refl, h)

same_bool : (a b : Bool) → (a ≡ true → b ≡ true) → (b ≡ true → a ≡ true) → a ≡ b
same_bool true b f g = sym (f refl)
same_bool false true f g = g refl
same_bool false false f g = refl

module _ {X : Type 0} (marks : X → List ℤ) (ls : List X) (groups : List Group)
    (test : X → Bool) (most : List ℤ)
    (indexed : (e : Entry) → Member (entries_from marks 0 ls) e → IsGrouped groups e)
    (asked : (l : X) → Member ls l → test l ≡ true → are_at_most (marks l) most ≡ true) where
  at : ℕ → Bool
  at place = passes test (slice_get ls place)

  sound : list_any (finds_group at most) groups ≡ true → list_any test ls ≡ true
  unfolding at
  sound h =
      let g = list_any_true (finds_group at most) groups h in
      let gs = and_second (are_at_most g.0.least most) (list_any (finds_block at most) g.0.blocks.items) g.2 in
      let b = list_any_true (finds_block at most) g.0.blocks.items gs in
      let bs = and_second (are_at_most b.0.least most) (list_any (finds_entry at most) b.0.entries.items) b.2 in
      let e = list_any_true (finds_entry at most) b.0.entries.items bs in
      let es = and_second (are_at_most e.0.marks most) (at e.0.place) e.2 in
      let x = passed test (slice_get ls e.0.place) es in
      any_here test ls x.0 (Member-at ls e.0.place x.0 x.1) x.2

  complete : list_any test ls ≡ true → list_any (finds_group at most) groups ≡ true
  unfolding at
  complete h =
      let l = list_any_true test ls h in
      let k = entry_of marks ls l.0 l.1 in
      let e = entry marks k.0 l.0 in
      let under = asked l.0 l.1 l.2 in
      let g = indexed e k.2 in
      let b = g.held in
      let here : finds_entry at most e ≡ true = and_true under (ap (passes test) k.1 ∙ l.2) in
      let block : finds_block at most b.block ≡ true = and_true (at_most_between b.block.least e.marks most b.below under) (any_here (finds_entry at most) b.block.entries.items e b.has here) in
      any_here (finds_group at most) groups g.group g.among
      (and_true (at_most_between g.group.least e.marks most g.below under) (any_here (finds_block at most) g.group.blocks.items b.block b.among block))

  -- what is found by groups is what a test of all would find
  pub found_is_any : list_any (finds_group (λ place. passes test (slice_get ls place)) most) groups ≡ list_any test ls
  unfolding at
  found_is_any = same_bool (list_any (finds_group at most) groups) (list_any test ls) sound complete
