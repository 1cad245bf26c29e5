-- Places in parts, and entries in blocks.
use Rattle.std.proofs.Common.{◌≡◌, true, false, Bool, not, ◌⊎◌, inl, inr, ℕ, List, [], ◌∷◌, ◌++◌, Vec, Global, refl, sym, subst, ap, ◌∙◌, ℤ}
use Rattle.std.specs.List.{filter}
use Rattle.crew_resource.specs.Members.{Member}
use Rattle.crew_resource.proofs.Members.{Member-append_left, Member-append_right, Member-append, Member-filter_in}
use Rattle.crew_label.specs.Machinery.Indexes.{IsHeld, IsPlaced}
use Rattle.crew_label.specs.Machinery.Marks.{are_at_most}
use Rattle.crew_label.specs.declared.blocks.Block.{Block}
use Rattle.crew_label.specs.declared.blocks.Entry.{Entry}
use Rattle.crew_label.proofs.Marked.{at_most_between}

pub held_last : (blocks new : List Block) (b : Block) (e : Entry) → new ≡ blocks ++ b ∷ []
    → are_at_most b.least e.marks ≡ true → Member b.entries.items e → IsHeld new e
held_last blocks new b e p h m =
    record {
      block = b;
      among = subst (λ (bs : List Block). Member bs b) (sym p) (Member-append_right blocks (b ∷ []) b (inl refl));
      below = h;
      has = m;
    }

pub held_more : (blocks new : List Block) (b : Block) (e : Entry) → new ≡ blocks ++ b ∷ []
    → IsHeld blocks e → IsHeld new e
held_more blocks new b e p k =
    record {
      block = k.block;
      among = subst (λ (bs : List Block). Member bs k.block) (sym p) (Member-append_left blocks (b ∷ []) k.block k.among);
      below = k.below;
      has = k.has;
    }

-- what is on neither side isn't there
pub on_a_side : {X : Type 0} (p : X → Bool) (es all low high : List X) (e : X)
    → all ≡ es → low ≡ filter p all → high ≡ filter (λ x. not (p x)) all
    → Member es e → Member low e ⊎ Member high e
on_a_side {X} p es all low high e f l h m = side (p e) refl where
  side : (b : Bool) → p e ≡ b → Member low e ⊎ Member high e
  side true t = inl (subst (λ (z : List X). Member z e) (sym (l ∙ ap (filter p) f)) (Member-filter_in p es e m t))
  side false t = inr (subst (λ (z : List X). Member z e) (sym (h ∙ ap (filter (λ x. not (p x))) f)) (Member-filter_in (λ x. not (p x)) es e m (ap not t)))

-- the least marks of one more
pub least_more : {X : Type 0} (marks : X → List ℤ) (xs more : List X) (x : X) (least less : List ℤ) → more ≡ xs ++ x ∷ []
    → are_at_most less least ≡ true → are_at_most less (marks x) ≡ true
    → ((y : X) → Member xs y → are_at_most least (marks y) ≡ true)
    → (y : X) → Member more y → are_at_most less (marks y) ≡ true
least_more {X} marks xs more x least less p f s k y m = of (Member-append xs (x ∷ []) y (subst (λ (l : List X). Member l y) p m)) where
  of : Member xs y ⊎ Member (x ∷ []) y → are_at_most less (marks y) ≡ true
  of (inl h) = at_most_between less least (marks y) f (k y h)
  of (inr (inl q)) = subst (λ (z : X). are_at_most less (marks z) ≡ true) q s
  of (inr (inr h)) = absurd h

pub placed_last : (parts new : List (Vec ℕ Global)) (part : Vec ℕ Global) (k : ℕ) → new ≡ parts ++ part ∷ []
    → Member part.items k → IsPlaced new k
placed_last parts new part k p m =
    (part, subst (λ (ps : List (Vec ℕ Global)). Member ps part) (sym p) (Member-append_right parts (part ∷ []) part (inl refl)), m)

pub placed_more : (parts new : List (Vec ℕ Global)) (part : Vec ℕ Global) (k : ℕ) → new ≡ parts ++ part ∷ []
    → IsPlaced parts k → IsPlaced new k
placed_more parts new part k p h =
    (h.0, subst (λ (ps : List (Vec ℕ Global)). Member ps h.0) (sym p) (Member-append_left parts (part ∷ []) h.0 h.1), h.2)

-- what is placed in parts and one more
pub placed_split : (parts new : List (Vec ℕ Global)) (part : Vec ℕ Global) (k : ℕ) → new ≡ parts ++ part ∷ [] → IsPlaced new k
    → IsPlaced parts k ⊎ Member part.items k
placed_split parts new part k p h = of (Member-append parts (part ∷ []) h.0 (subst (λ (ps : List (Vec ℕ Global)). Member ps h.0) p h.1)) where
  of : Member parts h.0 ⊎ Member (part ∷ []) h.0 → IsPlaced parts k ⊎ Member part.items k
  of (inl m) = inl (h.0, m, h.2)
  of (inr (inl q)) = inr (subst (λ (z : Vec ℕ Global). Member z.items k) (sym q) h.2)
  of (inr (inr m)) = absurd m
