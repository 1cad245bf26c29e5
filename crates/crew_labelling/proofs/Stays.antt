-- A departure more in a table: what led to a label leads there still, and walks stay.
use Rattle.std.proofs.Common.{◌≡◌, ◌∙◌, ◌+◌, ◌++◌, ℕ, zero, suc, true, List, [], ◌∷◌, Option, Some, None, length, map, get_or, inl, inr, refl, sym, ap, subst, length-append}
use Rattle.std.proofs.Math.Seq.{get_or-append_seam}
use Rattle.crew_label.specs.Tables.{Tabled}
use Rattle.crew_label.specs.Walks.{Leads, shown, walk_of}
use Rattle.crew_label.specs.declared.label.Label.{Label}
use Rattle.crew_label.specs.declared.label.Link.{Link}
use Rattle.crew_resource.specs.Members.{Member}
use Rattle.crew_labelling.specs.Held.{AreHeld, IsEntry, leads_of, trail_of}
use Rattle.crew_labelling.specs.Terms.{Terms}

-- what each list of labels has, what stands at a place has
pub at-held : {V : Type 0} (w : Terms V) (Bound : ℕ → V → Type 0) (t : Tabled V) (lists : List (List (Label V)))
    → ((labels : List (Label V)) → Member lists labels → AreHeld w Bound t labels) → (i : ℕ) → AreHeld w Bound t (get_or lists i [])
at-held w Bound t [] h i = λ l m. absurd m
at-held w Bound t (x ∷ xs) h zero = h x (inl refl)
at-held w Bound t (x ∷ xs) h (suc i) = at-held w Bound t xs (λ labels m. h labels (inr m)) i

-- a list that has one more
pub appended : {X : Type 0} (ps qs : List (List X)) (p : List X) → qs ≡ ps ++ p ∷ [] → (length ps + 1 ≡ length qs) × (get_or qs (length ps) [] ≡ p)
appended ps qs p e = (sym (ap length e ∙ length-append ps (p ∷ [])), ap (λ xs. get_or xs (length ps) []) e ∙ get_or-append_seam ps p [] [])

module _ {V : Type 0} (t t' : Tabled V) (stays : (link : Link) → leads_of t link ≡ true → (leads_of t' link ≡ true) × (trail_of t' link ≡ trail_of t link)) where
  pub leads-still : (o : Option Link) → Leads (leads_of t) o → Leads (leads_of t') o
  leads-still None h = tt
  leads-still (Some link) h = (stays link h).0

  pub walk-stays : (o : Option Link) → Leads (leads_of t) o → walk_of (trail_of t') o ≡ walk_of (trail_of t) o
  walk-stays None h = refl
  walk-stays (Some link) h = (stays link h).1

  pub shown-stays : (l : Label V) → Leads (leads_of t) l.before → shown (trail_of t') l ≡ shown (trail_of t) l
  shown-stays l h = ap (λ (k : List ℕ). (l.value, k)) (walk-stays l.before h)

  module _ (w : Terms V) (Bound : ℕ → V → Type 0) where
    pub all-stay : (labels : List (Label V)) → AreHeld w Bound t labels → map (shown (trail_of t')) labels ≡ map (shown (trail_of t)) labels
    all-stay [] h = refl
    all-stay (l ∷ ls) h =
        ap (λ (e : V × List ℕ). e ∷ map (shown (trail_of t')) ls) (shown-stays l (h l (inl refl)).leading)
        ∙ ap (λ (es : List (V × List ℕ)). shown (trail_of t) l ∷ es) (all-stay ls (λ m k. h m (inr k)))

    pub held-still : (labels : List (Label V)) → AreHeld w Bound t labels → AreHeld w Bound t' labels
    held-still labels h l m =
        let k = h l m in
        record { leading = leads-still l.before k.leading; entry = subst (IsEntry w Bound) (sym (shown-stays l k.leading)) k.entry }
