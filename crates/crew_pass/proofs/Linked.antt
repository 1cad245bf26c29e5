-- What the pools of a table lead to.
use Rattle.std.proofs.Common.{ℕ, zero, suc, List, [], ◌∷◌, ◌++◌, get_or, take, sym, subst}
use Rattle.std.proofs.lemmas.List.{append_assoc, append-nil}
use Rattle.crew_label.specs.Tables.{AreLinked, Leaving, leads_in}
use Rattle.crew_label.specs.Walks.{Leads}
use Rattle.crew_label.specs.declared.label.Label.{Label}
use Rattle.crew_label.proofs.RisingLists.{each-member}
use Rattle.crew_resource.specs.Members.{Member}

-- the labels of a departure lead to those before it
pub linked-before : {V : Type 0} (leaves : Leaving) (before ps : List (List (Label V))) (k : ℕ) → AreLinked leaves before ps → (l : Label V) → Member (get_or ps k []) l
    → Leads (leads_in leaves (before ++ take k ps)) l.before
linked-before leaves before [] k h l m = absurd m
linked-before {V} leaves before (p ∷ ps) zero h l m =
    subst (λ (qs : List (List (Label V))). Leads (leads_in leaves qs) l.before) (sym (append-nil before)) (each-member (λ (x : Label V). Leads (leads_in leaves before) x.before) p l h.0 m)
linked-before {V} leaves before (p ∷ ps) (suc k) h l m =
    subst (λ (qs : List (List (Label V))). Leads (leads_in leaves qs) l.before) (append_assoc before (p ∷ []) (take k ps)) (linked-before leaves (before ++ p ∷ []) ps k h.1 l m)
