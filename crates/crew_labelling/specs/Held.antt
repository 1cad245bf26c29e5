-- What labels have: their links lead to labels of earlier departures, and their values lie within
-- the bounds under which the stages may be called.
use Rattle.std.specs.Prelude.{◌≡◌, ◌<◌, ◌≤◌, ℕ, pos, Bool, List, Some, length}
use Rattle.crew_label.specs.Tables.{Tabled, leads_in, trail_in}
use Rattle.crew_label.specs.Walks.{Leads, shown}
use Rattle.crew_label.specs.declared.label.Label.{Label}
use Rattle.crew_label.specs.declared.label.Link.{Link}
use Rattle.crew_resource.specs.Members.{Each, Member}
use Rattle.crew_labelling.specs.Terms.{Terms}

-- where the labels of a table lead, and their walks
abbrev pub leads_of : {V : Type 0} → Tabled V → Link → Bool
leads_of t link = leads_in t.leaves t.pools link

abbrev pub trail_of : {V : Type 0} → Tabled V → Link → List ℕ
trail_of t link = trail_in t.leaves t.pools link

-- a value with its walk: of duties that have ranks, as many as the value counts, no more than the
-- most; the value lies within the bound for so many
pub record IsEntry {V : Type 0} (w : Terms V) (Bound : ℕ → V → Type 0) (e : V × List ℕ)
    : Type 0 where
  pub counts : w.count e.0 ≡ pos (length e.1)
  pub ranked : Each (λ rank. rank < length w.net.duties) e.1
  pub few : (m : ℕ) → w.most ≡ Some m → length e.1 ≤ m
  pub bound : Bound (length e.1) e.0

pub record IsHeld {V : Type 0} (w : Terms V) (Bound : ℕ → V → Type 0) (t : Tabled V) (l : Label V)
    : Type 0 where
  pub leading : Leads (leads_of t) l.before
  pub entry : IsEntry w Bound (shown (trail_of t) l)

abbrev pub AreHeld : {V : Type 0} → Terms V → (ℕ → V → Type 0) → Tabled V → List (Label V) → Type 0
AreHeld {V} w Bound t labels = (l : Label V) → Member labels l → IsHeld w Bound t l

-- so at a departure, and at an arrival
abbrev pub AreReady : {V : Type 0} → Terms V → Tabled V → List (Label V) → Type 0
AreReady w t labels = AreHeld w w.ready t labels

abbrev pub HaveArrived : {V : Type 0} → Terms V → Tabled V → List (Label V) → Type 0
HaveArrived w t labels = AreHeld w w.arrived t labels
