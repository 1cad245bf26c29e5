-- Marks of change.
use Rattle.std.proofs.Common.{◌≡◌, ◌∙◌, ◌<◌, ◌+◌, ◌∷◌, [], ℕ, Bool, true, false, List, length, set, take, get_or, sym, ap, subst, ⊎_elim, arith}
use Rattle.std.proofs.lemmas.Bool.{false≢true}
use Rattle.std.proofs.lemmas.Bool.Decides.{eqb_tells}
use Rattle.std.proofs.lemmas.Grind.{get_or-set_at}
use Rattle.std.proofs.lemmas.List.{get_or-set_other, take_more}
use Rattle.crew_net.specs.Events.{leaves_at}
use Rattle.crew_net.specs.Machinery.Numbered.{arrival_place}
use Rattle.crew_net.specs.Nets.{AreArrivalPlaces, Net}
use Rattle.crew_net.specs.Ranks.{ranks_where}
use Rattle.crew_net.proofs.ArrivalPlaces.{ranks-in, ranks-out}
use Rattle.crew_net.proofs.Numbers.{departure-itself, get-within, place-arrival}
use Rattle.crew_net.proofs.Orders.{arrivals-distinct}
use Rattle.crew_net.proofs.Slices.{member-place}
use Rattle.crew_pairing.specs.Events.{arrival_of, departure_of}
use Rattle.crew_pairing.specs.declared.duty.Duty.{Duty}
use Rattle.crew_pairing.specs.declared.events.Departure.{Departure}
use Rattle.crew_sweep.specs.Machinery.Renewing.{IsLaid}
use Rattle.crew_resource.specs.Members.{Member}
use Rattle.crew_resource.proofs.Members.{Member-append}

-- no mark is taken away
abbrev pub AreLess : List Bool → List Bool → Type 0
AreLess now was = (p : ℕ) → get_or now p true ≡ false → get_or was p true ≡ false

-- the places of ranks are marked
abbrev pub AreMarked : List Bool → List ℕ → List ℕ → Type 0
AreMarked now places ranks = (p : ℕ) → get_or now p true ≡ false → (rank : ℕ) → Member ranks rank → get_or places rank 0 ≡ p → ⊥

module _ (places ranks : List ℕ) (changed : List Bool) (i : ℕ) (h : i < length ranks) (bound : get_or places (get_or ranks i 0) 0 < length changed) where
  abbrev place : ℕ
  place = get_or places (get_or ranks i 0) 0

  abbrev now : List Bool
  now = set changed place true

  elsewhere : (p : ℕ) → get_or now p true ≡ false → (place ≡ p → ⊥) × (get_or changed p true ≡ false)
  elsewhere p unmarked = ⊎_elim {C = (place ≡ p → ⊥) × (get_or changed p true ≡ false)}
      (λ t. absurd (false≢true (sym unmarked ∙ get_or-set_at changed place p true true (sym t.1) bound)))
      (λ f. (f.1, sym (get_or-set_other changed place p true true (λ e. f.1 (sym e))) ∙ unmarked))
      (eqb_tells place p)

  pub less-more : (was : List Bool) → AreLess changed was → AreLess now was
  less-more was less p unmarked = less p (elsewhere p unmarked).1

  pub marked-more : AreMarked changed places (take i ranks) → AreMarked now places (take (i + 1) ranks)
  marked-more marked p unmarked rank m at =
      let k = elsewhere p unmarked in
      ⊎_elim {C = ⊥} (λ a. marked p k.1 rank a at)
      (λ b. ⊎_elim {C = ⊥} (λ e. k.0 (ap (λ n. get_or places n 0) e ∙ at)) (λ z. absurd z) b)
      (Member-append (take i ranks) (get_or ranks i 0 ∷ []) rank (subst (λ (rs : List ℕ). Member rs rank) (take_more ranks i 0 h) m))

-- the ranks of what leaves at a departure
module _ (net : Net) (laid : IsLaid net) (places : List ℕ) (are : AreArrivalPlaces net places) (g : Departure) where
  pub leaving-within : (rank : ℕ) → Member (ranks_where (leaves_at g) net.duties) rank → (rank < length places) × (get_or places rank 0 < length net.arrivals)
  leaving-within rank m =
      let d = ranks-out (leaves_at g) net.duties rank m in
      let within = get-within net.duties rank d.0 d.1 in
      let long = are.long in
      (omega (arith, within, long), get-within net.arrivals (get_or places rank 0) (arrival_of d.0) (are.exact rank d.0 d.1))

  pub none-left : (changed : List Bool) → AreMarked changed places (ranks_where (leaves_at g) net.duties) → (p : ℕ) → get_or changed p true ≡ false → (d : Duty) → Member net.duties d
      → arrival_place net.arrivals (arrival_of d) ≡ p → departure_of d ≡ g → ⊥
  none-left changed marked p unmarked d m at leaves =
      let rank = member-place net.duties d m in
      let listed = ranks-in (leaves_at g) net.duties rank.0 d rank.1 (subst (λ (z : Departure). leaves_at z d ≡ true) leaves (departure-itself (departure_of d))) in
      marked p unmarked rank.0 listed (sym (place-arrival net.arrivals (arrival_of d) (get_or places rank.0 0) (arrivals-distinct net laid.arrives) (are.exact rank.0 d rank.1)) ∙ at)
