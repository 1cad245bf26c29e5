-- The value of a line of items lies within the bound for their number.
use Rattle.std.proofs.Common.{◌≡◌, ℕ, suc, ◌+◌, Bool, List, [], ◌∷◌, length, Option, Some, sym, ◌∙◌, subst, ⊎_elim, arith}
use Rattle.crew_resource.specs.Machinery.Uses.{HasRoom}
use Rattle.crew_resource.specs.Resource.{StepLaws}
use Rattle.crew_resource.specs.Stages.{BoundLaws, StagedLaws}
use Rattle.crew_vector.specs.Machinery.Along.{GoesOn, extended}
use Rattle.crew_vector.proofs.Extended.{goes-on, none-goes-on}
use Rattle.crew_vector.proofs.Paths.{some-or-none}
use Rattle.crew_step.proofs.Loops.{then-some}

module _ (V I X G : Type 0) (is_sound : I → Type 0) (may_begin : G → Type 0) (may_follow : X → G → Type 0) (arrives : I → X) (leaves : I → G)
    (idle : G → V) (wait : V → X → G → V) (board : V → I → Option V) (can_start : I → Type 0) (can_extend : V → I → I → Type 0)
    (can_idle : G → Type 0) (can_wait : V → X → G → Type 0) (can_board : V → I → Type 0) (fits : ℕ → Type 0) (ready arrived : ℕ → V → Type 0)
    (opens : I → Option V) (extends : V → I → I → Option V) (below : V → V → Bool) (value_of : List I → Option V)
    (bounds : BoundLaws is_sound may_begin may_follow arrives leaves idle wait board can_start can_extend can_idle can_wait can_board fits ready arrived)
    (staged : StagedLaws opens extends below arrives leaves idle wait board)
    (steps : StepLaws opens extends below value_of) where
  start-arrived : (first : I) (z : V) → is_sound first → may_begin (leaves first) → opens first ≡ Some z → arrived 1 z
  start-arrived first z sound begins e = bounds.board_arrived 0 (idle (leaves first)) z first sound (bounds.idle_ready (leaves first) begins) (sym (staged.opening first) ∙ e)

  along-arrived : (n : ℕ) (v : V) (last : I) (others : List I) (z : V) → arrived n v → GoesOn is_sound may_follow arrives leaves last others → extended extends v last others ≡ Some z → arrived (length others + n) z
  along-arrived n v last [] z a g e =
      let same : v ≡ z = (cc) in
      let none : n ≡ length {A = I} [] + n = omega arith in
      subst (λ m. arrived m z) none (subst (arrived n) same a)
  along-arrived n v last (next ∷ others) z a g e =
      let k = then-some (λ u. extended extends u next others) (extends v last next) z e in
      let stepped = bounds.board_arrived n (wait v (arrives last) (leaves next)) k.0 next g.0 (bounds.wait_ready n v (arrives last) (leaves next) g.1 a) (sym (staged.extension v last next) ∙ k.1) in
      let more : length others + suc n ≡ length (next ∷ others) + n = omega arith in
      subst (λ m. arrived m z) more (along-arrived (suc n) k.0 next others z stepped g.2 k.2)

  pub value-arrived : (first : I) (others : List I) (v : V) → is_sound first → may_begin (leaves first) → GoesOn is_sound may_follow arrives leaves first others → value_of (first ∷ others) ≡ Some v → arrived (length others + 1) v
  value-arrived first others v sound begins goes e =
      ⊎_elim {C = arrived (length others + 1) v}
      (λ k.
      let along = goes-on V I opens extends below value_of steps [] first k.0 others (steps.opening first ∙ k.1) in
      along-arrived 1 k.0 first others v (start-arrived first k.0 sound begins k.1) goes (sym along ∙ e))
      (λ none.
      let never = none-goes-on V I opens extends below value_of steps [] first others (steps.opening first ∙ none) in
      absurd (let q : ⊥ = (cc) in q))
      (some-or-none (opens first))

  pub value-room : (first : I) (others : List I) (v : V) → is_sound first → may_begin (leaves first) → GoesOn is_sound may_follow arrives leaves first others → value_of (first ∷ others) ≡ Some v
      → fits (suc (length others + 1)) → HasRoom fits arrived v
  value-room first others v sound begins goes e room = (length others + 1, room, value-arrived first others v sound begins goes e)
