-- Stages that shift values: they keep which values are one and how values are listed, and of nothing
-- that they shift anything lapses.
use Rattle.std.specs.Prelude.{◌≡◌, ℕ, ℤ, Bool, true, false, Option}
use Rattle.std.specs.Cmp.{IsTotalOrder}
use Rattle.std.specs.Ordering.{ordering_reverse}
use Rattle.std.specs.declared.cmp.Ordering.{Ordering}
use Rattle.std.specs.declared.cmp.Ordering.TheVariants.{Less, Equal, Greater}
use Rattle.std.proofs.Common.{refl, sym, ◌∙◌, ap, subst}
use Rattle.std.proofs.lemmas.Bool.{and_parts, and_from}
use Rattle.std.proofs.lemmas.Cmp.{tied_itself}
use Rattle.crew_forgetful.specs.Lapses.{BoardLaws, RestLaws, TogetherLaws, WaitLaws}
use Rattle.crew_forgetful.specs.Machinery.Sums.{is_same}
use Rattle.crew_resource.specs.Resource.{OrderLaws}
use Rattle.crew_resource.specs.Stages.{ShiftLaws}

both_ways : (x y : Bool) → (x ≡ true → y ≡ true) → (y ≡ true → x ≡ true) → x ≡ y
both_ways true y f g = sym (f refl)
both_ways false true f g = g refl
both_ways false false f g = refl

-- values that are at most each other are one
module _ {V : Type 0} (cmp : V → V → Ordering) (le : V → V → Bool) (order : OrderLaws cmp le) where
  pub one_value : (a b : V) → is_same le a b ≡ true → a ≡ b
  one_value a b h = let k = and_parts (le a b) (le b a) h in order.antisymmetric a b k.0 k.1

  are_same : (a b : V) → a ≡ b → is_same le a b ≡ true
  are_same a b e =
      subst (λ z. is_same le a z ≡ true) e
      (and_from (le a a) (le a a) (order.reflexive a) (order.reflexive a))

  -- two values that are listed as two others are one where these are
  same_too : IsTotalOrder cmp → (a b y z : V) → cmp y z ≡ cmp a b → is_same le y z ≡ true
      → is_same le a b ≡ true
  same_too total a b y z e h =
      let tied : cmp y z ≡ Equal = subst (λ x. cmp y x ≡ Equal) (one_value y z h) (tied_itself total y) in
      are_same a b (order.exact a b (sym e ∙ tied))

  same_alike : IsTotalOrder cmp → (a b y z : V) → cmp y z ≡ cmp a b
      → is_same le y z ≡ is_same le a b
  same_alike total a b y z e =
      both_ways (is_same le y z) (is_same le a b) (same_too total a b y z e)
      (same_too total y z a b (sym e))

  -- nothing is listed both before a value and after it
  no_circle : IsTotalOrder cmp → (a b : V) → cmp a b ≡ Less → cmp b a ≡ Less → ⊥
  no_circle total a b h k =
      let e : Less ≡ Greater = sym h ∙ (total.antisymm a b ∙ ap ordering_reverse k) in
      let q : ⊥ = (cc) in q

-- the laws
module _ {V N X G : Type 0} (cmp : V → V → Ordering) (le : V → V → Bool) (wait : V → X → G → V)
    (board : V → N → Option V) where
  pub shifts_together : IsTotalOrder cmp → OrderLaws cmp le → ShiftLaws cmp le wait board
      → TogetherLaws cmp (is_same le) wait board
  shifts_together total order shifts = record {
    same_other = λ a b c h k. are_same cmp le order b c
        (sym (one_value cmp le order a b h) ∙ one_value cmp le order a c k);
    together = λ a b c h k e. absurd (no_circle cmp le order total a b h
        (subst (λ z. cmp b z ≡ Less) (sym (one_value cmp le order a c e)) k));
    wait_same = λ a b x g. same_alike cmp le order total a b (wait a x g) (wait b x g)
        (shifts.wait_listed a b x g);
    board_same = λ a b y z d p q. same_alike cmp le order total a b y z
        (shifts.board_listed a b y z d p q);
    board_rises = λ a b y z d p q h _. shifts.board_listed a b y z d p q ∙ h;
  }

  pub shifts_wait : ShiftLaws cmp le wait board → WaitLaws cmp le wait (λ x g. false)
  shifts_wait shifts = record {
    wait_reflects = λ a b x g _ h. shifts.wait_reflects a b x g h;
    wait_rises = λ a b x g _ h. shifts.wait_listed a b x g ∙ h;
  }

  pub shifts_rest : ShiftLaws cmp le wait board → (count : V → ℤ) (arrived : ℕ → V → Type 0)
      → RestLaws cmp le wait (λ x g. false) (λ v. v) count arrived
  shifts_rest shifts count arrived = record {
    rest_is = λ a x g _. refl;
    rest_reflects = λ a b x g _ h. shifts.wait_reflects a b x g h;
    rest_rises = λ a b x g _ h. shifts.wait_listed a b x g ∙ h;
    rested_counts = λ a. refl;
    rested_arrived = λ n a h. h;
  }

  pub shifts_board : ShiftLaws cmp le wait board → BoardLaws le board (λ v d. false)
  shifts_board shifts = record {
    board_reflects = λ a b y z d _ p q h. shifts.board_reflects a b y z d p q h;
  }
