use Rattle.std.proofs.Common.{◌≡◌, ◌∷◌, [], List, ℤ, pos, subst, sym, true, ⊎_elim}
use Rattle.std.specs.declared.cmp.Ordering.TheVariants.{Less}
use Rattle.crew_pairing.specs.Keys.{key_cmp}
use Rattle.crew_pairing.specs.Legs.{Leg}
use Rattle.crew_pairing.specs.Pairings.{may_stand_after}
use Rattle.crew_pairing.specs.declared.duty.Duty.{Duty}
use Rattle.crew_pairing.specs.declared.vector.PairingVector.{PairingVector}
use Rattle.crew_resource.specs.Members.{Member}
use Rattle.crew_rules.specs.Settings.{standard}
use Rattle.crew_rules.specs.declared.settings.Settings.{Settings}
use Rattle.crew_vector.specs.Locals.{Feed}
use Rattle.crew_step.specs.Jobs.{AreBefore, IsValueAt}
use Rattle.session_tests.proofs.calls.steps.after_two.Goals as goal

abbrev Entries : Type 0
Entries = List (PairingVector × List (List Leg))

abbrev AreValues : Settings → ℤ → Duty × Entries → Type 0
AreValues s price p = (v : PairingVector) (w : List (List Leg)) → Member p.1 (v, w) → IsValueAt s price p.0 v w

two-before : (s : Settings) (price : ℤ) (d one other : Duty) (es fs : Entries) → key_cmp one.key other.key ≡ Less → may_stand_after s one d ≡ true → may_stand_after s other d ≡ true
    → AreValues s price (one, es) → AreValues s price (other, fs) → AreBefore s price d ((one, es) ∷ (other, fs) ∷ [])
two-before s price d one other es fs rises r q x y = record {
  rising = ((rises, tt), (tt, tt));
  rested = λ e gs m.
      ⊎_elim {C = may_stand_after s e d ≡ true} (λ k. subst (λ (p : Duty × Entries). may_stand_after s p.0 d ≡ true) k r)
      (⊎_elim {C = may_stand_after s e d ≡ true} (λ k. subst (λ (p : Duty × Entries). may_stand_after s p.0 d ≡ true) k q) (λ n. absurd n)) m;
  values = λ e gs m.
      ⊎_elim {C = AreValues s price (e, gs)} (λ k. subst (AreValues s price) k x)
      (⊎_elim {C = AreValues s price (e, gs)} (λ k. subst (AreValues s price) k y) (λ n. absurd n)) m;
}

pub new-requires-clause-before : goal.new-requires-clause-before
new-requires-clause-before c =
    let before =
    two-before standard (pos 0) c.args.next c.args.one c.args.other c.in_ok-first.first.value c.in_ok-second.second.value c.requires.rises c.requires.rested.0 c.requires.rested.1 c.in_ok-first.ensures c.in_ok-second.ensures
    in
    subst (λ (s : Settings). AreBefore s (pos 0) c.args.next c.in_ok-feed.feed.value) (sym c.standard.ensures.value)
    (subst (AreBefore standard (pos 0) c.args.next) (sym c.in_ok-feed.ensures) before)
