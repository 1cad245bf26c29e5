use Rattle.std.proofs.Common.{◌≡◌, true, ℤ, Some, subst}
use Rattle.crew_pairing.specs.Pairings.{may_stand_after}
use Rattle.crew_pairing.specs.declared.duty.Duty.{Duty}
use Rattle.crew_answers.specs.Locals.{grown, is_within_limits}
use Rattle.crew_answers.specs.Shown.{long_resource, shown}
use Rattle.crew_answers.specs.declared.value.LongValue.{LongValue}
use Rattle.crew_answers.proofs.LongNodes.{extends}
use Rattle.crew_answers.proofs.LongSteps.{start-shows, start-there, step-shows, step-there}
use Rattle.crew_rules.specs.declared.settings.Settings.{Settings}
use Rattle.crew_answers.proofs.laws.steps_show_grown_vectors.Goals as goal

pub returns-clause-start : goal.returns-clause-start
returns-clause-start c = λ s t base price d range sound dated legal leaves. (
  start-there s t base price range sound dated d legal leaves,
  λ v. start-shows s t base price range sound dated d v legal leaves,
)

abbrev Says : Settings → ℤ → Duty → LongValue → Duty → Type 0
Says s price d u last = may_stand_after s last d ≡ true
    → (is_within_limits s d (grown s last d (shown s last u)) ≡ true
    → (v : LongValue) × (extends (long_resource s price) u last d ≡ Some v) × (shown s d v ≡ grown s last d (shown s last u)))
    × ((v : LongValue) → extends (long_resource s price) u last d ≡ Some v
    → (is_within_limits s d (grown s last d (shown s last u)) ≡ true) × (shown s d v ≡ grown s last d (shown s last u)))

pub returns-clause-step : goal.returns-clause-step
returns-clause-step c = λ s t base price first others last d u range sound dated p value ends legal.
    subst (Says s price d u) ends (λ after. (
      step-there s t base price range sound dated first others d u p value legal after,
      λ v. step-shows s t base price range sound dated first others d u v p value legal after,
    ))
