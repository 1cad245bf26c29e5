use Rattle.std.proofs.Common.{List, inr, sym, subst}
use Rattle.crew_answers.specs.declared.value.LongValue.{LongValue}
use Rattle.crew_label.specs.declared.label.Label.{Label}
use Rattle.crew_resource.specs.Members.{Member}
use Rattle.crew_fronts.proofs.passed_front.PassedFrontIterator.next.Goals as goal

pub invariant_of-self : goal.invariant_of-self
invariant_of-self c = λ l m. c.self.invariant l (subst (λ (ls : List (Label LongValue)). Member ls l) (sym c.in_ok-label.ensures.cases.0) (inr m))
