use Rattle.std.proofs.Common.{refl}
use Rattle.crew_session.proofs.SessionFacts.{begins-of, begun-one}
use Rattle.crew_session.proofs.question.answer.Goals as goal

pub returns-in-Best-clause-begun : goal.returns-in-Best-clause-begun
returns-in-Best-clause-begun g c = begun-one c.write_best.result _ _ _ _ (rw c.in-Best.is refl) c.write_best.ensures.begun

pub returns-in-BestOf-clause-begun : goal.returns-in-BestOf-clause-begun
returns-in-BestOf-clause-begun g c = begins-of c.answer_best_of.result _ _ _ _ (λ text h. rw c.in-BestOf.is h) c.answer_best_of.ensures.begun

pub returns-in-ShowFront-clause-begun : goal.returns-in-ShowFront-clause-begun
returns-in-ShowFront-clause-begun g c = begins-of c.answer_front.result _ _ _ _ (λ text h. rw c.in-ShowFront.is h) c.answer_front.ensures.begun

pub returns-in-Apart-clause-answered : goal.returns-in-Apart-clause-answered
returns-in-Apart-clause-answered g c = rw c.in-Apart.is c.answer_apart.ensures.answered

pub returns-in-ApartOf-clause-answered : goal.returns-in-ApartOf-clause-answered
returns-in-ApartOf-clause-answered g c = rw c.in-ApartOf.is c.answer_apart_of.ensures.answered

pub returns-in-ApartOf-clause-begun : goal.returns-in-ApartOf-clause-begun
returns-in-ApartOf-clause-begun g c = begins-of c.answer_apart_of.result _ _ _ _ (λ text h. rw c.in-ApartOf.is h) c.answer_apart_of.ensures.begun
