use Rattle.std.proofs.Common.{◌≡◌, ◌∙◌, Result, Ok, Err, IfErr, ap, sym}
use Rattle.std.specs.Option.{option_copied}
use Rattle.crew_session.specs.Faults.{IsLineFault}
use Rattle.crew_session.specs.Lines.{best_line}
use Rattle.crew_session.specs.declared.fault.SessionFault.{SessionFault}
use Rattle.crew_session.specs.declared.fault.SessionFault.TheVariants.{Write}
use Rattle.crew_session.proofs.BeginFacts.{begins-nothing, begun-as, on-err}
use Rattle.crew_session.proofs.lines.write_best_line.Goals as goal

-- a line that isn't written is a write fault
of-line : {X : Type 0} (r : Result X SessionFault) → IfErr r (λ why. why ≡ Write) → IfErr r IsLineFault
of-line (Ok x) h = h
of-line (Err why) h = rw h tt

pub returns-in_err-pairing_line-in-Some-clause-begun : goal.returns-in_err-pairing_line-in-Some-clause-begun
returns-in_err-pairing_line-in-Some-clause-begun g c = on-err c.from_residual.result _ (begins-nothing _ _)

pub returns-in_ok-pairing_line-in-Some-clause-begun : goal.returns-in_ok-pairing_line-in-Some-clause-begun
returns-in_ok-pairing_line-in-Some-clause-begun g c =
    let best = sym (ap option_copied c.in-Some.is) in
    begun-as c.write_line-in-Some.result _ _ _ _ (c.deref.ensures.value ∙ c.in_ok-pairing_line-in-Some.ensures ∙ ap best_line best) c.write_line-in-Some.ensures.begun

pub returns-in_ok-pairing_line-in-Some-clause-fault : goal.returns-in_ok-pairing_line-in-Some-clause-fault
returns-in_ok-pairing_line-in-Some-clause-fault g c = of-line c.write_line-in-Some.result c.write_line-in-Some.ensures.fault
