use Rattle.std.proofs.Common.{◌∙◌, ap, sym}
use Rattle.std.specs.Option.{option_copied}
use Rattle.crew_pairing.specs.declared.duty.Duty.{Duty}
use Rattle.crew_explain.proofs.Added.{last_duty-end}
use Rattle.crew_explain.proofs.walk.arrives_at.Goals as goal

pub returns-in-Some : goal.returns-in-Some
returns-in-Some c =
    ap (λ (d : Duty). d.to) (sym (last_duty-end c.args.first.now c.args.others.now c.in-Some.last.now (sym c.last.ensures.value ∙ ap option_copied c.in-Some.is)))
