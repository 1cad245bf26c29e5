use Rattle.std.proofs.Common.{sym, ap, ◌∙◌}
use Rattle.crew_log.proofs.Claiming.{one_place}
use Rattle.crew_log.proofs.log.Log.agree_by_number.Goals as goal

pub returns : goal.returns
returns c =
    let one = c.value-one.ensures in
    let other = c.value-other.ensures in
    let all = c.meet.result.log in
    let seat = ap (λ s. s.entry.seat) one.0 ∙ (ap (λ r. r.value.seat) c.a.view_is ∙ (c.requires.seat ∙ (sym (ap (λ r. r.value.seat) c.b.view_is) ∙ sym (ap (λ s. s.entry.seat) other.0)))) in
    let number = ap (λ s. s.entry.number) one.0 ∙ (ap (λ r. r.value.number) c.a.view_is ∙ (c.requires.number ∙ (sym (ap (λ r. r.value.number) c.b.view_is) ∙ sym (ap (λ s. s.entry.number) other.0)))) in
    sym (ap (λ r. r.index) c.a.view_is) ∙ (one_place all _ _ _ _ _ _ _ _ c.meet.ensures.one c.meet.ensures.other seat number one.1.1 other.1.1 ∙ ap (λ r. r.index) c.b.view_is)
