use Rattle.std.proofs.Common.{◌∙◌, ap, subst, sym, true≢false}
use Rattle.crew_version.specs.Versions.{Snapshot}
use Rattle.crew_serve.proofs.ClerkFacts.{judged-left}
use Rattle.crew_serve.specs.Machinery.Clerks.{Clerking, IsJudged, IsPast}
use Rattle.crew_serve.proofs.clerk.Clerk.try_settle.Goals as goal

pub returns-clause-fault : goal.returns-clause-fault
returns-clause-fault g c =
    let seen = ap (λ (k : Clerking). k.version) c.in_ok-view.ensures.seen in
    let shown = c.version.ensures.value ∙ sym seen in
    let judged = c.version-2.ensures.value ∙ sym seen in
    judged-left c.args.self.now.version c.see.new.self.version c.args.past c.args.waiting.now c.why_not.result
    (λ past. true≢false (sym (c.is_past.ensures.1 (subst (IsPast c.args.past c.args.waiting.now) (sym shown) past)) ∙ c.if-is_past.false))
    (subst (λ (v : Snapshot). IsJudged c.args.waiting.now v c.why_not.result) judged c.why_not.ensures)
