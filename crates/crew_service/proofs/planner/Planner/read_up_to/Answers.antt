use Rattle.std.proofs.Common.{◌≡◌, ◌∙◌, true≢false, length, sym, ap, subst, arith}
use Rattle.crew_log.specs.Logs.{HaveNone}
use Rattle.crew_service.proofs.Plans.{some-missing}
use Rattle.crew_service.specs.Plans.{Planning}
use Rattle.crew_service.proofs.planner.Planner.read_up_to.Goals as goal

pub returns-then-not-are_below-clause-fault : goal.returns-then-not-are_below-clause-fault
returns-then-not-are_below-clause-fault g c =
    let wanted = c.args.receipts.now in
    let own : c.len-end.result ≡ length c.self.inside.receipts.items = omega (arith, c.len-end.ensures, c.self.inside.receipts.ok) in
    let end : c.len-end.result ≡ length c.read.new.self.receipts = own ∙ ap (λ (p : Planning). length p.receipts) c.self.view_is in
    let none = subst (HaveNone wanted) (sym end) c.in_ok-read.ensures.end in (
      end,
      some-missing c.len-end.result wanted none (λ all. true≢false (sym (c.are_below.ensures.1 all) ∙ c.if-not-are_below.true)),
      c.in_ok-read.ensures.read.version,
    )
