use Rattle.std.proofs.Common.{◌≡◌, ◌+◌, refl, ◌∙◌, ap, arith}
use Rattle.crew_log.specs.Machinery.Rights.{counter_of}
use Rattle.crew_log.proofs.Claiming.{counters_push, kept_new}
use Rattle.crew_log.proofs.rights.Rights.new.Goals as goal

pub open_row-history-requires : goal.open_row-history-requires
open_row-history-requires c = (kept_new 64 refl, (λ _. tt), c.alone.ensures.1)

pub loop-preserved : goal.loop-preserved
loop-preserved c =
    let i = c.loop.invariant in
    let book = c.open_row-history.result.0.book in
    let r = c.counter.ensures.rest in
    let is : c.counter.result ≡ counter_of book c.loop.counter =
    c.counter.ensures.counter ∙ (ap (λ b. counter_of b c.loop.pens.next) i.1 ∙ ap (counter_of book) i.2) in
    rw c.in_ok-push.ensures.items (
      counters_push book c.loop.counter c.loop.counters.items c.counter.result i.0 is,
      r.0 ∙ i.1,
      r.1 ∙ ap (λ n. n + 1) i.2,
      omega (arith, r.2, i.3, c.loop-test.true),
    )
