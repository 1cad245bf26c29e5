use Rattle.std.proofs.Common.{◌∙◌, ◌++◌, ap, arith, length}
use Rattle.crew_lines.specs.Bytes.{before}
use Rattle.crew_lines.proofs.FoundFacts.{passed-all, passed-end}
use Rattle.crew_lines.proofs.search.pass_held.Goals as goal

pub returns-then-end-count-clause-ended : goal.returns-then-end-count-clause-ended
returns-then-end-count-clause-ended c = λ _ xs.
    let end = c.count_before-end.ensures.value ∙ ap (λ l. length (before 10 l)) c.as_slice.ensures in
    ap (λ l. l ++ xs) c.pass.ensures ∙ passed-end c.args.held.now c.count_before-end.result xs end (omega (arith, c.if-end-count.true, c.count.ensures))

pub returns-else-end-count-clause-goes_on : goal.returns-else-end-count-clause-goes_on
returns-else-end-count-clause-goes_on c = λ _ xs.
    let end = c.count_before-end.ensures.value ∙ ap (λ l. length (before 10 l)) c.as_slice.ensures in
    passed-all c.args.held.now c.count_before-end.result xs end (omega (arith, c.if-end-count.false, c.count.ensures))
