use Rattle.std.proofs.Common.{◌≡◌, arith, length, refl}
use Rattle.crew_service.specs.Plans.{entries_of}
use Rattle.crew_service.proofs.Plans.{length-entries}
use Rattle.crew_serve.proofs.Views.{one-list}
use Rattle.crew_serve.proofs.threaded.has_entries.Goals as goal

pub returns : goal.returns
returns c =
    let entries = length-entries c.args.receipts.now in
    let long : length c.args.version.now.entries ≡ length (entries_of c.args.receipts.now) = omega (arith, entries, c.count.ensures, c.if-count-receipts.false) in
    (λ _. one-list _ _ long (λ k less. c.loop-place.invariant k (omega (arith, less, long, entries, c.loop-place-test.false))), λ _. refl)
