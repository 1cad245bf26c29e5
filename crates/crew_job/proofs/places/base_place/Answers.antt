use Rattle.std.proofs.Common.{arith}
use Rattle.std.proofs.lemmas.Option.{slice_get_within}
use Rattle.crew_machine.proofs.Reuse.{place-of-member}
use Rattle.crew_job.proofs.places.base_place.Goals as goal

pub returns : goal.returns
returns c = λ m.
    let at = place-of-member c.args.bases.now c.args.code m in
    let within = slice_get_within c.args.bases.now at.0 c.args.code at.1 in
    c.loop-place.invariant at.0 (omega (arith, within, c.loop-place-test.false)) at.1
