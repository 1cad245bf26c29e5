use Rattle.std.proofs.Common.{◌+◌, ℕ, arith}
use Rattle.crew_pass.specs.Machinery.Beside.{IsSameAs}
use Rattle.crew_pass.specs.Machinery.Ended.{passed_terms}
use Rattle.crew_pass.specs.Machinery.Terms.{terms}
use Rattle.crew_pass.proofs.Steps.{one-step}
use Rattle.crew_pass.proofs.takeover.wait_alike.Goals as goal

pub loop-k-init : goal.loop-k-init
loop-k-init g c = λ k a b. absurd (omega (arith, b))

pub loop-k-preserved : goal.loop-k-preserved
loop-k-preserved g c =
    let w = terms g.R.Value.Ord.cmp g.R.Lapses g.R.Staged g.R.Forgets g.R.Resource c.args.ground.now in
    let z = passed_terms g.R.Value.Ord.cmp g.R.Lapses g.R.Staged g.R.Forgets g.R.Resource c.args.beside.now.earlier.now in
    one-step (λ (i : ℕ). IsSameAs w z (c.args.here.from + i) (c.args.there.from + i)) 0 c.loop-k.k c.loop-k.invariant (c.is_same_as.ensures c.if-not-is_same_as.false)

pub returns : goal.returns
returns g c e =
    let ordered = c.requires.ordered in
    let others = c.requires.others_ordered in
    let same = c.if-there-many.false in
    let test = c.loop-k-test.false in
    record { long = omega (arith, ordered, others, same); each = λ i within. c.loop-k.invariant i (omega arith) (omega (arith, ordered, within, test)) }
