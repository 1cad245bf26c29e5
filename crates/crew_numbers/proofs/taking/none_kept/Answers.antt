use Rattle.std.proofs.Common.{◌≡◌, ◌∙◌, None, Option, ℕ, ap, arith, replicate}
use Rattle.std.proofs.lemmas.List.{replicate_more}
use Rattle.crew_numbers.proofs.taking.none_kept.Goals as goal

pub loop-init : goal.loop-init
loop-init c = c.in_ok-kept.ensures.items

pub loop-preserved : goal.loop-preserved
loop-preserved c =
    let more = replicate_more {X = Option ℕ} c.loop.counter None in
    c.in_ok-push.ensures.items ∙ rw c.loop.invariant more

pub returns : goal.returns
returns c =
    let all : c.loop.counter ≡ c.args.count = omega arith in
    c.loop.invariant ∙ ap (λ (n : ℕ). replicate {A = Option ℕ} n None) all
