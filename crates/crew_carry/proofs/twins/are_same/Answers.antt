use Rattle.std.proofs.Common.{IsTrue, ℕ, Some, get_or, arith, subst}
use Rattle.std.proofs.lemmas.Option.{slice_get-get_or}
use Rattle.crew_carry.specs.Carried.{twin_of}
use Rattle.crew_carry.proofs.Paired.{pairs-at, pairs-more}
use Rattle.crew_carry.proofs.twins.are_same.Goals as goal

pub returns-then-not-is_same : goal.returns-then-not-is_same
returns-then-not-is_same c =
    let i = c.loop-place.place in
    let xs = c.args.olds.now in
    let ys = c.args.news.now in (
      λ t. absurd (let q : ⊥ = (cc) in q),
      λ e.
          let s =
          pairs-at (twin_of c.args.same.now) (λ (k : ℕ). Some k) xs ys i (get_or xs i 0) (get_or ys i 0) (slice_get-get_or xs i 0 c.loop-place-test.true)
          (slice_get-get_or ys i 0 (omega (arith, c.loop-place-test.true, c.if-olds-news.false))) e in
          subst IsTrue c.if-not-is_same.true (c.is_same.ensures.1 s),
    )

pub loop-place-preserved : goal.loop-place-preserved
loop-place-preserved c =
    let i = c.loop-place.place in
    let xs = c.args.olds.now in
    let ys = c.args.news.now in
    pairs-more (twin_of c.args.same.now) (λ (k : ℕ). Some k) xs ys i (get_or xs i 0) (get_or ys i 0) (slice_get-get_or xs i 0 c.loop-place-test.true)
    (slice_get-get_or ys i 0 (omega (arith, c.loop-place-test.true, c.if-olds-news.false))) c.loop-place.invariant (c.is_same.ensures.0 c.if-not-is_same.false)
