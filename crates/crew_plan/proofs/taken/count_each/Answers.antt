use Rattle.std.proofs.Common.{◌∙◌, ◌<◌, ◌+◌, ap, arith, get_or, length, sym, take, cond}
use Rattle.std.specs.Prelude.{nat_eq, nat_lt}
use Rattle.std.specs.List.{list_any}
use Rattle.crew_fronts.proofs.crew_solve_lemmas.Flown.{again, all-at, as-often, first, is-less}
use Rattle.crew_fronts.proofs.crew_solve_lemmas.Listed.{each-at}
use Rattle.crew_plan.proofs.taken.count_each.Goals as goal
use Rattle.crew_plan.proofs.taken.count_each.Goals.{then-not-stands_before, else-not-stands_before}

pub overflow_add-counts : goal.overflow_add-counts
overflow_add-counts c =
    let fs = c.args.flights.now in
    let i = c.loop-place.place in
    let x = get_or fs i 0 in
    let long : i < length fs = omega (arith, c.loop-place-test.true) in
    let new = sym c.if-not-stands_before.ensures in
    let same = as-often (get_or c.loop-place.counts x 0) (get_or c.args.counts.now x 0) (list_any (nat_eq x) (take i fs)) new (c.loop-place.invariant x) in
    let less = is-less _ _ (all-at (λ f. nat_lt (get_or c.args.counts.now f 0) c.args.share) fs i long c.requires.room) in
    omega (arith, same, less)

pub loop-place-preserved : goal.loop-place-preserved
loop-place-preserved c = λ k.
    let fs = c.args.flights.now in
    let i = c.loop-place.place in
    let x = get_or fs i 0 in
    let old = get_or c.args.counts.now k 0 in
    let long : i < length fs = omega (arith, c.loop-place-test.true) in
    elim c.if-not-stands_before.branch [
      | then-not-stands_before w ↦
          (let within : x < length c.loop-place.counts = omega (arith, c.requires.long, each-at (λ f. f < 1_000_000) fs i 0 long c.requires.numbers, c.loop-place.auto.counts) in
          let new = sym w.if-not-stands_before.ensures in
          ap (λ l. get_or l k 0) w.counts-is ∙ first c.loop-place.counts fs i k old long within new (c.loop-place.invariant k))
      | else-not-stands_before w ↦
          (let before = sym w.if-not-stands_before.ensures in
          ap (λ l. get_or l k 0) w.counts-is ∙ (c.loop-place.invariant k ∙ ap (λ b. old + cond b 1 0) (sym (again fs i k long before))))
    ]
