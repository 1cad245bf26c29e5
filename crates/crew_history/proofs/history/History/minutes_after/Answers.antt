use Rattle.std.proofs.Common.{rules, ◌≡◌, ℕ, ◌+◌, ◌*◌, ◌<◌, List, ℤ, pos, ◌≤ℤ◌, arith, ◌+ℤ◌, FitsSigned, to_z, of_z, w32, w64, take, get_or, length, ap, sym, subst, ◌∙◌}
use Rattle.std.proofs.lemmas.Int.{ints, clamps, to_z-of_z}
use Rattle.std.proofs.lemmas.List.{take_more}
use Rattle.crew_history.specs.Histories.{period_after, minutes_after}
use Rattle.crew_history.proofs.Histories.{after_append}
use Rattle.crew_history.proofs.history.History.minutes_after.Goals as goal

step : (xs : List (ℤ × ℤ)) (i : ℕ) (t total m : ℤ) → i < length xs → total ≡ minutes_after (take i xs) t
    → m ≡ period_after (get_or xs i (pos 0, pos 0)).0 (get_or xs i (pos 0, pos 0)).1 t
    → total +ℤ m ≡ minutes_after (take (i + 1) xs) t
step xs i t total m h e f =
    ap (λ z. z +ℤ m) e ∙ (ap (λ z. minutes_after (take i xs) t +ℤ z) f
    ∙ (sym (after_append (take i xs) (get_or xs i (pos 0, pos 0)) t) ∙ ap (λ z. minutes_after z t) (sym (take_more xs i (pos 0, pos 0) h))))

positive : (s e t : ℤ) → pos 0 ≤ℤ period_after s e t
positive s e t = omega (arith, ints, clamps)

-- one element more
one_more : (xs : List (ℤ × ℤ)) (i : ℕ) (t total m : ℤ) → i < 12 → length xs ≡ 12 → FitsSigned w32 t
    → FitsSigned w32 (get_or xs i (pos 0, pos 0)).0 → FitsSigned w32 (get_or xs i (pos 0, pos 0)).1
    → total ≡ minutes_after (take i xs) (to_z w32 (of_z w32 t)) → pos 0 ≤ℤ total → total ≤ℤ pos (i * 4_294_967_296)
    → m ≡ period_after (to_z w32 (of_z w32 (get_or xs i (pos 0, pos 0)).0)) (to_z w32 (of_z w32 (get_or xs i (pos 0, pos 0)).1)) (to_z w32 (of_z w32 t))
    → m ≤ℤ pos 4_294_967_296
    → (to_z w64 (of_z w64 (total +ℤ to_z w64 (of_z w64 m))) ≡ minutes_after (take (i + 1) xs) (to_z w32 (of_z w32 t)))
    × (pos 0 ≤ℤ to_z w64 (of_z w64 (total +ℤ to_z w64 (of_z w64 m)))) × (to_z w64 (of_z w64 (total +ℤ to_z w64 (of_z w64 m))) ≤ℤ pos ((i + 1) * 4_294_967_296))
one_more xs i t total m h long ft f0 f1 so least most is high =
    let x = get_or xs i (pos 0, pos 0) in
    let is' : m ≡ period_after x.0 x.1 (to_z w32 (of_z w32 t)) =
    is ∙ (ap (λ z. period_after z (to_z w32 (of_z w32 x.1)) (to_z w32 (of_z w32 t))) (to_z-of_z w32 x.0 f0)
    ∙ ap (λ z. period_after x.0 z (to_z w32 (of_z w32 t))) (to_z-of_z w32 x.1 f1)) in
    let low : pos 0 ≤ℤ m = subst (λ z. pos 0 ≤ℤ z) (sym is') (positive x.0 x.1 (to_z w32 (of_z w32 t))) in
    let inner : to_z w64 (of_z w64 m) ≡ m = to_z-of_z w64 m (fits m low high) in
    let outer : to_z w64 (of_z w64 (total +ℤ m)) ≡ total +ℤ m = to_z-of_z w64 (total +ℤ m) (sum_fits i total m h least most low high) in
    let all : to_z w64 (of_z w64 (total +ℤ to_z w64 (of_z w64 m))) ≡ total +ℤ m = ap (λ z. to_z w64 (of_z w64 (total +ℤ z))) inner ∙ outer in
    let inside : i < length xs = omega arith in
    (all ∙ step xs i (to_z w32 (of_z w32 t)) total m inside so is', subst (λ z. pos 0 ≤ℤ z) (sym all) (sum_least total m least low), subst (λ z. z ≤ℤ pos ((i + 1) * 4_294_967_296)) (sym all) (sum_most i total m most high))
  where
    fits : (m : ℤ) → pos 0 ≤ℤ m → m ≤ℤ pos 4_294_967_296 → FitsSigned w64 m
    fits m a b = grind (arith, ints)

    sum_fits : (i : ℕ) (total m : ℤ) → i < 12 → pos 0 ≤ℤ total → total ≤ℤ pos (i * 4_294_967_296) → pos 0 ≤ℤ m → m ≤ℤ pos 4_294_967_296 → FitsSigned w64 (total +ℤ m)
    sum_fits i total m h a b c d = grind (arith, ints)

    sum_least : (a b : ℤ) → pos 0 ≤ℤ a → pos 0 ≤ℤ b → pos 0 ≤ℤ (a +ℤ b)
    sum_least a b h k = omega (arith, ints)

    sum_most : (i : ℕ) (a b : ℤ) → a ≤ℤ pos (i * 4_294_967_296) → b ≤ℤ pos 4_294_967_296 → (a +ℤ b) ≤ℤ pos ((i + 1) * 4_294_967_296)
    sum_most i a b h k = omega (arith, ints)

pub loop-i-preserved : goal.loop-i-preserved
loop-i-preserved c =
    let xs = c.args.self.now.periods in
    let f0 : FitsSigned w32 (get_or xs c.loop-i.i (pos 0, pos 0)).0 = search rules in
    let f1 : FitsSigned w32 (get_or xs c.loop-i.i (pos 0, pos 0)).1 = search rules in
    let k = one_more xs c.loop-i.i c.args.t (to_z w64 c.loop-i.total-bits) c.minutes_of-total.result (let v = c.args.self.now.kept.0 in let h = c.loop-i-test.true in omega (arith, v, h)) c.args.self.now.kept.1 c.ranges.t f0 f1
    c.loop-i.invariant.so_far c.loop-i.invariant.least c.loop-i.invariant.most c.minutes_of-total.ensures.minutes c.minutes_of-total.ensures.most in
    record { so_far = k.0; least = k.1; most = k.2 }
