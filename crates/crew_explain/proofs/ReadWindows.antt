-- Numbers of the window that ends with a last arrival, as the code reads them.
use Rattle.std.proofs.Common.{◌≡◌, ◌≤◌, ◌<◌, ◌+◌, ◌*◌, ℕ, ℤ, pos, ◌+ℤ◌, ◌-ℤ◌, ◌≤ℤ◌, List, ap, ◌∙◌, arith, length, get_or, of_z, take, to_z, w64}
use Rattle.std.specs.Int.{int_max, int_min}
use Rattle.std.proofs.lemmas.Int.{ints, clamps}
use Rattle.crew_pairing.specs.Legality.{total}
use Rattle.crew_pairing.specs.declared.duty.Duty.{Duty}
use Rattle.std.specs.Prelude.{Bool, true, false, cond, int_le}
use Rattle.crew_explain.specs.Rules.{rest_end}
use Rattle.crew_explain.specs.Machinery.Ranges.{IsInRange}
use Rattle.crew_explain.proofs.Added.{SumTo, least-on, most-on, sum-more}

pub read-minutes : (z : ℤ) → (pos 0 -ℤ pos 1_000_000_000) ≤ℤ z → z ≤ℤ pos 1_000_000_000 → to_z w64 (of_z w64 z) ≡ z
read-minutes z h k = omega (arith, ints, h, k)

both : {p q x y : ℤ} (k : ℤ → ℤ → ℤ) → p ≡ q → x ≡ y → k p x ≡ k q y
both k u v = λ i. k (u i) (v i)

-- the later of two instants, the earlier, and the minutes between them
pub read-clamps : (arrives report from to least latest between : ℤ)
    → (pos 0 -ℤ pos 300_000_000) ≤ℤ arrives → arrives ≤ℤ pos 300_000_000 → (pos 0 -ℤ pos 300_000_000) ≤ℤ report → report ≤ℤ pos 300_000_000
    → (pos 0 -ℤ pos 300_000_000) ≤ℤ from → from ≤ℤ pos 300_000_000 → (pos 0 -ℤ pos 300_000_000) ≤ℤ to → to ≤ℤ pos 300_000_000
    → least ≡ int_min (to_z w64 (of_z w64 arrives)) (to_z w64 (of_z w64 to)) → latest ≡ int_max (to_z w64 (of_z w64 report)) (to_z w64 (of_z w64 from))
    → between ≡ int_max (to_z w64 (of_z w64 (to_z w64 (of_z w64 least) -ℤ to_z w64 (of_z w64 latest)))) (pos 0)
    → to_z w64 (of_z w64 between) ≡ int_max (pos 0) (int_min arrives to -ℤ int_max report from)
read-clamps arrives report from to least latest between a b c d e f g h is-least is-latest is =
    let own : least ≡ int_min arrives to = is-least ∙ both int_min (read-minutes arrives (wide arrives a) (far arrives b)) (read-minutes to (wide to g) (far to h)) in
    let end : latest ≡ int_max report from = is-latest ∙ both int_max (read-minutes report (wide report c) (far report d)) (read-minutes from (wide from e) (far from f)) in
    let gap : to_z w64 (of_z w64 (to_z w64 (of_z w64 least) -ℤ to_z w64 (of_z w64 latest))) ≡ least -ℤ latest = omega (arith, ints, clamps, own, end, a, b, c, d, e, f, g, h) in
    let less : least -ℤ latest ≡ int_min arrives to -ℤ int_max report from = both (λ (x y : ℤ). x -ℤ y) own end in
    let all : between ≡ int_max (int_min arrives to -ℤ int_max report from) (pos 0) = is ∙ ap (λ (x : ℤ). int_max x (pos 0)) (gap ∙ less) in
    let most : (int_min arrives to -ℤ int_max report from) ≤ℤ pos 600_000_000 = omega (arith, ints, clamps, a, b, c, d, e, f, g, h) in
    turned (int_min arrives to -ℤ int_max report from) all most
  where
    wide : (z : ℤ) → (pos 0 -ℤ pos 300_000_000) ≤ℤ z → (pos 0 -ℤ pos 1_000_000_000) ≤ℤ z
    wide z k = omega (arith, ints, k)

    far : (z : ℤ) → z ≤ℤ pos 300_000_000 → z ≤ℤ pos 1_000_000_000
    far z k = omega (arith, ints, k)

    turned : (x : ℤ) → between ≡ int_max x (pos 0) → x ≤ℤ pos 600_000_000 → to_z w64 (of_z w64 between) ≡ int_max (pos 0) x
    turned x k l =
        let own : between ≡ int_max (pos 0) x = omega (arith, ints, clamps, k) in
        read-minutes between (omega (arith, ints, clamps, own)) (omega (arith, ints, clamps, own, l)) ∙ own

-- one duty more in a sum
pub minutes-on : (f : Duty → ℤ) (ds : List Duty) (i : ℕ) (x : Duty) (sum add : ℤ) → add ≡ f x → sum ≡ total f (take i ds)
    → (pos 0 -ℤ pos (1_000_000_000 * i)) ≤ℤ sum → sum ≤ℤ pos (1_000_000_000 * i)
    → pos 0 ≤ℤ add → add ≤ℤ pos 1_000_000_000 → i < length ds → x ≡ get_or ds i x → length ds ≤ 13
    → SumTo 1_000_000_000 f ds (i + 1) (to_z w64 (of_z w64 (sum +ℤ to_z w64 (of_z w64 add))))
minutes-on f ds i x sum add is so_far least most none all here at few =
    let inside : i ≤ 13 = omega (arith, here, few) in
    let fits : to_z w64 (of_z w64 (sum +ℤ to_z w64 (of_z w64 add))) ≡ sum +ℤ add = omega (arith, ints, least, most, none, all, inside) in
    let grown : 1_000_000_000 * (i + 1) ≡ 1_000_000_000 * i + 1_000_000_000 = omega arith in
    record {
      all = sum-more f ds i x sum _ here at so_far (fits ∙ ap (λ (z : ℤ). sum +ℤ z) is);
      least = least-on sum add _ (1_000_000_000 * i) 1_000_000_000 (1_000_000_000 * (i + 1)) fits grown least (below add none);
      most = most-on sum add _ (1_000_000_000 * i) 1_000_000_000 (1_000_000_000 * (i + 1)) fits grown most all;
    }
  where
    below : (z : ℤ) → pos 0 ≤ℤ z → (pos 0 -ℤ pos 1_000_000_000) ≤ℤ z
    below z h = omega (arith, ints, h)

-- the end of the last long rest lies in its range
pub ended-in-range : (rested : ℤ) (last next : Duty) (ended : ℤ) → pos 15_000_000 ≤ℤ rested → rested ≤ℤ pos 70_000_000 → IsInRange next → ended ≡ rest_end rested last next
    → (pos 15_000_000 ≤ℤ ended) × (ended ≤ℤ pos 70_000_000)
ended-in-range rested last next ended h k r is = by (int_le (pos 1_800) (next.report -ℤ last.release)) is
  where
    by : (b : Bool) → ended ≡ cond b next.report rested → (pos 15_000_000 ≤ℤ ended) × (ended ≤ℤ pos 70_000_000)
    by true e = (omega (arith, ints, e, r.report), omega (arith, ints, e, r.report_most))
    by false e = (omega (arith, ints, e, h), omega (arith, ints, e, k))
