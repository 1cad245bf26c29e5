-- What a pass leaves shows the fronts.
use Rattle.std.proofs.Common.{◌≡◌, ◌∙◌, ◌<◌, ◌+◌, ℕ, zero, suc, List, [], Some, get_or, length, ℤ, sym, ap, subst, arith}
use Rattle.std.specs.Prelude.{slice_get}
use Rattle.std.specs.List.{range_with_len}
use Rattle.crew_answers.specs.Fronts.{IsFrontAt, RiseByVector}
use Rattle.crew_answers.specs.Shown.{shown_entries}
use Rattle.crew_answers.specs.declared.value.LongValue.{LongValue}
use Rattle.crew_flights.specs.Timetable.{Timetable}
use Rattle.crew_pairing.specs.Duties.{RiseByKey}
use Rattle.crew_pairing.specs.declared.duty.Duty.{Duty}
use Rattle.crew_pass.specs.Passes as Passes
use Rattle.crew_pass.specs.Passes.{BasePass, keyed_entries}
use Rattle.crew_net.proofs.Numbers.{get-within}
use Rattle.crew_fronts.specs.Fronts.{Entries, ShowsFronts, front_at}
use Rattle.crew_fronts.specs.Machinery.Kept.{AreListed, AreValued, fronts_of_pass, passed_front}
use Rattle.crew_fronts.proofs.Ordered.{labels-rise}
use Rattle.crew_fronts.proofs.Ranked.{get-map, rank-is}

range-at : (from n k : ℕ) → k < n → slice_get (range_with_len from n) k ≡ Some (from + k)
range-at from zero k h = absurd (omega (arith, h))
range-at from (suc n) zero h = let e : from ≡ from + 0 = omega arith in ap (λ z. Some z) e
range-at from (suc n) (suc k) h = let e : from + 1 + k ≡ from + suc k = omega arith in range-at (from + 1) n k (omega (arith, h)) ∙ ap (λ z. Some z) e

-- the front of the duty of a rank
pub passed-at : (base : List ℕ) (price : ℤ) (p : BasePass LongValue) (rank : ℕ) (d : Duty) → RiseByKey p.net.duties → slice_get p.net.duties rank ≡ Some d → front_at (fronts_of_pass base price p) d ≡ shown_entries p.net.settings d (keyed_entries p rank)
passed-at base price p rank d h q =
    let f : ℕ → Entries = λ k. passed_front p k (slice_get p.net.duties k) in
    let n = length p.net.duties in
    let from : 0 + rank ≡ rank = omega arith in
    ap (λ k. get_or (fronts_of_pass base price p).fronts k []) (rank-is p.net.duties rank d h q)
    ∙ (get-map f (range_with_len 0 n) rank rank [] (range-at 0 n rank (get-within p.net.duties rank d q) ∙ ap (λ z. Some z) from) ∙ ap (passed_front p rank) q)

-- it rises by vector
pub passed-rises : (p : BasePass LongValue) (rank : ℕ) (d : Duty) → AreValued p → AreListed p → rank < length p.net.duties → RiseByVector (shown_entries p.net.settings d (keyed_entries p rank))
passed-rises p rank d valued listed within =
    labels-rise p.net.settings d (record { leaves = p.leaves; pools = p.pools }) p.net.duties (get_or p.fronts rank []) (λ l m. (_, (valued rank l within m).counting)) (listed rank within)

-- and is right
pub pass-right : (base : List ℕ) (price : ℤ) (p : BasePass LongValue) (t : Timetable) → RiseByKey p.net.duties → AreValued p → AreListed p
    → Passes.ShowsFronts p.net.settings t base price p → ShowsFronts t (fronts_of_pass base price p)
pass-right base price p t rise valued listed shows d legal =
    let own = shows d legal in
    let s = p.net.settings in
    subst (λ (es : Entries). IsFrontAt s t base price d es × RiseByVector es) (sym (passed-at base price p own.0 d rise own.1))
    (own.2, passed-rises p own.0 d valued listed (get-within p.net.duties own.0 d own.1))
