use Rattle.std.proofs.Common.{◌≡◌, ◌++◌, ◌∙◌, List, ℕ, ap, arith, drop, length, subst, sym, take}
use Rattle.std.proofs.Math.Seq.{take-append_seam}
use Rattle.crew_duty.specs.Machinery.Held.{held}
use Rattle.crew_duty.specs.Machinery.Counts.{AreCounts}
use Rattle.crew_pairing.specs.Machinery.Listing.{from_place}
use Rattle.crew_duty.proofs.pieces.count_all.Goals as goal

pub count_in-requires-clause-plan : goal.count_in-requires-clause-plan
count_in-requires-clause-plan g c = λ κs q. c.requires

pub count_in-requires-clause-within : goal.count_in-requires-clause-within
count_in-requires-clause-within g c = λ κs q. omega (arith, c.deref_mut.ensures.len, c.in_ok-counts.ensures.len)

pub returns : goal.returns
returns g c =
    let F = from_place c.args.plan.now.settings.now (held c.args.plan.now) in
    let many = length c.args.plan.now.flights.now in
    let xs = c.count_in.new.counts in
    let rest = drop (length xs) c.in_ok-counts.counts.items in
    let counted = c.in_ok-count_in.ensures in
    let long : c.in_ok-counts.counts.len ≡ length xs = omega (arith, c.in_ok-counts.counts.ok.0, ap length c.deref_mut.ensures.value, counted.all) in
    let seam = ap (λ (n : ℕ). take n (xs ++ rest)) long ∙ take-append_seam xs rest in
    let all = c.deref_mut.ensures.len ∙ c.in_ok-counts.ensures.len in
    subst (λ (ns : List ℕ). AreCounts F 0 many ns) (sym seam) (subst (λ (n : ℕ). AreCounts F 0 n xs) all counted)
