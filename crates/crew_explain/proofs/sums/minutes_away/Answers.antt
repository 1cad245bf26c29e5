use Rattle.std.proofs.Common.{◌≡◌, ◌-ℤ◌, ◌∙◌, sym, ap, arith, of_z, to_z, w64}
use Rattle.std.specs.Option.{option_copied}
use Rattle.std.proofs.lemmas.Int.{ints}
use Rattle.crew_pairing.proofs.Tree.{Each-member, slice_get-Member}
use Rattle.crew_explain.specs.Machinery.Ranges.{IsInRange}
use Rattle.crew_explain.proofs.Added.{away-ends}
use Rattle.crew_explain.proofs.sums.minutes_away.Goals as goal

pub returns-in-Some-Some-clause-value : goal.returns-in-Some-Some-clause-value
returns-in-Some-Some-clause-value c =
    let ds = c.args.duties.now in
    let first = c.in-Some-Some.first.now in
    let last = c.in-Some-Some.last.now in
    let at = sym c.first.ensures.value ∙ ap option_copied c.in-Some-Some.is-0 in
    let end = sym c.last.ensures.value ∙ ap option_copied c.in-Some-Some.is-1 in
    let f = Each-member IsInRange ds first c.requires (slice_get-Member ds _ first at) in
    let l = Each-member IsInRange ds last c.requires (slice_get-Member ds _ last end) in
    let release : c.from.result ≡ last.release = omega (arith, ints, c.from.ensures, l.release, l.release_most) in
    let report : c.from-in-Some-Some.result ≡ first.report = omega (arith, ints, c.from-in-Some-Some.ensures, f.report, f.report_most) in
    let fits : to_z w64 (of_z w64 (to_z w64 (of_z w64 c.from.result) -ℤ to_z w64 (of_z w64 c.from-in-Some-Some.result))) ≡ last.release -ℤ first.report =
    omega (arith, ints, release, report, f.report, f.report_most, l.release, l.release_most) in
    fits ∙ away-ends ds first last at end

pub returns-in-Some-Some-clause-bound : goal.returns-in-Some-Some-clause-bound
returns-in-Some-Some-clause-bound c =
    let ds = c.args.duties.now in
    let first = c.in-Some-Some.first.now in
    let last = c.in-Some-Some.last.now in
    let at = sym c.first.ensures.value ∙ ap option_copied c.in-Some-Some.is-0 in
    let end = sym c.last.ensures.value ∙ ap option_copied c.in-Some-Some.is-1 in
    let f = Each-member IsInRange ds first c.requires (slice_get-Member ds _ first at) in
    let l = Each-member IsInRange ds last c.requires (slice_get-Member ds _ last end) in
    (omega (arith, ints, f.report, f.report_most, l.release, l.release_most), omega (arith, ints, f.report, f.report_most, l.release, l.release_most))
