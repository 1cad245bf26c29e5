use Rattle.std.proofs.Common.{◌+ℤ◌, ℤ, pos, arith, of_z, to_z, w64}
use Rattle.std.proofs.lemmas.Int.{ints}
use Rattle.crew_anchor.proofs.Shifting.{same-caps}
use Rattle.crew_anchor.proofs.resource.AnchoredResource.is_within_caps.Goals as goal

abbrev held : ℤ → ℤ
held z = to_z w64 (of_z w64 z)

pub returns-clause-within : goal.returns-clause-within
returns-clause-within c =
    let r = c.args.self.now in
    let v = c.args.value.now in
    same-caps (held v.fdp) (held v.fly) (held v.duties) (held (held v.away +ℤ held c.from.result)) (held c.from-2.result) (held c.from-3.result) (held c.from-4.result) (held c.from-5.result)
    v.fdp v.fly v.duties (v.away +ℤ c.args.minute) (pos r.fdp_cap) (pos r.fly_cap) (pos r.max_duties) (pos r.away_cap)
    (omega (arith, ints)) (omega (arith, ints)) (omega (arith, ints)) (omega (arith, ints)) (omega (arith, ints)) (omega (arith, ints)) (omega (arith, ints)) (omega (arith, ints))
