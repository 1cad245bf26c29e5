use Rattle.std.proofs.Common.{◌≡◌, ◌∙◌, ap, arith, of_z, subst, sym, to_z, w64, ℤ}
use Rattle.std.proofs.lemmas.Int.{ints}
use Rattle.std.specs.Prelude.{◌^◌}
use Rattle.crew_anchor.specs.Anchors.{shown}
use Rattle.crew_anchor.specs.Machinery.AnchorLaws.{in-room}
use Rattle.crew_anchor.specs.Machinery.Bounds.{AreWithin}
use Rattle.crew_anchor.proofs.resource.AnchoredResource.show.Goals as goal

pub at-requires-clause-fits : goal.at-requires-clause-fits
at-requires-clause-fits c = (in-room c.args.self.now c.args.value.now c.requires.room).0

pub at-requires-clause-value : goal.at-requires-clause-value
at-requires-clause-value c = subst (AreWithin (2 ^ 62)) (sym c.parts.ensures.same) (in-room c.args.self.now c.args.value.now c.requires.room).1

pub returns : goal.returns
returns c =
    let rate = c.args.self.now.trip_rig in
    let whole : to_z w64 (of_z w64 c.args.minute) ≡ c.args.minute = omega (arith, ints) in
    c.at.ensures ∙ (ap (λ (z : ℤ). shown rate z c.parts.result) whole ∙ ap (shown rate c.args.minute) c.parts.ensures.same)
