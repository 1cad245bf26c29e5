use Rattle.std.proofs.Common.{arith, subst, sym}
use Rattle.std.proofs.lemmas.Int.{ints}
use Rattle.crew_anchor.specs.Machinery.Bounds.{fits_in, is_ready}
use Rattle.crew_anchor.specs.declared.resource.AnchoredResource.{AnchoredResource}
use Rattle.crew_resource.specs.Machinery.Sum.{LiesWithin}
use Rattle.crew_resource.specs.Machinery.Uses.{HasRoom}
use Rattle.crew_solve.proofs.shown_entries.entry_of.Goals as goal

pub show-vector-requires-clause-room : goal.show-vector-requires-clause-room
show-vector-requires-clause-room c =
    let within : LiesWithin 2_147_483_648 c.args.duty.now.release = record { least = omega (arith, ints); most = omega (arith, ints) } in
    subst (λ (r : AnchoredResource). HasRoom (fits_in r) (is_ready r) c.args.value.now) (sym c.resource.ensures) (c.requires.room within)
