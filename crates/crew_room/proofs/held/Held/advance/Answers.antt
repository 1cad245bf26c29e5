use Rattle.std.proofs.Common.{length, ◌<◌, ◌/◌, arith}
use Rattle.std.proofs.lemmas.List.Sorted.{IsPermutation-swap}
use Rattle.crew_room.proofs.held.Held.advance.Goals as goal

pub returns-then-place-ge-SETTLED : goal.returns-then-place-ge-SETTLED
returns-then-place-ge-SETTLED g c =
    let half : c.args.place / 2 < length c.args.self.now = omega (arith, c.requires) in
    IsPermutation-swap c.args.self.now c.swap.new.self c.args.place (c.args.place / 2) c.requires half c.swap.ensures
