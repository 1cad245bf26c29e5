use Rattle.std.proofs.Common.{rules, sym, subst}
use Rattle.std.specs.Prelude.{◌^◌}
use Rattle.crew_anchor.specs.Machinery.AnchorLaws.{idle-within, ready-boards}
use Rattle.crew_anchor.specs.Machinery.Bounds.{AreWithin}
use Rattle.crew_anchor.specs.Machinery.Values.{begun}
use Rattle.crew_anchor.proofs.resource.AnchoredResourceResource.start.Goals as goal

pub board-requires : goal.board-requires
board-requires c =
    let r = c.args.self.now in
    let minute = c.departure.result.report in
    (c.requires.0, subst (AreWithin (2 ^ 62)) (sym c.idle-begun.ensures) (ready-boards r 0 (begun r minute) c.args.duty.now c.requires.0 c.requires.1 (idle-within r minute)).1)

pub returns : goal.returns
returns c = search rules
