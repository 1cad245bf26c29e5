use Rattle.std.proofs.Common.{◌∙◌, ℕ, ap, sym, get_or}
use Rattle.std.specs.Prelude.{nat_lt}
use Rattle.std.specs.List.{list_all}
use Rattle.crew_solve.specs.Apart.{flown_on}
use Rattle.crew_solve.proofs.Rooms.{no-room-at}
use Rattle.crew_solve.proofs.taken.legs_have_room.Goals as goal

pub returns-then-not-leg_has_room : goal.returns-then-not-leg_has_room
returns-then-not-leg_has_room c =
    let p = λ (flight : ℕ). nat_lt (get_or c.args.counts.now flight 0) c.args.share in
    let leg = c.leg-item.result in
    sym (no-room-at flown_on p c.args.legs.now c.loop-leg.leg-index leg c.loop-leg-test.true (ap (λ l. list_all p (flown_on l)) (sym c.leg-item.is) ∙ sym c.if-not-leg_has_room.ensures))
