use Rattle.std.proofs.Common.{◌∙◌, ◌∷◌, [], subst, sym}
use Rattle.crew_pairing.proofs.Times.{AllSound}
use Rattle.crew_explain.proofs.Reading.{timed-sound}
use Rattle.crew_explain.proofs.duty.read_duty.Goals as goal

pub checked-requires-clause-sound : goal.checked-requires-clause-sound
checked-requires-clause-sound c =
    let legs = timed-sound c.args.timetable.now c.args.duty [] (c.in-Some.first.now ∷ c.in-Some.others.now) _ c.read_legs.ensures.sound tt (sym c.read_legs.ensures.value ∙ c.in_ok-legs.was) in
    subst AllSound (sym c.as_slice.ensures) legs
