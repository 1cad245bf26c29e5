-- How like two grounds are.
use Rattle.std.specs.Prelude.{◌≡◌}
use Rattle.crew_board.specs.declared.alike.Likeness.{Likeness}
use Rattle.crew_board.specs.declared.alike.Likeness.TheVariants.{Unknown, SameData, SameRound}
use Rattle.crew_job.specs.Grounds.{Ground, data_of, sealed_data_of}

-- the settings and the timetables are the same
pub record HaveSameData (one other : Ground) : Type 0 where
  pub settings : one.settings ≡ other.settings
  pub timetable : data_of one ≡ data_of other

-- .. and the plans, and the timetables of the versions before
pub record AreOfOneRound (one other : Ground) : Type 0 where
  pub same : HaveSameData one other
  pub plan : one.plan ≡ other.plan
  pub sealed : sealed_data_of one ≡ sealed_data_of other

abbrev pub AreLike : Likeness → Ground → Ground → Type 0
AreLike Unknown one other = Unit {0}
AreLike SameData one other = HaveSameData one other
AreLike SameRound one other = AreOfOneRound one other
