-- A round's parts in memory.
use Rattle.std.proofs.Common.{List, Option, map}
use Rattle.std.specs.Option.{option_map}
use Rattle.crew_board.specs.Machinery.Held.{Marked}
use Rattle.crew_board.specs.declared.round.Round.TheInside.{Inside}
use Rattle.crew_job.specs.crew_fronts.Fronts.{BaseFronts}

abbrev pub marked_of : Inside → Marked
marked_of i = record { ground = i.ground.value; marks = i.marks }

abbrev pub shown_of : Inside → List (Option BaseFronts)
shown_of i = map (option_map (λ a. a.value)) i.shown.items
