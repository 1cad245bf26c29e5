-- Fronts that are lent.
use Rattle.crew_answers.specs.ShortPairings.{with_no_pasts}
use Rattle.crew_fronts.specs.Fronts.{Entries}
use Rattle.crew_fronts.specs.declared.front_view.FrontKind.{FrontKind}
use Rattle.crew_fronts.specs.declared.front_view.FrontKind.TheVariants as front
use Rattle.crew_fronts.specs.declared.front_view.EntriesKind.{EntriesKind}
use Rattle.crew_fronts.specs.declared.front_view.EntriesKind.TheVariants as entries

-- the entries of a front
abbrev pub entries_of : FrontKind → Entries
entries_of (front.Swept f) = with_no_pasts f
entries_of (front.Passed f) = f

-- and what of it is still to come
abbrev pub entries_left : EntriesKind → Entries
entries_left (entries.Swept f) = with_no_pasts f
entries_left (entries.Passed f) = f
