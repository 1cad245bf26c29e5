-- What is answered to a question, by a version.
use Rattle.std.specs.Prelude.{◌≡◌, ℕ, List}
use Rattle.crew_records.specs.declared.command.Command.{Command}
use Rattle.crew_records.specs.declared.command.Command.TheVariants.{AddZone, Submit, AddFlight, Retime, Settle, Best, BestOf, ShowFront, Cheapest, Apart, CheapestOf, ApartOf, Explain, Audit, Refuse}
use Rattle.crew_session.specs.Audits.{Audits}
use Rattle.crew_session.specs.Explanations.{ShowsExplained}
use Rattle.crew_session.specs.Fronts.{ShowsFront}
use Rattle.crew_session.specs.Lines.{best_line}
use Rattle.crew_session.specs.Pairings.{ShowsApart, ShowsApartOf, ShowsBestOf, ShowsCheapest, ShowsCheapestOf}
use Rattle.crew_version.specs.Versions.{Snapshot}

-- to the record of a number; nothing where it is no question
abbrev pub Tells : ℕ → Command → Snapshot → List ℕ → Type 0
Tells number Best v text = text ≡ best_line v.best
Tells number (BestOf base) v text = ShowsBestOf base v text
Tells number (ShowFront base key) v text = ShowsFront base key v text
Tells number (Cheapest limit) v text = ShowsCheapest limit v text
Tells number (Apart limit share) v text = ShowsApart limit share v text
Tells number (CheapestOf base limit) v text = ShowsCheapestOf base limit v text
Tells number (ApartOf base limit share) v text = ShowsApartOf base limit share v text
Tells number (Explain base walk) v text = ShowsExplained base walk v text
Tells number (Audit limit) v text = Audits limit number v text
Tells number (AddZone code zone) v text = ⊥
Tells number (Submit e) v text = ⊥
Tells number (AddFlight id from to dep arr price) v text = ⊥
Tells number (Retime id from dep arr) v text = ⊥
Tells number Settle v text = ⊥
Tells number (Refuse fault) v text = ⊥

-- a question asks for something that a version has
abbrev pub IsQuestion : Command → Type 0
IsQuestion Best = Unit {0}
IsQuestion (BestOf base) = Unit {0}
IsQuestion (ShowFront base key) = Unit {0}
IsQuestion (Cheapest limit) = Unit {0}
IsQuestion (Apart limit share) = Unit {0}
IsQuestion (CheapestOf base limit) = Unit {0}
IsQuestion (ApartOf base limit share) = Unit {0}
IsQuestion (Explain base walk) = Unit {0}
IsQuestion (Audit limit) = Unit {0}
IsQuestion (AddZone code zone) = ⊥
IsQuestion (Submit e) = ⊥
IsQuestion (AddFlight id from to dep arr price) = ⊥
IsQuestion (Retime id from dep arr) = ⊥
IsQuestion Settle = ⊥
IsQuestion (Refuse fault) = ⊥
