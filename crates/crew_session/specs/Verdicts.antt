-- What the verdict at a place writes.
use Rattle.std.specs.Prelude.{ℕ, List, [], Option, Some, None}
use Rattle.crew_flights.specs.declared.edit.Verdict.{Verdict}
use Rattle.crew_session.specs.Lines.{verdict_line}
use Rattle.crew_session.specs.ReplyLines.{place_line}

-- nothing past the last verdict: where entries go by the records that made them
abbrev pub verdict_text : ℕ → Option Verdict → List ℕ
verdict_text number None = []
verdict_text number (Some verdict) = verdict_line number verdict

-- .. and where they go by their places
abbrev pub place_text : ℕ → Option Verdict → List ℕ
place_text place None = []
place_text place (Some verdict) = place_line place verdict
