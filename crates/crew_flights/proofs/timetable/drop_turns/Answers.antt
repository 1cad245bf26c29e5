use Rattle.std.proofs.Common.{not, rules}
use Rattle.std.proofs.lemmas.Map.Made.{filter_same_pairs}
use Rattle.crew_flights.specs.Edits.{is_turn_of}
use Rattle.crew_flights.proofs.timetable.drop_turns.Goals as goal

pub returns-clause-left : goal.returns-clause-left
returns-clause-left c =
    filter_same_pairs _ (λ e. not (is_turn_of c.args.id e.0)) _ (λ k v b w f' t. search rules) _ _ c.retain.ensures.filtered
