use Rattle.std.proofs.Common.{◌∙◌, sym}
use Rattle.std.specs.FinMap as map
use Rattle.crew_duty.proofs.turns.HeldTurns.are.Goals as goal

pub returns : goal.returns
returns c = λ yes. map.same_entries_map c.args.self.now c.args.others.now (sym c.entries.ensures ∙ c.are_same_turns.ensures yes ∙ c.entries-2.ensures)
