use Rattle.std.proofs.Common.{◌∙◌, sym, ap}
use Rattle.crew_board.proofs.Each.{stale-tally}
use Rattle.crew_board.specs.declared.tally.Tally.{Tally}
use Rattle.crew_board.proofs.tally.all_stale.Goals as goal

pub returns : goal.returns
returns c = ap (λ n. let t : Tally = record { stored = 0; again = 0; stale = n } in t) c.len.ensures ∙ sym (stale-tally c.args.done.now)
