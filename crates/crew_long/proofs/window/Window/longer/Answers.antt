use Rattle.std.proofs.Common.{rules, ◌≡◌, ◌<◌, None, Some, Option, List, ℤ, pos, ◌≤ℤ◌, ◌∙◌}
use Rattle.crew_history.specs.Histories.{boarded_history}
use Rattle.crew_history.specs.HistoryValues.{periods_of}
use Rattle.crew_history.specs.Limits.{period_of}
use Rattle.crew_long.specs.Recents.{recent_periods}
use Rattle.crew_long.proofs.Taken.{taken_none, taken_some, counted_more}
use Rattle.crew_long.proofs.window.Window.longer.Goals as goal

pub returns-in_err-history : goal.returns-in_err-history
returns-in_err-history c =
    let few : c.args.value.now.duties < 12 = search rules in
    let least : pos 0 ≤ℤ c.args.item.now.report = search rules in
    let most : c.args.item.now.report ≤ℤ pos 2_000_000_000 = search rules in
    let none : ◌≡◌ {A = Option (List (ℤ × ℤ))} None (boarded_history (pos 10_080) c.args.self.now.cap (recent_periods c.args.value.now) (period_of c.args.item.now)) = search rules in
    c.from_residual.ensures ∙ taken_none c.args.self.now.cap c.args.value.now c.args.item.now few least most none

pub invariant_of-result : goal.invariant_of-result
invariant_of-result c =
    let board : Some (periods_of c.in_ok-history.history) ≡ boarded_history (pos 10_080) c.args.self.now.cap (recent_periods c.args.value.now) (period_of c.args.item.now) = search rules in
    record { kept = counted_more c.args.self.now.cap c.args.value.now c.args.item.now c.in_ok-history.history board }

pub returns-in_ok-history : goal.returns-in_ok-history
returns-in_ok-history c =
    let few : c.args.value.now.duties < 12 = search rules in
    let least : pos 0 ≤ℤ c.args.item.now.report = search rules in
    let most : c.args.item.now.report ≤ℤ pos 2_000_000_000 = search rules in
    let board : Some (periods_of c.in_ok-history.history) ≡ boarded_history (pos 10_080) c.args.self.now.cap (recent_periods c.args.value.now) (period_of c.args.item.now) = search rules in
    taken_some c.args.self.now.cap c.args.value.now c.args.item.now c.in_ok-history.history _ few least most board
