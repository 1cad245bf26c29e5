use Rattle.std.proofs.Common.{◌≡◌, pos, ◌≤ℤ◌, ◌-ℤ◌, to_z, of_z, w32, ◌∙◌, ap, subst, arith}
use Rattle.std.proofs.lemmas.Int.{ints, to_z-of_z}
use Rattle.crew_history.specs.Histories.{minutes_after}
use Rattle.crew_history.specs.HistoryValues.{periods_of}
use Rattle.crew_history.proofs.Histories.{ends_from_none}
use Rattle.crew_history.proofs.history.History.is_before.Goals as goal

pub returns-then-minutes_after-le0-clause-later : goal.returns-then-minutes_after-le0-clause-later
returns-then-minutes_after-le0-clause-later c =
    let h = periods_of c.args.self.now in
    let a = c.if-minutes_after-le0.true in
    let at : to_z w32 (of_z w32 (to_z w32 (of_z w32 c.args.start) -ℤ pos 1)) ≡ c.args.start -ℤ pos 1 =
    ap (λ z. to_z w32 (of_z w32 (z -ℤ pos 1))) (to_z-of_z w32 c.args.start c.ranges.start) ∙ to_z-of_z w32 (c.args.start -ℤ pos 1) c.requires.before in
    let none : c.minutes_after.result ≤ℤ pos 0 = grind (arith, ints) in
    λ _. ends_from_none h c.args.start c.args.self.now.kept.2 (subst (λ z. z ≤ℤ pos 0) (c.minutes_after.ensures ∙ ap (minutes_after h) at) none)
