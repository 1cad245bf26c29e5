use Rattle.std.proofs.Common.{◌<◌, get_or, MatchOption, subst, arith}
use Rattle.crew_ready.proofs.Rows.{first-above, first-answer, none-above, none-in}
use Rattle.crew_ready.specs.Firsts.{IsFirst, NoneSet}
use Rattle.crew_ready.proofs.level.Level.first.Goals as goal

pub returns-in_default : goal.returns-in_default
returns-in_default c =
    let words = c.self.inside.words.items in
    subst NoneSet c.self.view_is (none-in c.self.inside.count words c.self.invariant.0 (none-above words c.self.inside.above c.self.invariant.1 c.in_default.ensures))

pub returns : goal.returns
returns c =
    let n = c.self.inside.count in
    let words = c.self.inside.words.items in
    let row = c.in-Some.row in
    let found = first-above words c.self.inside.above row c.self.invariant.1 c.in-Some.ensures in
    let some : 0 < get_or words row 0 = found.1 in
    subst (λ z. MatchOption c.first_in.result (NoneSet z) (IsFirst z)) c.self.view_is
    (first-answer n words c.deref.result.now row c.first_in.result c.self.invariant.0 c.deref.ensures.value found.2 (λ e j. absurd (omega (arith, some, e))) c.first_in.ensures.none c.first_in.ensures.some)
