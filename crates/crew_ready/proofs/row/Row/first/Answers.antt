use Rattle.std.proofs.Common.{◌≡◌, ◌<◌, ℕ, List, get_or, length, MatchOption, ap, subst, arith}
use Rattle.crew_ready.proofs.Rows.{above-row, first-answer, none-in}
use Rattle.crew_ready.specs.Firsts.{IsFirst, NoneSet}
use Rattle.crew_ready.proofs.row.Row.first.Goals as goal

pub returns-in_default : goal.returns-in_default
returns-in_default c =
    let words = c.self.inside.words.items in
    subst NoneSet c.self.view_is (none-in c.self.inside.count words c.self.invariant (subst (λ (z : List ℕ). (j : ℕ) → get_or z j 0 ≡ 0) c.deref.ensures.value c.in_default.ensures))

pub first_in-requires : goal.first_in-requires
first_in-requires c =
    let most = above-row c.self.inside.count c.self.inside.words.items c.self.invariant in
    let long = ap length c.deref.ensures.value in
    let within = c.in-Some.ensures.0 in
    omega (arith, most, long, within)

pub returns : goal.returns
returns c =
    let n = c.self.inside.count in
    let words = c.self.inside.words.items in
    let row = c.in-Some.row in
    let is = c.deref.ensures.value in
    let some : 0 < get_or words row 0 = subst (λ (z : List ℕ). 0 < get_or z row 0) is c.in-Some.ensures.1 in
    let before : ((j : ℕ) → j < row → get_or words j 0 ≡ 0) = subst (λ (z : List ℕ). (j : ℕ) → j < row → get_or z j 0 ≡ 0) is c.in-Some.ensures.2 in
    subst (λ z. MatchOption c.first_in.result (NoneSet z) (IsFirst z)) c.self.view_is
    (first-answer n words c.deref-2.result.now row c.first_in.result c.self.invariant c.deref-2.ensures.value before (λ e j. absurd (omega (arith, some, e))) c.first_in.ensures.none c.first_in.ensures.some)
