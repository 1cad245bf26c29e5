use Rattle.std.proofs.Common.{◌≡◌, ◌∙◌, Some, ap, sym, subst, refl, [], cond, Bool, true, false, List, Option}
use Rattle.std.specs.Prelude.{IfOk, OnOk, not, slice_get}
use Rattle.std.specs.Ordering.{eq_by_cmp}
use Rattle.crew_flights.specs.Codes.{code_cmp}
use Rattle.crew_net.specs.Nets.{Net}
use Rattle.crew_pairing.specs.declared.duty.Duty.{Duty}
use Rattle.crew_net.proofs.Numbers.{get-member}
use Rattle.crew_solve.specs.Machinery.Floors.{CostFrom}
use Rattle.crew_solve.specs.Machinery.Homes.{ended_by, home_at, home_by}
use Rattle.crew_solve.proofs.Flooring.{from-none}
use Rattle.crew_solve.specs.Machinery.Keeps.{keep_all}
use Rattle.crew_vector.specs.declared.priced.PricedPairing.{PricedPairing}
use Rattle.crew_solve.proofs.best.keep_of_rank.Goals as goal

pub keep_of_duty-requires-clause-sound : goal.keep_of_duty-requires-clause-sound
keep_of_duty-requires-clause-sound c =
    let duties = c.args.sweep.now.net.duties in
    let d = c.duty-duty.result.now in
    let at = subst (λ (n : Net). slice_get n.duties c.args.rank ≡ Some d) c.net.ensures.net c.duty-duty.ensures in
    c.net.ensures.sound d (get-member duties c.args.rank d at)

pub keep_of_duty-requires-clause-duty : goal.keep_of_duty-requires-clause-duty
keep_of_duty-requires-clause-duty c =
    let duties = c.args.sweep.now.net.duties in
    let d = c.duty-duty.result.now in
    subst (λ (n : Net). slice_get n.duties c.args.rank ≡ Some d) c.net.ensures.net c.duty-duty.ensures

pub keep_of_duty-requires-clause-own : goal.keep_of_duty-requires-clause-own
keep_of_duty-requires-clause-own c =
    let duties = c.args.sweep.now.net.duties in
    let d = c.duty-duty.result.now in
    c.requires.own d (subst (λ (n : Net). slice_get n.duties c.args.rank ≡ Some d) c.net.ensures.net c.duty-duty.ensures)

same-test : (b : Bool) → not b ≡ false → b ≡ true
same-test true e = refl
same-test false e = cc

pub returns-clause-kept : goal.returns-clause-kept
returns-clause-kept c =
    let b = c.args.sweep.now in
    let d = c.duty-duty.result.now in
    let at = subst (λ (n : Net). slice_get n.duties c.args.rank ≡ Some d) c.net.ensures.net c.duty-duty.ensures in
    let home : eq_by_cmp code_cmp d.to b.base ≡ true = same-test _ (sym (c.ne.ensures ∙ ap (λ k. not (eq_by_cmp code_cmp d.to k)) c.base.ensures) ∙ c.if-ne.false) in
    let whole : home_at b c.args.index c.args.rank ≡ ended_by b c.args.index d =
    ap (λ (o : Option Duty). home_by b c.args.index o) at ∙ ap (λ t. cond t (ended_by b c.args.index d) []) home in
    subst (λ (ps : List PricedPairing). OnOk c.keep_of_duty.result (c.keep_of_duty.new.kept ≡ keep_all c.args.kept.now ps)) (sym whole) c.keep_of_duty.ensures.kept

pub returns-clause-floor : goal.returns-clause-floor
returns-clause-floor c =
    let b = c.args.sweep.now in
    let d = c.duty-duty.result.now in
    let at = subst (λ (n : Net). slice_get n.duties c.args.rank ≡ Some d) c.net.ensures.net c.duty-duty.ensures in
    let home : eq_by_cmp code_cmp d.to b.base ≡ true = same-test _ (sym (c.ne.ensures ∙ ap (λ k. not (eq_by_cmp code_cmp d.to k)) c.base.ensures) ∙ c.if-ne.false) in
    let whole : home_at b c.args.index c.args.rank ≡ ended_by b c.args.index d =
    ap (λ (o : Option Duty). home_by b c.args.index o) at ∙ ap (λ t. cond t (ended_by b c.args.index d) []) home in
    subst (λ (ps : List PricedPairing). IfOk c.keep_of_duty.result (λ floor. CostFrom c.args.kept.now.beside floor ps)) (sym whole) c.keep_of_duty.ensures.floor

other-test : (b : Bool) → not b ≡ true → b ≡ false
other-test true e = cc
other-test false e = refl

pub returns-then-ne-clause-floor : goal.returns-then-ne-clause-floor
returns-then-ne-clause-floor c =
    let b = c.args.sweep.now in
    let d = c.duty-duty.result.now in
    let at = subst (λ (n : Net). slice_get n.duties c.args.rank ≡ Some d) c.net.ensures.net c.duty-duty.ensures in
    let away : eq_by_cmp code_cmp d.to b.base ≡ false = other-test _ (sym (c.ne.ensures ∙ ap (λ k. not (eq_by_cmp code_cmp d.to k)) c.base.ensures) ∙ c.if-ne.true) in
    let none : home_at b c.args.index c.args.rank ≡ [] =
    ap (λ (o : Option Duty). home_by b c.args.index o) at ∙ ap (λ t. cond t (ended_by b c.args.index d) []) away in
    subst (CostFrom c.args.kept.now.beside _) (sym none) (from-none c.args.kept.now.beside _)
