use Rattle.std.proofs.Common.{◌≡◌, ◌∙◌, ap, sym, subst, to_z, of_z, w64, arith}
use Rattle.std.specs.Prelude.{◌≤ℤ◌}
use Rattle.std.proofs.lemmas.Int.{ints}
use Rattle.crew_resource.specs.Machinery.Sum.{LiesWithin}
use Rattle.crew_net.proofs.Numbers.{get-member}
use Rattle.crew_solve.specs.Machinery.Floors.{CostFrom, least_by}
use Rattle.crew_solve.specs.Machinery.Homes.{ended_by}
use Rattle.crew_solve.proofs.Floored.{ended-costs}
use Rattle.crew_solve.proofs.Flooring.{ended-with, from-unasked, keep-above, keep-all-unasked}
use Rattle.crew_solve.proofs.best.keep_of_duty.Goals as goal

pub returns-then-not-wants-clause-kept : goal.returns-then-not-wants-clause-kept
returns-then-not-wants-clause-kept c =
    let b = c.args.sweep.now in
    let d = c.args.duty.now in
    let floor : to_z w64 (of_z w64 c.args.floor) ≡ c.args.floor = omega (arith, ints) in
    let least : to_z w64 (of_z w64 c.least_by-least.result) ≡ c.least_by-least.result = omega (arith, ints) in
    let is = least ∙ (c.least_by-least.ensures ∙ ap (least_by d) floor) in
    let within : LiesWithin 2_147_483_648 d.release = record { least = omega (arith, ints); most = omega (arith, ints) } in
    let known = get-member b.net.duties c.args.rank d c.requires.duty in
    let costs = ended-costs c.args.kept.now.beside b c.args.index d c.args.floor c.requires.fit known c.requires.own within c.requires.floor in
    sym (keep-above c.args.kept.now (least_by d c.args.floor) (ended_by b c.args.index d) costs (λ p more. c.wants.ensures c.if-not-wants.true p (subst (λ z. z ≤ℤ p.cost) (sym is) more)))

pub returns-then-not-wants-clause-floor : goal.returns-then-not-wants-clause-floor
returns-then-not-wants-clause-floor c =
    let b = c.args.sweep.now in
    let d = c.args.duty.now in
    let floor : to_z w64 (of_z w64 c.args.floor) ≡ c.args.floor = omega (arith, ints) in
    let least : to_z w64 (of_z w64 c.least_by-least.result) ≡ c.least_by-least.result = omega (arith, ints) in
    let is = least ∙ (c.least_by-least.ensures ∙ ap (least_by d) floor) in
    let within : LiesWithin 2_147_483_648 d.release = record { least = omega (arith, ints); most = omega (arith, ints) } in
    let known = get-member b.net.duties c.args.rank d c.requires.duty in
    let costs = ended-costs c.args.kept.now.beside b c.args.index d c.args.floor c.requires.fit known c.requires.own within c.requires.floor in
    subst (λ z. CostFrom c.args.kept.now.beside z (ended_by b c.args.index d)) (sym is) costs

pub returns-then-not-may_end-clause-kept : goal.returns-then-not-may_end-clause-kept
returns-then-not-may_end-clause-kept c =
    let b = c.args.sweep.now in
    let d = c.args.duty.now in
    sym (keep-all-unasked c.args.kept.now (ended_by b c.args.index d) (λ p m. let w = ended-with b c.args.index d p m in c.may_end.ensures c.if-not-may_end.true p w.0 w.1))

pub returns-then-not-may_end-clause-floor : goal.returns-then-not-may_end-clause-floor
returns-then-not-may_end-clause-floor c =
    let b = c.args.sweep.now in
    let d = c.args.duty.now in
    from-unasked c.args.kept.now.beside _ (ended_by b c.args.index d) (λ p m. let w = ended-with b c.args.index d p m in c.may_end.ensures c.if-not-may_end.true p w.0 w.1)
