use Rattle.std.proofs.Common.{◌≡◌, ◌∙◌, None, Some, ap, arith, inl, refl, sym, true≢false}
use Rattle.std.proofs.lemmas.Int.{ints}
use Rattle.crew_anchor.specs.Stages.{anchored_board}
use Rattle.crew_anchor.specs.declared.resource.AnchoredResource.{AnchoredResource}
use Rattle.crew_solve.proofs.Found.{boards-to, none-boards, one-shown, same-pay, shows-one}
use Rattle.crew_solve.specs.Machinery.Homes.{resource_of}
use Rattle.crew_solve.proofs.lookup.is_shown.Goals as goal

pub duty_pay_with-requires : goal.duty_pay_with-requires
duty_pay_with-requires c = c.requires.boards c.args.label.now (inl refl)

pub returns-then-duty_pay_with-wanted : goal.returns-then-duty_pay_with-wanted
returns-then-duty_pay_with-wanted c = (
  λ t. absurd (true≢false (sym t)),
  λ m.
      let pay = same-pay c.args.sweep.now c.args.duty.now c.args.rank c.args.label.now c.args.wanted.now m in
      absurd (omega (arith, ints, c.if-duty_pay_with-wanted.true, c.duty_pay_with.ensures, pay)),
)

pub board-requires : goal.board-requires
board-requires c = c.requires.boards c.args.label.now (inl refl)

pub returns-in_default : goal.returns-in_default
returns-in_default c =
    let l = c.args.label.now in
    let d = c.args.duty.now in
    let b = c.args.sweep.now in
    let is : anchored_board (resource_of b) l.0 d ≡ None = ap (λ (r : AnchoredResource). anchored_board r l.0 d) (sym c.resource.ensures) ∙ (sym c.board.ensures ∙ c.in_default.is) in
    (λ t. absurd (true≢false (sym t)), λ m. absurd (none-boards b d c.args.rank l c.args.wanted.now is m))

pub entry_of-entry-requires-clause-room : goal.entry_of-entry-requires-clause-room
entry_of-entry-requires-clause-room c = λ within.
    let l = c.args.label.now in
    let d = c.args.duty.now in
    let b = c.args.sweep.now in
    let is : anchored_board (resource_of b) l.0 d ≡ Some c.in-Some.value = ap (λ (r : AnchoredResource). anchored_board r l.0 d) (sym c.resource.ensures) ∙ (sym c.board.ensures ∙ c.in-Some.is) in
    c.requires.room within (c.in-Some.value, record { walk = l.1.walk; duty = c.args.rank }) (boards-to b d c.args.rank l c.in-Some.value is)

pub entry_of-entry-requires-clause-there : goal.entry_of-entry-requires-clause-there
entry_of-entry-requires-clause-there c =
    let l = c.args.label.now in
    let d = c.args.duty.now in
    let b = c.args.sweep.now in
    let is : anchored_board (resource_of b) l.0 d ≡ Some c.in-Some.value = ap (λ (r : AnchoredResource). anchored_board r l.0 d) (sym c.resource.ensures) ∙ (sym c.board.ensures ∙ c.in-Some.is) in
    (c.requires.walks (c.in-Some.value, record { walk = l.1.walk; duty = c.args.rank }) (boards-to b d c.args.rank l c.in-Some.value is)).0

pub entry_of-entry-requires-clause-ranked : goal.entry_of-entry-requires-clause-ranked
entry_of-entry-requires-clause-ranked c =
    let l = c.args.label.now in
    let d = c.args.duty.now in
    let b = c.args.sweep.now in
    let is : anchored_board (resource_of b) l.0 d ≡ Some c.in-Some.value = ap (λ (r : AnchoredResource). anchored_board r l.0 d) (sym c.resource.ensures) ∙ (sym c.board.ensures ∙ c.in-Some.is) in
    (c.requires.walks (c.in-Some.value, record { walk = l.1.walk; duty = c.args.rank }) (boards-to b d c.args.rank l c.in-Some.value is)).1

pub returns : goal.returns
returns c =
    let l = c.args.label.now in
    let d = c.args.duty.now in
    let b = c.args.sweep.now in
    let wanted = c.args.wanted.now in
    let is : anchored_board (resource_of b) l.0 d ≡ Some c.in-Some.value = ap (λ (r : AnchoredResource). anchored_board r l.0 d) (sym c.resource.ensures) ∙ (sym c.board.ensures ∙ c.in-Some.is) in (
      λ t. shows-one b d c.args.rank l c.in-Some.value wanted is (sym c.entry_of-entry.ensures ∙ c.is_same_entry.ensures.0 t),
      λ m. c.is_same_entry.ensures.1 (c.entry_of-entry.ensures ∙ one-shown b d c.args.rank l c.in-Some.value wanted is m),
    )
