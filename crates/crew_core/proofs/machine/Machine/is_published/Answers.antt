use Rattle.std.proofs.Common.{◌≡◌, ◌∙◌, sym, ap}
use Rattle.std.proofs.lemmas.Bool.{eq-eqb, eqb-true}
use Rattle.std.specs.Arc.{arc_value}
use Rattle.crew_core.proofs.Stepped as by
use Rattle.crew_core.proofs.Stepped.{with_board}
use Rattle.crew_core.specs.Machines.{ShownMachine}
use Rattle.crew_board.specs.crew_version.Versions.{Snapshot}
use Rattle.crew_core.proofs.machine.Machine.is_published.Goals as goal

pub returns : goal.returns
returns c =
    let v = arc_value c.latest.result.now in
    let one : c.number.result ≡ v.number = c.number.ensures.value ∙ ap (λ (z : Snapshot). z.number) c.deref.ensures in
    let sealed : c.deref-2.result.now ≡ c.self.inside.board.sealed = c.deref-2.ensures ∙ c.sealed.ensures.sealed in
    let other : c.number-2.result ≡ c.args.self.now.board.sealed.number = c.number-2.ensures.value ∙ (ap (λ (z : Snapshot). z.number) sealed ∙ ap (λ (z : ShownMachine). z.board.sealed.number) c.self.view_is) in
    λ state is.
    (
    let both = by.is-published c.args.self.now state is v c.latest.ensures in (
      λ t. both.0 (sym one ∙ (eqb-true c.number.result c.number-2.result t ∙ other)),
      λ last. eq-eqb c.number.result c.number-2.result (one ∙ (both.1 last ∙ sym other)),
    ))
