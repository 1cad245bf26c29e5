use Rattle.std.proofs.Common.{◌≡◌, ◌∙◌, arith, ap, of_z, sym, to_z, w64}
use Rattle.std.specs.Option.{option_copied}
use Rattle.std.proofs.lemmas.Int.{ints}
use Rattle.crew_audit.specs.Machinery.Endings.{window_to}
use Rattle.crew_audit.proofs.Chains.{window-last}
use Rattle.crew_audit.proofs.limits.last_window.Goals as goal

pub returns-in-Some : goal.returns-in-Some
returns-in-Some c =
    let at = sym c.last.ensures.value ∙ ap option_copied c.in-Some.is in
    let end : to_z w64 (of_z w64 c.arrival.result) ≡ c.arrival.result = omega (arith, ints, c.arrival.ensures.bound) in
    let read : to_z w64 (of_z w64 c.window_to.result) ≡ c.window_to.result = grind (arith, ints, c.window_to.type_inv) in
    read ∙ c.window_to.ensures ∙ ap (λ e. window_to e c.args.duties.now) (end ∙ c.arrival.ensures.value) ∙ window-last c.args.duties.now c.in-Some.last.now at
