use Rattle.std.proofs.Common.{◌≡◌, ◌∙◌, ℕ, Option, Some, sym, ap}
use Rattle.crew_carry.proofs.Pushed.{some-is}
use Rattle.crew_dirty.proofs.Alike.{alike, are-twins}
use Rattle.crew_net.proofs.Longest.{stands}
use Rattle.crew_pairing.proofs.Tree.{slice_get-within}
use Rattle.crew_pairing.specs.declared.events.Departure.{Departure}
use Rattle.crew_dirty.proofs.windows.waits_alike.Goals as goal

pub returns-in_default-clause-all : goal.returns-in_default-clause-all
returns-in_default-clause-all c = λ g at there waits.
    let q = stands c.args.old.now.departures g there in
    let found = c.requires.all.departures c.args.place q.0 g q.1 at in
    let none = c.departure.ensures ∙ ap (λ (o : Option ℕ). Some o) c.in_default.is in
    let apart = sym none ∙ found in
    absurd (let z : ⊥ = (cc) in z)

pub window-before-requires : goal.window-before-requires
window-before-requires c =
    let twin = c.requires.twins.departures c.args.place c.in-Some.was c.in-Some.ensures in
    slice_get-within c.args.old.now.departures c.in-Some.was twin.0 twin.1

pub returns-clause-alike : goal.returns-clause-alike
returns-clause-alike c = λ e g at.
    let old = c.args.old.now in
    let new = c.args.new.now in
    let twin = c.requires.twins.departures c.args.place c.in-Some.was c.in-Some.ensures in
    let one : twin.0 ≡ g = some-is new.departures c.args.place twin.0 g twin.2 at in
    let was = c.window-before.ensures g (twin.1 ∙ ap (λ (h : Departure). Some h) one) in
    alike old new c.requires.settings c.args.twins.now c.requires.twins c.arrivals-arrivals.ensures.exact c.arrivals-olds.ensures.exact g c.window-now.result c.window-before.result (c.window-now.ensures g at) was (c.holds_twins.ensures.0 e)

pub returns-clause-all : goal.returns-clause-all
returns-clause-all c = λ g at there waits.
    let old = c.args.old.now in
    let new = c.args.new.now in
    let twin = c.requires.twins.departures c.args.place c.in-Some.was c.in-Some.ensures in
    let one : twin.0 ≡ g = some-is new.departures c.args.place twin.0 g twin.2 at in
    let was = c.window-before.ensures g (twin.1 ∙ ap (λ (h : Departure). Some h) one) in
    c.holds_twins.ensures.1
    (are-twins old new c.requires.settings c.args.twins.now c.requires.twins c.arrivals-arrivals.ensures.exact c.arrivals-olds.ensures.exact g c.window-now.result c.window-before.result (c.window-now.ensures g at) was c.requires.all waits)
