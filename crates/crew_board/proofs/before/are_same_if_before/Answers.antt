use Rattle.std.specs.Ordering.{eq_by_cmp}
use Rattle.crew_flights.specs.Codes.{code_cmp}
use Rattle.std.proofs.Common.{◌≡◌, ◌∙◌, ℕ, List, ap, arith, get_or, length, refl, subst, sym, true, true≢false}
use Rattle.std.proofs.lemmas.Option.{get_or_from_slice_get}
use Rattle.crew_board.proofs.Arriving.{first-waits, none-among, same-airport}
use Rattle.crew_job.proofs.Lots.{some-first}
use Rattle.crew_machine.proofs.Cells.{Some-same}
use Rattle.crew_net.proofs.ArrivalPlaces.{rank-within}
use Rattle.crew_net.proofs.InTime.{item-at}
use Rattle.crew_pairing.specs.Events.{departure_of, may_wait}
use Rattle.crew_pairing.specs.declared.events.Arrival.{Arrival}
use Rattle.crew_pairing.specs.Pairings.{may_stand_after}
use Rattle.crew_resource.proofs.Members.{Member-get}
use Rattle.crew_resource.specs.Members.{Member}
use Rattle.crew_rules.specs.declared.settings.Settings.{Settings}
use Rattle.crew_job.proofs.crew_step_lemmas.Loops.{item-at as item-of}
use Rattle.crew_board.proofs.before.are_same_if_before.Goals as goal

pub returns-then-not-there : goal.returns-then-not-there
returns-then-not-there c = (
  λ t y at may rank m. (
      let net = c.args.net.now in
      let d = c.args.duty.now in
      let x = c.index-arrivals-arrival.result in
      let is : x ≡ get_or net.arrivals c.args.arrival x = c.index-arrivals-arrival.is ∙ ap (λ (xs : List Arrival). get_or xs c.args.arrival x) c.arrivals.ensures.events in
      let own : y ≡ x = Some-same y x (sym at ∙ item-of net.arrivals c.args.arrival x c.requires.arrival is) in
      let waits = subst (λ (z : Arrival). may_wait net.settings z (departure_of d) ≡ true) own may in
      let same = subst (λ (z : Arrival). eq_by_cmp code_cmp z.airport d.from ≡ true) c.index-arrivals-arrival.is (same-airport net.settings x (departure_of d) waits) in
      absurd (true≢false (sym same ∙ (sym c.eq-there.ensures ∙ c.if-not-there.true)))),
  λ all. refl,
)

pub returns-then-is_empty : goal.returns-then-is_empty
returns-then-is_empty c = (
  λ t x at may rank m. (
      let ranks = c.arriving-ranks.result.now in
      absurd (none-among ranks rank c.if-is_empty.ensures (subst (λ (rs : List ℕ). Member rs rank) (sym (c.arriving-ranks.ensures x at)) m))),
  λ all. refl,
)

pub duty-before-requires : goal.duty-before-requires
duty-before-requires c =
    let net = c.args.net.now in
    let ranks = c.arriving-ranks.result.now in
    let low = some-first (length ranks) c.if-is_empty.ensures in
    let x = item-at net.arrivals c.args.arrival c.requires.arrival in
    let there = subst (λ (rs : List ℕ). Member rs (get_or ranks 0 0)) (c.arriving-ranks.ensures x.0 x.1) (Member-get ranks 0 0 low) in
    rank-within x.0 net.duties (get_or ranks 0 0) there

pub returns-then-not-may : goal.returns-then-not-may
returns-then-not-may c = (
  λ t x at may rank m. (
      let net = c.args.net.now in
      let ranks = c.arriving-ranks.result.now in
      let low = some-first (length ranks) c.if-is_empty.ensures in
      let e = c.duty-before.result.now in
      let is : e ≡ get_or net.duties (get_or ranks 0 0) e = sym (get_or_from_slice_get net.duties (get_or ranks 0 0) e e c.duty-before.ensures) in
      let told = c.may_follow-may.ensures ∙ ap (λ (s : Settings). may_stand_after s e c.args.duty.now) c.settings.ensures.value in
      let waits = first-waits net x c.args.duty.now e ranks (c.arriving-ranks.ensures x at) low is in
      absurd (true≢false (sym may ∙ (waits ∙ (sym told ∙ c.if-not-may.true))))),
  λ all. refl,
)

pub are_same-requires : goal.are_same-requires
are_same-requires c = λ rank m.
    let net = c.args.net.now in
    let x = item-at net.arrivals c.args.arrival c.requires.arrival in
    let there = subst (λ (rs : List ℕ). Member rs rank) (c.arriving-ranks.ensures x.0 x.1) m in
    let low = rank-within x.0 net.duties rank there in
    let fits = c.requires.first in
    omega (arith, low, fits)

pub returns : goal.returns
returns c = (
  λ t x at may rank m. c.are_same.ensures.0 t rank (subst (λ (rs : List ℕ). Member rs rank) (sym (c.arriving-ranks.ensures x at)) m),
  λ all. c.are_same.ensures.1 (λ rank m. (
      let net = c.args.net.now in
      let ranks = c.arriving-ranks.result.now in
      let low = some-first (length ranks) c.if-is_empty.ensures in
      let e = c.duty-before.result.now in
      let is : e ≡ get_or net.duties (get_or ranks 0 0) e = sym (get_or_from_slice_get net.duties (get_or ranks 0 0) e e c.duty-before.ensures) in
      let told = c.may_follow-may.ensures ∙ ap (λ (s : Settings). may_stand_after s e c.args.duty.now) c.settings.ensures.value in
      let x = item-at net.arrivals c.args.arrival c.requires.arrival in
      let are = c.arriving-ranks.ensures x.0 x.1 in
      let waits = first-waits net x.0 c.args.duty.now e ranks are low is in
      all x.0 x.1 (waits ∙ (sym told ∙ c.if-not-may.false)) rank (subst (λ (rs : List ℕ). Member rs rank) are m))),
)
