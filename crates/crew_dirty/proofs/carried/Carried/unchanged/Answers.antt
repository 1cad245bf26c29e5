use Rattle.std.proofs.Common.{◌≡◌, ◌∙◌, ◌&&◌, Some, true, false, get_or, length, sym, ap, arith}
use Rattle.std.specs.Prelude.{slice_get}
use Rattle.crew_net.proofs.InTime.{item-at}
use Rattle.crew_pairing.proofs.Tree.{slice_get-within}
use Rattle.crew_pairing.specs.Events.{departure_of}
use Rattle.crew_dirty.proofs.Sames.{not-both}
use Rattle.crew_dirty.proofs.Unchanging.{are-same, is-unchanged, is-untouched}
use Rattle.crew_dirty.proofs.carried.Carried.unchanged.Goals as goal

pub returns-then-not-untouched : goal.returns-then-not-untouched
returns-then-not-untouched g c = λ t u old over.
    let net = c.args.net.now in
    let own = c.args.self.now in
    let node = c.args.node.now in
    let known = c.in-Some.ensures.is in
    let at_node = c.in-Some.place in
    let flags : c.is_untouched_at-untouched.result ≡ (get_or own.bases at_node.base false && get_or own.same at_node.rank false) =
    c.is_untouched_at-untouched.ensures.flags in (
      λ z. absurd (let q : ⊥ = (cc) in q),
      λ k.
          absurd
          (not-both c.is_untouched_at-untouched.result
          (flags ∙ is-untouched t u old net own over at_node.base at_node.rank node known.is_rank.0 known.is_base known.is_rank.2 known.is_rank.1.key (g.S.NodeStates.state_at c.args.states.now) k)
          c.if-not-untouched.true),
    )

pub returns-then-departure-departures : goal.returns-then-departure-departures
returns-then-departure-departures g c = λ t u old over.
    let net = c.args.net.now in
    let own = c.args.self.now in
    let known = c.in-Some.ensures.is in
    let at_node = c.in-Some.place in
    let place = c.departure-departure.ensures in
    let within = slice_get-within net.departures (get_or own.departures at_node.rank 0) (departure_of known.is_rank.0) (over.leaves at_node.rank known.is_rank.0 known.is_rank.2) in
    let events = ap length c.departures.ensures.events in
    let past = c.if-departure-departures.true in
    absurd (omega (arith, place, within, events, past))

pub are_same_before-requires-clause-ordered : goal.are_same_before-requires-clause-ordered
are_same_before-requires-clause-ordered g c =
    let net = c.args.net.now in
    let events = ap length c.departures.ensures.events in
    let below = c.if-departure-departures.false in
    let e = item-at net.departures c.departure-departure.result (omega (arith, events, below)) in
    (c.window.ensures e.0 e.1).ordered

pub are_same_before-requires-clause-within : goal.are_same_before-requires-clause-within
are_same_before-requires-clause-within g c =
    let net = c.args.net.now in
    let events = ap length c.departures.ensures.events in
    let below = c.if-departure-departures.false in
    let e = item-at net.departures c.departure-departure.result (omega (arith, events, below)) in
    (c.window.ensures e.0 e.1).within

pub returns : goal.returns
returns g c = λ t u old over.
    let net = c.args.net.now in
    let own = c.args.self.now in
    let node = c.args.node.now in
    let known = c.in-Some.ensures.is in
    let at_node = c.in-Some.place in
    let d = known.is_rank.0 in
    let place = c.departure-departure.ensures in
    let at : slice_get net.departures c.departure-departure.result ≡ Some (departure_of d) = ap (slice_get net.departures) place ∙ over.leaves at_node.rank d known.is_rank.2 in
    let window = c.window.ensures (departure_of d) at in
    let state = g.S.NodeStates.state_at c.args.states.now in
    let flags : (get_or own.bases at_node.base false && get_or own.same at_node.rank false) ≡ true =
    sym c.is_untouched_at-untouched.ensures.flags ∙ c.if-not-untouched.false in (
      λ e. is-unchanged t u old net own over at_node.base at_node.rank node d known.is_base known.is_rank.2 known.is_rank.1.key state c.window.result window c.arrivals-arrivals.ensures.exact flags (c.are_same_before.ensures.0 e),
      λ k. c.are_same_before.ensures.1 (are-same t u old net own over at_node.base at_node.rank node d known.is_base known.is_rank.2 known.is_rank.1.key state c.window.result window c.arrivals-arrivals.ensures.exact k),
    )
