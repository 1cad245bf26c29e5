use Rattle.std.proofs.Common.{◌≡◌, ◌+◌, ◌++◌, ◌<◌, ◌∙◌, List, ap, arith, drop, get_or, length, subst, sym, take, ℕ}
use Rattle.std.proofs.Math.Seq.{take-append_seam}
use Rattle.crew_pairing.specs.declared.events.Arrival.{Arrival}
use Rattle.crew_resource.specs.Members.{Member}
use Rattle.crew_net.proofs.ArrivalPlaces.{AreSoFar, arrival-at, arrival-more, arrivals-all, rank-within}
use Rattle.crew_net.proofs.by_rank.arrival_places.Goals as goal

pub write_at-requires : goal.write_at-requires
write_at-requires c rank m =
    let net = c.args.net.now in
    let k = c.loop-arrival.arrival in
    let within : k < length net.arrivals = subst (λ (xs : List Arrival). k < length xs) c.arrivals-arrival-end.ensures.events c.loop-arrival-test.true in
    let x = arrival-at net.arrivals k within in
    let ranks = c.arriving.ensures x.0 x.1 in
    let bound = rank-within x.0 net.duties rank (subst (λ (rs : List ℕ). Member rs rank) ranks m) in
    let long = c.loop-arrival.invariant.0 in
    let same = ap length c.deref_mut.ensures.value in
    omega (arith, bound, long, same)

pub loop-arrival-preserved : goal.loop-arrival-preserved
loop-arrival-preserved c =
    let net = c.args.net.now in
    let k = c.loop-arrival.arrival in
    let now = c.write_at.new.places in
    let was = c.loop-arrival.places.items in
    let within : k < length net.arrivals = subst (λ (xs : List Arrival). k < length xs) c.arrivals-arrival-end.ensures.events c.loop-arrival-test.true in
    let x = arrival-at net.arrivals k within in
    let ranks = c.arriving.ensures x.0 x.1 in
    let value = c.deref_mut.ensures.value in
    let long : length now ≡ length net.duties = c.write_at.ensures.long ∙ (ap length value ∙ c.loop-arrival.invariant.0) in
    let len : length now ≡ c.loop-arrival.places.len = c.write_at.ensures.long ∙ c.deref_mut.ensures.len in
    let whole : take c.loop-arrival.places.len (now ++ drop (length now) was) ≡ now = ap (λ (n : ℕ). take n (now ++ drop (length now) was)) (sym len) ∙ take-append_seam now (drop (length now) was) in
    let next : AreSoFar net.duties net.arrivals (k + 1) now = arrival-more net.duties net.arrivals c.arrivals-arrival-end.ensures.exact k x.0 was now x.1
    (λ rank m. c.write_at.ensures.there rank (subst (λ (rs : List ℕ). Member rs rank) (sym ranks) m))
    (λ rank out. c.write_at.ensures.elsewhere rank (λ m. out (subst (λ (rs : List ℕ). Member rs rank) ranks m)) ∙ ap (λ (ps : List ℕ). get_or ps rank 0) value)
    c.loop-arrival.invariant.1 in
    subst (λ (ps : List ℕ). (length ps ≡ length net.duties) × AreSoFar net.duties net.arrivals (k + 1) ps) (sym whole) (long, next)

pub returns : goal.returns
returns c =
    let net = c.args.net.now in
    let all = c.loop-arrival-test.false in
    let events = ap length c.arrivals-arrival-end.ensures.events in
    record {
      long = c.loop-arrival.invariant.0;
      exact = arrivals-all net.duties net.arrivals c.arrivals-arrival-end.ensures.exact c.loop-arrival.arrival c.loop-arrival.places.items (omega (arith, all, events)) c.loop-arrival.invariant.1;
    }
