use Rattle.std.proofs.Common.{◌≡◌, ◌+◌, ◌++◌, ◌&&◌, ◌<◌, ◌∙◌, Bool, List, ap, arith, drop, false, get_or, length, subst, sym, take, ℕ}
use Rattle.std.proofs.Math.Seq.{take-append_seam}
use Rattle.crew_dirty.specs.Carried.{AreFlags}
use Rattle.crew_net.proofs.InTime.{item-at, leaver-within}
use Rattle.crew_pairing.specs.declared.duty.Duty.{Duty}
use Rattle.crew_pairing.specs.declared.events.Departure.{Departure}
use Rattle.crew_resource.specs.Members.{Member}
use Rattle.crew_dirty.proofs.Sames.{AreSameTo, same-all, same-more}
use Rattle.crew_dirty.proofs.same.same_duties.Goals as goal

pub put_flags-requires-clause-ranks : goal.put_flags-requires-clause-ranks
put_flags-requires-clause-ranks c rank m =
    let net = c.args.new.now in
    let k = c.loop-departure.departure in
    let within : k < length net.departures = subst (λ (xs : List Departure). k < length xs) c.departures-departure-end.ensures.events c.loop-departure-test.true in
    let g = item-at net.departures k within in
    let bound = leaver-within net g.0 c.leaving.result.now (c.leaving.ensures g.0 g.1) rank m in
    let long = c.loop-departure.invariant.0 in
    let same = ap length c.deref_mut.ensures.value in
    omega (arith, bound, long, same)

pub put_flags-requires-clause-others : goal.put_flags-requires-clause-others
put_flags-requires-clause-others c rank m =
    let net = c.args.new.now in
    let k = c.loop-departure.departure in
    let within : k < length net.departures = subst (λ (xs : List Departure). k < length xs) c.departures-departure-end.ensures.events c.loop-departure-test.true in
    let g = item-at net.departures k within in
    let bound = leaver-within net g.0 c.leaving.result.now (c.leaving.ensures g.0 g.1) rank m in
    let long = c.in_ok-held.ensures.long in
    let news = ap length c.duties-news.ensures in
    let same = ap length c.deref.ensures.value in
    omega (arith, bound, long, news, same)

pub loop-departure-preserved : goal.loop-departure-preserved
loop-departure-preserved c =
    let old = c.args.old.now in
    let net = c.args.new.now in
    let k = c.loop-departure.departure in
    let now = c.put_flags.new.flags in
    let was = c.loop-departure.same.items in
    let held = c.in_ok-held.held.items in
    let alike = c.waits_alike-alike.result in
    let within : k < length net.departures = subst (λ (xs : List Departure). k < length xs) c.departures-departure-end.ensures.events c.loop-departure-test.true in
    let g = item-at net.departures k within in
    let value = c.deref_mut.ensures.value in
    let long : length now ≡ length net.duties = c.put_flags.ensures.long ∙ (ap length value ∙ c.loop-departure.invariant.0) in
    let len : length now ≡ c.loop-departure.same.len = c.put_flags.ensures.long ∙ c.deref_mut.ensures.len in
    let whole : take c.loop-departure.same.len (now ++ drop (length now) was) ≡ now = ap (λ (n : ℕ). take n (now ++ drop (length now) was)) (sym len) ∙ take-append_seam now (drop (length now) was) in
    let flags : AreFlags (Member old.duties) net.duties held =
    subst (λ (ds : List Duty). AreFlags (Member ds) net.duties held) c.duties.ensures
    (subst (λ (ds : List Duty). AreFlags (Member c.duties.result.now) ds held) c.duties-news.ensures c.in_ok-held.ensures.flags) in
    let next : AreSameTo old net (k + 1) now = same-more net k g.0 g.1 c.leaving.result.now (c.leaving.ensures g.0 g.1) old was now held alike c.departures-olds.ensures.exact flags
    (λ e. c.waits_alike-alike.ensures.alike e g.0 g.1)
    (λ m waits. c.waits_alike-alike.ensures.all g.0 g.1 m waits)
    (λ rank m. c.put_flags.ensures.there rank m ∙ ap (λ (fs : List Bool). alike && get_or fs rank false) c.deref.ensures.value)
    (λ rank out. c.put_flags.ensures.elsewhere rank out ∙ ap (λ (fs : List Bool). get_or fs rank false) value)
    c.loop-departure.invariant.1 in
    subst (λ (fs : List Bool). (length fs ≡ length net.duties) × AreSameTo old net (k + 1) fs) (sym whole) (long, next)

pub returns-clause-flags : goal.returns-clause-flags
returns-clause-flags c =
    let net = c.args.new.now in
    let all = c.loop-departure-test.false in
    let events = ap length c.departures-departure-end.ensures.events in
    same-all net c.departures-departure-end.ensures.exact c.loop-departure.departure (omega (arith, all, events)) c.args.old.now c.loop-departure.same.items c.loop-departure.invariant.1
