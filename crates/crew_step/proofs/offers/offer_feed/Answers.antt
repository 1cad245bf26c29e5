use Rattle.std.proofs.Common.{◌++◌, ◌∙◌, List, ap, arith, subst, sym, take}
use Rattle.std.specs.List.{flat_map}
use Rattle.std.proofs.lemmas.List.{take_all}
use Rattle.crew_pairing.specs.Legs.{Leg}
use Rattle.crew_pairing.specs.Local.{IsLocalOf}
use Rattle.crew_pairing.specs.declared.vector.PairingVector.{PairingVector}
use Rattle.crew_resource.specs.Members.{Member}
use Rattle.crew_resource.proofs.Members.{Member-map_in}
use Rattle.crew_vector.specs.Dominance.{is_at_most}
use Rattle.crew_step.specs.Machinery.Candidates.{extension}
use Rattle.crew_step.proofs.Fed.{by_step, fed, fed-extensions, fed-whole}
use Rattle.crew_step.proofs.Loops.{append-none, flat-more, item-at, item-known}
use Rattle.crew_step.proofs.offers.offer_feed.Goals as goal

abbrev Entries : Type 0
Entries = List (PairingVector × List (List Leg))

pub loop-before-init : goal.loop-before-init
loop-before-init c = λ candidates local. subst (λ (es : Entries). IsLocalOf is_at_most es c.args.front.now) (sym (append-none candidates)) local

pub offer_extensions-requires-clause-follows : goal.offer_extensions-requires-clause-follows
offer_extensions-requires-clause-follows c =
    let p = c.before-item.result in
    c.requires.follows (fed p) (Member-map_in fed c.args.feed.now p (item-known c.args.feed.now c.loop-before.before-index p c.loop-before-test.true c.before-item.is))

pub offer_extensions-requires-clause-room : goal.offer_extensions-requires-clause-room
offer_extensions-requires-clause-room c =
    let p = c.before-item.result in
    let same = c.as_slice-entries.ensures.all ∙ c.deref.ensures in
    λ e m. c.requires.room (fed p) (Member-map_in fed c.args.feed.now p (item-known c.args.feed.now c.loop-before.before-index p c.loop-before-test.true c.before-item.is)) e (subst (λ (es : Entries). Member es e) same m)

pub loop-before-preserved : goal.loop-before-preserved
loop-before-preserved c = λ candidates local.
    let feed = c.args.feed.now in
    let i = c.loop-before.before-index in
    let p = c.before-item.result in
    let r = c.args.resource.now in
    let next = c.args.next.now in
    subst (λ (es : Entries). IsLocalOf is_at_most es c.offer_extensions.new.front)
    (flat-more (fed-extensions r next) candidates feed i p (item-at feed i p c.loop-before-test.true c.before-item.is))
    (subst (λ (es : Entries). IsLocalOf is_at_most ((candidates ++ flat_map (fed-extensions r next) (take i feed)) ++ flat_map (extension (by_step r) p.duty next) es) c.offer_extensions.new.front)
    (c.as_slice-entries.ensures.all ∙ c.deref.ensures)
    (c.in_ok-offer_extensions.ensures (candidates ++ flat_map (fed-extensions r next) (take i feed)) (c.loop-before.invariant candidates local)))

pub returns : goal.returns
returns c = λ candidates local.
    let feed = c.args.feed.now in
    let r = c.args.resource.now in
    let next = c.args.next.now in
    let all = take_all c.loop-before.before-index feed (omega arith) in
    subst (λ (es : Entries). IsLocalOf is_at_most (candidates ++ es) c.loop-before.front)
    (ap (flat_map (fed-extensions r next)) all ∙ sym (fed-whole r next feed))
    (c.loop-before.invariant candidates local)
