use Rattle.std.proofs.Common.{List, arith, subst, sym, take, ◌++◌}
use Rattle.std.specs.List.{flat_map}
use Rattle.std.proofs.lemmas.List.{take_all}
use Rattle.crew_pairing.specs.Legs.{Leg}
use Rattle.crew_pairing.specs.Local.{IsLocalOf}
use Rattle.crew_step.specs.Machinery.Candidates.{extension}
use Rattle.crew_step.proofs.Loops.{append-none, flat-more, item-at, item-known}
use Rattle.crew_step.proofs.offers.offer_extensions.Goals as goal

pub offer_extension-requires-clause-room : goal.offer_extension-requires-clause-room
offer_extension-requires-clause-room g c =
    c.requires.room c.entry-item.result (item-known c.args.entries.now c.loop-entry.entry-index c.entry-item.result c.loop-entry-test.true c.entry-item.is)

pub loop-entry-preserved : goal.loop-entry-preserved
loop-entry-preserved g c = λ candidates local.
    let Entry = g.row.R-Value.Denot × List (List Leg) in
    let entries = c.args.entries.now in
    let i = c.loop-entry.entry-index in
    let x = c.entry-item.result in
    let f : Entry → List Entry = extension (g.R.Resource.extends c.args.resource.now) c.args.last.now c.args.next.now in
    subst (λ (es : List Entry). IsLocalOf g.R.Resource.below es c.offer_extension.new.front)
    (flat-more f candidates entries i x (item-at entries i x c.loop-entry-test.true c.entry-item.is))
    (c.in_ok-offer_extension.ensures (candidates ++ flat_map f (take i entries)) (c.loop-entry.invariant candidates local))

pub loop-entry-init : goal.loop-entry-init
loop-entry-init g c = λ candidates local. subst (λ (es : List (g.row.R-Value.Denot × List (List Leg))). IsLocalOf g.R.Resource.below es c.args.front.now) (sym (append-none candidates)) local

pub returns : goal.returns
returns g c = λ candidates local.
    let Entry = g.row.R-Value.Denot × List (List Leg) in
    let entries = c.args.entries.now in
    let f : Entry → List Entry = extension (g.R.Resource.extends c.args.resource.now) c.args.last.now c.args.next.now in
    let all = take_all c.loop-entry.entry-index entries (omega arith) in
    subst (λ (es : List Entry). IsLocalOf g.R.Resource.below (candidates ++ flat_map f es) c.loop-entry.front) all (c.loop-entry.invariant candidates local)
