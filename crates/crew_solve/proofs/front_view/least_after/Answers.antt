use Rattle.std.proofs.Common.{◌≡◌, ◌∙◌, List, subst, sym, ap, ap₂, to_z, of_z, w64, arith, length, slice_get, map}
use Rattle.std.proofs.lemmas.Int.{ints}
use Rattle.std.proofs.lemmas.Iterator.Consumers.{YieldsList-end, YieldsList-turn, YieldsList-from_first}
use Rattle.crew_anchor.specs.Machinery.Bounds.{fits_in, is_ready}
use Rattle.crew_anchor.specs.declared.resource.AnchoredResource.{AnchoredResource}
use Rattle.crew_pairing.specs.Legs.{Leg}
use Rattle.crew_pairing.specs.declared.vector.PairingVector.{PairingVector}
use Rattle.crew_pool.proofs.Listed.{map-itself}
use Rattle.crew_pool.specs.declared.label_walk.LabelWalk.{LabelWalk}
use Rattle.crew_resource.proofs.Members.{Member-get_or}
use Rattle.crew_resource.specs.Machinery.Sum.{LiesWithin}
use Rattle.crew_resource.specs.Machinery.Uses.{HasRoom}
use Rattle.crew_solve.proofs.Lent.{left, taken}
use Rattle.crew_solve.proofs.Pairings.{shown-as}
use Rattle.crew_solve.specs.Machinery.Lent.{after, by_vector, entry_of}
use Rattle.crew_solve.proofs.front_view.least_after.Goals as goal

pub show-vector-requires-clause-room : goal.show-vector-requires-clause-room
show-vector-requires-clause-room c =
    let d = c.args.duty.now in
    let label : PairingVector × LabelWalk = (c.in-Some.value, c.in-Some.label) in
    let road = YieldsList-from_first (λ x. x) (λ s. s) c.args.view.now (c.into_iter-value-iterator.ensures.into_iter_gives ∙ c.iter-value-items.ensures.all) in
    let at = YieldsList-turn road c.loop-value.yielded _ c.loop-value.yielded_by _ _ label c.in-Some.is c.next.ensures.steps in
    let among = Member-get_or c.args.view.now (length c.loop-value.yielded) label at.0 (sym at.1) in
    let within : LiesWithin 2_147_483_648 d.release = record { least = omega (arith, ints); most = omega (arith, ints) } in
    subst (λ (r : AnchoredResource). HasRoom (fits_in r) (is_ready r) label.0) (sym c.resource.ensures) (c.requires.room within label among)

pub new-requires-clause-there : goal.new-requires-clause-there
new-requires-clause-there c =
    let label : PairingVector × LabelWalk = (c.in-Some.value, c.in-Some.label) in
    let road = YieldsList-from_first (λ x. x) (λ s. s) c.args.view.now (c.into_iter-value-iterator.ensures.into_iter_gives ∙ c.iter-value-items.ensures.all) in
    let at = YieldsList-turn road c.loop-value.yielded _ c.loop-value.yielded_by _ _ label c.in-Some.is c.next.ensures.steps in
    (c.requires.walks label (Member-get_or c.args.view.now (length c.loop-value.yielded) label at.0 (sym at.1))).0

pub new-requires-clause-ranked : goal.new-requires-clause-ranked
new-requires-clause-ranked c =
    let label : PairingVector × LabelWalk = (c.in-Some.value, c.in-Some.label) in
    let road = YieldsList-from_first (λ x. x) (λ s. s) c.args.view.now (c.into_iter-value-iterator.ensures.into_iter_gives ∙ c.iter-value-items.ensures.all) in
    let at = YieldsList-turn road c.loop-value.yielded _ c.loop-value.yielded_by _ _ label c.in-Some.is c.next.ensures.steps in
    (c.requires.walks label (Member-get_or c.args.view.now (length c.loop-value.yielded) label at.0 (sym at.1))).1

pub loop-value-preserved-then-is_next : goal.loop-value-preserved-then-is_next
loop-value-preserved-then-is_next c =
    let b = c.args.sweep.now in
    let d = c.args.duty.now in
    let label : PairingVector × LabelWalk = (c.in-Some.value, c.in-Some.label) in
    let minute : to_z w64 (of_z w64 c.from-minute.result) ≡ d.release = omega (arith, ints) in
    let vector = shown-as b c.resource.result.now _ d.release label.0 c.show-vector.result c.show-vector.ensures c.resource.ensures minute in
    let entry = ap₂ {C = PairingVector × List (List Leg)} (λ v w. (v, w)) vector c.new.ensures in
    taken (entry_of b d.release) c.args.last.now c.loop-value.yielded label c.loop-value.least (c.show-vector.result, c.new.result) c.loop-value.invariant entry (sym c.is_next.ensures ∙ c.if-is_next.true)

pub loop-value-preserved : goal.loop-value-preserved
loop-value-preserved c =
    let b = c.args.sweep.now in
    let d = c.args.duty.now in
    let label : PairingVector × LabelWalk = (c.in-Some.value, c.in-Some.label) in
    let minute : to_z w64 (of_z w64 c.from-minute.result) ≡ d.release = omega (arith, ints) in
    let vector = shown-as b c.resource.result.now _ d.release label.0 c.show-vector.result c.show-vector.ensures c.resource.ensures minute in
    left (entry_of b d.release) c.args.last.now c.loop-value.yielded label c.loop-value.least c.show-vector.result c.loop-value.invariant vector (sym c.is_next.ensures ∙ c.if-is_next.false)

pub returns : goal.returns
returns c =
    let road = YieldsList-from_first (λ x. x) (λ s. s) c.args.view.now (c.into_iter-value-iterator.ensures.into_iter_gives ∙ c.iter-value-items.ensures.all) in
    let end = YieldsList-end road c.loop-value.yielded _ c.loop-value.yielded_by _ _ c.in-None.is c.next.ensures.steps in
    let all = sym (map-itself c.loop-value.yielded) ∙ end.0 in
    c.loop-value.invariant ∙ ap (λ (ls : List (PairingVector × LabelWalk)). slice_get (after c.args.last.now (by_vector (map (entry_of c.args.sweep.now c.args.duty.now.release) ls))) 0) all
