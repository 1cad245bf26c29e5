use Rattle.std.proofs.Common.{◌≡◌, ◌∙◌, ◌<◌, ◌++◌, ◌∷◌, List, ap, refl, sym, subst, to_z, of_z, w64, arith, length, get_or, map, []}
use Rattle.std.proofs.lemmas.List.{map-append}
use Rattle.std.specs.Prelude.{◌≤ℤ◌}
use Rattle.std.proofs.lemmas.Int.{ints}
use Rattle.std.proofs.lemmas.Iterator.Consumers.{YieldsList-end, YieldsList-turn, YieldsList-from_first}
use Rattle.crew_anchor.specs.Stages.{anchored_board}
use Rattle.crew_anchor.specs.declared.resource.AnchoredResource.{AnchoredResource}
use Rattle.crew_pairing.specs.declared.vector.PairingVector.{PairingVector}
use Rattle.crew_pool.specs.Counted.{AreWhole, boarded_labels}
use Rattle.crew_resource.specs.Machinery.Sum.{LiesWithin}
use Rattle.crew_net.proofs.Numbers.{get-member, get-within}
use Rattle.crew_pool.specs.declared.label_walk.LabelWalk.{LabelWalk}
use Rattle.crew_resource.proofs.Members.{Member-get_or}
use Rattle.crew_resource.specs.Members.{Member}
use Rattle.crew_solve.specs.Machinery.Floors.{AreMarks, CostFrom}
use Rattle.crew_solve.specs.Machinery.Homes.{IsShowable, ended_by, pairing_at, resource_of}
use Rattle.crew_solve.specs.Machinery.Keeps.{CheapestSoFar, keep, keep_all}
use Rattle.crew_solve.proofs.Boarded.{are-whole, boarded-kept, boarded-pairings, boarded-shown, can-board}
use Rattle.crew_pool.proofs.Listed.{map-itself}
use Rattle.crew_solve.proofs.Flooring.{from-below, from-none}
use Rattle.crew_solve.proofs.Keeping.{keep-one-more, still-beside}
use Rattle.crew_solve.proofs.best.keep_of_labels.Goals as goal

pub new-view-requires-clause-can : goal.new-view-requires-clause-can
new-view-requires-clause-can c = can-board _ _ _ c.pool.result.now c.args.duty.now c.pool.ensures.kept c.requires.sound

pub new-view-requires-clause-duty : goal.new-view-requires-clause-duty
new-view-requires-clause-duty c = let h = get-within c.args.sweep.now.net.duties c.args.rank c.args.duty.now c.requires.duty in omega (arith, h, c.requires.fit.few)

pub keep_of_label-requires-clause-showable : goal.keep_of_label-requires-clause-showable
keep_of_label-requires-clause-showable c =
    let b = c.args.sweep.now in
    let d = c.args.duty.now in
    let label = c.in-Some.label in
    let all : c.new-view.result ≡ boarded_labels (λ v. anchored_board (resource_of b) v d) c.args.rank (get_or b.pools c.args.index []) =
    c.new-view.ensures.labels ∙ (ap (λ (r : AnchoredResource). boarded_labels (λ v. anchored_board r v d) c.args.rank c.pool.result.now) c.resource.ensures ∙ ap (boarded_labels (λ v. anchored_board (resource_of b) v d) c.args.rank) c.pool.ensures.same) in
    let road = YieldsList-from_first (λ x. x) (λ s. s) c.new-view.result (c.into_iter-label-iterator.ensures.into_iter_gives ∙ c.iter-label-items.ensures.all) in
    let at = YieldsList-turn road c.loop-label.yielded _ c.loop-label.yielded_by _ _ label c.in-Some.is c.next.ensures.steps in
    let in-view = Member-get_or c.new-view.result (length c.loop-label.yielded) label at.0 (sym at.1) in
    let boards = subst (λ (ls : List (PairingVector × LabelWalk)). Member ls label) all in-view in
    let low = get-within b.net.duties c.args.rank d c.requires.duty in
    let least : c.args.rank < 4294967295 = omega (arith, low, c.requires.fit.few) in
    let whole = subst AreWhole c.pool.ensures.same (are-whole _ _ _ c.pool.result.now c.pool.ensures.kept) in
    let shown = boarded-shown b c.args.index c.args.rank d whole least c.requires.duty label boards in
    let minute : to_z w64 (of_z w64 c.args.minute) ≡ d.release = omega (arith, ints, c.requires.minute) in
    let within = subst (LiesWithin 2_147_483_648) c.requires.minute c.requires.within in
    subst (λ z. IsShowable b z label.0) (sym minute) (c.requires.fit.shows c.args.index d (get-member b.net.duties c.args.rank d c.requires.duty) c.requires.own within label.0 _ shown)

pub keep_of_label-requires-clause-there : goal.keep_of_label-requires-clause-there
keep_of_label-requires-clause-there c =
    let b = c.args.sweep.now in
    let d = c.args.duty.now in
    let label = c.in-Some.label in
    let all : c.new-view.result ≡ boarded_labels (λ v. anchored_board (resource_of b) v d) c.args.rank c.pool.result.now =
    c.new-view.ensures.labels ∙ ap (λ (r : AnchoredResource). boarded_labels (λ v. anchored_board r v d) c.args.rank c.pool.result.now) c.resource.ensures in
    let road = YieldsList-from_first (λ x. x) (λ s. s) c.new-view.result (c.into_iter-label-iterator.ensures.into_iter_gives ∙ c.iter-label-items.ensures.all) in
    let at = YieldsList-turn road c.loop-label.yielded _ c.loop-label.yielded_by _ _ label c.in-Some.is c.next.ensures.steps in
    let in-view = Member-get_or c.new-view.result (length c.loop-label.yielded) label at.0 (sym at.1) in
    let low = get-within b.net.duties c.args.rank d c.requires.duty in
    let least : c.args.rank < 4294967295 = omega (arith, low, c.requires.fit.few) in
    (boarded-kept (resource_of b) _ c.args.rank _ c.pool.result.now d c.pool.ensures.kept low least label (subst (λ (ls : List (PairingVector × LabelWalk)). Member ls label) all in-view)).0

pub keep_of_label-requires-clause-ranked : goal.keep_of_label-requires-clause-ranked
keep_of_label-requires-clause-ranked c =
    let b = c.args.sweep.now in
    let d = c.args.duty.now in
    let label = c.in-Some.label in
    let all : c.new-view.result ≡ boarded_labels (λ v. anchored_board (resource_of b) v d) c.args.rank c.pool.result.now =
    c.new-view.ensures.labels ∙ ap (λ (r : AnchoredResource). boarded_labels (λ v. anchored_board r v d) c.args.rank c.pool.result.now) c.resource.ensures in
    let road = YieldsList-from_first (λ x. x) (λ s. s) c.new-view.result (c.into_iter-label-iterator.ensures.into_iter_gives ∙ c.iter-label-items.ensures.all) in
    let at = YieldsList-turn road c.loop-label.yielded _ c.loop-label.yielded_by _ _ label c.in-Some.is c.next.ensures.steps in
    let in-view = Member-get_or c.new-view.result (length c.loop-label.yielded) label at.0 (sym at.1) in
    let low = get-within b.net.duties c.args.rank d c.requires.duty in
    let least : c.args.rank < 4294967295 = omega (arith, low, c.requires.fit.few) in
    (boarded-kept (resource_of b) _ c.args.rank _ c.pool.result.now d c.pool.ensures.kept low least label (subst (λ (ls : List (PairingVector × LabelWalk)). Member ls label) all in-view)).1

pub keep_of_label-requires-clause-marks : goal.keep_of_label-requires-clause-marks
keep_of_label-requires-clause-marks c =
    let b = c.args.sweep.now in
    let first = c.args.kept.now in
    let same : c.loop-label.kept.beside ≡ first.beside = ap (λ (k : CheapestSoFar). k.beside) c.loop-label.invariant.kept ∙ still-beside first (map (pairing_at b c.args.duty.now.release) c.loop-label.yielded) in
    subst (λ o. AreMarks o b c.args.marks.now) (sym same) c.requires.marks

pub loop-label-init : goal.loop-label-init
loop-label-init c = record {
  kept = refl;
  floor = from-none c.args.kept.now.beside _;
}

pub loop-label-preserved : goal.loop-label-preserved
loop-label-preserved c =
    let b = c.args.sweep.now in
    let d = c.args.duty.now in
    let label = c.in-Some.label in
    let first = c.args.kept.now in
    let f = pairing_at b d.release in
    let ys = c.loop-label.yielded in
    let minute : to_z w64 (of_z w64 c.args.minute) ≡ d.release = omega (arith, ints, c.requires.minute) in
    let more : map f (ys ++ label ∷ []) ≡ map f ys ++ f label ∷ [] = map-append f ys (label ∷ []) in
    let next = to_z w64 (of_z w64 c.in_ok-floor.floor) in
    let whole : next ≡ c.in_ok-floor.floor = omega (arith, ints) in
    let low = to_z w64 c.loop-label.floor-bits in
    let less : next ≤ℤ low = omega (arith, ints, c.in_ok-floor.ensures.less) in
    let cost = subst (λ z. CostFrom c.loop-label.kept.beside z (f label ∷ [])) (sym whole) (subst (λ z. CostFrom c.loop-label.kept.beside c.in_ok-floor.floor (pairing_at b z label ∷ [])) minute c.in_ok-floor.ensures.floor) in
    record {
      kept = c.in_ok-floor.ensures.kept
          ∙ (ap (λ z. keep c.loop-label.kept (pairing_at b z label)) minute
          ∙ (ap (λ (k : CheapestSoFar). keep k (f label)) c.loop-label.invariant.kept ∙ sym (keep-one-more first f ys label)));
      floor = subst (CostFrom first.beside _) (sym more) (from-below first c.loop-label.kept (map f ys) (f label ∷ []) low next c.loop-label.invariant.kept c.loop-label.invariant.floor less cost);
    }

pub returns-clause-kept : goal.returns-clause-kept
returns-clause-kept c =
    let b = c.args.sweep.now in
    let d = c.args.duty.now in
    let all : c.new-view.result ≡ boarded_labels (λ v. anchored_board (resource_of b) v d) c.args.rank (get_or b.pools c.args.index []) =
    c.new-view.ensures.labels ∙ (ap (λ (r : AnchoredResource). boarded_labels (λ v. anchored_board r v d) c.args.rank c.pool.result.now) c.resource.ensures ∙ ap (boarded_labels (λ v. anchored_board (resource_of b) v d) c.args.rank) c.pool.ensures.same) in
    let road = YieldsList-from_first (λ x. x) (λ s. s) c.new-view.result (c.into_iter-label-iterator.ensures.into_iter_gives ∙ c.iter-label-items.ensures.all) in
    let end = YieldsList-end road c.loop-label.yielded _ c.loop-label.yielded_by _ _ c.in-None.is c.next.ensures.steps in
    let yielded = sym (map-itself c.loop-label.yielded) ∙ end.0 in
    let low = get-within b.net.duties c.args.rank d c.requires.duty in
    let least : c.args.rank < 4294967295 = omega (arith, low, c.requires.fit.few) in
    let whole = subst AreWhole c.pool.ensures.same (are-whole _ _ _ c.pool.result.now c.pool.ensures.kept) in
    c.loop-label.invariant.kept ∙ (ap (λ ls. keep_all c.args.kept.now (map (pairing_at b d.release) ls)) (yielded ∙ all) ∙ ap (keep_all c.args.kept.now) (boarded-pairings b c.args.index c.args.rank d whole least c.requires.duty))

pub returns-clause-floor : goal.returns-clause-floor
returns-clause-floor c =
    let b = c.args.sweep.now in
    let d = c.args.duty.now in
    let all : c.new-view.result ≡ boarded_labels (λ v. anchored_board (resource_of b) v d) c.args.rank (get_or b.pools c.args.index []) =
    c.new-view.ensures.labels ∙ (ap (λ (r : AnchoredResource). boarded_labels (λ v. anchored_board r v d) c.args.rank c.pool.result.now) c.resource.ensures ∙ ap (boarded_labels (λ v. anchored_board (resource_of b) v d) c.args.rank) c.pool.ensures.same) in
    let road = YieldsList-from_first (λ x. x) (λ s. s) c.new-view.result (c.into_iter-label-iterator.ensures.into_iter_gives ∙ c.iter-label-items.ensures.all) in
    let end = YieldsList-end road c.loop-label.yielded _ c.loop-label.yielded_by _ _ c.in-None.is c.next.ensures.steps in
    let yielded = sym (map-itself c.loop-label.yielded) ∙ end.0 in
    let low = get-within b.net.duties c.args.rank d c.requires.duty in
    let least : c.args.rank < 4294967295 = omega (arith, low, c.requires.fit.few) in
    let whole = subst AreWhole c.pool.ensures.same (are-whole _ _ _ c.pool.result.now c.pool.ensures.kept) in
    let same : map (pairing_at b d.release) c.loop-label.yielded ≡ ended_by b c.args.index d = ap (map (pairing_at b d.release)) (yielded ∙ all) ∙ boarded-pairings b c.args.index c.args.rank d whole least c.requires.duty in
    subst (CostFrom c.args.kept.now.beside _) same c.loop-label.invariant.floor
