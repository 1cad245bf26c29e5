use Rattle.std.proofs.Common.{◌≡◌, ℕ, length, map, take, refl, sym, ◌∙◌, subst, arith}
use Rattle.std.proofs.lemmas.Bool.{false≢true}
use Rattle.std.proofs.lemmas.List.{length_push}
use Rattle.std.proofs.lemmas.Slice.Zip.{zip_end, zip_turn}
use Rattle.crew_resource.proofs.Members.{Member-get_or}
use Rattle.crew_label.proofs.SideBySide.{each_alike, next_alike, whole_alike}
use Rattle.crew_label.proofs.TwinLabels.{alike_one, as_entries, as_labels, one_alike, told_of, twins_of}
use Rattle.crew_label.proofs.alike.are_alike.Goals as goal

pub are_twin_labels-requires-clause-here : goal.are_twin_labels-requires-clause-here
are_twin_labels-requires-clause-here g c =
    let labels = c.args.pool.now in
    let x = c.in-Some.label in
    let y = c.in-Some.twin in
    let at = zip_turn labels c.args.other.now c.loop-label.yielded c.into_iter-label-iterator.result c.loop-label.label-iterator c.next.new.self c.next.result (cc) (cc) c.loop-label.yielded_by (x, y) c.in-Some.is c.next.ensures.steps in
    c.requires.here x.now (Member-get_or labels (length c.loop-label.yielded) x.now at.0 (sym (at.2 x.now)))

pub are_twin_labels-requires-clause-there : goal.are_twin_labels-requires-clause-there
are_twin_labels-requires-clause-there g c =
    let others = c.args.other.now in
    let x = c.in-Some.label in
    let y = c.in-Some.twin in
    let at = zip_turn c.args.pool.now others c.loop-label.yielded c.into_iter-label-iterator.result c.loop-label.label-iterator c.next.new.self c.next.result (cc) (cc) c.loop-label.yielded_by (x, y) c.in-Some.is c.next.ensures.steps in
    c.requires.there y.now (Member-get_or others (length c.loop-label.yielded) y.now at.1 (sym (at.3 y.now)))

pub returns-then-not-are_twin_labels : goal.returns-then-not-are_twin_labels
returns-then-not-are_twin_labels g c =
    let twins = c.args.twins.now in
    let here = g.T.Trails.trail c.args.here.now in
    let there = g.U.Trails.trail c.args.there.now in
    let labels = c.args.pool.now in
    let others = c.args.other.now in
    let x = c.in-Some.label in
    let y = c.in-Some.twin in
    let at = zip_turn labels others c.loop-label.yielded c.into_iter-label-iterator.result c.loop-label.label-iterator c.next.new.self c.next.result (cc) (cc) c.loop-label.yielded_by (x, y) c.in-Some.is c.next.ensures.steps in (
      λ t. absurd (false≢true t),
      λ h.
          sym c.if-not-are_twin_labels.true
          ∙ c.are_twin_labels.ensures.1
          (alike_one twins here there x.now y.now
          (each_alike (twins_of twins here) (told_of there) labels others (length c.loop-label.yielded) x.now y.now at.0 at.1 (at.2 x.now) (at.3 y.now) (as_labels twins here there labels others h))),
    )

pub loop-label-preserved : goal.loop-label-preserved
loop-label-preserved g c =
    let twins = c.args.twins.now in
    let here = g.T.Trails.trail c.args.here.now in
    let there = g.U.Trails.trail c.args.there.now in
    let labels = c.args.pool.now in
    let others = c.args.other.now in
    let x = c.in-Some.label in
    let y = c.in-Some.twin in
    let at = zip_turn labels others c.loop-label.yielded c.into_iter-label-iterator.result c.loop-label.label-iterator c.next.new.self c.next.result (cc) (cc) c.loop-label.yielded_by (x, y) c.in-Some.is c.next.ensures.steps in
    subst (λ (n : ℕ). map (twins_of twins here) (take n labels) ≡ map (told_of there) (take n others)) (sym (length_push c.loop-label.yielded (x, y)))
    (next_alike (twins_of twins here) (told_of there) labels others (length c.loop-label.yielded) x.now y.now at.0 at.1 (at.2 x.now) (at.3 y.now) c.loop-label.invariant
    (one_alike twins here there x.now y.now (c.are_twin_labels.ensures.0 c.if-not-are_twin_labels.false)))

pub returns : goal.returns
returns g c =
    let twins = c.args.twins.now in
    let here = g.T.Trails.trail c.args.here.now in
    let there = g.U.Trails.trail c.args.there.now in
    let labels = c.args.pool.now in
    let others = c.args.other.now in
    let long = zip_end labels others c.loop-label.yielded c.into_iter-label-iterator.result c.loop-label.label-iterator c.next.new.self c.next.result (cc) (cc) c.loop-label.yielded_by c.in-None.is c.next.ensures.steps in (
      λ _. as_entries twins here there labels others (whole_alike (twins_of twins here) (told_of there) labels others (length c.loop-label.yielded) (omega arith) (omega arith) c.loop-label.invariant),
      λ _. refl,
    )
