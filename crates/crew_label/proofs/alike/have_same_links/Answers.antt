use Rattle.std.proofs.Common.{◌≡◌, ℕ, length, map, take, refl, sym, ◌∙◌, subst, arith}
use Rattle.std.proofs.lemmas.Bool.{false≢true}
use Rattle.std.proofs.lemmas.List.{length_push}
use Rattle.std.proofs.lemmas.Slice.Zip.{zip_end, zip_turn}
use Rattle.crew_label.specs.declared.label.Label.{Label}
use Rattle.crew_label.proofs.SideBySide.{each_alike, next_alike, whole_alike}
use Rattle.crew_label.proofs.alike.have_same_links.Goals as goal

pub returns-then-not-have_same_link : goal.returns-then-not-have_same_link
returns-then-not-have_same_link g c =
    let before = λ (l : Label g.row.V.Denot). l.before in
    let labels = c.args.labels.now in
    let others = c.args.others.now in
    let x = c.in-Some.label in
    let y = c.in-Some.other in
    let at = zip_turn labels others c.loop-label.yielded c.into_iter-label-iterator.result c.loop-label.label-iterator c.next.new.self c.next.result (cc) (cc) c.loop-label.yielded_by (x, y) c.in-Some.is c.next.ensures.steps in (
      λ t. absurd (false≢true t),
      λ h. sym c.if-not-have_same_link.true ∙ c.have_same_link.ensures.1 (each_alike before before labels others (length c.loop-label.yielded) x.now y.now at.0 at.1 (at.2 x.now) (at.3 y.now) h),
    )

pub loop-label-preserved : goal.loop-label-preserved
loop-label-preserved g c =
    let before = λ (l : Label g.row.V.Denot). l.before in
    let labels = c.args.labels.now in
    let others = c.args.others.now in
    let x = c.in-Some.label in
    let y = c.in-Some.other in
    let at = zip_turn labels others c.loop-label.yielded c.into_iter-label-iterator.result c.loop-label.label-iterator c.next.new.self c.next.result (cc) (cc) c.loop-label.yielded_by (x, y) c.in-Some.is c.next.ensures.steps in
    subst (λ (n : ℕ). map before (take n labels) ≡ map before (take n others)) (sym (length_push c.loop-label.yielded (x, y)))
    (next_alike before before labels others (length c.loop-label.yielded) x.now y.now at.0 at.1 (at.2 x.now) (at.3 y.now) c.loop-label.invariant (c.have_same_link.ensures.0 c.if-not-have_same_link.false))

pub returns : goal.returns
returns g c =
    let before = λ (l : Label g.row.V.Denot). l.before in
    let labels = c.args.labels.now in
    let others = c.args.others.now in
    let long = zip_end labels others c.loop-label.yielded c.into_iter-label-iterator.result c.loop-label.label-iterator c.next.new.self c.next.result (cc) (cc) c.loop-label.yielded_by c.in-None.is c.next.ensures.steps in (
      λ _. whole_alike before before labels others (length c.loop-label.yielded) (omega arith) (omega arith) c.loop-label.invariant,
      λ _. refl,
    )
