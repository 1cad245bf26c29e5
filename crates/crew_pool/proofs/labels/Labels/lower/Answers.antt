use Rattle.std.proofs.Common.{◌≡◌, ◌<◌, length, true, false, Some, ap, sym, ◌∙◌, arith}
use Rattle.std.specs.Cmp.Lexicographic.{slice_cmp}
use Rattle.std.specs.Ordering.{is_lt, nat_cmp}
use Rattle.std.specs.Prelude.{slice_get, slice_set}
use Rattle.std.proofs.Math.Seq.{map-set_same}
use Rattle.std.proofs.lemmas.Bool.{cond-true, cond-false}
use Rattle.std.proofs.lemmas.Option.{slice_get-get_or}
use Rattle.crew_pool.specs.LabelWalks.{lesser_label_walk, walk_of_label}
use Rattle.crew_pool.specs.declared.label_walk.LabelWalk.{LabelWalk}
use Rattle.crew_pool.proofs.MergeLemmas.{same_label, some_is}
use Rattle.crew_pool.proofs.labels.Labels.lower.Goals as goal
use Rattle.crew_pool.proofs.labels.Labels.lower.Goals.{then-is_lt, else-is_lt}

pub compare_label_walks-requires : goal.compare_label_walks-requires
compare_label_walks-requires g c =
    let item = c.index_mut-label.result.now in
    let ls = c.self.inside.labels.items in
    let same : ls ≡ c.args.self.now = c.self.view_is in
    let within : c.args.place < length ls = omega (arith, c.requires.place, ap length same) in
    c.requires.alike item.0 item.1 (ap (λ z. slice_get z c.args.place) (sym same) ∙ (slice_get-get_or ls c.args.place item within ∙ ap Some (sym c.index_mut-label.ensures.value)))

pub invariant_of-self : goal.invariant_of-self
invariant_of-self g c =
    let f = λ (e : g.row.R-Value.Denot × LabelWalk). g.R.Marked.marks_of e.0 in
    let item = c.index_mut-label.result.now in
    let ls = c.self.inside.labels.items in
    elim c.if-is_lt.branch [
      | then-is_lt w ↦ rw w.self-inside-is (c.self.invariant ∙ sym (map-set_same f ls c.args.place (item.0, c.args.walk) item (ap f c.index_mut-label.ensures.value)))
      | else-is_lt w ↦ rw w.self-inside-is (c.self.invariant ∙ sym (map-set_same f ls c.args.place item item (ap f c.index_mut-label.ensures.value)))
    ]

pub returns-clause-lowered : goal.returns-clause-lowered
returns-clause-lowered g c v was e =
    let item = c.index_mut-label.result.now in
    let ws = c.args.walks.now in
    let walk = c.args.walk in
    let place = c.args.place in
    let ls = c.self.inside.labels.items in
    let same : ls ≡ c.args.self.now = c.self.view_is in
    let within : place < length ls = omega (arith, c.requires.place, ap length same) in
    let here : slice_get ls place ≡ Some item = slice_get-get_or ls place item within ∙ ap Some (sym c.index_mut-label.ensures.value) in
    let there : slice_get ls place ≡ Some (v, was) = ap (λ z. slice_get z place) same ∙ e in
    let read = same_label ws walk item (v, was) (some_is item (v, was) (slice_get ls place) here there) in
    elim c.if-is_lt.branch [
      | then-is_lt w ↦ rw w.self-inside-is (
          let t : is_lt (slice_cmp nat_cmp (walk_of_label ws walk) (walk_of_label ws item.1)) ≡ true = ap is_lt (sym c.compare_label_walks.ensures) ∙ (sym c.is_lt.ensures ∙ w.if-is_lt.true) in
          let is : lesser_label_walk ws item.1 walk ≡ walk = cond-true (is_lt (slice_cmp nat_cmp (walk_of_label ws walk) (walk_of_label ws item.1))) walk item.1 t in
          ap (λ z. slice_set z place (item.0, walk)) same ∙ ap (slice_set c.args.self.now place) (ap (λ x. (item.0, x)) (sym is) ∙ read))
      | else-is_lt w ↦ rw w.self-inside-is (
          let t : is_lt (slice_cmp nat_cmp (walk_of_label ws walk) (walk_of_label ws item.1)) ≡ false = ap is_lt (sym c.compare_label_walks.ensures) ∙ (sym c.is_lt.ensures ∙ w.if-is_lt.false) in
          let is : lesser_label_walk ws item.1 walk ≡ item.1 = cond-false (is_lt (slice_cmp nat_cmp (walk_of_label ws walk) (walk_of_label ws item.1))) walk item.1 t in
          ap (λ z. slice_set z place item) same ∙ ap (slice_set c.args.self.now place) (ap (λ x. (item.0, x)) (sym is) ∙ read))
    ]
