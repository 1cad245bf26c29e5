use Rattle.std.proofs.Common.{◌≡◌, ◌∙◌, ◌<◌, ◌+◌, List, Some, arith, false, length, refl, subst, sym, ⊎_elim}
use Rattle.std.proofs.lemmas.Result.{IfOk-weaker}
use Rattle.crew_net.proofs.Slices.{item-in}
use Rattle.crew_pairing.specs.declared.vector.PairingVector.{PairingVector}
use Rattle.crew_pool.specs.Counted.{AreCounted, IsCounted}
use Rattle.crew_pool.specs.declared.label_walk.LabelWalk.{LabelWalk}
use Rattle.crew_pool.proofs.BoardLemmas.{counted_alike}
use Rattle.crew_resource.proofs.Members.{Member-get_or}
use Rattle.crew_sweep.specs.Machinery.Mending.{IsChangedPart}
use Rattle.crew_sweep.proofs.Gathering.{changed-join, changed-none, changed-skip}
use Rattle.crew_sweep.proofs.mending.gathered.Goals.{then-not-is_unchanged+in_ok-merge, else-not-is_unchanged}
use Rattle.crew_sweep.proofs.mending.gathered.Goals as goal

abbrev Labels : Type 0
Labels = List (PairingVector × LabelWalk)

pub loop-place-init : goal.loop-place-init
loop-place-init c = subst (IsChangedPart c.args.twins.now c.args.changed.now c.args.walks.now c.args.held.now c.args.window.from c.args.window.from) (sym c.begin-growing.ensures) (changed-none c.args.twins.now c.args.changed.now c.args.walks.now c.args.held.now c.args.window.from)

pub merge-requires-clause-between : goal.merge-requires-clause-between
merge-requires-clause-between c a b m n e =
    let held = c.args.held.now in
    let within : c.loop-place.place < length held = omega (arith, c.loop-place-test.true, c.requires.within) in
    let known = Member-get_or held c.loop-place.place c.index-held-place.result within (sym c.index-held-place.is) in
    let count = λ (v : PairingVector). v.duties in
    let counts = subst (λ (ls : Labels). AreCounted count c.args.walks.now false ls) (sym c.as_slice.ensures.all) (c.requires.held.pending c.index-held-place.result known) in
    counted_alike count c.args.walks.now false a b (c.loop-place.invariant.counts a m) (counts b n) e

pub merge-requires-clause-within : goal.merge-requires-clause-within
merge-requires-clause-within c a b m n e =
    let held = c.args.held.now in
    let within : c.loop-place.place < length held = omega (arith, c.loop-place-test.true, c.requires.within) in
    let known = Member-get_or held c.loop-place.place c.index-held-place.result within (sym c.index-held-place.is) in
    let count = λ (v : PairingVector). v.duties in
    let counts = subst (λ (ls : Labels). AreCounted count c.args.walks.now false ls) (sym c.as_slice.ensures.all) (c.requires.held.pending c.index-held-place.result known) in
    counted_alike count c.args.walks.now false a b (counts a m) (counts b n) e

pub loop-place-preserved : goal.loop-place-preserved
loop-place-preserved c =
    let t = c.args.twins.now in
    let changed = c.args.changed.now in
    let held = c.args.held.now in
    let walks = c.args.walks.now in
    let from = c.args.window.from in
    let place = c.loop-place.place in
    let part = c.loop-place.invariant in
    let Goal = IsChangedPart t changed walks held from (place + 1) in
    elim c.if-not-is_unchanged.branch [
      | then-not-is_unchanged+in_ok-merge w ↦
          let within : place < length held = omega (arith, c.loop-place-test.true, c.requires.within) in
          let at = item-in held held place w.index-held-place.result within refl w.index-held-place.is in
          let labels = w.as_slice.result.now in
          let here = at ∙ (λ j. Some ((sym w.as_slice.ensures.all) j)) in
          let own = subst (λ (ls : Labels). AreCounted (λ (v : PairingVector). v.duties) walks false ls) (sym w.as_slice.ensures.all) (c.requires.held.pending w.index-held-place.result (Member-get_or held place w.index-held-place.result within (sym w.index-held-place.is))) in
          let counted = IsCounted (λ (v : PairingVector). v.duties) walks false in
          let first = c.loop-place.auto.place in
          subst Goal (sym w.growing-is) (changed-join t changed walks held c.requires.held from place (omega (arith, first)) labels here (sym c.is_unchanged.ensures ∙ w.if-not-is_unchanged.true)
          c.loop-place.growing w.merge.new.self part w.in_ok-merge.ensures.local (λ l m. ⊎_elim {C = counted l} (part.counts l) (own l) (w.merge.ensures.from l m)))
      | else-not-is_unchanged w ↦ subst Goal (sym w.growing-is) (changed-skip t changed walks held from place c.loop-place.growing (sym c.is_unchanged.ensures ∙ w.if-not-is_unchanged.false) part)
    ]

pub returns : goal.returns
returns c =
    let test = c.loop-place-test.false in
    let auto = c.loop-place.auto.place in
    let ordered = c.requires.ordered in
    let end : c.loop-place.place ≡ c.args.window.end = omega (arith, test, auto, ordered) in
    let Goal = IsChangedPart c.args.twins.now c.args.changed.now c.args.walks.now c.args.held.now c.args.window.from in
    IfOk-weaker c.copy_out.result _ _ (λ pool same. subst (λ n. Goal n pool) end (subst (Goal c.loop-place.place) (sym same) c.loop-place.invariant)) c.copy_out.ensures
