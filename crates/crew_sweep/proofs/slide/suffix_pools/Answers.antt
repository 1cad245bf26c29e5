use Rattle.std.proofs.Common.{◌≡◌, ◌∙◌, ◌<◌, ◌≤◌, ◌+◌, ◌-◌, ◌++◌, ◌∷◌, List, [], false, length, refl, sym, subst, ap, arith, length-append, ⊎_elim}
use Rattle.crew_net.proofs.Slices.{item-in}
use Rattle.crew_pairing.specs.declared.vector.PairingVector.{PairingVector}
use Rattle.crew_pool.specs.Apart.{AreApart}
use Rattle.crew_pool.specs.Counted.{AreCounted, IsCounted}
use Rattle.crew_pool.specs.Machinery.Meets.{vectors_of}
use Rattle.crew_pool.specs.declared.label_walk.LabelWalk.{LabelWalk}
use Rattle.crew_pool.proofs.BoardLemmas.{counted_alike}
use Rattle.crew_resource.proofs.Members.{Member-get_or}
use Rattle.crew_vector.specs.Dominance.{is_at_most}
use Rattle.crew_sweep.specs.Machinery.Parts.{AreSuffixes, IsPart}
use Rattle.crew_sweep.proofs.Parts.{part-before, part-one, suffixes-more}
use Rattle.crew_sweep.proofs.slide.suffix_pools.Goals as goal

pub merge-requires-clause-apart : goal.merge-requires-clause-apart
merge-requires-clause-apart c =
    subst (λ (ls : List (PairingVector × LabelWalk)). AreApart is_at_most (vectors_of ls)) (sym c.as_slice-in-loop-nearer.ensures.all) c.as_slice-in-loop-nearer.ensures.apart

pub merge-requires-clause-between : goal.merge-requires-clause-between
merge-requires-clause-between c a b m n e =
    let held = c.args.held.now in
    let place = c.args.window.end - 1 - c.loop-nearer.nearer in
    let within : place < length held = omega (arith, c.loop-nearer-test.true, c.requires.within) in
    let known = Member-get_or held place c.index-held-place.result within (sym c.index-held-place.is) in
    let count = λ (v : PairingVector). v.duties in
    let counts = subst (λ (ls : List (PairingVector × LabelWalk)). AreCounted count c.args.walks.now false ls) (sym c.as_slice-in-loop-nearer.ensures.all) (c.requires.held.pending c.index-held-place.result known) in
    counted_alike count c.args.walks.now false a b (c.loop-nearer.invariant.2.counts a m) (counts b n) e

pub merge-requires-clause-within : goal.merge-requires-clause-within
merge-requires-clause-within c a b m n e =
    let held = c.args.held.now in
    let place = c.args.window.end - 1 - c.loop-nearer.nearer in
    let within : place < length held = omega (arith, c.loop-nearer-test.true, c.requires.within) in
    let known = Member-get_or held place c.index-held-place.result within (sym c.index-held-place.is) in
    let count = λ (v : PairingVector). v.duties in
    let counts = subst (λ (ls : List (PairingVector × LabelWalk)). AreCounted count c.args.walks.now false ls) (sym c.as_slice-in-loop-nearer.ensures.all) (c.requires.held.pending c.index-held-place.result known) in
    counted_alike count c.args.walks.now false a b (counts a m) (counts b n) e

pub loop-nearer-preserved : goal.loop-nearer-preserved
loop-nearer-preserved c =
    let Labels = List (PairingVector × LabelWalk) in
    let held = c.args.held.now in
    let walks = c.args.walks.now in
    let end = c.args.window.end in
    let pools = c.loop-nearer.suffixes.items in
    let n = c.loop-nearer.nearer in
    let inv = c.loop-nearer.invariant in
    let long = inv.1 in
    let copied = c.from_apart.result in
    let few : length pools ≤ end = omega (arith, long, c.loop-nearer-test.true) in
    let same : copied ≡ c.loop-nearer.growing = c.from_apart.ensures ∙ (c.in_ok-labels.ensures.items ∙ c.as_slice.ensures.all) in
    let first = subst (λ k. IsPart walks held (end - k) end c.loop-nearer.growing) (sym long) inv.2 in
    let part = subst (λ (ls : Labels). IsPart walks held (end - length pools) end ls) (sym same) first in
    let grown : c.push.new.self.items ≡ pools ++ copied ∷ [] = c.in_ok-push.ensures.items in
    let place = end - 1 - n in
    let item = c.index-held-place.result in
    let labels = c.as_slice-in-loop-nearer.result.now in
    let inside : place < length held = omega (arith, c.loop-nearer-test.true, c.requires.within) in
    let one = part-one walks held c.requires.held place item (item-in held held place item inside refl c.index-held-place.is) in
    let own = subst (λ (ls : Labels). IsPart walks held place (place + 1) ls) (sym c.as_slice-in-loop-nearer.ensures.all) one in
    let second : place + 1 ≡ end - n = omega (arith, c.loop-nearer-test.true) in
    let nearest = subst (λ k. IsPart walks held place k labels) second own in
    let counted = IsCounted (λ (v : PairingVector). v.duties) walks false in
    let longer = part-before walks held place (end - n) end c.loop-nearer.growing labels c.merge.new.self (omega (arith, second)) (omega arith) inv.2 nearest c.in_ok-merge.ensures.local
    (λ l m. ⊎_elim {C = counted l} (inv.2.counts l) (own.counts l) (c.in_ok-merge.ensures.from l m)) in
    let from : place ≡ end - (n + 1) = omega arith in (
      subst (λ (ps : List Labels). AreSuffixes walks held end ps) (sym grown) (suffixes-more walks held end pools copied inv.0 few part),
      ap (λ (ps : List Labels). length ps) grown ∙ (length-append pools (copied ∷ []) ∙ ap (λ k. k + 1) long),
      subst (λ k. IsPart walks held k end c.merge.new.self) from longer,
    )

pub returns-clause-suffixes : goal.returns-clause-suffixes
returns-clause-suffixes c =
    let Labels = List (PairingVector × LabelWalk) in
    let held = c.args.held.now in
    let walks = c.args.walks.now in
    let end = c.args.window.end in
    let pools = c.loop-nearer.suffixes.items in
    let inv = c.loop-nearer.invariant in
    let long = inv.1 in
    let last = c.in_ok-copy_out.field-0 in
    let few : length pools ≤ end = omega (arith, long, c.loop-nearer.auto.nearer-end) in
    let first = subst (λ k. IsPart walks held (end - k) end c.loop-nearer.growing) (sym long) inv.2 in
    let part = subst (λ (ls : Labels). IsPart walks held (end - length pools) end ls) (sym c.in_ok-copy_out.ensures) first in
    let grown : c.push-2.new.self.items ≡ pools ++ last ∷ [] = c.in_ok-push-2.ensures.items in
    subst (λ (ps : List Labels). AreSuffixes walks held end ps) (sym grown) (suffixes-more walks held end pools last inv.0 few part)
