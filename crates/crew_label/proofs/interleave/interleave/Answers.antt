use Rattle.std.proofs.Common.{◌+◌, List, drop, inl, inr, refl, sym, subst, arith}
use Rattle.crew_resource.proofs.Members.{Member-get_or}
use Rattle.crew_label.specs.Machinery.Merges.{IsMerging}
use Rattle.crew_label.specs.Machinery.Seeing.{labels_of}
use Rattle.crew_label.specs.declared.label.Label.{Label}
use Rattle.crew_label.proofs.Interleaved.{merging-at, merging-turned}
use Rattle.crew_label.proofs.SeenLabels.{first_label, label_at, labels-last, seen_last}
use Rattle.crew_label.proofs.interleave.interleave.Goals as goal

pub loop-i-preserved-then-is_from_one : goal.loop-i-preserved-then-is_from_one
loop-i-preserved-then-is_from_one g c =
    let cmp = g.R.Value.Ord.cmp in
    let one = labels_of c.args.one.now in
    let two = labels_of c.args.two.now in
    let i = c.loop-i.i in
    let j = c.loop-i.j in
    let x = c.index-one-i.result in
    let first = c.if-is_from_one.ensures.one refl in
    let within = first.there in (
      omega arith,
      c.loop-i.invariant.1,
      subst (λ (ls : List (Label g.row.R-Value.Denot)). IsMerging cmp one two (drop (i + 1) one) (drop j two) ls) (sym (labels-last c.loop-i.whole.items _ x c.in_ok-push_seen.ensures))
          (merging-at cmp g.met.R.Value.Ord.total one two (labels_of c.loop-i.whole.items) i j x.label.now (first_label cmp c.args.one.now c.args.two.now i j first) (label_at c.args.one.now i x c.index-one-i.is) c.loop-i.invariant.2),
      λ s m. seen_last c.args.one.now c.args.two.now c.loop-i.whole.items _ x c.in_ok-push_seen.ensures c.loop-i.invariant.3 (inl (Member-get_or c.args.one.now i x within (sym c.index-one-i.is))) s m,
    )

pub loop-i-preserved : goal.loop-i-preserved
loop-i-preserved g c =
    let cmp = g.R.Value.Ord.cmp in
    let one = labels_of c.args.one.now in
    let two = labels_of c.args.two.now in
    let i = c.loop-i.i in
    let j = c.loop-i.j in
    let x = c.index-two-j.result in
    let first = c.if-is_from_one.ensures.two refl in
    let within = first.there in
    let turned = merging-turned cmp g.met.R.Value.Ord.total one two (drop i one) (drop j two) (labels_of c.loop-i.whole.items) c.loop-i.invariant.2 in (
      c.loop-i.invariant.0,
      omega arith,
      subst (λ (ls : List (Label g.row.R-Value.Denot)). IsMerging cmp one two (drop i one) (drop (j + 1) two) ls) (sym (labels-last c.loop-i.whole.items _ x c.in_ok-push_seen-2.ensures))
          (merging-turned cmp g.met.R.Value.Ord.total two one (drop (j + 1) two) (drop i one) _
          (merging-at cmp g.met.R.Value.Ord.total two one (labels_of c.loop-i.whole.items) j i x.label.now (first_label cmp c.args.two.now c.args.one.now j i first) (label_at c.args.two.now j x c.index-two-j.is) turned)),
      λ s m. seen_last c.args.one.now c.args.two.now c.loop-i.whole.items _ x c.in_ok-push_seen-2.ensures c.loop-i.invariant.3 (inr (Member-get_or c.args.two.now j x within (sym c.index-two-j.is))) s m,
    )
