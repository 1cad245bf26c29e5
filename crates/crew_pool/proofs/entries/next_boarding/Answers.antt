use Rattle.std.proofs.Common.{◌≡◌, ◌++◌, ◌∷◌, ◌∙◌, List, None, Option, Some, ap, inl, inr, refl, subst, sym, ℕ}
use Rattle.std.specs.Slice.Iter.{iter_rest}
use Rattle.crew_resource.specs.Events.{labelled}
use Rattle.crew_resource.specs.Members.{Member}
use Rattle.crew_pool.specs.Counted.{boarded_labels}
use Rattle.crew_pool.specs.declared.label_walk.LabelWalk.{LabelWalk}
use Rattle.crew_pool.proofs.entries.next_boarding.Goals as goal

-- labels, of which the first is taken from the iterator
module _ {V : Type 0} (xs ys : List (V × LabelWalk)) (l : V × LabelWalk) (split : xs ≡ l ∷ ys) where
  first-in : Member xs l
  first-in = subst (λ ls. Member ls l) (sym split) (inl refl)

  later-in : (a : V × LabelWalk) → Member ys a → Member xs a
  later-in a m = subst (λ ls. Member ls a) (sym split) (inr m)

  first-boards : (board : V → Option V) (duty : ℕ) (all : List (V × LabelWalk)) (did o : Option V) → boarded_labels board duty all ≡ boarded_labels board duty xs → did ≡ board l.0 → did ≡ o
      → (let t : LabelWalk = record { walk = l.1.walk; duty = duty } in boarded_labels board duty all ≡ labelled o t ++ boarded_labels board duty ys)
  first-boards board duty all did o passed b is =
      let t : LabelWalk = record { walk = l.1.walk; duty = duty } in
      passed ∙ (ap (boarded_labels board duty) split ∙ ap (λ z. labelled z t ++ boarded_labels board duty ys) (sym b ∙ is))

pub loop-label-init : goal.loop-label-init
loop-label-init g c = (refl, λ a m. m)

pub board-requires : goal.board-requires
board-requires g c =
    let l = c.in-Some.label.now in
    c.requires l (c.loop-label.invariant.1 l (first-in (iter_rest c.loop-label.labels) (iter_rest c.next.new.self) l c.in-Some.ensures.steps))

pub returns-in-Some-board-clause-takes : goal.returns-in-Some-board-clause-takes
returns-in-Some-board-clause-takes g c =
    let board = λ (v : g.row.R-Value.Denot). g.R.Staged.boards c.args.resource.now v c.args.item.now in
    first-boards (iter_rest c.loop-label.labels) (iter_rest c.next.new.self) c.in-Some.label.now c.in-Some.ensures.steps board c.args.duty (iter_rest c.args.labels.now) c.board.result (Some c.in-Some-board.value) c.loop-label.invariant.0 c.board.ensures c.in-Some-board.is

pub returns-in-Some-board-clause-from : goal.returns-in-Some-board-clause-from
returns-in-Some-board-clause-from g c a m = c.loop-label.invariant.1 a (later-in (iter_rest c.loop-label.labels) (iter_rest c.next.new.self) c.in-Some.label.now c.in-Some.ensures.steps a m)

pub loop-label-preserved : goal.loop-label-preserved
loop-label-preserved g c =
    let board = λ (v : g.row.R-Value.Denot). g.R.Staged.boards c.args.resource.now v c.args.item.now in (
      first-boards (iter_rest c.loop-label.labels) (iter_rest c.next.new.self) c.in-Some.label.now c.in-Some.ensures.steps board c.args.duty (iter_rest c.args.labels.now) c.board.result None c.loop-label.invariant.0 c.board.ensures c.in_default-board.is,
      λ a m. c.loop-label.invariant.1 a (later-in (iter_rest c.loop-label.labels) (iter_rest c.next.new.self) c.in-Some.label.now c.in-Some.ensures.steps a m),
    )
