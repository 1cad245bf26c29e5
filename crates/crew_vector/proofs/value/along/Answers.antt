use Rattle.std.proofs.Common.{◌≡◌, suc, ◌+◌, [], ◌∷◌, drop, sym, ◌∙◌, ap, subst, arith, add-one}
use Rattle.std.specs.Option.{option_and_then}
use Rattle.std.proofs.Math.Seq.{drop-cons}
use Rattle.std.proofs.lemmas.Int.{ints}
use Rattle.crew_vector.specs.Machinery.Along.{GoesOn, extended}
use Rattle.crew_vector.proofs.Extended.{goes-on, none-goes-on}
use Rattle.crew_vector.proofs.value.along.Goals as goal

pub returns-in_default : goal.returns-in_default
returns-in_default g c =
    let r = c.args.resource.now in
    let steps = g.met.R.Resource.steps r in
    sym (none-goes-on g.row.R-Value.Denot g.row.P.Denot (g.R.Resource.opens r) (g.R.Resource.extends r) g.R.Resource.below (g.R.Resource.value_of r) steps [] c.args.first.now c.args.others.now (steps.opening c.args.first.now ∙ (sym c.start_staged.ensures.value ∙ c.in_default.is)))

pub loop-next-init : goal.loop-next-init
loop-next-init g c =
    let r = c.args.resource.now in
    let first = c.args.first.now in
    let v = c.in-Some.value in
    let steps = g.met.R.Resource.steps r in
    let staged = g.met.R.Staged.staged r in
    let opened = sym c.start_staged.ensures.value ∙ c.in-Some.is in
    let boarded = sym (staged.opening first) ∙ opened in
    let most = c.requires.most in
    let counting = g.met.R.Staged.counting r most.0 most.1 in
    let empty = g.R.Staged.idle_of r (g.P.Placed.leaves first) in
    let one = counting.one_more empty v first boarded in
    let none = counting.none_yet (g.P.Placed.leaves first) in
    let end = counting.ends empty v first boarded in
    record {
      value = sym (goes-on g.row.R-Value.Denot g.row.P.Denot (g.R.Resource.opens r) (g.R.Resource.extends r) g.R.Resource.below (g.R.Resource.value_of r) steps [] first v c.args.others.now (steps.opening first ∙ opened));
      goes_on = c.requires.goes_on;
      room = (most.0, 1, most.1, omega (arith, ints, one, none), omega (arith, ints, one, none, end), most.2, c.start_staged.ensures.bound v c.in-Some.is);
    }

pub loop-next-preserved : goal.loop-next-preserved
loop-next-preserved g c =
    let r = c.args.resource.now in
    let others = c.args.others.now in
    let v = c.loop-next.value in
    let last = c.loop-next.last.now in
    let next = c.next-item.result in
    let z = c.in-Some-extend_staged.longer in
    let rest = drop (c.loop-next.next-index + 1) others in
    let split : drop c.loop-next.next-index others ≡ next ∷ rest =
    drop-cons others c.loop-next.next-index next c.loop-next-test.true ∙ (ap (λ d. d ∷ drop (suc c.loop-next.next-index) others) (sym c.next-item.is) ∙ ap (λ k. next ∷ drop k others) (sym (add-one c.loop-next.next-index))) in
    let longer = sym c.extend_staged.ensures.value ∙ c.in-Some-extend_staged.is in
    let staged = g.met.R.Staged.staged r in
    let waited = g.R.Staged.waited r v (g.P.Placed.arrives last) (g.P.Placed.leaves next) in
    let boarded = sym (staged.extension v last next) ∙ longer in
    let room = c.loop-next.invariant.room in
    let counting = g.met.R.Staged.counting r room.0 room.2 in
    let one = counting.one_more waited z next boarded in
    let none = counting.none_more v (g.P.Placed.arrives last) (g.P.Placed.leaves next) in
    let end = counting.ends waited z next boarded in
    let so_far = room.3 in
    record {
      value =
          sym (ap (option_and_then (λ u. extended (g.R.Resource.extends r) u next rest)) longer)
          ∙ (sym (ap (extended (g.R.Resource.extends r) v last) split) ∙ c.loop-next.invariant.value);
      goes_on = (subst (GoesOn g.P.Placed.is_sound g.P.Placed.may_follow g.P.Placed.arrives g.P.Placed.leaves last) split c.loop-next.invariant.goes_on).2;
      room = (room.0, suc room.1, room.2, omega (arith, ints, one, none, so_far), omega (arith, ints, one, none, so_far, end), room.5, c.extend_staged.ensures.bound room.1 z room.6 c.in-Some-extend_staged.is);
    }
