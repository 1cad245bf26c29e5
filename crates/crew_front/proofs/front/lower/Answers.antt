use Rattle.std.proofs.Common.{◌≡◌, ◌∙◌, ℕ, List, Some, true, false, ap, get_or, set, sym}
use Rattle.std.specs.Prelude.{slice_get}
use Rattle.std.specs.Ordering.{is_lt}
use Rattle.std.proofs.lemmas.Bool.{cond-true, cond-false}
use Rattle.std.proofs.lemmas.Option.{get_or_from_slice_get}
use Rattle.crew_pairing.specs.Keys.{walk_cmp}
use Rattle.crew_pairing.specs.Legs.{Leg}
use Rattle.crew_front.specs.Walks.{lesser}
use Rattle.crew_front.proofs.front.lower.Goals as goal

-- the entry at a place, with the lesser of its walk and another
module _ {V : Type 0} (es : List (V × List (List Leg))) (i : ℕ) (e : V × List (List Leg)) (walk : List (List Leg)) (v : V) (was : List (List Leg)) (is : e ≡ get_or es i e) (at : slice_get es i ≡ Some (v, was)) where
  here : e ≡ (v, was)
  here = is ∙ get_or_from_slice_get es i (v, was) e at

  after : walk ≡ lesser e.1 walk → set es i (e.0, walk) ≡ set es i (v, lesser was walk)
  after k = ap (λ (x : V × List (List Leg)). set es i (x.0, walk)) here ∙ ap (λ (w : List (List Leg)). set es i (v, w)) (k ∙ ap (λ (x : V × List (List Leg)). lesser x.1 walk) here)

  same : e.1 ≡ lesser e.1 walk → set es i e ≡ set es i (v, lesser was walk)
  same k = ap (set es i) here ∙ ap (λ (w : List (List Leg)). set es i (v, w)) (ap (λ (x : V × List (List Leg)). x.1) (sym here) ∙ k ∙ ap (λ (x : V × List (List Leg)). lesser x.1 walk) here)

pub returns-then-lt : goal.returns-then-lt
returns-then-lt g c v was at =
    let e = c.index_mut-entry.result.now in
    let less : is_lt (walk_cmp c.args.walk e.1) ≡ true = sym c.lt.ensures ∙ c.if-lt.true in
    after c.args.entries.now.items c.args.place e c.args.walk v was c.index_mut-entry.ensures.value at (sym (cond-true (is_lt (walk_cmp c.args.walk e.1)) c.args.walk e.1 less))

pub returns-else-lt : goal.returns-else-lt
returns-else-lt g c v was at =
    let e = c.index_mut-entry.result.now in
    let not_less : is_lt (walk_cmp c.args.walk e.1) ≡ false = sym c.lt.ensures ∙ c.if-lt.false in
    same c.args.entries.now.items c.args.place e c.args.walk v was c.index_mut-entry.ensures.value at (sym (cond-false (is_lt (walk_cmp c.args.walk e.1)) c.args.walk e.1 not_less))
