use Rattle.std.proofs.Common.{◌≡◌, ◌∙◌, ℕ, List, Some, Vec, Global, ap, arith, length, subst, sym}
use Rattle.std.specs.Prelude.{slice_get}
use Rattle.std.specs.Arc.{arc_value}
use Rattle.crew_numbers.specs.Machinery.Taken.{AreNumbered, AreTaken}
use Rattle.crew_numbers.proofs.Gets.{within}
use Rattle.crew_numbers.proofs.Takes.{numbered}
use Rattle.crew_numbers.proofs.taking.number.Goals as goal

pub returns-clause-numbered : goal.returns-clause-numbered
returns-clause-numbered c =
    let kept = c.args.kept.now in
    let count = length kept in
    let taken = c.take_all.new.keys in
    let new = c.leave_all.new.keys in
    let numbers = c.deref-2.result.now in
    let ranks = c.deref-3.result.now in
    let is : AreTaken kept c.args.keys count numbers taken = subst (λ (l : List ℕ). AreTaken kept c.args.keys count l taken) (sym c.deref-2.ensures.value) c.in_ok-numbers.ensures in
    let end : length ranks ≡ c.end_of-end.result = ap length c.deref-3.ensures.value ∙ c.in_ok-ranks.ensures.long in
    let above = c.end_of-end.ensures.least in
    let few = c.end_of-end.ensures.few in
    let all : AreNumbered numbers ranks new count = numbered kept c.args.keys taken new numbers ranks c.requires.few is (omega (arith, end, few))
    (λ n h. let w = c.requires.below n h in omega (arith, w, end, above))
    (λ i n e. ap (λ (l : List ℕ). slice_get l n) c.deref-3.ensures.value ∙ c.in_ok-ranks.ensures.told i n e)
    (λ i n e. c.in_ok-ranks.ensures.own i n (ap (λ (l : List ℕ). slice_get l n) (sym c.deref-3.ensures.value) ∙ e))
    c.leave_all.ensures.vacant c.leave_all.ensures.stay
    in
    let ns : numbers ≡ (arc_value c.in_ok-numbers-2.numbers).items = c.deref-2.ensures.value ∙ ap (λ (v : Vec ℕ Global). v.items) (sym c.in_ok-numbers-2.ensures.ok) in
    let rs : ranks ≡ (arc_value c.in_ok-ranks-2.ranks).items = c.deref-3.ensures.value ∙ ap (λ (v : Vec ℕ Global). v.items) (sym c.in_ok-ranks-2.ensures.ok) in
    subst (λ (l : List ℕ). AreNumbered l (arc_value c.in_ok-ranks-2.ranks).items new count) ns
    (subst (λ (l : List ℕ). AreNumbered numbers l new count) rs all)

pub returns-clause-keep : goal.returns-clause-keep
returns-clause-keep c = λ i n e.
    let ns = ap (λ (v : Vec ℕ Global). slice_get v.items i) c.in_ok-numbers-2.ensures.ok in
    ns ∙ c.in_ok-numbers.ensures.keep i n (within c.args.kept.now i (Some n) e) e
