use Rattle.std.proofs.Common.{◌≡◌, Bor, List, map, sym, subst, true}
use Rattle.std.specs.List.Sorted.{IsPermutation}
use Rattle.crew_pool.specs.declared.label_walk.LabelWalk.{LabelWalk}
use Rattle.crew_resource.specs.Members.{Member}
use Rattle.std.proofs.lemmas.List.Sorted.{IsPermutation-refl}
use Rattle.crew_carry.specs.Labels.{AreCarriedLabels}
use Rattle.crew_carry.proofs.Permuted.{alike-pools, unsorted}
use Rattle.crew_carry.proofs.alike.are_alike.Goals as goal

pub are_twins-requires-clause-old_there : goal.are_twins-requires-clause-old_there
are_twins-requires-clause-old_there g c l m =
    let known = unsorted c.as_slice-held.result.now c.in_ok-olds.olds.items c.deref.result.now c.deref.ensures.value c.in_ok-olds.ensures l m in
    c.requires.old_there l (subst (λ (ls : List (g.row.R-Value.Denot × LabelWalk)). Member ls l) c.as_slice-held.ensures.all known)

pub are_twins-requires-clause-new_there : goal.are_twins-requires-clause-new_there
are_twins-requires-clause-new_there g c l m =
    let known = unsorted c.as_slice-made.result.now c.in_ok-news.news.items c.deref-2.result.now c.deref-2.ensures.value c.in_ok-news.ensures l m in
    c.requires.new_there l (subst (λ (ls : List (g.row.R-Value.Denot × LabelWalk)). Member ls l) c.as_slice-made.ensures.all known)

pub returns-then-are_in_order-clause-alike : goal.returns-then-are_in_order-clause-alike
returns-then-are_in_order-clause-alike g c ok olds news twins e =
    let Label = g.row.R-Value.Denot × LabelWalk in
    let ranks = c.args.ranks.now in
    let from = c.args.from.now in
    let to = c.args.to.now in
    let old = c.args.old.now in
    let new = c.args.new.now in
    let are : AreCarriedLabels ranks from to old new =
    subst (λ (os : List Label). AreCarriedLabels ranks from to os new) c.as_slice-held.ensures.all
    (subst (λ (ns : List Label). AreCarriedLabels ranks from to c.as_slice-held.result.now ns) c.as_slice-made.ensures.all (c.are_in_order.ensures.0 c.if-are_in_order.true)) in
    alike-pools ranks from to olds news twins old new old new (IsPermutation-refl old) (IsPermutation-refl new) are e

pub returns-clause-alike : goal.returns-clause-alike
returns-clause-alike g c ok olds news twins e =
    let Label = g.row.R-Value.Denot × LabelWalk in
    let now : Bor Label → Label = λ b. b.now in
    let a = c.deref.result.now in
    let b = c.deref-2.result.now in
    let p : IsPermutation c.args.old.now (map now a) =
    subst (λ (ls : List Label). IsPermutation ls (map now a)) c.as_slice-held.ensures.all
    (subst (λ (zs : List (Bor Label)). IsPermutation c.as_slice-held.result.now (map now zs)) (sym c.deref.ensures.value) c.in_ok-olds.ensures) in
    let q : IsPermutation c.args.new.now (map now b) =
    subst (λ (ls : List Label). IsPermutation ls (map now b)) c.as_slice-made.ensures.all
    (subst (λ (zs : List (Bor Label)). IsPermutation c.as_slice-made.result.now (map now zs)) (sym c.deref-2.ensures.value) c.in_ok-news.ensures) in
    let yes : c.are_twins.result ≡ true = (cc) in
    alike-pools c.args.ranks.now c.args.from.now c.args.to.now olds news twins c.args.old.now c.args.new.now (map now a) (map now b) p q (c.are_twins.ensures.0 yes) e
