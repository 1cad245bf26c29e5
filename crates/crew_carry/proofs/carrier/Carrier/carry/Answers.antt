use Rattle.std.proofs.Common.{◌≡◌, List, Option, Some, ℕ, Vec, true, length, map, ap, sym, subst, ◌∙◌}
use Rattle.std.specs.Global.{Global}
use Rattle.std.specs.Prelude.{IfSome, is_some}
use Rattle.crew_carry.specs.Labels.{AreCarriedLabels}
use Rattle.crew_pool.specs.Apart.{AreApart}
use Rattle.crew_pool.specs.Counted.{AreCounted, AreWhole}
use Rattle.crew_pool.specs.LabelWalks.{shown}
use Rattle.crew_pool.specs.Ranks.{AreRanked, by_key}
use Rattle.crew_pool.specs.declared.label_walk.LabelWalk.{LabelWalk}
use Rattle.crew_resource.specs.Members.{Member}
use Rattle.crew_carry.proofs.CarriedLabels.{labels-counted, labels-keys, labels-ranked, labels-values}
use Rattle.crew_carry.proofs.carrier.Carrier.carry.Goals as goal

carried : {V : Type 0} (ranks : List (Option ℕ)) (from to : List (List ℕ)) (items : List (V × LabelWalk)) (o : Option (Vec (V × LabelWalk) Global)) (new : Vec (V × LabelWalk) Global) → o ≡ Some new
    → IfSome o (λ ns. AreCarriedLabels ranks from to items ns.items) → AreCarriedLabels ranks from to items new.items
carried {V} ranks from to items o new e h =
    let Are : Option (Vec (V × LabelWalk) Global) → Type 0 = λ z. IfSome z (λ ns. AreCarriedLabels ranks from to items ns.items) in
    subst Are e h

pub carry_labels-requires-clause-there : goal.carry_labels-requires-clause-there
carry_labels-requires-clause-there g c = λ l m. c.requires.there l (subst (λ (ls : List (g.row.R-Value.Denot × LabelWalk)). Member ls l) c.as_slice-labels.ensures.all m)

pub carry_labels-requires-clause-whole : goal.carry_labels-requires-clause-whole
carry_labels-requires-clause-whole g c = subst (λ (os : List (g.row.R-Value.Denot × LabelWalk)). AreWhole os) (sym c.as_slice-labels.ensures.all) c.requires.whole

pub returns-in_err-carried-clause-grown : goal.returns-in_err-carried-clause-grown
returns-in_err-carried-clause-grown g c = c.carry_labels.ensures.grown

pub returns-in_default-clause-grown : goal.returns-in_default-clause-grown
returns-in_default-clause-grown g c = c.carry_labels.ensures.grown

pub from_apart-requires : goal.from_apart-requires
from_apart-requires g c =
    let V = g.row.R-Value.Denot in
    let ranks = c.args.ranks.now in
    let from = c.args.from.now in
    let to = c.carry_labels.new.to in
    let items = c.as_slice-labels.result.now in
    let are = carried ranks from to items c.in_ok-carried.carried c.in-Some.labels c.in-Some.is c.in_ok-carried.ensures.labels in
    subst (AreApart g.R.Resource.below) (sym (labels-values ranks from to items c.in-Some.labels.items are ∙ ap (map (λ (l : V × LabelWalk). l.0)) c.as_slice-labels.ensures.all)) c.as_slice-labels.ensures.apart

pub returns-in_default-clause-none : goal.returns-in_default-clause-none
returns-in_default-clause-none g c =
    let lacks = c.in_ok-carried.ensures.none (ap is_some c.in_default.is) in
    λ _. (lacks.0, subst (λ (os : List (g.row.R-Value.Denot × LabelWalk)). Member os lacks.0) c.as_slice-labels.ensures.all lacks.1, lacks.2)

pub returns-clause-grown : goal.returns-clause-grown
returns-clause-grown g c = c.carry_labels.ensures.grown

pub returns-clause-labels : goal.returns-clause-labels
returns-clause-labels g c olds news twins =
    let V = g.row.R-Value.Denot in
    let ranks = c.args.ranks.now in
    let from = c.args.from.now in
    let to = c.carry_labels.new.to in
    let items = c.as_slice-labels.result.now in
    let are = carried ranks from to items c.in_ok-carried.carried c.in-Some.labels c.in-Some.is c.in_ok-carried.ensures.labels in
    ap (λ (ns : List (V × LabelWalk)). by_key news (map (shown to) ns)) c.from_apart.ensures
    ∙ (labels-keys ranks from to olds news twins items c.in-Some.labels.items are ∙ ap (λ (os : List (V × LabelWalk)). by_key olds (map (shown from) os)) c.as_slice-labels.ensures.all)

pub returns-clause-vectors : goal.returns-clause-vectors
returns-clause-vectors g c =
    let vector = λ (l : g.row.R-Value.Denot × LabelWalk). l.0 in
    let ranks = c.args.ranks.now in
    let from = c.args.from.now in
    let to = c.carry_labels.new.to in
    let items = c.as_slice-labels.result.now in
    let are = carried ranks from to items c.in_ok-carried.carried c.in-Some.labels c.in-Some.is c.in_ok-carried.ensures.labels in
    ap (map vector) c.from_apart.ensures ∙ (labels-values ranks from to items c.in-Some.labels.items are ∙ ap (map vector) c.as_slice-labels.ensures.all)

pub returns-clause-counted : goal.returns-clause-counted
returns-clause-counted g c count counted =
    let V = g.row.R-Value.Denot in
    let ranks = c.args.ranks.now in
    let from = c.args.from.now in
    let to = c.carry_labels.new.to in
    let items = c.as_slice-labels.result.now in
    let are = carried ranks from to items c.in_ok-carried.carried c.in-Some.labels c.in-Some.is c.in_ok-carried.ensures.labels in
    let old = subst (λ (os : List (V × LabelWalk)). AreCounted count from true os) (sym c.as_slice-labels.ensures.all) counted in
    subst (λ (ns : List (V × LabelWalk)). AreCounted count to true ns) (sym c.from_apart.ensures) (labels-counted ranks from to items c.in-Some.labels.items are count old)

pub returns-clause-ranked : goal.returns-clause-ranked
returns-clause-ranked g c olds news twins =
    let V = g.row.R-Value.Denot in
    let ranks = c.args.ranks.now in
    let from = c.args.from.now in
    let to = c.carry_labels.new.to in
    let items = c.as_slice-labels.result.now in
    let are = carried ranks from to items c.in_ok-carried.carried c.in-Some.labels c.in-Some.is c.in_ok-carried.ensures.labels in
    subst (λ (ns : List (V × LabelWalk)). AreRanked (length news) (map (shown to) ns)) (sym c.from_apart.ensures) (labels-ranked ranks from to olds news twins items c.in-Some.labels.items are)
