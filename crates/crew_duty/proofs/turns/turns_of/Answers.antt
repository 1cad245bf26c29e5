use Rattle.std.proofs.Common.{◌≡◌, List, [], ◌∷◌, refl, ap, subst, rules}
use Rattle.std.specs.Prelude.{map as list_map, IfOk}
use Rattle.std.specs.FinMap as map
use Rattle.std.proofs.lemmas.Iterator.{YieldsList-from_map, items_from_collect}
use Rattle.std.proofs.lemmas.Iterator.Consumers.{YieldsList-from_rest, YieldsList-at}
use Rattle.crew_duty.proofs.turns.turns_of.Goals as goal

all_same : {X : Type 0} (xs : List X) → list_map (λ x. x) xs ≡ xs
all_same [] = refl
all_same (x ∷ xs) = ap (λ ys. x ∷ ys) (all_same xs)

pub returns : goal.returns
returns c =
    let entries = map.entries c.args.timetable.now.turns in
    subst (λ es. IfOk c.collect.result (λ found. found.items ≡ es)) (all_same entries)
    (items_from_collect c.collect.result c.collect.ensures.ran
    (YieldsList-from_map _ (λ e. e) (YieldsList-at c.map.ensures.source (YieldsList-from_rest entries c.turns.ensures.held)) c.map.ensures.closure (λ x r q k. search rules)))
