use Rattle.std.proofs.Common.{◌≡◌, List, [], ◌∷◌, refl, ap, subst, rules}
use Rattle.std.specs.Prelude.{map, IfOk}
use Rattle.std.specs.BTreeMap.{IsFromIterResult}
use Rattle.std.proofs.lemmas.Iterator.{YieldsList-from_map}
use Rattle.std.proofs.lemmas.Iterator.Adapters.{fact_from_collect}
use Rattle.std.proofs.lemmas.Iterator.Consumers.{YieldsList-from_rest, YieldsList-at}
use Rattle.crew_flights.proofs.timetable.entries_again.Goals as goal

all_same : {X : Type 0} (xs : List X) → map (λ x. x) xs ≡ xs
all_same [] = refl
all_same (x ∷ xs) = ap (λ ys. x ∷ ys) (all_same xs)

pub returns : goal.returns
returns g c =
    subst (λ es. IfOk c.collect.result (IsFromIterResult g.K.Ord.cmp es)) (all_same c.args.entries.now.entries)
    (fact_from_collect (IsFromIterResult g.K.Ord.cmp) c.collect.result c.collect.ensures.ran
    (YieldsList-from_map _ (λ e. e) (YieldsList-at c.map.ensures.source (YieldsList-from_rest c.args.entries.now.entries c.iter.ensures.rest)) c.map.ensures.closure (λ x r q k. search rules)))
