use Rattle.std.proofs.Common.{◌≡◌, ◌∙◌, sym, ap, subst, List, [], ◌∷◌, ◌++◌, ◌+◌, map, take}
use Rattle.std.proofs.lemmas.List.{take_all, take_more}
use Rattle.crew_pairing.specs.Legs.{Leg}
use Rattle.crew_front.specs.Machinery.Grades.{HoldSame}
use Rattle.crew_front.proofs.GradeLemmas.{more_same}
use Rattle.crew_front.proofs.front.bucketed.Goals as goal

pub loop-entry-init : goal.loop-entry-init
loop-entry-init g c =
    let Value = g.row.R-Value.Denot in
    subst (λ (vs : List Value). HoldSame {X = Value} [] vs) (sym c.new-buckets.ensures) (record { forth = λ v m. m; back = λ v m. m })

pub loop-entry-preserved : goal.loop-entry-preserved
loop-entry-preserved g c =
    let Entry = g.row.R-Value.Denot × List (List Leg) in
    let es = c.args.entries.now in
    let i = c.loop-entry.entry-index in
    let entry : Entry = c.entry-item.result in
    let more : take (i + 1) es ≡ take i es ++ entry ∷ [] = take_more es i entry c.loop-entry-test.true ∙ ap (λ (e : Entry). take i es ++ e ∷ []) (sym c.entry-item.is) in
    subst (λ (xs : List Entry). HoldSame (map (λ e. e.0) xs) c.put.new.self) (sym more)
    (more_same (λ (e : Entry). e.0) (take i es) entry c.in_ok-value.value c.loop-entry.buckets c.put.new.self c.in_ok-value.ensures c.loop-entry.invariant c.in_ok-put.ensures.ok)

pub returns : goal.returns
returns g c =
    let Entry = g.row.R-Value.Denot × List (List Leg) in
    subst (λ (es : List Entry). HoldSame (map (λ e. e.0) es) c.loop-entry.buckets) (take_all c.loop-entry.entry-index c.args.entries.now c.loop-entry-test.false) c.loop-entry.invariant
