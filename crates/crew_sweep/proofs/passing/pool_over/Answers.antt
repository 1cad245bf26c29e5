use Rattle.std.proofs.Common.{◌≡◌, ◌∙◌, ◌++◌, ℕ, List, [], Some, Option, map, ap, subst}
use Rattle.std.specs.Prelude.{slice_get}
use Rattle.std.proofs.lemmas.Result.{IfOk-weaker}
use Rattle.crew_net.proofs.Slices.{item-in, member-got, some-same}
use Rattle.crew_pairing.specs.declared.events.Departure.{Departure}
use Rattle.crew_pairing.specs.declared.vector.PairingVector.{PairingVector}
use Rattle.crew_pool.specs.LabelWalks.{IsPoolOf, shown}
use Rattle.crew_resource.specs.Events.{labelled}
use Rattle.crew_sweep.specs.Machinery.Numbered.{idle_at}
use Rattle.crew_vector.specs.Dominance.{is_at_most}
use Rattle.crew_sweep.proofs.passing.pool_over.Goals as goal

pub idle_label-idle-requires-clause-real : goal.idle_label-idle-requires-clause-real
idle_label-idle-requires-clause-real c =
    let departures = c.args.ground.now.net.now.departures in
    let g = c.index-departures-place.result in
    let at = item-in departures c.departures.result.now c.args.place g c.requires.place c.departures.ensures.events c.index-departures-place.is in
    c.departures.ensures.real g (member-got departures c.args.place g at)

pub returns-clause-pooled : goal.returns-clause-pooled
returns-clause-pooled c =
    let ground = c.args.ground.now in
    let departures = ground.net.now.departures in
    let first = c.index-departures-place.result in
    let at = item-in departures c.departures.result.now c.args.place first c.requires.place c.departures.ensures.events c.index-departures-place.is in
    IfOk-weaker c.departure_pool.result _ _ (λ pool local (g : Departure) (h : slice_get departures c.args.place ≡ Some g) (waits : List (PairingVector × List ℕ)) gathered.
    let same : first ≡ g = some-same (slice_get departures c.args.place) first g at h in
    let begun = c.idle_label-idle.ensures ∙ ap (λ (z : Departure). idle_at ground.resource ground.base (Some z)) same in
    subst (λ (o : Option PairingVector). IsPoolOf is_at_most (waits ++ labelled o []) (map (shown c.departure_pool.new.walks) pool)) begun (local waits gathered)) c.departure_pool.ensures.local
