use Rattle.std.proofs.Common.{◌≡◌, ◌<◌, Err, IfOk, List, ℕ, Ok, Some, length, map, refl, subst, sym}
use Rattle.std.specs.Prelude.{slice_get}
use Rattle.std.specs.List.Sorted.{IsPermutation}
use Rattle.std.specs.declared.result.Result.{Result}
use Rattle.crew_anchor.specs.Stages.{anchored_board}
use Rattle.std.proofs.lemmas.List.Sorted.{IsPermutation-refl}
use Rattle.crew_net.specs.Events.{arrives_at}
use Rattle.crew_net.specs.Ranks.{ranks_where}
use Rattle.crew_net.proofs.Slices.{stands}
use Rattle.crew_pairing.specs.declared.duty.Duty.{Duty}
use Rattle.crew_pairing.specs.declared.events.Arrival.{Arrival}
use Rattle.crew_pairing.specs.declared.vector.PairingVector.{PairingVector}
use Rattle.crew_pool.specs.LabelWalks.{IsPoolOf, shown}
use Rattle.crew_pool.specs.declared.label_walk.LabelWalk.{LabelWalk}
use Rattle.crew_resource.specs.Members.{Member}
use Rattle.crew_carry.specs.crew_step.Pools.{boarded}
use Rattle.crew_vector.specs.Dominance.{is_at_most}
use Rattle.crew_pool.proofs.MergeLemmas.{some_is}
use Rattle.crew_sweep.proofs.AsGood.{as-good-boarded}
use Rattle.crew_sweep.proofs.Making as making
use Rattle.crew_sweep.proofs.Passable.{may-board}
use Rattle.crew_sweep.proofs.arrivals.arrival_from.Goals as goal

abbrev Labels : Type 0
Labels = List (PairingVector × LabelWalk)

pub arrival_pool-requires-clause-counting : goal.arrival_pool-requires-clause-counting
arrival_pool-requires-clause-counting c = (c.args.ground.now.resource.max_duties, refl)

pub arrival_pool-requires-clause-within : goal.arrival_pool-requires-clause-within
arrival_pool-requires-clause-within c rank m =
    let g = c.args.ground.now in
    let net = g.net.now in
    let p = c.requires.pools in
    let a = stands net.arrivals c.args.place c.requires.place in
    let ranks = ranks_where (arrives_at a.0) net.duties in
    let there = c.in_ok-ranks.ensures.among a.0 a.1 rank (subst (λ (rs : List ℕ). Member rs rank) c.deref.ensures.value m) in
    let k = making.ranks-within net g.positions.now c.requires.ground.passable g.base g.resource c.args.walks.now c.args.pools.now p.0 p.1 p.2
    c.args.place a.0 a.1 c.requires.sealed ranks (IsPermutation-refl ranks) rank there in (
      subst (λ (ds : List Duty). rank < length ds) (sym c.duties-duties.ensures) k.0,
      k.1,
    )

pub arrival_pool-requires-clause-can : goal.arrival_pool-requires-clause-can
arrival_pool-requires-clause-can c labels l item known m k =
    let g = c.args.ground.now in
    let p = c.requires.pools in
    may-board g.net.now g.positions.now c.requires.ground.passable g.base g.resource c.args.walks.now c.args.pools.now p.0 p.1 p.2
    c.requires.ground.fits c.requires.ground.most labels l item known m (subst (λ (ds : List Duty). Member ds item) c.duties-duties.ensures k)

pub arrival_pool-requires-clause-whole : goal.arrival_pool-requires-clause-whole
arrival_pool-requires-clause-whole c labels m = c.requires.pools.2.whole labels m

pub returns : goal.returns
returns c =
    let g = c.args.ground.now in
    let net = g.net.now in
    let walks = c.args.walks.now in
    let positions = g.positions.now in
    let kept = c.in_ok-ranks.ranks.items in
    let duties = c.duties-duties.result.now in
    let boards = anchored_board g.resource in
    let a = stands net.arrivals c.args.place c.requires.place in
    let ranks = ranks_where (arrives_at a.0) net.duties in
    let all = λ (x : Arrival) (at : slice_get net.arrivals c.args.place ≡ Some x).
    let same : a.0 ≡ x = some_is a.0 x (slice_get net.arrivals c.args.place) a.1 at in
    subst (λ (z : Arrival). IsPermutation (ranks_where (arrives_at z) net.duties) ranks) same (IsPermutation-refl ranks) in
    both c.arrival_pool.result (λ pool local counts. record {
      ranks = ranks;
      all = all;
      local = as-good-boarded g.resource walks net.duties positions c.args.pools.now kept ranks (c.in_ok-ranks.ensures.among a.0 a.1) (c.in_ok-ranks.ensures.as_good a.0 a.1) (map (shown walks) pool)
          (subst (λ (ds : List Duty). IsPoolOf is_at_most (boarded walks boards ds positions c.args.pools.now kept) (map (shown walks) pool)) c.duties-duties.ensures
          (subst (λ (rs : List ℕ). IsPoolOf is_at_most (boarded walks boards duties positions c.args.pools.now rs) (map (shown walks) pool)) c.deref.ensures.value local));
      counts = counts;
    }) c.arrival_pool.ensures.local c.arrival_pool.ensures.counts
  where
    both : {X E : Type 0} {P Q S : X → Type 0} (r : Result X E) → ((x : X) → P x → Q x → S x) → IfOk r P → IfOk r Q → IfOk r S
    both (Ok x) f p q = f x p q
    both (Err e) f p q = tt
