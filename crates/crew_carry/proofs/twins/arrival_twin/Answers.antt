use Rattle.std.proofs.Common.{rules, true, false, ◌≡◌, ◌^◌, ◌<◌, ℕ, List, Option, Some, arith, length, subst, sym}
use Rattle.std.specs.Prelude.{IfSome, slice_get}
use Rattle.crew_net.specs.Events.{arrives_at}
use Rattle.crew_net.specs.Ranks.{ranks_where}
use Rattle.crew_net.proofs.ArrivalPlaces.{rank-within}
use Rattle.crew_pairing.specs.declared.events.Arrival.{Arrival}
use Rattle.crew_carry.specs.Carried.{AreTwinWalks}
use Rattle.crew_carry.specs.Twins.{HaveSameArriving}
use Rattle.crew_carry.proofs.Pushed.{some-is}
use Rattle.crew_carry.proofs.Arriving.{arriving-same, same-arriving}
use Rattle.crew_carry.proofs.SameDuties.{duties-same, ranks-same}
use Rattle.crew_carry.proofs.twins.arrival_twin.Goals as goal

pub returns-then-are_same-clause-same : goal.returns-then-are_same-clause-same
returns-then-are_same-clause-same c =
    let old = c.args.old.now in
    let new = c.args.new.now in
    let same = c.args.same.now in
    let Found : ℕ → Type 0 = λ q. (x : Arrival) × (slice_get old.arrivals q ≡ Some x) × (slice_get new.arrivals c.args.place ≡ Some x) in
    let at = subst (λ (o : Option ℕ). IfSome o Found) c.in_ok-was.was c.requires.found in
    let rs = ranks_where (arrives_at at.0) old.duties in
    let ks = ranks_where (arrives_at at.0) new.duties in
    let twins : AreTwinWalks same rs ks =
    subst (λ (xs : List ℕ). AreTwinWalks same xs ks) (c.arriving.ensures at.0 at.1)
    (subst (λ (ys : List ℕ). AreTwinWalks same c.arriving.result.now ys) (c.arriving-2.ensures at.0 at.2) (c.are_same.ensures.0 (search rules))) in
    (at.0, at.1, at.2, same-arriving old new at.0 (duties-same old.duties new.duties same c.requires.same rs ks twins))

pub returns-clause-all : goal.returns-clause-all
returns-clause-all c ro rn q x e at all =
    let old = c.args.old.now in
    let new = c.args.new.now in
    let same = c.args.same.now in
    let Found : ℕ → Type 0 = λ n. (y : Arrival) × (slice_get old.arrivals n ≡ Some y) × (slice_get new.arrivals c.args.place ≡ Some y) in
    let found = subst (λ (o : Option ℕ). IfSome o Found) c.in_ok-was.was c.requires.found in
    let here = subst (λ (y : Arrival). HaveSameArriving old new y) (some-is new.arrivals c.args.place x found.0 at found.2) all in
    let few : length new.duties < 2 ^ 32 = (let n = rn.1 in omega (arith, n)) in
    let rs = ranks_where (arrives_at found.0) old.duties in
    let ks = ranks_where (arrives_at found.0) new.duties in
    let twins : AreTwinWalks same rs ks =
    ranks-same old.duties new.duties same c.requires.same ro.0 rn.0 few rs ks (rank-within found.0 old.duties) (arriving-same old new found.0 ro.0 rn.0 here) in
    let listed : AreTwinWalks same c.arriving.result.now c.arriving-2.result.now =
    subst (λ (xs : List ℕ). AreTwinWalks same xs c.arriving-2.result.now) (sym (c.arriving.ensures found.0 found.1))
    (subst (λ (ys : List ℕ). AreTwinWalks same rs ys) (sym (c.arriving-2.ensures found.0 found.2)) twins) in
    let yes : c.are_same.result ≡ true = c.are_same.ensures.1 listed in
    let no : c.are_same.result ≡ false = c.if-are_same.false in
    absurd (let n : ⊥ = (cc) in n)
