use Rattle.std.proofs.Common.{◌≡◌, ◌∙◌, ap, sym, not, List, map, refl, subst, false, arith}
use Rattle.std.specs.List.{All, filter}
use Rattle.std.specs.Prelude.{slice_get, slice_set, Some}
use Rattle.std.specs.Ordering.{is_lt}
use Rattle.std.proofs.lemmas.Result.{err_from_is_err_and}
use Rattle.crew_resource.specs.Members.{Member}
use Rattle.crew_pairing.specs.Legs.{Leg}
use Rattle.crew_resource.specs.Entries.{IsApart, placed}
use Rattle.crew_front.specs.Machinery.Grades.{HoldSame}
use Rattle.crew_front.specs.Walks.{lesser}
use Rattle.crew_front.specs.declared.front.Offer.TheVariants.{Kept, Beaten, Tied}
use Rattle.crew_front.proofs.EntryLemmas.{All-from_members, Member-Any, joined_apart, beaten_by, on_err}
use Rattle.crew_resource.proofs.Members.{Member-at, Member-map_in}
use Rattle.crew_resource.proofs.Lists.{within_some, map-slice_set}
use Rattle.crew_front.proofs.GradeLemmas.{joined_same}
use Rattle.crew_front.proofs.OfferLocal.{never_beaten, never_first, none_beats_first, none_beats_there, offered_list}
use Rattle.crew_front.proofs.front.Front.offer.Goals as goal

pub invariant_of-self-in_default : goal.invariant_of-self-in_default
invariant_of-self-in_default g c =
    let Entry = g.row.R-Value.Denot × List (List Leg) in
    let below = g.R.Resource.below in
    let cmp = g.R.Value.Ord.cmp in
    let old = c.self.inside.entries.items in
    let all : All (λ (e : Entry). below e.0 c.args.value ≡ false) old =
    All-from_members (λ (e : Entry). below e.0 c.args.value ≡ false) old
    (λ e m. c.in_default.ensures e.0 (c.self.invariant.1.forth e.0 (Member-map_in (λ (e : Entry). e.0) old e m))) in
    subst (λ (es : List Entry). IsApart cmp below (map (λ e. e.0) es) × HoldSame (map (λ e. e.0) es) c.join.new.buckets) (sym c.in_ok-join.ensures.ok) (
      joined_apart cmp below g.met.R.Value.Ord.total g.met.R.Resource.order old c.args.value c.args.walk all c.self.invariant.0,
      joined_same below (λ (e : Entry). is_lt (cmp c.args.value e.0)) c.args.value c.args.walk old c.self.inside.buckets c.join.new.buckets c.self.invariant.1 c.in_ok-join.ensures.buckets,
    )

pub returns-in_default-clause-ok : goal.returns-in_default-clause-ok
returns-in_default-clause-ok g c =
    let Entry = g.row.R-Value.Denot × List (List Leg) in
    let below = g.R.Resource.below in
    let old = c.self.inside.entries.items in
    let all : All (λ (e : Entry). below e.0 c.args.value ≡ false) old =
    All-from_members (λ (e : Entry). below e.0 c.args.value ≡ false) old
    (λ e m. c.in_default.ensures e.0 (c.self.invariant.1.forth e.0 (Member-map_in (λ (e : Entry). e.0) old e m))) in (
      subst (λ (es : List Entry). All (λ e. below e.0 c.args.value ≡ false) es) c.self.view_is all,
      c.in_ok-join.ensures.ok ∙ ap (λ (es : List Entry). placed (λ e. is_lt (g.R.Value.Ord.cmp c.args.value e.0)) (c.args.value, c.args.walk) (filter (λ e. not (below c.args.value e.0)) es)) c.self.view_is,
    )

pub returns-then-not-at_most-clause-ok : goal.returns-then-not-at_most-clause-ok
returns-then-not-at_most-clause-ok g c =
    let Entry = g.row.R-Value.Denot × List (List Leg) in
    let found = c.in-Some.found.now in
    let there : Member (map (λ (e : Entry). e.0) c.args.self.now) found =
    subst (λ (es : List Entry). Member (map (λ e. e.0) es) found) c.self.view_is (c.self.invariant.1.back found c.in-Some.ensures.0) in
    (beaten_by g.R.Value.Ord.cmp g.R.Resource.below g.met.R.Value.Ord.total g.met.R.Resource.order c.args.self.now c.args.value found there c.in-Some.ensures.1 (sym c.if-not-at_most.ensures), refl)

pub place_of-place-requires : goal.place_of-place-requires
place_of-place-requires g c =
    let Entry = g.row.R-Value.Denot × List (List Leg) in
    let found = c.in-Some.found.now in
    let same : found ≡ c.args.value = g.met.R.Resource.order.antisymmetric found c.args.value c.in-Some.ensures.1 (sym c.if-not-at_most.ensures) in
    subst (λ (es : List Entry). Member (map (λ e. e.0) es) c.args.value) (sym c.deref.ensures.value)
    (subst (λ v. Member (map (λ (e : Entry). e.0) c.self.inside.entries.items) v) same (c.self.invariant.1.back found c.in-Some.ensures.0))

pub lower-requires : goal.lower-requires
lower-requires g c =
    let k = within_some c.deref.result.now c.place_of-place.result (c.args.value, c.place_of-place.ensures.0) c.place_of-place.ensures.1 in
    omega (arith, k, c.deref.ensures.len)

pub invariant_of-self-2 : goal.invariant_of-self-2
invariant_of-self-2 g c =
    let Entry = g.row.R-Value.Denot × List (List Leg) in
    let old = c.self.inside.entries.items in
    let was = c.place_of-place.ensures.0 in
    let at : slice_get old c.place_of-place.result ≡ Some (c.args.value, was) = ap (λ (es : List Entry). slice_get es c.place_of-place.result) (sym c.deref.ensures.value) ∙ c.place_of-place.ensures.1 in
    let now = c.lower.ensures c.args.value was at in
    subst (λ (vs : List g.row.R-Value.Denot). IsApart g.R.Value.Ord.cmp g.R.Resource.below vs × HoldSame vs c.self.inside.buckets)
    (sym (ap (map (λ (e : Entry). e.0)) now ∙ map-slice_set (λ (e : Entry). e.0) old c.place_of-place.result (c.args.value, was) (c.args.value, lesser was c.args.walk) at refl))
    c.self.invariant

pub returns-clause-ok : goal.returns-clause-ok
returns-clause-ok g c =
    let Entry = g.row.R-Value.Denot × List (List Leg) in
    let was = c.place_of-place.ensures.0 in
    let at : slice_get c.self.inside.entries.items c.place_of-place.result ≡ Some (c.args.value, was) = ap (λ (es : List Entry). slice_get es c.place_of-place.result) (sym c.deref.ensures.value) ∙ c.place_of-place.ensures.1 in (
      c.place_of-place.result,
      was,
      ap (λ (es : List Entry). slice_get es c.place_of-place.result) (sym c.self.view_is) ∙ at,
      c.lower.ensures c.args.value was at ∙ ap (λ (es : List Entry). slice_set es c.place_of-place.result (c.args.value, lesser was c.args.walk)) c.self.view_is,
    )

pub returns-in_default-clause-local : goal.returns-in_default-clause-local
returns-in_default-clause-local g c cs i =
    offered_list g.R.Value.Ord.cmp g.R.Resource.below g.met.R.Resource.order cs c.args.self.now c.args.value c.args.walk c.join.new.entries.items Kept
    (subst (λ (es : List (g.row.R-Value.Denot × List (List Leg))). IsApart g.R.Value.Ord.cmp g.R.Resource.below (map (λ e. e.0) es)) c.self.view_is c.self.invariant.0)
    (returns-in_default-clause-ok g c) i

pub returns-then-not-at_most-clause-local : goal.returns-then-not-at_most-clause-local
returns-then-not-at_most-clause-local g c cs i =
    offered_list g.R.Value.Ord.cmp g.R.Resource.below g.met.R.Resource.order cs c.args.self.now c.args.value c.args.walk c.args.self.now Beaten
    (subst (λ (es : List (g.row.R-Value.Denot × List (List Leg))). IsApart g.R.Value.Ord.cmp g.R.Resource.below (map (λ e. e.0) es)) c.self.view_is c.self.invariant.0)
    (returns-then-not-at_most-clause-ok g c) i

pub returns-clause-local : goal.returns-clause-local
returns-clause-local g c cs i =
    offered_list g.R.Value.Ord.cmp g.R.Resource.below g.met.R.Resource.order cs c.args.self.now c.args.value c.args.walk c.lower.new.entries.items Tied
    (subst (λ (es : List (g.row.R-Value.Denot × List (List Leg))). IsApart g.R.Value.Ord.cmp g.R.Resource.below (map (λ e. e.0) es)) c.self.view_is c.self.invariant.0)
    (returns-clause-ok g c) i

pub returns-in_err-join-clause-beaten : goal.returns-in_err-join-clause-beaten
returns-in_err-join-clause-beaten g c =
    let Entry = g.row.R-Value.Denot × List (List Leg) in
    let below = g.R.Resource.below in
    let all : All (λ (e : Entry). below e.0 c.args.value ≡ false) c.args.self.now =
    subst (λ (es : List Entry). All (λ e. below e.0 c.args.value ≡ false) es) c.self.view_is
    (All-from_members (λ (e : Entry). below e.0 c.args.value ≡ false) c.self.inside.entries.items
    (λ e m. c.in_default.ensures e.0 (c.self.invariant.1.forth e.0 (Member-map_in (λ (e : Entry). e.0) c.self.inside.entries.items e m)))) in
    let p = err_from_is_err_and c.from_residual.result c.from_residual.ensures.1 in (
      λ e. absurd (let q : ⊥ = (cc) in q),
      λ any. absurd (none_beats_first g.R.Value.Ord.cmp below g.met.R.Resource.order c.args.self.now c.args.value all any),
    )

pub returns-in_err-join-clause-tied : goal.returns-in_err-join-clause-tied
returns-in_err-join-clause-tied g c =
    let p = err_from_is_err_and c.from_residual.result c.from_residual.ensures.1 in (
      λ e. absurd (let q : ⊥ = (cc) in q),
      λ any. absurd (never_first g.R.Value.Ord.cmp g.R.Resource.below g.met.R.Resource.order c.args.self.now c.args.value (subst (λ (es : List (g.row.R-Value.Denot × List (List Leg))). All (λ e. g.R.Resource.below e.0 c.args.value ≡ false) es) c.self.view_is
          (All-from_members (λ (e : g.row.R-Value.Denot × List (List Leg)). g.R.Resource.below e.0 c.args.value ≡ false) c.self.inside.entries.items
          (λ e m. c.in_default.ensures e.0 (c.self.invariant.1.forth e.0 (Member-map_in (λ (e : g.row.R-Value.Denot × List (List Leg)). e.0) c.self.inside.entries.items e m))))) any),
    )

pub returns-in_err-join-clause-memory : goal.returns-in_err-join-clause-memory
returns-in_err-join-clause-memory g c = on_err c.from_residual.result (All (λ (e : g.row.R-Value.Denot × List (List Leg)). g.R.Resource.below e.0 c.args.value ≡ false) c.args.self.now) (subst (λ (es : List (g.row.R-Value.Denot × List (List Leg))). All (λ e. g.R.Resource.below e.0 c.args.value ≡ false) es) c.self.view_is
    (All-from_members (λ (e : g.row.R-Value.Denot × List (List Leg)). g.R.Resource.below e.0 c.args.value ≡ false) c.self.inside.entries.items
    (λ e m. c.in_default.ensures e.0 (c.self.invariant.1.forth e.0 (Member-map_in (λ (e : g.row.R-Value.Denot × List (List Leg)). e.0) c.self.inside.entries.items e m)))))

pub returns-in_default-clause-tied : goal.returns-in_default-clause-tied
returns-in_default-clause-tied g c = (
  λ e. absurd (let q : ⊥ = (cc) in q),
  λ any. absurd (never_first g.R.Value.Ord.cmp g.R.Resource.below g.met.R.Resource.order c.args.self.now c.args.value (returns-in_default-clause-ok g c).0 any),
)

pub returns-then-not-at_most-clause-tied : goal.returns-then-not-at_most-clause-tied
returns-then-not-at_most-clause-tied g c = (
  λ e. absurd (let q : ⊥ = (cc) in q),
  λ any. absurd (never_beaten g.R.Value.Ord.cmp g.R.Resource.below g.met.R.Resource.order c.args.self.now c.args.value
      (subst (λ (es : List (g.row.R-Value.Denot × List (List Leg))). IsApart g.R.Value.Ord.cmp g.R.Resource.below (map (λ e. e.0) es)) c.self.view_is c.self.invariant.0)
      (returns-then-not-at_most-clause-ok g c).0 any),
)

pub returns-clause-tied : goal.returns-clause-tied
returns-clause-tied g c =
    let tied = returns-clause-ok g c in
    (λ e. Member-Any (λ (e : g.row.R-Value.Denot × List (List Leg)). e.0 ≡ c.args.value) c.args.self.now (c.args.value, tied.1) (Member-at c.args.self.now tied.0 (c.args.value, tied.1) tied.2) refl, λ any. refl)

pub returns-in_default-clause-beaten : goal.returns-in_default-clause-beaten
returns-in_default-clause-beaten g c = (
  λ e. absurd (let q : ⊥ = (cc) in q),
  λ any. absurd (none_beats_first g.R.Value.Ord.cmp g.R.Resource.below g.met.R.Resource.order c.args.self.now c.args.value (returns-in_default-clause-ok g c).0 any),
)

pub returns-then-not-at_most-clause-beaten : goal.returns-then-not-at_most-clause-beaten
returns-then-not-at_most-clause-beaten g c = (λ e. (returns-then-not-at_most-clause-ok g c).0, λ any. refl)

pub returns-clause-beaten : goal.returns-clause-beaten
returns-clause-beaten g c =
    let tied = returns-clause-ok g c in (
      λ e. absurd (let q : ⊥ = (cc) in q),
      λ any. absurd (none_beats_there g.R.Value.Ord.cmp g.R.Resource.below g.met.R.Resource.order c.args.self.now tied.0 c.args.value tied.1
          (subst (λ (es : List (g.row.R-Value.Denot × List (List Leg))). IsApart g.R.Value.Ord.cmp g.R.Resource.below (map (λ e. e.0) es)) c.self.view_is c.self.invariant.0)
          tied.2 any),
    )

pub returns-clause-memory : goal.returns-clause-memory
returns-clause-memory g c = tt

pub returns-clause-err : goal.returns-clause-err
returns-clause-err g c = tt
