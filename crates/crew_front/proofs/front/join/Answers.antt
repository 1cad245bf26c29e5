use Rattle.std.proofs.Common.{◌∙◌, ap, not, arith, List, ◌≡◌, false, refl, subst}
use Rattle.std.specs.List.{filter, insert, position_or_len}
use Rattle.std.specs.Ordering.{is_lt}
use Rattle.std.proofs.lemmas.Bool.{false≢true}
use Rattle.std.proofs.lemmas.List.Sums.{prefix_len-le-length}
use Rattle.crew_resource.specs.Members.{Member}
use Rattle.crew_front.proofs.EntryLemmas.{insert-first, on_err, room}
use Rattle.crew_resource.proofs.Members.{Member-map_in}
use Rattle.crew_pairing.specs.Legs.{Leg}
use Rattle.crew_resource.specs.Entries.{placed}
use Rattle.crew_front.specs.Machinery.Grades.{Admitted}
use Rattle.crew_front.proofs.front.join.Goals as goal

pub drop_beaten-requires : goal.drop_beaten-requires
drop_beaten-requires g c f e m =
    let Entry = g.row.R-Value.Denot × List (List Leg) in
    let old = c.args.entries.now.items in
    let there = c.requires.same.forth e.0 (Member-map_in (λ (e : Entry). e.0) old e (subst (λ (es : List Entry). Member es e) c.in_ok-reserve.ensures.items m)) in
    let none = c.in_ok-any.ensures.none f e.0 there in
    subst (λ v. g.R.Resource.below v e.0 ≡ false) c.in_ok-twin.ensures none

pub insert-requires : goal.insert-requires
insert-requires g c =
    omega (arith, c.gap_for-gap.ensures, prefix_len-le-length (λ e. not (is_lt (g.R.Value.Ord.cmp c.args.value e.0))) c.deref.result.now, c.deref.ensures.len)

pub returns-clause-ok : goal.returns-clause-ok
returns-clause-ok g c =
    let items = c.drop_beaten.new.entries.items in
    let p = λ (e : g.row.R-Value.Denot × List (List Leg)). is_lt (g.R.Value.Ord.cmp c.args.value e.0) in
    let q = λ (e : g.row.R-Value.Denot × List (List Leg)). not (g.R.Resource.below c.args.value e.0) in
    let x : g.row.R-Value.Denot × List (List Leg) = (c.args.value, c.args.walk) in
    c.in_ok-insert.ensures.items
    ∙ (ap (λ i. insert items i x) (c.gap_for-gap.ensures ∙ ap (position_or_len p) c.deref.ensures.value)
    ∙ (insert-first p x items
    ∙ ap (placed p x) (c.drop_beaten.ensures.kept ∙ ap (filter q) c.in_ok-reserve.ensures.items)))

-- after the reserve there is room for the entry
pub returns-in_err-insert-clause-err : goal.returns-in_err-insert-clause-err
returns-in_err-insert-clause-err g c = absurd (false≢true (c.in_err-insert.ensures.succeeds (room c.in_ok-reserve.ensures.ok c.drop_beaten.ensures.fewer c.drop_beaten.ensures.capacity)))

pub returns-clause-buckets : goal.returns-clause-buckets
returns-clause-buckets g c = subst (λ v. Admitted g.R.Resource.below v c.args.buckets.now c.admit.new.self) c.in_ok-twin.ensures c.in_ok-any.ensures.ok

pub returns-in_err-reserve-clause-err : goal.returns-in_err-reserve-clause-err
returns-in_err-reserve-clause-err g c =
    on_err c.from_residual.result ((c.reserve.new.self.items ≡ c.args.entries.now.items) × (c.args.buckets.now ≡ c.args.buckets.now)) (c.in_err-reserve.ensures.items, refl)

pub returns-in_err-twin-clause-err : goal.returns-in_err-twin-clause-err
returns-in_err-twin-clause-err g c =
    on_err c.from_residual-in_err-twin.result ((c.reserve.new.self.items ≡ c.args.entries.now.items) × (c.args.buckets.now ≡ c.args.buckets.now)) (c.in_ok-reserve.ensures.items, refl)

pub returns-in_err-any-clause-err : goal.returns-in_err-any-clause-err
returns-in_err-any-clause-err g c =
    on_err c.from_residual-in_err-any.result ((c.reserve.new.self.items ≡ c.args.entries.now.items) × (c.admit.new.self ≡ c.args.buckets.now)) (c.in_ok-reserve.ensures.items, c.in_err-any.ensures.err)
