use Rattle.std.proofs.Common.{◌≡◌, ℕ, List, [], ◌∷◌, ◌++◌, true, false, not, sym, ◌∙◌, ap, subst, arith}
use Rattle.std.specs.Prelude.{nat_le}
use Rattle.std.specs.List.{filter, list_any}
use Rattle.std.proofs.lemmas.Bool.Decides.{nat_tests}
use Rattle.crew_resource.specs.Members.{Member}
use Rattle.crew_resource.proofs.Order.{IsOrder}
use Rattle.crew_resource.proofs.Values.{below_order}
use Rattle.crew_forgetful.specs.Forgetful.{IsPool, stands}
use Rattle.crew_forgetful.proofs.Offers.{pool_stays, pool_grows, pool_of_more}
use Rattle.crew_forgetful.proofs.pool.offer.Goals as goal

numbers : IsOrder nat_le
numbers = record {
  reflexive = λ a. grind (arith, nat_tests);
  transitive = λ a b c h k. grind (arith, nat_tests);
  antisymmetric = λ a b h k. grind (arith, nat_tests);
}

pub returns-then-is_reached : goal.returns-then-is_reached
returns-then-is_reached g c =
    let Entry = g.row.R-Value.Denot × ℕ in
    let below = g.R.Resource.below in
    let same = g.R.Forgets.same_sums in
    let forgets = g.met.R.Forgets.forgets c.args.resource.now in
    let old = c.args.pool.now.items in
    let reached : list_any (λ (e : Entry). stands below same nat_le e.0 e.1 c.args.value c.args.walk) old ≡ true =
    ap (list_any (λ (e : Entry). stands below same nat_le e.0 e.1 c.args.value c.args.walk)) (sym c.as_slice.ensures.value) ∙ (sym c.is_reached.ensures ∙ c.if-is_reached.true) in
    λ cs i. pool_of_more g.row.R-Value.Denot ℕ below same nat_le (below_order g.met.R.Resource.order) numbers forgets.same_itself forgets.same_between cs c.args.value c.args.walk old
    (pool_stays g.row.R-Value.Denot ℕ below same nat_le (below_order g.met.R.Resource.order) numbers forgets.same_itself forgets.same_between (λ v w. Member cs (v, w)) old c.args.value c.args.walk i reached)

pub returns : goal.returns
returns g c =
    let Entry = g.row.R-Value.Denot × ℕ in
    let below = g.R.Resource.below in
    let same = g.R.Forgets.same_sums in
    let forgets = g.met.R.Forgets.forgets c.args.resource.now in
    let old = c.args.pool.now.items in
    let new : List Entry = filter (λ (e : Entry). not (stands below same nat_le c.args.value c.args.walk e.0 e.1)) old ++ (c.args.value, c.args.walk) ∷ [] in
    let reached : list_any (λ (e : Entry). stands below same nat_le e.0 e.1 c.args.value c.args.walk) old ≡ false =
    ap (list_any (λ (e : Entry). stands below same nat_le e.0 e.1 c.args.value c.args.walk)) (sym c.as_slice.ensures.value) ∙ (sym c.is_reached.ensures ∙ c.if-is_reached.false) in
    let items : c.push.new.self.items ≡ new = c.in_ok-push.ensures.items ∙ ap (λ (es : List Entry). es ++ (c.args.value, c.args.walk) ∷ []) c.drop_reached.ensures in
    λ cs i. subst (λ (es : List Entry). IsPool below same nat_le (λ v w. Member (cs ++ (c.args.value, c.args.walk) ∷ []) (v, w)) es) (sym items)
    (pool_of_more g.row.R-Value.Denot ℕ below same nat_le (below_order g.met.R.Resource.order) numbers forgets.same_itself forgets.same_between cs c.args.value c.args.walk new
    (pool_grows g.row.R-Value.Denot ℕ below same nat_le (below_order g.met.R.Resource.order) numbers forgets.same_itself forgets.same_between (λ v w. Member cs (v, w)) old c.args.value c.args.walk i reached))
