use Rattle.std.proofs.Common.{◌≡◌, true, List, map, sym, subst, ap, ◌∙◌, ⊎_elim}
use Rattle.std.specs.declared.cmp.Ordering.TheVariants.{Less}
use Rattle.crew_label.specs.Pools.{ArePoolOf}
use Rattle.crew_label.specs.declared.label.Label.{Label}
use Rattle.crew_label.proofs.Waiting.{waited-on}
use Rattle.crew_label.proofs.pool.Pool.waited.Goals as goal

pub from_rising-requires : goal.from_rising-requires
from_rising-requires g c = c.in_ok-labels.ensures.listed (λ a b m n h.
    let r = c.args.resource.now in
    let x = c.args.arrival.now in
    let d = c.args.departure.now in
    let cmp = g.R.Value.Ord.cmp in
    let wait = λ (v : g.row.R-Value.Denot). g.R.Staged.waited r v x d in
    ⊎_elim {C = cmp (wait a.value) (wait b.value) ≡ Less}
    (λ e. (g.met.R.Lapses.waiting r).wait_rises a.value b.value x d e h)
    (λ e.
    let laws = g.met.R.Lapses.resting r in
    let u = e.1 a m in
    let v = e.1 b n in
    let one : wait a.value ≡ wait u.0 = ap wait u.1 ∙ laws.rest_is u.0 x d e.0 in
    let two : wait b.value ≡ wait v.0 = ap wait v.1 ∙ laws.rest_is v.0 x d e.0 in
    let t = laws.rest_rises u.0 v.0 x d e.0 (subst (λ z. cmp z (g.R.Lapses.rested_of r v.0) ≡ Less) u.1 (subst (λ z. cmp a.value z ≡ Less) v.1 h)) in
    subst (λ z. cmp z (wait b.value) ≡ Less) (sym one) (subst (λ z. cmp (wait u.0) z ≡ Less) (sym two) t))
    c.requires.stays)

pub returns-clause-pool : goal.returns-clause-pool
returns-clause-pool g c trail candidates h =
    let r = c.args.resource.now in
    let x = c.args.arrival.now in
    let d = c.args.departure.now in
    let wait = λ (v : g.row.R-Value.Denot). g.R.Staged.waited r v x d in
    let below = g.R.Resource.below in
    let same = g.R.Forgets.same_sums in
    subst (λ (ls : List (Label g.row.R-Value.Denot)). ArePoolOf below same trail (map (λ e. (wait e.0, e.1)) candidates) ls) (sym (c.from_rising.ensures ∙ c.in_ok-labels.ensures.labels))
    (waited-on below same trail wait (λ a b. (g.met.R.Forgets.forgets r).wait_monotone a b x d) (λ a b. (g.met.R.Lapses.together r).wait_same a b x d) c.args.self.now
    (λ a b m n h. ⊎_elim {C = below a.value b.value ≡ true}
    (λ e. (g.met.R.Lapses.waiting r).wait_reflects a.value b.value x d e h)
    (λ e.
    let laws = g.met.R.Lapses.resting r in
    let u = e.1 a m in
    let v = e.1 b n in
    let one : wait a.value ≡ wait u.0 = ap wait u.1 ∙ laws.rest_is u.0 x d e.0 in
    let two : wait b.value ≡ wait v.0 = ap wait v.1 ∙ laws.rest_is v.0 x d e.0 in
    let t = laws.rest_reflects u.0 v.0 x d e.0 (subst (λ z. below z (wait v.0) ≡ true) one (subst (λ z. below (wait a.value) z ≡ true) two h)) in
    subst (λ z. below z b.value ≡ true) (sym u.1) (subst (λ z. below (g.R.Lapses.rested_of r u.0) z ≡ true) (sym v.1) t))
    c.requires.stays)
    candidates h)
