use Rattle.std.proofs.Common.{◌≡◌, ◌∙◌, ◌≤◌, suc, List, [], get_or, length, arith, ap, sym, subst}
use Rattle.crew_label.specs.Boarding.{boarded_from}
use Rattle.crew_label.specs.Pools.{AreRising}
use Rattle.crew_label.specs.Walks.{shown}
use Rattle.crew_label.specs.declared.label.Label.{Label}
use Rattle.crew_labelling.specs.Held.{trail_of}
use Rattle.crew_labelling.specs.Labellings.{labelling_of}
use Rattle.crew_labelling.specs.Terms.{number_of}
use Rattle.crew_labelling.proofs.Right.{departures-ready, fronts-rise}
use Rattle.crew_net.proofs.Slices.{member-got}
use Rattle.crew_resource.specs.Members.{Member}
use Rattle.crew_pass.specs.Machinery.Terms.{labels_table, terms}
use Rattle.crew_pass.proofs.Boardings.{front-is-aboard}
use Rattle.crew_pass.proofs.boards.plain_front.Goals as goal

pub boarded-requires : goal.boarded-requires
boarded-requires g c l n =
    let m = subst (λ (ls : List (Label g.row.R-Value.Denot)). Member ls l) c.as_slice.ensures.all n in
    let w = (terms g.R.Value.Ord.cmp g.R.Lapses g.R.Staged g.R.Forgets g.R.Resource c.args.ground.now) in
    let t = labels_table w in
    let y = labelling_of w in
    let may = c.requires.may in
    let rank = c.args.rank in
    let net = c.args.ground.now.net.now in
    let position = get_or w.leaves.positions rank 0 in
    let d = c.duty-duty.result.now in
    let known = c.duty-duty.ensures in
    let pool = c.at-pool.result.now in
    let own = c.requires.seen.departures.same position pool c.at-pool.ensures in
    let r = c.args.ground.now.resource.now in
    let k = (departures-ready w may.terms may.lawful position l (subst (λ (ls : List (Label g.row.R-Value.Denot)). Member ls l) own m)).entry in
    let long = length (shown (trail_of t) l).1 in
    let few : long ≤ may.terms.counts.limit = k.few may.terms.counts.limit may.terms.counts.has_most in
    (g.met.R.Staged.bounds r).boards long l.value d (may.terms.passable.sound d (member-got net.duties rank d known)) (may.terms.counts.fit (suc long) (omega (arith, few))) k.bound

pub from_rising-requires : goal.from_rising-requires
from_rising-requires g c =
    let w = (terms g.R.Value.Ord.cmp g.R.Lapses g.R.Staged g.R.Forgets g.R.Resource c.args.ground.now) in
    let may = c.requires.may in
    let rank = c.args.rank in
    let r = c.args.ground.now.resource.now in
    let d = c.duty-duty.result.now in
    let pool = c.at-pool.result.now in
    let position = get_or w.leaves.positions rank 0 in
    let own = c.as_slice.ensures.all ∙ c.requires.seen.departures.same position pool c.at-pool.ensures in
    let plain = g.met.R.Pooled.plainly r c.requires.plain in
    let shift = g.met.R.Staged.shifting r plain.shifts in
    let is = front-is-aboard w may plain.sums_alone rank d c.duty-duty.ensures (λ a b y z. shift.board_reflects a b y z d) (λ a b y z p q h. shift.board_listed a b y z d p q ∙ h) in
    let made : c.in_ok-front.front.items ≡ get_or (labelling_of w).fronts rank [] =
    c.in_ok-front.ensures ∙ (ap (λ (ls : List (Label g.row.R-Value.Denot)). boarded_from (λ v. g.R.Staged.boards r v d) (number_of w rank) 0 ls) own ∙ sym is) in
    subst (λ (ls : List (Label g.row.R-Value.Denot)). AreRising w.cmp ls) (sym made) (fronts-rise w may.terms may.lawful rank)

pub returns : goal.returns
returns g c =
    let w = (terms g.R.Value.Ord.cmp g.R.Lapses g.R.Staged g.R.Forgets g.R.Resource c.args.ground.now) in
    let may = c.requires.may in
    let rank = c.args.rank in
    let r = c.args.ground.now.resource.now in
    let d = c.duty-duty.result.now in
    let pool = c.at-pool.result.now in
    let position = get_or w.leaves.positions rank 0 in
    let own = c.as_slice.ensures.all ∙ c.requires.seen.departures.same position pool c.at-pool.ensures in
    let plain = g.met.R.Pooled.plainly r c.requires.plain in
    let shift = g.met.R.Staged.shifting r plain.shifts in
    let is = front-is-aboard w may plain.sums_alone rank d c.duty-duty.ensures (λ a b y z. shift.board_reflects a b y z d) (λ a b y z p q h. shift.board_listed a b y z d p q ∙ h) in
    let made : c.in_ok-front.front.items ≡ get_or (labelling_of w).fronts rank [] =
    c.in_ok-front.ensures ∙ (ap (λ (ls : List (Label g.row.R-Value.Denot)). boarded_from (λ v. g.R.Staged.boards r v d) (number_of w rank) 0 ls) own ∙ sym is) in
    c.from_rising.ensures ∙ made
