use Rattle.std.proofs.Common.{List, [], ◌∷◌, ◌++◌, map, get_or, sym, ◌∙◌, subst}
use Rattle.std.proofs.lemmas.Option.{slice_get-get_or}
use Rattle.crew_resource.specs.Members.{Member}
use Rattle.crew_pool.specs.LabelWalks.{IsPoolOf, lesser_label_walk, shown}
use Rattle.crew_pool.specs.declared.label_walk.LabelWalk.{LabelWalk}
use Rattle.crew_resource.proofs.Members.{Member-at}
use Rattle.crew_resource.proofs.Order.{order}
use Rattle.crew_pool.proofs.MergeLemmas.{beaten_local, lowered_from, lowered_vectors, tied_at, tied_local}
use Rattle.crew_pool.proofs.merge.yield_to.Goals as goal

pub lower-requires-clause-alike : goal.lower-requires-clause-alike
lower-requires-clause-alike g c v was e =
    let o = order g.R.Value.Ord.cmp g.R.Resource.below g.met.R.Resource.order in
    c.requires.alike (v, was) (Member-at c.args.labels.now c.args.place (v, was) e)
    (o.antisymmetric v c.args.label.now.0 (c.requires.lower (v, was) e) (sym (c.is_reached.ensures (v, was) e) ∙ c.if-is_reached.true))

pub returns-then-is_reached-clause-vectors : goal.returns-then-is_reached-clause-vectors
returns-then-is_reached-clause-vectors g c =
    let below = g.R.Resource.below in
    let o = order g.R.Value.Ord.cmp below g.met.R.Resource.order in
    let l = c.args.label.now in
    let ws = c.args.walks.now in
    let items = c.args.labels.now in
    let tied = tied_at below o items c.args.place l c.requires.place c.requires.lower c.is_reached.result c.is_reached.ensures c.if-is_reached.true in
    lowered_vectors items c.lower.new.self c.args.place l.0 tied.0 (lesser_label_walk ws tied.0 l.1) tied.1 (c.lower.ensures.lowered l.0 tied.0 tied.1)

pub returns-then-is_reached-clause-from : goal.returns-then-is_reached-clause-from
returns-then-is_reached-clause-from g c a m =
    let below = g.R.Resource.below in
    let o = order g.R.Value.Ord.cmp below g.met.R.Resource.order in
    let l = c.args.label.now in
    let ws = c.args.walks.now in
    let items = c.args.labels.now in
    let tied = tied_at below o items c.args.place l c.requires.place c.requires.lower c.is_reached.result c.is_reached.ensures c.if-is_reached.true in
    let now = c.lower.ensures.lowered l.0 tied.0 tied.1 in
    lowered_from items c.args.place l tied.0 ws a tied.1 (subst (λ (es : List (g.row.R-Value.Denot × LabelWalk)). Member es a) now m)

pub returns-then-is_reached-clause-local : goal.returns-then-is_reached-clause-local
returns-then-is_reached-clause-local g c cs i =
    let below = g.R.Resource.below in
    let o = order g.R.Value.Ord.cmp below g.met.R.Resource.order in
    let l = c.args.label.now in
    let ws = c.args.walks.now in
    let items = c.args.labels.now in
    let tied = tied_at below o items c.args.place l c.requires.place c.requires.lower c.is_reached.result c.is_reached.ensures c.if-is_reached.true in
    let now = c.lower.ensures.lowered l.0 tied.0 tied.1 in
    subst (λ (es : List (g.row.R-Value.Denot × LabelWalk)). IsPoolOf below (cs ++ shown ws l ∷ []) (map (shown ws) es)) (sym now)
    (tied_local below o ws items c.args.place l.0 l.1 tied.0 cs c.requires.apart tied.1 i)

pub returns-else-is_reached-clause-local : goal.returns-else-is_reached-clause-local
returns-else-is_reached-clause-local g c cs i =
    let below = g.R.Resource.below in
    let o = order g.R.Value.Ord.cmp below g.met.R.Resource.order in
    let l = c.args.label.now in
    let ws = c.args.walks.now in
    let items = c.args.labels.now in
    let item = get_or items c.args.place l in
    let here = slice_get-get_or items c.args.place l c.requires.place in
    beaten_local below o ws items l item cs (Member-at items c.args.place item here) (c.requires.lower item here) (sym (c.is_reached.ensures item here) ∙ c.if-is_reached.false) i
