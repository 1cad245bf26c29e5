use Rattle.std.proofs.Common.{◌≡◌, ◌∙◌, ℕ, List, Vec, Global, ap, map}
use Rattle.crew_pool.specs.Machinery.Links.{link_now, link_under, rank_now}
use Rattle.crew_pool.specs.Renumbered.{rank_under}
use Rattle.crew_pool.specs.declared.links.Link.{Link}
use Rattle.crew_pool.proofs.LinkLemmas.{links-turned}
use Rattle.crew_pool.proofs.links.Beginning.under.Goals as goal

pub returns : goal.returns
returns c =
    let T = c.args.twins.now in
    let olds = c.self.inside.links.value.items in
    let links = c.in_ok-links.links.value.items in
    let same : links ≡ olds = ap (λ (v : Vec Link Global). v.items) c.in_ok-links.ensures in
    let turned = λ (rank : ℕ). c.in_ok-ranks.ensures rank ∙ ap (λ (rs : List ℕ). rank_under T (rank_now rs rank)) c.deref.ensures.value in
    ap (map (link_now c.in_ok-ranks.ranks.items)) same ∙ (links-turned T c.self.inside.ranks.items c.in_ok-ranks.ranks.items turned olds ∙ ap (map (link_under T)) c.self.view_is)
