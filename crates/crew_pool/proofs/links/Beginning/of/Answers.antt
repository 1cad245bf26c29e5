use Rattle.std.proofs.Common.{◌≡◌, ◌∙◌, List, ℕ, Vec, Global, ap, map}
use Rattle.crew_pool.specs.Machinery.Links.{link_now}
use Rattle.crew_pool.specs.declared.links.Link.{Link}
use Rattle.crew_pool.proofs.LinkLemmas.{links-stay}
use Rattle.crew_pool.proofs.links.Beginning.of.Goals as goal

pub returns : goal.returns
returns c =
    let links = c.in_ok-links.links.value.items in
    let same : links ≡ c.args.links.items = ap (λ (v : Vec Link Global). v.items) c.in_ok-links.ensures.ok in
    ap (λ (ranks : List ℕ). map (link_now ranks) links) c.new-ranks.ensures.items ∙ (links-stay links ∙ same)
