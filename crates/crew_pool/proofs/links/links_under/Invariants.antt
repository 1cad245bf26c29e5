use Rattle.std.proofs.Common.{◌≡◌, map, take}
use Rattle.crew_pool.specs.Machinery.Links.{link_under}
use Rattle.crew_pool.proofs.links.links_under.Given as goal

abbrev pub invariant-loop-link : goal.invariant-loop-link
invariant-loop-link l = l.news.items ≡ map (link_under l.twins) (take l.link-index l.links)
