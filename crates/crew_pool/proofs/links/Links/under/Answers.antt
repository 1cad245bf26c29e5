use Rattle.std.proofs.Common.{◌≡◌, ◌++◌, ◌∙◌, ap, ap₂, arith, length, map, sym}
use Rattle.std.proofs.lemmas.List.{length-map, map-append}
use Rattle.crew_pool.specs.Machinery.Links.{begun, link_under}
use Rattle.crew_pool.proofs.links.Links.under.Goals as goal

pub invariant_of-result : goal.invariant_of-result
invariant_of-result c =
    let T = link_under c.args.twins.now in
    let olds = begun c.self.inside.beginning in
    let own = c.self.inside.own.items in
    let all : begun c.in_ok-beginning.beginning ++ c.in_ok-own.own.items ≡ map T (olds ++ own) = ap₂ ◌++◌ c.in_ok-beginning.ensures (c.in_ok-own.ensures ∙ ap (map T) c.deref.ensures.value) ∙ sym (map-append T olds own) in
    omega (arith, ap length all, length-map (olds ++ own) T, c.self.invariant)

pub returns : goal.returns
returns c =
    let T = link_under c.args.twins.now in
    let olds = begun c.self.inside.beginning in
    let own = c.self.inside.own.items in
    ap₂ ◌++◌ c.in_ok-beginning.ensures (c.in_ok-own.ensures ∙ ap (map T) c.deref.ensures.value) ∙ (sym (map-append T olds own) ∙ ap (map T) c.self.view_is)
