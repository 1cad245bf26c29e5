use Rattle.std.proofs.Common.{◌≡◌, [], ◌∷◌, ◌++◌, length, sym, ◌∙◌, ap, subst, arith}
use Rattle.crew_pool.specs.Arena.{walk_at}
use Rattle.crew_pool.specs.Machinery.ArenaLinks.{all_walks, AreLinked}
use Rattle.crew_pool.specs.declared.links.Link.{Link}
use Rattle.crew_pool.proofs.ArenaLemmas.{length-all_walks, all_walks-more, AreLinked-more}
use Rattle.crew_pool.proofs.arena.Walks.add.Goals as goal

pub invariant_of-self-2 : goal.invariant_of-self-2
invariant_of-self-2 c =
    let links = c.self.inside.links in
    let l : Link = record { before = c.args.before; duty = c.args.duty } in
    let long : length (all_walks links) ≡ length c.args.self.now = ap length c.self.view_is in
    let n = length-all_walks links in
    let now : c.push.new.self ≡ links ++ l ∷ [] = c.in_ok-push.ensures.ok in
    subst (AreLinked 0) (sym now) (AreLinked-more 0 links l c.self.invariant (omega (arith, c.requires)))

pub returns-clause-ok : goal.returns-clause-ok
returns-clause-ok c =
    let links = c.self.inside.links in
    let long : length (all_walks links) ≡ length c.args.self.now = ap length c.self.view_is in
    let n = length-all_walks links in
    omega arith

pub returns-clause-added : goal.returns-clause-added
returns-clause-added c =
    let links = c.self.inside.links in
    let l : Link = record { before = c.args.before; duty = c.args.duty } in
    let now : c.push.new.self ≡ links ++ l ∷ [] = c.in_ok-push.ensures.ok in
    ap all_walks now
    ∙ (all_walks-more links l
    ∙ ap (λ ws. ws ++ (walk_at ws c.args.before ++ c.args.duty ∷ []) ∷ []) c.self.view_is)
