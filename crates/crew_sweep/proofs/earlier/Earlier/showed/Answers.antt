use Rattle.std.proofs.Common.{◌<◌, List, Option, length, subst, sym, ℕ}
use Rattle.crew_sweep.proofs.KeptSteps.{AreAlike}
use Rattle.crew_sweep.proofs.earlier.Earlier.showed.Goals as goal

pub are_alike-requires-clause-old_there : goal.are_alike-requires-clause-old_there
are_alike-requires-clause-old_there c l m = subst (λ (ws : List (List ℕ)). l.1.walk < length ws) (sym c.walks-from.ensures) (c.in_ok-before.ensures.counts l m).there

pub are_alike-requires-clause-new_there : goal.are_alike-requires-clause-new_there
are_alike-requires-clause-new_there c l m = (c.requires.counts l m).there

pub returns : goal.returns
returns c ok =
    let e = c.args.self.now in
    let g = c.args.ground.now in
    let old = e.sweep.now in
    let was = c.in_ok-before.before in
    let pool = c.args.pool.now in
    let walks = c.args.walks.now in
    let alike = subst (λ (rs : List (Option ℕ)). AreAlike rs old.walks was walks pool) c.ranks-ranks.ensures
    (subst (λ (ws : List (List ℕ)). AreAlike c.ranks-ranks.result.now ws was walks pool) c.walks-from.ensures (c.are_alike.ensures.alike ok)) in (
      was,
      c.in_ok-before.ensures,
      λ l.
          let k = alike old.net.duties g.net.now.duties c.requires.beside.earlier.twins.ranks l in
          (k.1, k.0),
    )
