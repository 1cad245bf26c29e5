use Rattle.std.proofs.Common.{◌≡◌, ◌∙◌, ℕ, List, [], Some, ap, get_or, subst}
use Rattle.std.specs.Prelude.{slice_get}
use Rattle.crew_labelling.specs.Passes.{BasePass}
use Rattle.crew_pass.proofs.Staying.{front-there}
use Rattle.crew_pass.proofs.takeover.front_there.Goals as goal

pub returns : goal.returns
returns g c =
    let right = c.fronts.ensures.right in
    let other = c.in_ok-other.other in
    let at = subst (λ (ts : List ℕ). slice_get ts c.args.rank ≡ Some other) c.deref.ensures.value c.in_ok-other.ensures.at in
    let there = front-there g.R.Value.Ord.cmp g.R.Lapses g.R.Staged g.R.Forgets g.R.Resource c.args.ground.now c.args.beside.now c.requires.beside c.requires.may right c.args.rank other at c.in_ok-other.ensures.some (c.boards_alike.ensures c.if-not-boards_alike.false) in
    c.front.ensures.front ∙ (ap (λ (p : BasePass g.row.R-Value.Denot). get_or p.fronts other []) (c.fronts.ensures.shows ∙ right.shown) ∙ there)
