use Rattle.std.proofs.Common.{◌∙◌, List, ap, length, sym, ℕ}
use Rattle.crew_sweep.proofs.renewal.walks_beside.Goals as goal

pub returns-then-count-labels : goal.returns-then-count-labels
returns-then-count-labels c =
    let e = c.args.earlier.now in
    let count = sym (c.count-then-count-labels.ensures ∙ ap (λ (ws : List (List ℕ)). length ws) c.walks-from.ensures) in
    c.in_ok-carrier.ensures e.twins.now.ranks e.sweep.now.walks c.new-then-count-labels.result count
