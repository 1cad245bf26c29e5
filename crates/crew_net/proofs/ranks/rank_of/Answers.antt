use Rattle.std.proofs.Common.{◌≡◌, true, true≢false, ◌<◌, ◌∙◌, sym, ap, arith, length}
use Rattle.crew_pairing.specs.declared.duty.Duty.{Duty}
use Rattle.crew_net.proofs.Ranking.{equal-key, key-exact, stands-at}
use Rattle.crew_net.proofs.Slices.{get-at}
use Rattle.std.specs.Ordering.{eq_by_cmp}
use Rattle.crew_pairing.specs.Keys.{key_cmp}
use Rattle.crew_net.proofs.ranks.rank_of.Goals as goal

pub returns-then-rank-len : goal.returns-then-rank-len
returns-then-rank-len c = λ d m same.
    let at = stands-at c.args.duties.now c.args.key.now c.key_start-rank.result c.requires c.key_start-rank.ensures.start d m same in
    let within = at.0 in
    omega (arith, within, c.if-rank-len.true, c.len.ensures)

pub returns-then-eq : goal.returns-then-eq
returns-then-eq c =
    let within : c.key_start-rank.result < length c.args.duties.now = omega (arith, c.if-rank-len.false, c.len.ensures) in
    let same = key-exact c.at.result.now.key c.args.key.now (sym c.if-eq.ensures) in
    (within, λ e. ap (λ (d : Duty). d.key) (get-at c.args.duties.now c.key_start-rank.result c.at.result.now e c.at.ensures) ∙ same)

pub returns : goal.returns
returns c = λ d m same.
    let at = stands-at c.args.duties.now c.args.key.now c.key_start-rank.result c.requires c.key_start-rank.ensures.start d m same in
    let is : c.at.result.now ≡ d = sym (get-at c.args.duties.now c.key_start-rank.result c.at.result.now d c.at.ensures) ∙ at.1 d in
    let yes : eq_by_cmp key_cmp c.at.result.now.key c.args.key.now ≡ true = equal-key c.at.result.now.key c.args.key.now (ap (λ (x : Duty). x.key) is ∙ same) in
    true≢false (sym yes ∙ sym c.if-eq.ensures)
