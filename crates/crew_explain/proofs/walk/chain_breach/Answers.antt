use Rattle.std.proofs.Common.{◌∙◌, ◌∷◌, [], List, ap, sym}
use Rattle.crew_pairing.specs.declared.duty.Duty.{Duty}
use Rattle.crew_explain.specs.Machinery.Firsts.{earliest}
use Rattle.crew_explain.specs.Rules.{first_of, free_times, rests, returning, same, totals, walk_rules, windows}
use Rattle.crew_explain.specs.declared.breach.Rule.TheVariants as The
use Rattle.crew_explain.proofs.Asking.{of-six}
use Rattle.crew_explain.proofs.walk.chain_breach.Goals as goal

pub returns : goal.returns
returns c =
    let s = c.args.settings.now in
    let first = c.args.first.now in
    let others = c.args.others.now in
    let all = c.requires.split in
    let total = c.totals_breach.ensures ∙ ap (λ (ds : List Duty). first_of (totals s ds)) all in
    let window = c.windows_breach.ensures ∙ ap (λ (ds : List Duty). first_of (windows s ds 1 ds)) all in
    c.earliest.ensures
    ∙ (λ i. earliest (c.leaves_breach.ensures i ∷ c.rests_breach.ensures i ∷ total i ∷ window i ∷ c.free_times_breach.ensures i ∷ c.returns_breach.ensures i ∷ []))
    ∙ of-six (same The.Leaves 1 0 first.from c.args.base ∷ []) (rests s 2 first others) (totals s (first ∷ others)) (windows s (first ∷ others) 1 (first ∷ others)) (free_times 2 first.report first others) (returning c.args.base first others ∷ [])
    ∙ ap (λ (ds : List Duty). first_of (walk_rules s c.args.base ds)) (sym all)
