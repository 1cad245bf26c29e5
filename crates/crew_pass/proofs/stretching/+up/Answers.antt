use Rattle.std.proofs.Common.{◌≡◌, ◌∙◌, ◌+◌, ◌-◌, ℕ, List, sym, ap, subst, arith}
use Rattle.std.specs.Arc.{arc_value}
use Rattle.crew_label.specs.Tables.{Leaving}
use Rattle.crew_label.specs.declared.label.Label.{Label}
use Rattle.crew_labelling.specs.Terms.{terms_of}
use Rattle.crew_net.specs.Nets.{Net}
use Rattle.crew_pass.specs.Machinery.Stretches.{IsStretch}
use Rattle.crew_pass.specs.Machinery.Terms.{basis_leaving, terms}
use Rattle.crew_pass.proofs.Based.{to-basis}
use Rattle.crew_pass.proofs.Stretched.{longer-up, none-stretches, stretch-counts}
use Rattle.crew_pass.proofs.stretching.+up.Goals as goal

pub returns-then-end-middle : goal.returns-then-end-middle
returns-then-end-middle g t c =
    let w = (terms g.R.Value.Ord.cmp g.R.Lapses g.R.Staged g.R.Forgets g.R.Resource c.args.ground.now) in
    let none = ap (λ s. s.pool) c.in_ok-new.ensures.ok ∙ c.none.ensures in
    record { stretch = none-stretches w c.requires.may c.args.middle c.args.end _ c.if-end-middle.true none }

pub one_more-requires-clause-counts : goal.one_more-requires-clause-counts
one_more-requires-clause-counts g t c =
    let w = (terms g.R.Value.Ord.cmp g.R.Lapses g.R.Staged g.R.Forgets g.R.Resource c.args.ground.now) in
    let most = c.requires.within in
    let more = c.if-end-middle.false in
    let same = ap (λ s. s.pool) c.deref.ensures in
    let stretch = subst (λ (ls : List (Label g.row.R-Value.Denot)). IsStretch w c.args.middle (c.args.end - 1) ls) (sym same) c.in_ok-shorter.ensures.stretch in
    stretch-counts w c.requires.may c.args.seen.now c.requires.seen c.args.middle (c.args.end - 1) c.deref.result.now.pool (omega (arith, most, more))
    (λ p a b. c.requires.there p (omega (arith, a)) (omega (arith, b))) stretch

pub offer-requires-clause-right : goal.offer-requires-clause-right
offer-requires-clause-right g t c =
    let w = (terms g.R.Value.Ord.cmp g.R.Lapses g.R.Staged g.R.Forgets g.R.Resource c.args.ground.now) in
    let most = c.requires.within in
    let more = c.if-end-middle.false in
    let same = ap (λ s. s.pool) c.deref.ensures in
    let shorter = subst (λ (ls : List (Label g.row.R-Value.Denot)). IsStretch w c.args.middle (c.args.end - 1) ls) (sym same) c.in_ok-shorter.ensures.stretch in
    let whole = c.in_ok-pool.pool in
    let longer = longer-up w c.requires.may c.deref.result.now.pool whole (c.args.end - 1) (omega (arith, most, more)) c.in_ok-pool.ensures.pool c.in_ok-pool.ensures.from c.args.middle (omega (arith, more)) shorter in
    let made = ap (λ s. s.pool) (c.in_ok-try_clone-2.ensures ∙ c.in_ok-stretch.ensures.ok) in
    let at = ap (λ s. s.middle) (c.in_ok-try_clone-2.ensures ∙ c.in_ok-stretch.ensures.ok) in
    let over = λ (r : g.row.R.Denot) (n : Net) (s ns : List ℕ) (q : Leaving). terms_of g.R.Value.Ord.cmp g.R.Lapses g.R.Staged g.R.Forgets g.R.Resource r n s ns q in
    subst (λ (m : ℕ). IsStretch (over c.args.cells.now.ups.basis.resource.value c.args.cells.now.ups.basis.net.value c.args.cells.now.ups.basis.base c.args.cells.now.ups.basis.places.value.numbers.value.items (basis_leaving c.args.cells.now.ups.basis)) m (c.args.end - 1 + 1) (arc_value c.in_ok-try_clone-2.field-0).pool) (sym at)
    (to-basis c.args.ground.now c.args.cells.now.ups.basis c.requires.cells.ups.basis (λ r n s ns q. IsStretch (over r n s ns q) c.args.middle (c.args.end - 1 + 1) (arc_value c.in_ok-try_clone-2.field-0).pool)
    (subst (λ (ls : List (Label g.row.R-Value.Denot)). IsStretch w c.args.middle (c.args.end - 1 + 1) ls) (sym made) longer))

pub returns : goal.returns
returns g t c =
    let w = (terms g.R.Value.Ord.cmp g.R.Lapses g.R.Staged g.R.Forgets g.R.Resource c.args.ground.now) in
    let most = c.requires.within in
    let more = c.if-end-middle.false in
    let same = ap (λ s. s.pool) c.deref.ensures in
    let shorter = subst (λ (ls : List (Label g.row.R-Value.Denot)). IsStretch w c.args.middle (c.args.end - 1) ls) (sym same) c.in_ok-shorter.ensures.stretch in
    let whole = c.in_ok-pool.pool in
    let longer = longer-up w c.requires.may c.deref.result.now.pool whole (c.args.end - 1) (omega (arith, most, more)) c.in_ok-pool.ensures.pool c.in_ok-pool.ensures.from c.args.middle (omega (arith, more)) shorter in
    let made = ap (λ s. s.pool) c.in_ok-stretch.ensures.ok in
    record { stretch = subst (λ (ls : List (Label g.row.R-Value.Denot)). IsStretch w c.args.middle c.args.end ls) (sym made) (subst (λ (n : ℕ). IsStretch w c.args.middle n whole) (let e : c.args.end - 1 + 1 ≡ c.args.end = omega (arith, more) in e) longer) }
