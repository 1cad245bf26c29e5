use Rattle.std.proofs.Common.{◌≡◌, ◌∙◌, ◌<◌, List, Some, [], ap, get_or, length, sym, subst}
use Rattle.std.specs.Prelude.{slice_get}
use Rattle.crew_answers.specs.Fronts.{RiseByVector}
use Rattle.crew_answers.specs.Shown.{shown_entries}
use Rattle.crew_answers.specs.declared.value.LongValue.{LongValue}
use Rattle.crew_label.specs.Tables.{Tabled}
use Rattle.crew_label.specs.declared.label.Label.{Label}
use Rattle.crew_net.specs.Nets.{Net}
use Rattle.crew_pairing.specs.Duties.{RiseByKey}
use Rattle.crew_pairing.specs.declared.duty.Duty.{Duty}
use Rattle.crew_net.proofs.Slices.{get-at}
use Rattle.crew_pass.specs.Passes.{BasePass, keyed_entries}
use Rattle.crew_rules.specs.declared.settings.Settings.{Settings}
use Rattle.crew_fronts.specs.Fronts.{BaseFronts, front_at}
use Rattle.crew_fronts.specs.Machinery.Lent.{label_entries}
use Rattle.crew_fronts.proofs.Passed.{passed-at, passed-rises}
use Rattle.crew_fronts.proofs.Remembered.{there}
use Rattle.crew_fronts.proofs.passed_fronts.PassedFronts.front.Goals as goal

same-entries : (t u : Tabled LongValue) (ds es : List Duty) (r s : Settings) (d e : Duty) (ls ms : List (Label LongValue)) → t ≡ u → ds ≡ es → r ≡ s → d ≡ e → ls ≡ ms → label_entries t ds r d ls ≡ label_entries u es s e ms
same-entries t u ds es r s d e ls ms a b c f g = λ i. label_entries (a i) (b i) (c i) (f i) (g i)

-- the entries are those of the duty's front
is-front : (c : goal.After-new) (d : Duty) → slice_get c.self.inside.passed.pass.net.duties c.args.rank ≡ Some d → c.new.result ≡ shown_entries c.self.inside.passed.pass.net.settings d (keyed_entries c.self.inside.passed.pass c.args.rank)
is-front c d at =
    let p = c.self.inside.passed.pass in
    let shows = c.fronts-fronts.ensures.shows in
    let net-shown = c.net-net.ensures ∙ ap (λ (b : BasePass LongValue). b.net) shows in
    let net : c.deref-2.result.now ≡ p.net = c.deref-2.ensures ∙ net-shown in
    let settings : c.settings.result.now ≡ p.net.settings = c.settings.ensures.value ∙ ap (λ (n : Net). n.settings) (c.deref-4.ensures ∙ net-shown) in
    let duties : c.duties-duties.result.now ≡ p.net.duties = c.duties-duties.ensures ∙ ap (λ (n : Net). n.duties) net in
    let duty = c.at.result.now in
    let here : slice_get p.net.duties c.args.rank ≡ Some duty = subst (λ (ds : List Duty). slice_get ds c.args.rank ≡ Some duty) duties c.at.ensures in
    let own : duty ≡ d = sym (get-at p.net.duties c.args.rank duty duty here) ∙ get-at p.net.duties c.args.rank d duty at in
    let labels : c.as_slice-labels.result.now ≡ get_or p.fronts c.args.rank [] = c.as_slice-labels.ensures.all ∙ (c.deref-3.ensures ∙ (c.front.ensures.front ∙ ap (λ (b : BasePass LongValue). get_or b.fronts c.args.rank []) shows)) in
    c.new.ensures ∙ same-entries _ (record { leaves = p.leaves; pools = p.pools }) _ p.net.duties _ p.net.settings _ d _ (get_or p.fronts c.args.rank []) (c.table.ensures ∙ ap (λ (b : BasePass LongValue). (let t : Tabled LongValue = record { leaves = b.leaves; pools = b.pools } in t)) shows) duties settings own labels

pub returns-clause-front : goal.returns-clause-front
returns-clause-front c = λ d at.
    let f = c.self.inside in
    let p = f.passed.pass in
    let here : slice_get p.net.duties c.args.rank ≡ Some d = subst (λ (b : BaseFronts). slice_get b.net.duties c.args.rank ≡ Some d) (sym c.self.view_is) at in
    let net : c.deref.result.now ≡ p.net = c.deref.ensures ∙ (c.net-net.ensures ∙ ap (λ (b : BasePass LongValue). b.net) c.fronts-fronts.ensures.shows) in
    let rise = subst (λ (n : Net). RiseByKey n.duties) net c.duty_count.ensures.rising in
    is-front c d here ∙ (sym (passed-at f.base f.price p c.args.rank d rise here) ∙ ap (λ b. front_at b d) c.self.view_is)

pub returns-clause-rises : goal.returns-clause-rises
returns-clause-rises c =
    let f = c.self.inside in
    let p = f.passed.pass in
    let within : c.args.rank < length p.net.duties = subst (λ (b : BaseFronts). c.args.rank < length b.net.duties) (sym c.self.view_is) c.requires in
    let found = there p.net.duties c.args.rank within in
    subst RiseByVector (sym (is-front c found.0 found.1)) (passed-rises p c.args.rank found.0 c.self.invariant.passed.valued c.self.invariant.passed.listed within)
