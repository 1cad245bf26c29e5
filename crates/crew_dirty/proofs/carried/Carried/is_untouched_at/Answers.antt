use Rattle.std.proofs.Common.{◌≡◌, ◌∙◌, ◌&&◌, false, get_or, refl, sym, ap}
use Rattle.crew_dirty.proofs.Nodes.{untouched-at}
use Rattle.crew_dirty.proofs.carried.Carried.is_untouched_at.Goals as goal

pub returns-clause-told : goal.returns-clause-told
returns-clause-told c = λ t u old new code d over at known.
    let base = c.args.base in
    let rank = c.args.rank in
    let own : c.flag-own.result ≡ get_or c.args.self.now.bases base false = c.flag-own.ensures ∙ (ap (λ z. get_or z base false) c.deref.ensures.value ∙ ap (λ v. get_or v.bases base false) c.self.view_is) in
    let flag : c.flag-same.result ≡ get_or c.args.self.now.same rank false = c.flag-same.ensures ∙ (ap (λ z. get_or z rank false) c.deref-2.ensures.value ∙ ap (λ v. get_or v.same rank false) c.self.view_is) in
    let both : (c.flag-own.result && c.flag-same.result) ≡ (get_or c.args.self.now.bases base false && get_or c.args.self.now.same rank false) = ap (λ z. z && c.flag-same.result) own ∙ ap (λ z. get_or c.args.self.now.bases base false && z) flag in
    let is = untouched-at t u old new c.args.self.now over base rank (record { base = code; key = d.key }) d at known refl in
    (λ e. is.0 (sym both ∙ e), λ k. both ∙ is.1 k)
