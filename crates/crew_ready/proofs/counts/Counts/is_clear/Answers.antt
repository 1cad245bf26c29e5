use Rattle.std.proofs.Common.{◌≡◌, ◌∙◌, get_or, sym, ap}
use Rattle.crew_pairing.proofs.Tree.{slice_get-within}
use Rattle.crew_pairing.specs.Events.{departure_of}
use Rattle.crew_ready.proofs.Counted.{clear-done, done-clear, nought-tells}
use Rattle.crew_ready.proofs.counts.Counts.is_clear.Goals as goal

pub returns : goal.returns
returns c = λ net done d counts events at.
    let place = c.args.departure in
    let own = c.args.self.now in
    let below = slice_get-within net.departures place (departure_of d) at in
    let count : c.count_at.result ≡ get_or own.blocked place 0 = c.count_at.ensures ∙ (ap (λ z. get_or z place 0) c.deref.ensures.value ∙ ap (λ v. get_or v.blocked place 0) c.self.view_is) in
    let test = nought-tells c.count_at.result in (
      λ e. clear-done net done own d place counts events at below (sym count ∙ test.0 e),
      λ all. test.1 (count ∙ done-clear net done own d place counts events at below all),
    )
