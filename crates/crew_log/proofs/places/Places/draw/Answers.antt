use Rattle.std.proofs.Common.{◌≡◌, ◌+◌, sym, ap, ◌∙◌, arith}
use Rattle.crew_log.proofs.Drawing.{draws_moves}
use Rattle.crew_log.proofs.places.Places.draw.Goals as goal

pub compare_exchange-found-requires : goal.compare_exchange-found-requires
compare_exchange-found-requires c =
    let counter = c.self.invariant in
    let book = c.self.inside.history.book in
    let same = sym (ap (λ w. w.book) counter) in
    let again = ap (λ s. s.book) c.again-history.ensures in
    let offer = c.plain-offer.ensures in
    let pen = c.no_pen-pen.ensures in
    let next : c.in_ok-more.more ≡ c.args.place + 1 = omega (arith, c.in_ok-more.ensures) in (
      ap (λ w. w.tracked) counter,
      again ∙ same,
      pen.0 ∙ (again ∙ same),
      offer.0,
      rw (ap (λ w. w.key) counter, pen.1, offer.3, next) (draws_moves c.again-history.result.log c.args.place),
    )
