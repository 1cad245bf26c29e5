use Rattle.std.proofs.Common.{◌≡◌, sym, ap, ◌∙◌}
use Rattle.crew_log.specs.Machinery.Rights.{counter_of}
use Rattle.crew_log.proofs.Claiming.{claims_moves}
use Rattle.crew_log.proofs.rights.Rights.claim.Goals as goal

pub compare_exchange-found-requires : goal.compare_exchange-found-requires
compare_exchange-found-requires c =
    let seat = c.args.claim.seat in
    let book = c.self.inside.history.book in
    let counter : c.index.result.now ≡ counter_of book seat = c.index.ensures ∙ c.self.invariant.1 seat c.index.result.now c.requires in
    let same : book ≡ c.index.result.now.book = sym (ap (λ w. w.book) counter) in
    let again = ap (λ s. s.book) c.again-history.ensures in
    let offer = c.plain-offer.ensures in
    let pen = c.no_pen-pen.ensures in (
      ap (λ w. w.tracked) counter,
      again ∙ same,
      pen.0 ∙ (again ∙ same),
      offer.0,
      rw (ap (λ w. w.key) counter, pen.1, offer.1, offer.3, c.from-number.ensures) (claims_moves c.again-history.result.log c.args.claim c.requires),
    )
