use Rattle.std.proofs.Common.{◌≡◌, ◌+◌, ◌∙◌, ◌∷◌, [], length, length-append, sym, ap, subst, arith}
use Rattle.crew_log.specs.Logs.{Log, unused_seat}
use Rattle.crew_service.proofs.Plans.{seats-push}
use Rattle.crew_service.specs.Plans.{AreSeatsFrom}
use Rattle.crew_service.proofs.service.seats_of.Goals as goal

pub loop-preserved : goal.loop-preserved
loop-preserved c =
    let seats = c.loop.seats.items in
    let seat = c.in-Ok.seat in
    let was = c.loop.invariant in
    let ok = c.in-Ok.ensures.ok in
    let items = c.in_ok-push-in-Ok.ensures.items in
    let at : c.loop.log.seats ≡ 0 + length seats = let a = was.0 in let b = was.1 in omega (arith, a, b) in
    let long = length-append seats (seat ∷ []) in
    let all = ap length items in
    let count = was.1 in (
      ap (λ (l : Log). l.seats) ok.2 ∙ ap (λ n. n + 1) was.0,
      omega (arith, long, all, count),
      subst (AreSeatsFrom 0) (sym items) (seats-push 0 seats seat was.2 (ok.1 ∙ ap unused_seat at)),
    )
