use Rattle.std.proofs.Common.{◌∙◌, arith, sym}
use Rattle.crew_net.proofs.InTime.{item-at}
use Rattle.crew_pairing.specs.Events.{arrival_of}
use Rattle.crew_round.proofs.Lined.{line-last, line-more}
use Rattle.crew_round.proofs.line.Line.flag.Goals as goal

pub returns-then-last-clause-line : goal.returns-then-last-clause-line
returns-then-last-clause-line c = λ flag next l f.
    let net = c.args.net.now in
    let d = c.requires.spot.0 in
    let is = c.requires.spot.1 in
    let mid = c.count-last.new.self in
    line-last net c.args.carried.now c.args.cells.now flag next c.args.self.now mid c.put_window.new.self c.args.spot d c.followers.result is f
    c.departures-departures.ensures.exact (c.followers.ensures (arrival_of d) is.arrives) l (c.count-last.ensures.counted flag next d l.counted is f) c.count-last.ensures.set c.count-last.ensures.any
    (c.count-last.ensures.shape.long ∙ sym l.long) c.put_window.ensures.stays (c.put_window.ensures.grows next (c.count-last.ensures.counted flag next d l.counted is f))

pub returns-else-last-clause-line : goal.returns-else-last-clause-line
returns-else-last-clause-line c = λ flag next l f.
    let net = c.args.net.now in
    let d = c.requires.spot.0 in
    let is = c.requires.spot.1 in
    let new = c.count-last.new.self in
    let low = is.stands.in_bases in
    let long = c.count-last.ensures.shape.long in
    let at = item-at new.counts.items c.args.spot.base (omega (arith, low, long)) in
    line-more net c.args.carried.now c.args.cells.now flag next c.args.self.now new c.args.spot d at.0 is f at.1
    (λ e. (let told = (c.count-last.ensures.last at.0 at.1).1 e in let none = c.if-last.false in let q : ⊥ = (cc) in q))
    l (c.count-last.ensures.counted flag next d l.counted is f) c.count-last.ensures.set c.count-last.ensures.any (long ∙ sym l.long)
