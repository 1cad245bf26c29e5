use Rattle.std.proofs.Common.{Bool, arith, refl, subst}
use Rattle.crew_round.proofs.Lined.{done-waits, flagged-none, line-left}
use Rattle.crew_round.proofs.Places.{place-below}
use Rattle.crew_round.specs.Machinery.Lines.{IsFlagged}
use Rattle.crew_round.specs.declared.line.Line.{Line}
use Rattle.crew_round.specs.declared.mark.Mark.TheVariants.{Done}
use Rattle.crew_round.proofs.line.Line.pass.Goals as goal

pub returns-then-flagged-clause-line : goal.returns-then-flagged-clause-line
returns-then-flagged-clause-line c = λ was flag next l e within f.
    let net = c.args.net.now in
    let old = c.args.self.now in
    let spot = c.args.spot in
    let below = place-below net spot.place spot.base spot.rank c.requires.spot.0 c.requires.spot.1.stands in
    let long = c.requires.shape.long_set in
    let mid : Line = record { counts = old.counts; set = c.set.new.self; any = old.any } in
    c.flag.ensures.line flag next
    (line-left net c.args.carried.now was c.args.cells.now flag flag old mid spot.place Done l refl refl c.set.ensures e within (omega (arith, below, long)) done-waits (λ k. refl))
    (subst (λ (b : Bool). IsFlagged flag next spot.place b) c.if-flagged.true f)

pub returns-else-flagged-clause-line : goal.returns-else-flagged-clause-line
returns-else-flagged-clause-line c = λ was flag next l e within f.
    let net = c.args.net.now in
    let old = c.args.self.now in
    let spot = c.args.spot in
    let below = place-below net spot.place spot.base spot.rank c.requires.spot.0 c.requires.spot.1.stands in
    let long = c.requires.shape.long_set in
    let mid : Line = record { counts = old.counts; set = c.set.new.self; any = old.any } in
    line-left net c.args.carried.now was c.args.cells.now flag next old mid spot.place Done l refl refl c.set.ensures e within (omega (arith, below, long)) done-waits (flagged-none flag next spot.place c.args.flagged f c.if-flagged.false)
