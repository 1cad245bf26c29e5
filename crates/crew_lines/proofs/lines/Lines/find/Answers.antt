use Rattle.std.proofs.Common.{ltb-true}
use Rattle.crew_lines.proofs.ReadFacts.{left-found}
use Rattle.crew_lines.proofs.lines.Lines.find.Goals as goal

pub returns-clause-line : goal.returns-clause-line
returns-clause-line g c = λ is.
    let lines = c.args.self.now in
    let some = ltb-true 0 c.in_ok-self.field-0.passed is in
    left-found (g.R.Read.remaining lines.reader) (g.R.Read.remaining c.find_line.new.reader) lines.held c.find_line.new.held lines.found.passed lines.found.is_long c.in_ok-self.field-0
    c.requires.none c.requires.short c.find_line.ensures.kept (c.in_ok-self.ensures.found some) some c.in_ok-self.ensures.within.passed
