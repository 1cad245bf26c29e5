use Rattle.crew_clocks.proofs.TextFacts.{appended, left, only-text, reads-back}
use Rattle.crew_clocks.proofs.texts.write_minute.Goals as goal

pub returns-clause-ok : goal.returns-clause-ok
returns-clause-ok c =
    appended c.extend_from_slice.result c.args.out.now.items c.extend_from_slice.new.self.items c.minute_text.result c.args.minute c.extend_from_slice.ensures.items c.minute_text.ensures

pub returns-clause-reads_back : goal.returns-clause-reads_back
returns-clause-reads_back c =
    reads-back c.extend_from_slice.result c.args.out.now.items c.extend_from_slice.new.self.items c.minute_text.result c.args.minute c.extend_from_slice.ensures.items c.minute_text.ensures

pub returns-clause-only_text : goal.returns-clause-only_text
returns-clause-only_text c =
    only-text c.extend_from_slice.result c.args.out.now.items c.extend_from_slice.new.self.items c.minute_text.result c.args.minute c.extend_from_slice.ensures.items c.minute_text.ensures

pub returns-clause-err : goal.returns-clause-err
returns-clause-err c =
    left c.extend_from_slice.result c.args.out.now.items c.extend_from_slice.new.self.items c.minute_text.result c.extend_from_slice.ensures.items
