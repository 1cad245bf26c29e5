use Rattle.std.proofs.Common.{subst, sym}
use Rattle.crew_serve.specs.crew_session.Streams.{bytes_held, bytes_left, read_failed, write_failed}
use Rattle.crew_command.specs.Program.{WroteOf, streams}
use Rattle.crew_command.proofs.program.play.Goals as goal
use Rattle.crew_words.specs.declared.task.Task.{Task}

pub returns-in-Run : goal.returns-in-Run
returns-in-Run g c =
    let io = streams (bytes_left g.R.Read.remaining c.args.reader.now) (bytes_held g.W.Write.contents c.args.writer.now) (bytes_held g.W.Write.contents c.play_session.new.writer) (read_failed c.play_session.new.reader) (write_failed c.play_session.new.writer) in
    subst (λ (task : Task). WroteOf task io c.play_session.result) (sym c.in-Run.is) c.play_session.ensures
