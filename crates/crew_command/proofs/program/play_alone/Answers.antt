use Rattle.std.proofs.Common.{sym, true≢false}
use Rattle.crew_serve.specs.crew_session.Streams.{bytes_held, bytes_left, read_failed, write_failed}
use Rattle.crew_command.specs.Program.{streams}
use Rattle.crew_command.proofs.PlayFacts.{wrote-plain}
use Rattle.crew_command.proofs.program.play_alone.Goals as goal

pub returns : goal.returns
returns g c =
    let io = streams (bytes_left g.R.Read.remaining c.args.reader.now) (bytes_held g.W.Write.contents c.args.writer.now) (bytes_held g.W.Write.contents c.run.new.writer) (read_failed c.run.new.reader) (write_failed c.run.new.writer) in
    wrote-plain c.run.result c.args.settings.now c.args.sharing.workers _ io c.requires.alone (λ number called. true≢false (sym called.0)) c.run.ensures.output c.run.ensures.begun c.run.ensures.fault
