use Rattle.crew_serve.specs.crew_session.Streams.{bytes_held, bytes_left, read_failed, write_failed}
use Rattle.crew_command.specs.Program.{streams}
use Rattle.crew_command.proofs.PlayFacts.{wrote-beside}
use Rattle.crew_command.proofs.program.play_beside.Goals as goal

pub returns : goal.returns
returns g c =
    let io = streams (bytes_left g.R.Read.remaining c.args.reader.now) (bytes_held g.W.Write.contents c.args.writer.now) (bytes_held g.W.Write.contents c.run_with_workers.new.writer) (read_failed c.run_with_workers.new.reader) (write_failed c.run_with_workers.new.writer) in
    wrote-beside c.run_with_workers.result c.args.settings.now c.args.sharing.workers io c.requires.some c.run_with_workers.ensures.output c.run_with_workers.ensures.begun c.run_with_workers.ensures.fault
