use Rattle.crew_session.specs.Streams.{bytes_held, bytes_left, read_failed, write_failed}
use Rattle.crew_serve.proofs.Played.{is-played}
use Rattle.crew_serve.specs.Machinery.Played.{played}
use Rattle.crew_serve.proofs.sessions.play_over.Goals as goal

pub returns : goal.returns
returns g c =
    let io = played (bytes_left g.R.Read.remaining c.args.reader.now) (bytes_left g.R.Read.remaining c.run-done.new.reader) (bytes_held g.W.Write.contents c.args.writer.now) (bytes_held g.W.Write.contents c.run-done.new.writer) (read_failed c.run-done.new.reader) (write_failed c.run-done.new.writer) in
    is-played c.run-done.result c.args.settings.now io _ _ c.run-done.ensures.output c.run-done.ensures.limit c.run-done.ensures.end c.run-done.ensures.begun c.run-done.ensures.fault
