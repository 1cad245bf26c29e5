use Rattle.std.proofs.Common.{inr, refl}
use Rattle.crew_session.specs.Streams.{bytes_held, bytes_left}
use Rattle.crew_serve.proofs.Played.{ended-first, keeps-self, none-begun}
use Rattle.crew_serve.proofs.sessions.run_with_workers.Goals as goal

pub returns-in-Ok : goal.returns-in-Ok
returns-in-Ok g c =
    let h = c.play_service.ensures in
    record { output = h.output; limit = h.limit; end = h.end; begun = h.begun; fault = ended-first _ _ _ h.fault }

pub returns-in-Err : goal.returns-in-Err
returns-in-Err g c =
    let w = bytes_held g.W.Write.contents c.args.writer.now in
    let left = bytes_left g.R.Read.remaining c.args.reader.now in
    record { output = tt; limit = tt; end = tt; begun = none-begun c.args.settings.now left w; fault = inr (record { kept = keeps-self w; why = refl }) }
