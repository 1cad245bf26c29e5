use Rattle.std.proofs.Common.{◌≡◌, rules}
use Rattle.crew_pairing.proofs.Blocks.{part-more}
use Rattle.crew_pairing.proofs.duties.Duties.part.Goals as goal

pub loop-place-preserved : goal.loop-place-preserved
loop-place-preserved c =
    let more = part-more c.args.self.now c.args.from c.loop-place.place c.at.result.now (search rules) c.at.ensures in
    let copied : c.copy.result ≡ c.at.result.now = c.copy.ensures in
    search rules
