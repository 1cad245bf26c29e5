use Rattle.std.proofs.Common.{◌≡◌, ◌∙◌, Some, ap, arith, get_or, length, refl, sym}
use Rattle.std.specs.Prelude.{slice_get}
use Rattle.std.proofs.lemmas.List.{length-set}
use Rattle.std.proofs.lemmas.Option.{slice_get_read}
use Rattle.crew_ready.specs.Counts.{Counts}
use Rattle.crew_round.proofs.Counting.{counted-more, flags-more}
use Rattle.crew_round.proofs.Lists.{get-set-here, one-item}
use Rattle.crew_round.proofs.line.Line.count.Goals as goal

pub returns-clause-counted : goal.returns-clause-counted
returns-clause-counted c = λ flag next d counted spot f.
    let items = c.args.self.now.counts.items in
    let base = c.args.spot.base in
    let low = c.requires.base in
    let long = c.requires.shape.long in
    let at : slice_get items base ≡ Some c.index_mut-counts.result.now = slice_get_read items (length items) base c.index_mut-counts.result.now refl (omega (arith, low, long)) c.index_mut-counts.ensures.value in
    counted-more c.args.net.now flag next c.args.self.now c.args.spot d c.index_mut-counts.result.now c.done.new.self spot f long counted at c.arrivals-arrivals.ensures.exact c.done.ensures.counts

pub returns-clause-shape : goal.returns-clause-shape
returns-clause-shape c =
    let items = c.args.self.now.counts.items in
    let base = c.args.spot.base in
    let more = flags-more c.requires.counted.0 c.args.spot.place c.requires.counted.2 in
    let h = returns-clause-counted c c.requires.counted.0 more.0 c.requires.spot.0 c.requires.counted.1 c.requires.spot.1 more.1 in
    record {
      long = length-set items base c.done.new.self ∙ c.requires.shape.long;
      undone = λ b counts at. (h b counts at).are.long;
      blocked = λ b counts at. (h b counts at).are.long_blocked;
      long_set = c.requires.shape.long_set;
    }

pub returns-clause-last : goal.returns-clause-last
returns-clause-last c = λ counts at.
    let items = c.args.self.now.counts.items in
    let base = c.args.spot.base in
    let low = c.requires.base in
    let long = c.requires.shape.long in
    let own : c.done.new.self ≡ counts = one-item c.done.new.self counts (sym (get-set-here items base c.done.new.self (omega (arith, low, long))) ∙ at) in
    let e = ap (λ (z : Counts). get_or z.undone c.args.spot.arrival 0) own in
    (λ t. sym e ∙ c.done.ensures.last.0 t, λ t. c.done.ensures.last.1 (e ∙ t))
