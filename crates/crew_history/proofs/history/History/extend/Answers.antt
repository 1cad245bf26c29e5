use Rattle.std.proofs.Common.{rules, ◌<◌, length, get_or, ◌+◌, w32, FitsSigned, refl, sym, ◌∙◌, ap, subst, arith}
use Rattle.std.proofs.lemmas.List.{length-set}
use Rattle.crew_history.specs.Histories.{IsHistory}
use Rattle.crew_history.specs.HistoryValues.{periods_of}
use Rattle.crew_history.proofs.Histories.{grown_history}
use Rattle.crew_history.proofs.HistoryCuts.{first, step_keeps, step_skips, last_written, room_is, zero_behind, zero_kept}
use Rattle.crew_history.proofs.history.History.extend.Goals as goal
use Rattle.crew_history.proofs.history.History.extend.Goals.{then-to-begin, else-to-begin}

pub loop-i-preserved : goal.loop-i-preserved
loop-i-preserved c =
    let xs = c.args.self.now.periods in
    let long = c.args.self.now.kept.1 in
    let wide = c.loop-i.invariant.long in
    let v = c.args.self.now.kept.0 in
    let h = c.loop-i-test.true in
    let k = c.loop-i.invariant.within in
    let inside : c.loop-i.i < length xs = omega arith in
    let room : c.loop-i.len < length c.loop-i.periods = omega arith in
    let f0 : FitsSigned w32 (get_or xs c.loop-i.i first).0 = search rules in
    let f1 : FitsSigned w32 (get_or xs c.loop-i.i first).1 = search rules in
    elim c.if-to-begin.branch [
      | then-to-begin w ↦
          let more = w.len-is in
          let fr : FitsSigned w32 w.max.result = search rules in
          record {
            long = ap length w.periods-is ∙ (length-set c.loop-i.periods c.loop-i.len _ ∙ wide);
            within = omega arith;
            so_far = step_keeps _ xs c.loop-i.periods c.if-to-begin.periods c.loop-i.i c.loop-i.len c.if-to-begin.len w.max.result inside room c.loop-i.invariant.so_far f0 f1 fr w.max.ensures.value w.if-to-begin.true w.len-is w.periods-is;
            zero = zero_behind c.loop-i.periods c.if-to-begin.periods c.loop-i.len c.if-to-begin.len _ c.loop-i.invariant.zero w.len-is w.periods-is;
          }
      | else-to-begin w ↦
          let more = w.len-is in
          record {
            long = ap length w.periods-is ∙ wide;
            within = omega arith;
            so_far = step_skips _ xs c.loop-i.periods c.if-to-begin.periods c.loop-i.i c.loop-i.len c.if-to-begin.len inside c.loop-i.invariant.so_far f1 w.if-to-begin.false w.len-is w.periods-is;
            zero = zero_kept c.loop-i.periods c.if-to-begin.periods c.loop-i.len c.if-to-begin.len c.loop-i.invariant.zero w.len-is w.periods-is;
          }
    ]

pub invariant_of-result : goal.invariant_of-result
invariant_of-result c =
    let xs = c.args.self.now.periods in
    let h = periods_of c.args.self.now in
    let wide = c.loop-i.invariant.long in
    let long = c.args.self.now.kept.1 in
    let v = c.args.self.now.kept.0 in
    let k = c.loop-i.invariant.within in
    let e = c.loop-i.auto.i-end in
    let size = room_is xs h c.args.self.now.len (omega arith) refl in
    let r = c.requires.room in
    let room : c.loop-i.len < length c.loop-i.periods = omega arith in
    let fr : FitsSigned w32 c.max-2.result = search rules in
    let whole = last_written xs c.loop-i.periods h c.loop-i.i c.loop-i.len c.args.self.now.len c.args.start c.args.end c.args.window c.max-2.result
    e c.loop-i-test.false refl room c.ranges.start c.ranges.end c.ranges.window c.requires.begins fr c.requires.window c.loop-i.invariant.so_far c.max-2.ensures.value in
    record {
      kept = (
        omega arith,
        length-set c.loop-i.periods c.loop-i.len _ ∙ wide,
        subst IsHistory (sym whole) (grown_history c.args.window h (c.args.start, c.args.end) c.args.self.now.kept.2 c.requires.later c.requires.nonempty),
        zero_behind c.loop-i.periods _ c.loop-i.len (c.loop-i.len + 1) _ c.loop-i.invariant.zero refl refl,
      );
    }

pub returns : goal.returns
returns c =
    let xs = c.args.self.now.periods in
    let wide = c.loop-i.invariant.long in
    let long = c.args.self.now.kept.1 in
    let v = c.args.self.now.kept.0 in
    let k = c.loop-i.invariant.within in
    let e = c.loop-i.auto.i-end in
    let size = room_is xs (periods_of c.args.self.now) c.args.self.now.len (omega arith) refl in
    let r = c.requires.room in
    let room : c.loop-i.len < length c.loop-i.periods = omega arith in
    let fr : FitsSigned w32 c.max-2.result = search rules in
    last_written xs c.loop-i.periods (periods_of c.args.self.now) c.loop-i.i c.loop-i.len c.args.self.now.len c.args.start c.args.end c.args.window c.max-2.result
    e c.loop-i-test.false refl room c.ranges.start c.ranges.end c.ranges.window c.requires.begins fr c.requires.window c.loop-i.invariant.so_far c.max-2.ensures.value
