use Rattle.std.proofs.Common.{◌≡◌, ◌+◌, ◌-◌, ◌*◌, ap, arith, drop, length, take, ℕ}
use Rattle.crew_round.proofs.Counting.{counts-more, row-of}
use Rattle.crew_round.proofs.line.counts_of.Goals as goal

pub loop-base-preserved : goal.loop-base-preserved
loop-base-preserved c =
    let net = c.args.net.now in
    let base = c.loop-base.base in
    let n = c.duty_count-count.result in
    let low = c.loop-base-test.true in
    let bases = c.base_count-base-end.ensures.count in
    let duties = c.duty_count-count.ensures.count in
    let start : base * n ≡ base * length net.duties = ap (λ (z : ℕ). base * z) duties in
    counts-more net c.args.flags.now base c.loop-base.all c.push.new.self c.in_ok-of.field-0 c.loop-base.invariant c.in_ok-push.ensures.items (record {
      row = take (base * n + n - base * n) (drop (base * n) c.args.flags.now);
      is_row = row-of net c.args.flags.now base (base * n) (base * n + n - base * n) c.requires (omega (arith, low, bases)) start (omega (arith, duties));
      are = c.in_ok-of.ensures;
    })
