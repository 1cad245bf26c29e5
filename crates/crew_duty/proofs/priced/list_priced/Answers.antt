use Rattle.std.proofs.Common.{◌≡◌, ◌++◌, ◌∙◌, List, ℤ, ap, ap₂, arith, map, sym, take}
use Rattle.std.proofs.lemmas.List.{map-append, take_all}
use Rattle.crew_pairing.specs.Machinery.Blocks.{part_of}
use Rattle.crew_duty.specs.Machinery.Held.{over}
use Rattle.crew_duty.specs.Machinery.Prices.{under_prices}
use Rattle.crew_duty.proofs.Blocks.{take-part}
use Rattle.crew_duty.proofs.NewPrices.{duties-priced}
use Rattle.crew_duty.proofs.priced.list_priced.Goals as goal

pub loop-from-preserved : goal.loop-from-preserved
loop-from-preserved c =
    let u = under_prices c.in_ok-prices.prices.items in
    let duties = c.args.duties.now in
    let from = c.loop-from.from in
    let to = c.block_end-to.result in
    let part = c.in_ok-part_under.ensures ∙ ap (λ (ps : List ℤ). map (under_prices ps) (part_of duties from to)) c.deref.ensures.value in
    let ordered = c.block_end-to.ensures.least in
    record {
      within = c.block_end-to.ensures.most;
      list = c.in_ok-push.ensures.ok ∙ (ap₂ ◌++◌ c.loop-from.invariant.list part
          ∙ (sym (map-append u (take from duties) (part_of duties from to)) ∙ ap (map u) (sym (take-part duties from to (omega (arith, ordered))))));
    }

pub returns-clause-listed : goal.returns-clause-listed
returns-clause-listed c s turns before same all =
    let prices = c.in_ok-prices.prices.items in
    let duties = c.args.duties.now in
    let whole = take_all c.loop-from.from duties (omega (arith, c.loop-from-test.false, c.len-in-loop-from.ensures)) in
    let now : c.loop-from.list ≡ map (under_prices prices) duties = c.loop-from.invariant.list ∙ ap (map (under_prices prices)) whole in
    rw now (duties-priced s prices (over c.args.flights.now turns) before duties same c.in_ok-prices.ensures.held all)
