use Rattle.std.proofs.Common.{◌∙◌, ap, sym, true≢false}
use Rattle.std.specs.FinMap as fin
use Rattle.crew_job.proofs.Comparing.{moved-before, own-before, own-prices, own-same-fronts, own-settings, work-own}
use Rattle.crew_job.specs.Grounds.{Ground, data_of}
use Rattle.crew_job.proofs.own.is_same_work.Goals as goal

pub returns-then-not-have_same_inputs : goal.returns-then-not-have_same_inputs
returns-then-not-have_same_inputs c =
    let job = c.args.job.now in
    let g = c.args.ground.now in
    let is = c.ground-own.ensures.ground in
    let here = c.settings-settings.ensures.ground in
    let value = c.ground-own.ensures.value in (
      λ t. absurd (true≢false (sym t)),
      λ all.
          let settings = ap (λ (z : Ground). z.settings) value ∙ own-settings job g is here c.args.code c.args.duty.now c.requires.node all in
          let prices = ap (λ (z : Ground). fin.get (data_of z).bases c.args.code) value ∙ own-prices job g is here c.args.code c.args.duty.now c.requires.node all in
          absurd (true≢false (sym (c.have_same_inputs.ensures.1 (settings, prices)) ∙ c.if-not-have_same_inputs.true)),
    )

pub returns-then-not-have_same_before : goal.returns-then-not-have_same_before
returns-then-not-have_same_before c =
    let job = c.args.job.now in
    let g = c.args.ground.now in
    let is = c.ground-own.ensures.ground in
    let here = c.settings-settings.ensures.ground in
    let one = c.net.ensures.net ∙ ap (λ (z : Ground). z.plan.net) c.ground-own.ensures.value in (
      λ t. absurd (true≢false (sym t)),
      λ all.
          let before = own-before job g is here c.args.code c.args.duty.now c.requires.node all in
          let told = moved-before g.settings _ job.ground.plan.net _ g.plan.net _ c.args.duty.now (sym c.settings-settings.ensures.settings) (sym one) (sym c.net-2.ensures.net) before in
          absurd (true≢false (sym (c.have_same_before.ensures.1 told) ∙ c.if-not-have_same_before.true)),
    )

pub have_same_fronts-requires-clause-alike : goal.have_same_fronts-requires-clause-alike
have_same_fronts-requires-clause-alike c =
    let job = c.args.job.now in
    let g = c.args.ground.now in
    let value = c.ground-own.ensures.value in
    let inputs = c.have_same_inputs.ensures.0 c.if-not-have_same_inputs.false in
    let one = c.net.ensures.net ∙ ap (λ (z : Ground). z.plan.net) value in
    record {
      node = c.requires.node;
      based = c.requires.based;
      there = c.requires.there;
      settings = ap (λ (z : Ground). z.settings) (sym value) ∙ inputs.0;
      before = moved-before _ g.settings _ job.ground.plan.net _ g.plan.net c.args.duty.now c.settings-settings.ensures.settings one c.net-2.ensures.net (c.have_same_before.ensures.0 c.if-not-have_same_before.false);
    }

pub returns : goal.returns
returns c =
    let job = c.args.job.now in
    let g = c.args.ground.now in
    let is = c.ground-own.ensures.ground in
    let here = c.settings-settings.ensures.ground in
    let value = c.ground-own.ensures.value in
    let inputs = c.have_same_inputs.ensures.0 c.if-not-have_same_inputs.false in
    let one = c.net.ensures.net ∙ ap (λ (z : Ground). z.plan.net) value in
    let settings = ap (λ (z : Ground). z.settings) (sym value) ∙ inputs.0 in
    let prices = ap (λ (z : Ground). fin.get (data_of z).bases c.args.code) (sym value) ∙ inputs.1 in
    let before = moved-before _ g.settings _ job.ground.plan.net _ g.plan.net c.args.duty.now c.settings-settings.ensures.settings one c.net-2.ensures.net (c.have_same_before.ensures.0 c.if-not-have_same_before.false) in (
      λ t. work-own job g is here c.args.code c.args.duty.now c.requires.node settings prices before (c.have_same_fronts.ensures.0 t),
      λ all. c.have_same_fronts.ensures.1 (own-same-fronts job g is here c.args.code c.args.duty.now c.requires.node all),
    )
