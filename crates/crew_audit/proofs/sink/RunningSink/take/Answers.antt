use Rattle.std.proofs.Common.{◌≡◌, ◌+◌, ◌∙◌, Bool, ℤ, ap, arith, of_z, sym, to_z, w64, if◌then◌else◌}
use Rattle.std.proofs.lemmas.Int.{ints}
use Rattle.crew_pairing.specs.Vectors.{reduced_cost, vector_of}
use Rattle.crew_audit.specs.Machinery.Listing.{listed}
use Rattle.crew_audit.specs.Tallies.{cost_in}
use Rattle.crew_audit.proofs.Counts.{tally-more}
use Rattle.crew_audit.proofs.sink.RunningSink.take.Goals as goal

pub returns : goal.returns
returns c =
    let scope = c.args.scope.now in
    let s = scope.settings.now in
    let duties = c.args.duties.now in
    let tally = c.args.self.now.tally in
    let partial = listed s scope.base scope.base_price duties in
    let price : to_z w64 (of_z w64 scope.base_price) ≡ scope.base_price = omega (arith, ints, c.requires.price.least, c.requires.price.most) in
    let costs : c.reduced_cost.result ≡ cost_in partial =
    c.reduced_cost.ensures ∙ ap reduced_cost c.vector_of-vector.ensures ∙ ap (λ (z : ℤ). reduced_cost (vector_of s z duties)) price in
    let read : to_z w64 (of_z w64 c.reduced_cost.result) ≡ c.reduced_cost.result = omega (arith, ints, c.reduced_cost.type_inv) in
    let pairings = c.with-tally.ensures.pairings ∙ ap (λ (b : Bool). tally.pairings + (if b then 1 else 0)) c.is_back-pairing.ensures in
    record {
      more = c.with-tally.ensures.partials;
      behind = λ ps h. tally-more ps partial tally c.with-tally.result h c.with-tally.ensures.partials pairings
          (c.with-tally.ensures.cost partial (sym c.is_back-pairing.ensures) (sym (read ∙ costs)));
    }
