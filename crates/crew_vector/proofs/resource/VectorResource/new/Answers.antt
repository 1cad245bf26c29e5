use Rattle.std.proofs.Common.{◌∙◌, ap, w64}
use Rattle.std.proofs.lemmas.Int.{to_z-of_z}
use Rattle.crew_vector.specs.Machinery.VectorResources.{vector_resource}
use Rattle.crew_vector.proofs.Composed.{value-of-made}
use Rattle.crew_vector.proofs.resource.VectorResource.new.Goals as goal

pub returns-clause-values : goal.returns-clause-values
returns-clause-values c =
    let s = c.args.settings.now in
    let b = c.args.base_price in
    value-of-made s b c.under.result (c.under.ensures ∙ ap (vector_resource s) (to_z-of_z w64 b c.ranges.base_price))
