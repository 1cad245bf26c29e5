use Rattle.std.proofs.Common.{◌∙◌, ap, sym}
use Rattle.crew_job.specs.Grounds.{Ground, data_of}
use Rattle.crew_job.proofs.own.is_own.Goals as goal

pub is_own_by_data-requires-clause-settings : goal.is_own_by_data-requires-clause-settings
is_own_by_data-requires-clause-settings c = ap (λ (g : Ground). g.settings) (sym c.ground-own.ensures.value) ∙ (c.is_same_data.ensures.0 c.if-is_same_data.true).0

pub is_own_by_data-requires-clause-data : goal.is_own_by_data-requires-clause-data
is_own_by_data-requires-clause-data c = ap (λ (g : Ground). data_of g) (sym c.ground-own.ensures.value) ∙ (c.is_same_data.ensures.0 c.if-is_same_data.true).1
