-- Where a label that stands for another must have the lesser walk.
use Rattle.std.specs.Prelude.{Bool}
use Rattle.crew_forgetful.specs.Machinery.Sums.{is_same}
use Rattle.crew_label.specs.declared.stand.Rule.{Rule}
use Rattle.crew_label.specs.declared.stand.Rule.TheVariants.{Sums, Values}

-- at the same sums, or at the same value
abbrev pub same_by : {V : Type 0} → (V → V → Bool) → (V → V → Bool) → Rule → V → V → Bool
same_by below same Sums = same
same_by below same Values = is_same below
