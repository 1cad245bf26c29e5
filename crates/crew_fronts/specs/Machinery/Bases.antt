-- The fronts of a base, by what has made them.
use Rattle.std.specs.Prelude.{◌≡◌, true, false}
use Rattle.crew_fronts.specs.Fronts.{BaseFronts, is_plain}
use Rattle.crew_fronts.specs.Machinery.Kept.{fronts_of_sweep}
use Rattle.crew_fronts.specs.declared.base_fronts.BaseKind.{BaseKind}
use Rattle.crew_fronts.specs.declared.base_fronts.BaseKind.TheVariants.{Passed, Swept}

abbrev pub fronts_of : BaseKind → BaseFronts
fronts_of (Swept sweep) = fronts_of_sweep sweep.value
fronts_of (Passed fronts) = fronts

-- a sweep has made them where the seven sums tell all
abbrev pub IsOfKind : BaseKind → Type 0
IsOfKind (Swept sweep) = is_plain sweep.value.net.settings ≡ true
IsOfKind (Passed fronts) = is_plain fronts.net.settings ≡ false
