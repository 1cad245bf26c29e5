-- What numbers keep.
use Rattle.std.specs.Prelude.{ℕ, List, length}
use Rattle.slab.specs.Slab.{Slab}
use Rattle.crew_net.specs.Nets.{Net}
use Rattle.crew_numbers.specs.Machinery.Taken.{AreNumbered}
use Rattle.crew_pairing.specs.Duties.{RiseByKey}

-- each duty has a number, and duties stand in order
pub record IsHeld (net : Net) (numbers ranks : List ℕ) (keys : Slab Unit) : Type 0 where
  pub numbered : AreNumbered numbers ranks keys (length net.duties)
  pub rising : RiseByKey net.duties
