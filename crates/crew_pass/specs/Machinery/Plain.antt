-- Resources that are never plain.
use Rattle.std.specs.Prelude.{◌≡◌, true, false}

-- whatever follows
pub never : {P : Type 0} → false ≡ true → P
never h = (cc)
