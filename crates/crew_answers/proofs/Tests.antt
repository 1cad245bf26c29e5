-- Tests that hold of the same.
use Rattle.std.proofs.Common.{◌≡◌, Bool, true, false, refl, sym}

pub same-tests : (a b : Bool) → (a ≡ true → b ≡ true) → (b ≡ true → a ≡ true) → a ≡ b
same-tests true b f g = sym (f refl)
same-tests false true f g = g refl
same-tests false false f g = refl
