-- Values that may be missing.
use Rattle.std.proofs.Common.{◌≡◌, Bool, true, false, cond, Option, Some, None, refl, ◌∙◌, ap}
use Rattle.crew_resource.specs.Machinery.Both.{both}

pub same-some : {A : Type 0} (a b : A) → Some a ≡ Some b → a ≡ b
same-some a b e = (cc)

pub test-out : {A : Type 0} (b : Bool) (g h : A) → cond b (Some g) None ≡ Some h → (b ≡ true) × (g ≡ h)
test-out true g h e = (refl, let q : g ≡ h = (cc) in q)
test-out false g h e = absurd (let q : ⊥ = (cc) in q)

pub three : {A B C : Type 0} (a : Option A) (b : Option B) (c : Option C) (x : A) (y : B) (z : C) → a ≡ Some x → b ≡ Some y → c ≡ Some z → both a (both b c) ≡ Some (x, (y, z))
three a b c x y z e f g = ap (λ p. both p (both b c)) e ∙ (ap (λ q. both (Some x) (both q c)) f ∙ ap (λ q. both (Some x) (both (Some y) q)) g)
