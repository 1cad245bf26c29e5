-- What holds of each member of a list, as a loop adds to it or takes from it.
use Rattle.std.proofs.Common.{◌≡◌, ◌<◌, ◌++◌, ◌∷◌, [], ℕ, List, get_or, inl, inr, length, refl, subst, sym, ⊎_elim}
use Rattle.crew_net.proofs.Numbers.{get-within}
use Rattle.crew_net.proofs.Slices.{get-at, member-place}
use Rattle.crew_resource.specs.Members.{Member}
use Rattle.crew_resource.proofs.Members.{Member-append}

-- one more at the end
pub member-push : {A : Type 0} (P : A → Type 0) (before all : List A) (x : A) → all ≡ before ++ x ∷ [] → ((a : A) → Member before a → P a) → P x → (a : A) → Member all a → P a
member-push {A} P before all x is each one a m =
    ⊎_elim {C = P a} (each a) (λ k. ⊎_elim {C = P a} (λ e. subst P e one) (λ b. absurd b) k) (Member-append before (x ∷ []) a (subst (λ (xs : List A). Member xs a) is m))

-- the first, and the rest
pub member-next : {A : Type 0} (P : A → Type 0) (all rest : List A) (x : A) → all ≡ x ∷ rest → ((a : A) → Member all a → P a) → P x × ((a : A) → Member rest a → P a)
member-next {A} P all rest x is each = (
  each x (subst (λ (xs : List A). Member xs x) (sym is) (inl refl)),
  λ a m. each a (subst (λ (xs : List A). Member xs a) (sym is) (inr m)),
)

-- what holds at each place holds of each member
pub member-placed : {A : Type 0} (P : A → Type 0) (all : List A) → ((i : ℕ) (d : A) → i < length all → P (get_or all i d)) → (a : A) → Member all a → P a
member-placed P all each a m =
    let at = member-place all a m in
    subst P (get-at all at.0 a a at.1) (each at.0 a (get-within all at.0 a at.1))
