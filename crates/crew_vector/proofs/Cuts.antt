-- A list as its first element and the others, and as its last element and those before it.
use Rattle.std.proofs.Common.{◌≡◌, List, [], ◌∷◌, ◌++◌, inl, inr, refl, sym, ◌∙◌, ap, append_assoc}
use Rattle.crew_resource.specs.Members.{Member, Each}
use Rattle.crew_pairing.specs.Pairings.{last_duty}
use Rattle.crew_pairing.specs.declared.duty.Duty.{Duty}

-- all but the last of a first duty and others
abbrev pub before_last : Duty → List Duty → List Duty
before_last first [] = []
before_last first (next ∷ others) = first ∷ before_last next others

pub last-split : (first : Duty) (others left : List Duty) → before_last first others ++ last_duty first others ∷ left ≡ first ∷ (others ++ left)
last-split first [] left = refl
last-split first (next ∷ others) left = ap (λ z. first ∷ z) (last-split next others left)

pub append-nothing : (xs : List Duty) → xs ++ [] ≡ xs
append-nothing [] = refl
append-nothing (x ∷ xs) = ap (λ z. x ∷ z) (append-nothing xs)

pub whole-split : (first : Duty) (others : List Duty) → before_last first others ++ last_duty first others ∷ [] ≡ first ∷ others
whole-split first others = last-split first others [] ∙ ap (λ z. first ∷ z) (append-nothing others)

pub last-pushed : (first : Duty) (others : List Duty) (d : Duty) → last_duty first (others ++ d ∷ []) ≡ d
last-pushed first [] d = refl
last-pushed first (next ∷ others) d = last-pushed next others d

-- a list that ends with d, by its first
pub record ByFirst (before : List Duty) (d : Duty) : Type 0 where
  pub first : Duty
  pub others : List Duty
  pub whole : before ++ d ∷ [] ≡ first ∷ others
  pub ends : last_duty first others ≡ d

pub by-first : (before : List Duty) (d : Duty) → ByFirst before d
by-first [] d = record { first = d; others = []; whole = refl; ends = refl }
by-first (b ∷ before) d = record { first = b; others = before ++ d ∷ []; whole = refl; ends = last-pushed b before d }

-- a list cut after e, by its first
pub record Cut (bs : List Duty) (e : Duty) (rest : List Duty) (first : Duty) (others : List Duty) : Type 0 where
  pub taken : List Duty
  pub left : taken ++ rest ≡ others
  pub ends : last_duty first taken ≡ e
  pub beginning : bs ++ e ∷ [] ≡ first ∷ taken

pub cut : (bs : List Duty) (e : Duty) (rest : List Duty) (first : Duty) (others : List Duty) → bs ++ e ∷ rest ≡ first ∷ others → Cut bs e rest first others
cut [] e rest first others q =
    let head : e ≡ first = (cc) in
    let tail : rest ≡ others = (cc) in
    record { taken = []; left = tail; ends = sym head; beginning = ap (λ z. z ∷ []) head }
cut (b ∷ bs) e rest first others q =
    let head : b ≡ first = (cc) in
    let tail : bs ++ e ∷ rest ≡ others = (cc) in
    record {
      taken = bs ++ e ∷ [];
      left = append_assoc bs (e ∷ []) rest ∙ tail;
      ends = last-pushed first bs e;
      beginning = ap (λ z. z ∷ (bs ++ e ∷ [])) head;
    }

-- members by both words
pub each-of : {X : Type 0} (P : X → Type 0) (xs : List X) → ((x : X) → Member xs x → P x) → Each P xs
each-of P [] f = tt
each-of P (x ∷ xs) f = (f x (inl refl), each-of P xs (λ y m. f y (inr m)))
