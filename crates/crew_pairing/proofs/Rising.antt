-- Lists of duties in order of key.
use Rattle.std.proofs.Common.{◌≡◌, List, [], ◌∷◌, ◌++◌, refl, sym, ap, ◌∙◌, append_assoc, append-nil}
use Rattle.std.specs.declared.cmp.Ordering.TheVariants.{Less, Equal}
use Rattle.std.specs.Ordering.{ordering_then}
use Rattle.std.proofs.lemmas.Cmp.{tied_itself}
use Rattle.crew_pairing.specs.Duties.{RiseByKey}
use Rattle.crew_pairing.specs.Keys.{key_cmp, leg_cmp, leg_total}
use Rattle.crew_resource.specs.Members.{Each}
use Rattle.crew_pairing.specs.Legs.{Leg}
use Rattle.crew_pairing.specs.declared.duty.Duty.{Duty}
use Rattle.crew_pairing.proofs.InList.{Each-join}
use Rattle.crew_pairing.proofs.Tree.{Each-map}

-- each key begins with these legs
abbrev pub AllBegin : List Leg → List Duty → Type 0
AllBegin legs ds = Each (λ d. (rest : List Leg) × (d.key ≡ legs ++ rest)) ds

leg-same : (l : Leg) → leg_cmp l l ≡ Equal
leg-same l = tied_itself leg_total l

-- keys with one beginning compare by what follows
common : (legs a b : List Leg) → key_cmp (legs ++ a) (legs ++ b) ≡ key_cmp a b
common [] a b = refl
common (l ∷ legs) a b = ap (λ r. ordering_then r (key_cmp (legs ++ a) (legs ++ b))) (leg-same l) ∙ common legs a b

parted : (l m : Leg) (a b : List Leg) → leg_cmp l m ≡ Less → key_cmp (l ∷ a) (m ∷ b) ≡ Less
parted l m a b e = ap (λ r. ordering_then r (key_cmp a b)) e

-- the duties that begin with one leg stand before those that begin with a later one
pub apart : (legs : List Leg) (l m : Leg) (ds es : List Duty) → leg_cmp l m ≡ Less → AllBegin (legs ++ l ∷ []) ds → AllBegin (legs ++ m ∷ []) es
    → Each (λ d. Each (λ e. key_cmp d.key e.key ≡ Less) es) ds
apart legs l m [] es less a b = tt
apart legs l m (d ∷ ds) es less a b =
    (Each-map (λ (e : Duty). (rest : List Leg) × (e.key ≡ (legs ++ m ∷ []) ++ rest)) (λ (e : Duty). key_cmp d.key e.key ≡ Less) es (λ e k. before e k.0 k.1) b, apart legs l m ds es less a.1 b)
  where
    before : (e : Duty) (rest : List Leg) → e.key ≡ (legs ++ m ∷ []) ++ rest → key_cmp d.key e.key ≡ Less
    before e rest k =
        rw (a.0.1, k, append_assoc legs (l ∷ []) a.0.0, append_assoc legs (m ∷ []) rest) (common legs (l ∷ a.0.0) (m ∷ rest) ∙ parted l m a.0.0 rest less)

-- a duty stands before those that go on from it
pub goes-first : (legs : List Leg) (d : Duty) (l : Leg) (es : List Duty) → d.key ≡ legs → AllBegin (legs ++ l ∷ []) es → Each (λ e. key_cmp d.key e.key ≡ Less) es
goes-first legs d l es k b =
    Each-map (λ (e : Duty). (rest : List Leg) × (e.key ≡ (legs ++ l ∷ []) ++ rest)) (λ (e : Duty). key_cmp d.key e.key ≡ Less) es (λ e h. before e h.0 h.1) b
  where
    before : (e : Duty) (rest : List Leg) → e.key ≡ (legs ++ l ∷ []) ++ rest → key_cmp d.key e.key ≡ Less
    before e rest h =
        let own : d.key ≡ legs ++ [] = k ∙ sym (append-nil legs) in
        rw (own, h, append_assoc legs (l ∷ []) rest) (common legs [] (l ∷ rest))

-- two lists in order, the first before the second
pub rise-join : (ds es : List Duty) → RiseByKey ds → RiseByKey es → Each (λ d. Each (λ e. key_cmp d.key e.key ≡ Less) es) ds → RiseByKey (ds ++ es)
rise-join [] es r t c = t
rise-join (d ∷ ds) es r t c = (Each-join (λ (e : Duty). key_cmp d.key e.key ≡ Less) ds es r.0 c.0, rise-join ds es r.1 t c.1)

-- a longer beginning is a beginning
pub begin-shorter : (legs : List Leg) (l : Leg) (ds : List Duty) → AllBegin (legs ++ l ∷ []) ds → AllBegin legs ds
begin-shorter legs l ds b =
    Each-map (λ (d : Duty). (rest : List Leg) × (d.key ≡ (legs ++ l ∷ []) ++ rest)) (λ (d : Duty). (rest : List Leg) × (d.key ≡ legs ++ rest)) ds (λ d h. longer d h.0 h.1) b
  where
    longer : (d : Duty) (rest : List Leg) → d.key ≡ (legs ++ l ∷ []) ++ rest → (rest : List Leg) × (d.key ≡ legs ++ rest)
    longer d rest h = (l ∷ rest, h ∙ append_assoc legs (l ∷ []) rest)
