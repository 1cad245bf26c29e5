-- The node at a place: places go over each base's duties, base after base.
use Rattle.std.proofs.Common.{◌≡◌, ◌<◌, ◌+◌, ◌-◌, ◌*◌, ◌∙◌, ◌∷◌, ◌++◌, [], inl, inr, ℕ, zero, suc, true, List, Option, Some, None, get_or, length, map, refl, sym, ap, subst, arith}
use Rattle.std.specs.Prelude.{slice_get}
use Rattle.std.specs.Option.{option_map}
use Rattle.std.proofs.Math.Nat.{suc-mul}
use Rattle.std.proofs.lemmas.List.{length-map}
use Rattle.std.proofs.lemmas.Option.{get_or_from_slice_get, slice_get-map, slice_get_within}
use Rattle.crew_machine.proofs.Cells.{Some-same}
use Rattle.crew_machine.proofs.NodeList.{each-member, listed, node-of}
use Rattle.crew_machine.proofs.Alike.{node-total}
use Rattle.crew_machine.specs.Crew.{DutyNode, RiseByNode, node_cmp}
use Rattle.crew_pairing.specs.Pairings.{may_stand_after}
use Rattle.crew_net.proofs.InTime.{item-at}
use Rattle.crew_net.proofs.Segments.{le-or-lt}
use Rattle.crew_net.proofs.NodeList.{node-there}
use Rattle.crew_net.specs.Nets.{Net, RiseByCode, nodes_of}
use Rattle.crew_resource.proofs.Members.{Member-at}
use Rattle.crew_flights.specs.Codes.{code_cmp, code_cmp_total}
use Rattle.std.specs.declared.cmp.Ordering.TheVariants.{Less, Equal}
use Rattle.std.proofs.lemmas.Cmp.{tied_itself}
use Rattle.crew_pairing.specs.declared.duty.Duty.{Duty}
use Rattle.crew_round.specs.Marks.{IsJustBefore, StandsAt}

in-second : {X : Type 0} (xs ys : List X) (i : ℕ) → slice_get (xs ++ ys) (length xs + i) ≡ slice_get ys i
in-second [] ys i = ap (slice_get ys) (omega arith)
in-second (x ∷ xs) ys i =
    let e : suc (length xs) + i ≡ suc (length xs + i) = omega arith in
    ap (slice_get (x ∷ (xs ++ ys))) e ∙ in-second xs ys i

in-first : {X : Type 0} (xs ys : List X) (i : ℕ) → i < length xs → slice_get (xs ++ ys) i ≡ slice_get xs i
in-first [] ys i h = absurd (omega (arith, h))
in-first (x ∷ xs) ys zero h = refl
in-first (x ∷ xs) ys (suc i) h = in-first xs ys i (omega (arith, h))

abbrev row : List ℕ → List Duty → List DutyNode
row b ds = map (node-of b) ds

-- the node of a row and a rank
pub listed-there : (bases : List (List ℕ)) (ds : List Duty) (q r : ℕ) (b : List ℕ) (d : Duty) → slice_get bases q ≡ Some b → slice_get ds r ≡ Some d
    → slice_get (listed bases ds) (q * length ds + r) ≡ Some (node-of b d)
listed-there [] ds q r b d e f = absurd (let z : ⊥ = (cc) in z)
listed-there (x ∷ bases) ds zero r b d e f =
    let long = length-map ds (node-of x) in
    let within = slice_get_within ds r d f in
    let at : 0 * length ds + r ≡ r = omega arith in
    let same : x ≡ b = Some-same x b e in
    ap (slice_get (listed (x ∷ bases) ds)) at
    ∙ (in-first (row x ds) (listed bases ds) r (omega (arith, long, within))
    ∙ (slice_get-map (node-of x) ds r
    ∙ (ap (option_map (node-of x)) f
    ∙ ap (λ (z : List ℕ). Some (node-of z d)) same)))
listed-there (x ∷ bases) ds (suc q) r b d e f =
    let long = length-map ds (node-of x) in
    let more = suc-mul q (length ds) in
    let at : suc q * length ds + r ≡ length (row x ds) + (q * length ds + r) = omega (arith, long, more) in
    ap (slice_get (listed (x ∷ bases) ds)) at
    ∙ (in-second (row x ds) (listed bases ds) (q * length ds + r) ∙ listed-there bases ds q r b d e f)

-- where a node stands
pub record Stands (bases : List (List ℕ)) (ds : List Duty) (place : ℕ) (n : DutyNode) : Type 0 where
  pub row : ℕ
  pub rank : ℕ
  pub is_base : slice_get bases row ≡ Some n.base
  pub is_duty : slice_get ds rank ≡ Some n.duty
  pub stands : place ≡ row * length ds + rank

mapped : (x : List ℕ) (o : Option Duty) (n : DutyNode) → option_map (node-of x) o ≡ Some n → (d : Duty) × (o ≡ Some d) × (node-of x d ≡ n)
mapped x None n e = absurd (let z : ⊥ = (cc) in z)
mapped x (Some d) n e = (d, refl, Some-same (node-of x d) n e)

pub listed-found : (bases : List (List ℕ)) (ds : List Duty) (place : ℕ) (n : DutyNode) → slice_get (listed bases ds) place ≡ Some n → Stands bases ds place n
listed-found [] ds place n e = absurd (let z : ⊥ = (cc) in z)
listed-found (x ∷ bases) ds place n e =
    let long = length-map ds (node-of x) in
    elim (le-or-lt (length ds) place) as (λ _. Stands (x ∷ bases) ds place n) [
      | inl l ↦
          let k = place - length ds in
          let at : place ≡ length (row x ds) + k = omega (arith, long, l) in
          let there : slice_get (listed bases ds) k ≡ Some n = sym (ap (slice_get (listed (x ∷ bases) ds)) at ∙ in-second (row x ds) (listed bases ds) k) ∙ e in
          let rest = listed-found bases ds k n there in
          let more = suc-mul rest.row (length ds) in
          let stands = rest.stands in
          record { row = suc rest.row; rank = rest.rank; is_base = rest.is_base; is_duty = rest.is_duty; stands = omega (arith, l, more, stands) }
      | inr l ↦
          let here : slice_get (row x ds) place ≡ Some n = sym (in-first (row x ds) (listed bases ds) place (omega (arith, long, l))) ∙ e in
          let d = mapped x (slice_get ds place) n (sym (slice_get-map (node-of x) ds place) ∙ here) in
          record {
            row = 0;
            rank = place;
            is_base = ap (λ (m : DutyNode). Some m.base) d.2;
            is_duty = d.1 ∙ ap (λ (m : DutyNode). Some m.duty) d.2;
            stands = omega arith;
          }
    ]

-- the same of a network
pub at-in : (net : Net) (place base rank : ℕ) (d : Duty) → StandsAt net place base rank d → (b : List ℕ) × (slice_get net.bases base ≡ Some b) × (slice_get (listed net.bases net.duties) place ≡ Some (node-of b d))
at-in net place base rank d at =
    let b = item-at net.bases base at.in_bases in
    (b.0, b.1, ap (slice_get (listed net.bases net.duties)) at.is ∙ listed-there net.bases net.duties base rank b.0 d b.1 at.duty)

pub at-out : (net : Net) (place : ℕ) (n : DutyNode) → slice_get (listed net.bases net.duties) place ≡ Some n → (base rank : ℕ) × StandsAt net place base rank n.duty × (slice_get net.bases base ≡ Some n.base)
at-out net place n e =
    let f = listed-found net.bases net.duties place n e in
    (f.row, f.rank, record { in_bases = slice_get_within net.bases f.row n.base f.is_base; duty = f.is_duty; is = f.stands }, f.is_base)

-- ---- a base has one place

not-less-itself : (b c : List ℕ) → code_cmp b c ≡ Less → b ≡ c → ⊥
not-less-itself b c less same =
    let tied : code_cmp b b ≡ Equal = tied_itself code_cmp_total b in
    let clash : Less ≡ Equal = sym less ∙ (ap (code_cmp b) (sym same) ∙ tied) in
    let q : ⊥ = (cc) in q

pub one-row : (bases : List (List ℕ)) → RiseByCode bases → (i j : ℕ) (b c : List ℕ) → slice_get bases i ≡ Some b → slice_get bases j ≡ Some c → b ≡ c → i ≡ j
one-row [] r i j b c e f same = absurd (let z : ⊥ = (cc) in z)
one-row (x ∷ bases) r zero zero b c e f same = refl
one-row (x ∷ bases) r zero (suc j) b c e f same =
    absurd (not-less-itself x c (each-member (λ z. code_cmp x z ≡ Less) bases c r.0 (Member-at bases j c f)) (Some-same x b e ∙ same))
one-row (x ∷ bases) r (suc i) zero b c e f same =
    absurd (not-less-itself x b (each-member (λ z. code_cmp x z ≡ Less) bases b r.0 (Member-at bases i b e)) (Some-same x c f ∙ sym same))
one-row (x ∷ bases) r (suc i) (suc j) b c e f same = ap suc (one-row bases r.1 i j b c e f same)

not-itself : (x n : DutyNode) → node_cmp x n ≡ Less → x ≡ n → ⊥
not-itself x n less same =
    let tied : node_cmp x x ≡ Equal = tied_itself node-total x in
    let clash : Less ≡ Equal = sym less ∙ (ap (node_cmp x) (sym same) ∙ tied) in
    let q : ⊥ = (cc) in q

-- ---- arcs between places

pub just-before-in : (net : Net) → RiseByCode net.bases → (p q : ℕ) (n m : DutyNode) → slice_get (listed net.bases net.duties) p ≡ Some n → slice_get (listed net.bases net.duties) q ≡ Some m → n.base ≡ m.base
    → may_stand_after net.settings n.duty m.duty ≡ true → IsJustBefore net p q
just-before-in net rise p q n m e f same rested =
    let first = at-out net p n e in
    let second = at-out net q m f in
    let row : first.0 ≡ second.0 = one-row net.bases rise first.0 second.0 n.base m.base first.3 second.3 same in
    record {
      base = second.0;
      rank = first.1;
      next_rank = second.1;
      duty = n.duty;
      next_duty = m.duty;
      stands = subst (λ (k : ℕ). StandsAt net p k first.1 n.duty) row first.2;
      next_stands = second.2;
      arc = rested;
    }

-- a node has one place
pub one-place : (ns : List DutyNode) → RiseByNode ns → (i j : ℕ) (n : DutyNode) → slice_get ns i ≡ Some n → slice_get ns j ≡ Some n → i ≡ j
one-place [] r i j n e f = absurd (let z : ⊥ = (cc) in z)
one-place (x ∷ ns) r zero zero n e f = refl
one-place (x ∷ ns) r zero (suc j) n e f = absurd (not-itself x n (each-member (λ z. node_cmp x z ≡ Less) ns n r.0 (Member-at ns j n f)) (Some-same x n e))
one-place (x ∷ ns) r (suc i) zero n e f = absurd (not-itself x n (each-member (λ z. node_cmp x z ≡ Less) ns n r.0 (Member-at ns i n e)) (Some-same x n f))
one-place (x ∷ ns) r (suc i) (suc j) n e f = ap suc (one-place ns r.1 i j n e f)

-- ---- a node's name

pub named-there : (bases : List (List ℕ)) (ds : List Duty) (place : ℕ) (n : DutyNode) → slice_get (listed bases ds) place ≡ Some n → slice_get (nodes_of bases ds) place ≡ Some (record { base = n.base; key = n.duty.key })
named-there bases ds place n e =
    let f = listed-found bases ds place n e in
    let there = node-there bases ds f.row f.rank n.base n.duty (slice_get_within bases f.row n.base f.is_base) (slice_get_within ds f.rank n.duty f.is_duty) in
    let base = get_or_from_slice_get bases f.row n.base n.base f.is_base in
    let duty = get_or_from_slice_get ds f.rank n.duty n.duty f.is_duty in
    ap (slice_get (nodes_of bases ds)) f.stands
    ∙ (there
    ∙ (ap (λ (b : List ℕ). Some (record { base = b; key = (get_or ds f.rank n.duty).key })) base
    ∙ ap (λ (d : Duty). Some (record { base = n.base; key = d.key })) duty))
