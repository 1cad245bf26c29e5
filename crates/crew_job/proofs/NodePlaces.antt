-- Where the nodes of a network stand.
use Rattle.std.proofs.Common.{◌≡◌, ◌≤◌, ◌<◌, ◌+◌, ◌*◌, ◌∙◌, ℕ, zero, suc, List, [], ◌∷◌, ◌++◌, Option, Some, None, get_or, length, map, refl, ap, subst, arith}
use Rattle.std.specs.Prelude.{slice_get}
use Rattle.std.specs.List.{flat_map}
use Rattle.std.proofs.Math.Nat.{suc-mul}
use Rattle.std.proofs.lemmas.List.{length-map}
use Rattle.std.proofs.lemmas.Option.{slice_get_past}
use Rattle.crew_job.specs.Grounds.{node_at, node_of, nodes_in}
use Rattle.crew_machine.specs.Crew.{DutyNode}
use Rattle.crew_net.specs.Nets.{Net}
use Rattle.crew_pairing.specs.declared.duty.Duty.{Duty}
use Rattle.crew_resource.proofs.Members.{Member-at, Member-flat_map_out, Member-map_out}
use Rattle.crew_resource.specs.Members.{Member}
use Rattle.crew_dirty.proofs.crew_step_lemmas.Loops.{item-at}

in-second : {X : Type 0} (xs ys : List X) (i : ℕ) → slice_get (xs ++ ys) (length xs + i) ≡ slice_get ys i
in-second [] ys i = ap (slice_get ys) (omega arith)
in-second (x ∷ xs) ys i =
    let e : suc (length xs) + i ≡ suc (length xs + i) = omega arith in
    ap (slice_get (x ∷ (xs ++ ys))) e ∙ in-second xs ys i

in-first : {X : Type 0} (xs ys : List X) (i : ℕ) → i < length xs → slice_get (xs ++ ys) i ≡ slice_get xs i
in-first [] ys i h = absurd (omega (arith, h))
in-first (x ∷ xs) ys zero h = refl
in-first (x ∷ xs) ys (suc i) h = in-first xs ys i (omega (arith, h))

abbrev node : List ℕ → Duty → DutyNode
node b d = record { base = b; duty = d }

abbrev row : List ℕ → List Duty → List DutyNode
row b ds = map (node b) ds

abbrev rows : List (List ℕ) → List Duty → List DutyNode
rows bases ds = flat_map (λ b. row b ds) bases

row-at : (b : List ℕ) (ds : List Duty) (r : ℕ) → slice_get (row b ds) r ≡ node_of (Some b) (slice_get ds r)
row-at b [] r = refl
row-at b (d ∷ ds) zero = refl
row-at b (d ∷ ds) (suc r) = row-at b ds r

rows-at : (bases : List (List ℕ)) (ds : List Duty) (q r : ℕ) → r < length ds → slice_get (rows bases ds) (q * length ds + r) ≡ node_of (slice_get bases q) (slice_get ds r)
rows-at [] ds q r h = refl
rows-at (b ∷ bases) ds zero r h =
    let long = length-map ds (node b) in
    let at : 0 * length ds + r ≡ r = omega arith in
    ap (slice_get (rows (b ∷ bases) ds)) at ∙ (in-first (row b ds) (rows bases ds) r (omega (arith, long, h)) ∙ row-at b ds r)
rows-at (b ∷ bases) ds (suc q) r h =
    let long = length-map ds (node b) in
    let more = suc-mul q (length ds) in
    let at : suc q * length ds + r ≡ length (row b ds) + (q * length ds + r) = omega (arith, long, more) in
    ap (slice_get (rows (b ∷ bases) ds)) at ∙ (in-second (row b ds) (rows bases ds) (q * length ds + r) ∙ rows-at bases ds q r h)

-- the node of a base's place and a rank stands at the place of both
pub node-place : (net : Net) (base rank : ℕ) → rank < length net.duties → slice_get (nodes_in net) (base * length net.duties + rank) ≡ node_at net base rank
node-place net base rank h = rows-at net.bases net.duties base rank h

no-rows : (bases : List (List ℕ)) (ds : List Duty) (i : ℕ) → length ds ≡ 0 → slice_get (rows bases ds) i ≡ None
no-rows [] ds i e = refl
no-rows (b ∷ bases) [] i e = no-rows bases [] i e
no-rows (b ∷ bases) (d ∷ ds) i e = absurd (let n : suc (length ds) ≡ 0 = e in omega (arith, n))

-- without duties there is no node
pub no-nodes : (net : Net) (place : ℕ) → length net.duties ≡ 0 → slice_get (nodes_in net) place ≡ None
no-nodes net place e = no-rows net.bases net.duties place e

-- nor is there one past the last base
pub node-past : (net : Net) (place base rank : ℕ) → place ≡ base * length net.duties + rank → rank < length net.duties → length net.bases ≤ base → slice_get (nodes_in net) place ≡ None
node-past net place base rank e h l =
    ap (slice_get (nodes_in net)) e ∙ (node-place net base rank h ∙ ap (λ (b : Option (List ℕ)). node_of b (slice_get net.duties rank)) (slice_get_past net.bases base l))

some-node : (b : Option (List ℕ)) (d : Option Duty) (n : DutyNode) → node_of b d ≡ Some n → (b ≡ Some n.base) × (d ≡ Some n.duty)
some-node None d n e = absurd (let q : ⊥ = (cc) in q)
some-node (Some b) None n e = absurd (let q : ⊥ = (cc) in q)
some-node (Some b) (Some d) n e =
    let same : node b d ≡ n = (cc) in
    (ap (λ (x : DutyNode). Some x.base) same, ap (λ (x : DutyNode). Some x.duty) same)

-- the base and the duty of a node
pub node-parts : (net : Net) (base rank : ℕ) (n : DutyNode) → node_at net base rank ≡ Some n → (slice_get net.bases base ≡ Some n.base) × (slice_get net.duties rank ≡ Some n.duty)
node-parts net base rank n e = some-node (slice_get net.bases base) (slice_get net.duties rank) n e

pub node-from : (net : Net) (base rank : ℕ) (b : List ℕ) (d : Duty) → slice_get net.bases base ≡ Some b → slice_get net.duties rank ≡ Some d → node_at net base rank ≡ Some (node b d)
node-from net base rank b d e f = ap (λ (x : Option (List ℕ)). node_of x (slice_get net.duties rank)) e ∙ ap (λ (x : Option Duty). node_of (Some b) x) f

-- where there are a base and a duty, there is a node
pub some-node-at : (net : Net) (base rank : ℕ) → base < length net.bases → rank < length net.duties → (n : DutyNode) × (node_at net base rank ≡ Some n)
some-node-at net base rank h k =
    let b = there net.bases base h in
    let d = there net.duties rank k in
    (node b.0 d.0, node-from net base rank b.0 d.0 b.1 d.1)
  where
    there : {X : Type 0} (xs : List X) (i : ℕ) → i < length xs → (x : X) × (slice_get xs i ≡ Some x)
    there [] i h = absurd (omega (arith, h))
    there (x ∷ xs) zero h = (x, refl)
    there (x ∷ xs) (suc i) h = there xs i (omega (arith, h))

-- the node of a place
pub node-here : (net : Net) (place base rank : ℕ) (b : List ℕ) (d : Duty) → place ≡ base * length net.duties + rank → base < length net.bases → rank < length net.duties → b ≡ get_or net.bases base b → d ≡ get_or net.duties rank d
    → slice_get (nodes_in net) place ≡ Some (node b d)
node-here net place base rank b d e h k f g =
    ap (slice_get (nodes_in net)) e ∙ (node-place net base rank k ∙ node-from net base rank b d (item-at net.bases base b h f) (item-at net.duties rank d k g))

-- a node among those of a network has one of its bases and one of its duties
pub node-among : (net : Net) (place : ℕ) (n : DutyNode) → slice_get (nodes_in net) place ≡ Some n → Member net.bases n.base × Member net.duties n.duty
node-among net place n e =
    let m = Member-at (nodes_in net) place n e in
    let b = Member-flat_map_out (λ (c : List ℕ). row c net.duties) net.bases n m in
    let d = Member-map_out (node b.0) net.duties n b.2 in
    (subst (λ (x : DutyNode). Member net.bases x.base) d.2 b.1, subst (λ (x : DutyNode). Member net.duties x.duty) d.2 d.1)
