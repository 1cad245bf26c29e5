-- Nodes by the place of their base and the rank of their duty.
use Rattle.std.proofs.Common.{◌≡◌, ◌<◌, ◌≤◌, ◌+◌, ◌*◌, ◌/◌, ◌%◌, ◌&&◌, ◌∙◌, ◌∷◌, [], inl, inr, ℕ, true, false, List, Some, length, get_or, sym, ap, subst, arith}
use Rattle.std.specs.Prelude.{◌↔◌, slice_get}
use Rattle.std.specs.declared.cmp.Ordering.{Ordering}
use Rattle.std.specs.declared.cmp.Ordering.TheVariants.{Equal, Less}
use Rattle.std.proofs.Math.Nat.{mod-add-div', mod-lt, mul-le-mul}
use Rattle.std.proofs.lemmas.Bool.{and_from, and_parts}
use Rattle.std.proofs.lemmas.Option.{get_or_from_slice_get}
use Rattle.crew_carry.proofs.Arriving.{rises}
use Rattle.crew_carry.proofs.Pushed.{some-is, some-once}
use Rattle.crew_carry.proofs.Ties.{key-tie}
use Rattle.crew_dirty.proofs.Paths.{path-none}
use Rattle.crew_dirty.specs.Carried.{Carried, IsCarriedOver}
use Rattle.crew_dirty.specs.Dirty.{IsKept, IsUntouched}
use Rattle.crew_flights.specs.Timetable.{Timetable}
use Rattle.std.specs.FinMap as map
use Rattle.crew_net.proofs.InTime.{item-at}
use Rattle.crew_net.proofs.Longest.{stands}
use Rattle.crew_net.proofs.NodeList.{no-nodes, node-past, node-there}
use Rattle.crew_net.proofs.Segments.{le-or-lt}
use Rattle.crew_net.specs.Layers.{IsPath}
use Rattle.crew_net.specs.Nets.{IsNodeOf, Net, nodes_of}
use Rattle.crew_net.specs.declared.node.Node.{Node}
use Rattle.crew_pairing.specs.Duties.{RiseByKey}
use Rattle.crew_pairing.specs.Keys.{key_cmp}
use Rattle.crew_pairing.specs.declared.duty.Duty.{Duty}
use Rattle.crew_resource.specs.Members.{Member}
use Rattle.crew_resource.proofs.Members.{Member-at}

less-equal : (o : Ordering) → o ≡ Less → o ≡ Equal → ⊥
less-equal o p q = cc

-- duties that rise by key have different keys
pub one-duty : (duties : List Duty) → RiseByKey duties → (d e : Duty) → Member duties d → Member duties e → d.key ≡ e.key → d ≡ e
one-duty duties rising d e m n same =
    let i = stands duties d m in
    let j = stands duties e n in
    elim (le-or-lt i.0 j.0) as (λ _. d ≡ e) [
      | inl l ↦ elim (le-or-lt j.0 i.0) as (λ _. d ≡ e) [
        | inl k ↦ (let one : j.0 ≡ i.0 = omega (arith, l, k) in some-is duties i.0 d e i.1 (ap (slice_get duties) (sym one) ∙ j.1))
        | inr k ↦ absurd (less-equal (key_cmp d.key e.key) (rises duties rising i.0 j.0 d e k i.1 j.1) (key-tie e d (sym same)))
      ]
      | inr l ↦ absurd (less-equal (key_cmp e.key d.key) (rises duties rising j.0 i.0 e d l j.1 i.1) (key-tie d e same))
    ]

module _ (t u : Timetable) (old new : Net) (c : Carried) (over : IsCarriedOver t u old new c) (b r : ℕ) (node : Node) (d : Duty)
    (base : slice_get new.bases b ≡ Some node.base) (known : slice_get new.duties r ≡ Some d) (key : d.key ≡ node.key) where
  pub is-node : IsNodeOf new node d
  is-node = record { base = Member-at new.bases b node.base base; duty = Member-at new.duties r d known; key = key }

  pub own-duty : (e : Duty) → IsNodeOf new node e → d ≡ e
  own-duty e n = one-duty new.duties over.is_net.duties.rising d e (Member-at new.duties r d known) n.duty (key ∙ sym n.key)

  pub kept-at : ((get_or c.bases b false && get_or c.unreached r false) ≡ true) ↔ IsKept t u old new node
  kept-at = (
    λ e. (
        let p = and_parts (get_or c.bases b false) (get_or c.unreached r false) e in
        record {
          duty = d;
          is_node = is-node;
          unreached = λ first others path. ((over.base_flags b node.base base).0 p.0, (over.unreached_flags r d known).0 p.1 first others path);
        }),
    λ k. (
        let one = own-duty k.duty k.is_node in
        let own = k.unreached k.duty [] (path-none new k.duty k.is_node.duty) in
        and_from (get_or c.bases b false) (get_or c.unreached r false) ((over.base_flags b node.base base).1 own.0)
        ((over.unreached_flags r d known).1 (λ first others path. (k.unreached first others (subst (IsPath new first others) one path)).1))),
  )

  pub untouched-at : ((get_or c.bases b false && get_or c.same r false) ≡ true) ↔ IsUntouched old new (map.get t.bases node.base) (map.get u.bases node.base) node.base d
  untouched-at = (
    λ e. (let p = and_parts (get_or c.bases b false) (get_or c.same r false) e in ((over.base_flags b node.base base).0 p.0, (over.same_flags r d known).0 p.1)),
    λ k. and_from (get_or c.bases b false) (get_or c.same r false) ((over.base_flags b node.base base).1 k.0) ((over.same_flags r d known).1 k.1),
  )

split : (place n : ℕ) → place ≡ place / n * n + place % n
split place n = let e = mod-add-div' place n in omega (arith, e)

-- the base and the duty of the node at a place
pub record IsAtPlace (bases : List (List ℕ)) (duties : List Duty) (place : ℕ) (node : Node) : Type 0 where
  pub base : slice_get bases (place / length duties) ≡ Some node.base
  pub duty : Duty
  pub known : slice_get duties (place % length duties) ≡ Some duty
  pub key : duty.key ≡ node.key
  pub below : place < length bases * length duties

none-or-some : (duties : List Duty) (i : ℕ) (bases : List (List ℕ)) (node : Node) → slice_get (nodes_of bases duties) i ≡ Some node → 0 < length duties
none-or-some [] i bases node e = absurd (let n = no-nodes bases i in let q : ⊥ = (cc) in q)
none-or-some (d ∷ ds) i bases node e = omega arith

below-all : (q r n m : ℕ) → q < m → r < n → q * n + r < m * n
below-all q r n m h k =
    let e : (q + 1) * n ≤ m * n = mul-le-mul (omega (arith, h)) (omega arith) in
    let f : (q + 1) * n ≡ q * n + n = omega arith in
    omega (arith, e, f, k)

pub node-found : (bases : List (List ℕ)) (duties : List Duty) (place : ℕ) (node : Node) → slice_get (nodes_of bases duties) place ≡ Some node → IsAtPlace bases duties place node
node-found bases duties place node e =
    let n = length duties in
    let some = none-or-some duties place bases node e in
    let q = place / n in
    let r = place % n in
    let is = split place n in
    let small : r < n = mod-lt place some in
    let at : slice_get (nodes_of bases duties) (q * n + r) ≡ Some node = ap (slice_get (nodes_of bases duties)) (sym is) ∙ e in
    elim (le-or-lt (length bases) q) as (λ _. IsAtPlace bases duties place node) [
      | inl l ↦ absurd (let none = node-past bases duties q r l in let z : ⊥ = (cc) in z)
      | inr l ↦
          let b = item-at bases q l in
          let d = item-at duties r small in
          let there = node-there bases duties q r b.0 d.0 l small in
          let one = some-once node (record { base = get_or bases q b.0; key = (get_or duties r d.0).key }) (sym at ∙ there) in
          let its-base : node.base ≡ b.0 = ap (λ (m : Node). m.base) one ∙ get_or_from_slice_get bases q b.0 b.0 b.1 in
          let its-key : node.key ≡ d.0.key = ap (λ (m : Node). m.key) one ∙ ap (λ (x : Duty). x.key) (get_or_from_slice_get duties r d.0 d.0 d.1) in
          let all = below-all q r n (length bases) l small in
          record {
            base = b.1 ∙ ap (λ (x : List ℕ). Some x) (sym its-base);
            duty = d.0;
            known = d.1;
            key = sym its-key;
            below = subst (λ (k : ℕ). k < length bases * n) (sym is) all;
          }
    ]

positive : (place b n : ℕ) → place < b * n → 0 < n
positive place b n h = elim (le-or-lt n 0) as (λ _. 0 < n) [
  | inl l ↦ absurd (let z : n ≡ 0 = omega (arith, l) in let e : b * n ≡ b * 0 = ap (λ (k : ℕ). b * k) z in omega (arith, h, e))
  | inr l ↦ l
]

pub node-within : (bases : List (List ℕ)) (duties : List Duty) (place : ℕ) → place < length bases * length duties → (node : Node) × (slice_get (nodes_of bases duties) place ≡ Some node)
node-within bases duties place h =
    let n = length duties in
    let some = positive place (length bases) n h in
    let q = place / n in
    let r = place % n in
    let is = split place n in
    let small : r < n = mod-lt place some in
    elim (le-or-lt (length bases) q) as (λ _. (node : Node) × (slice_get (nodes_of bases duties) place ≡ Some node)) [
      | inl l ↦ absurd (let k : length bases * n ≤ q * n = mul-le-mul l (omega arith) in omega (arith, h, k, is))
      | inr l ↦
          let b = item-at bases q l in
          let d = item-at duties r small in
          (record { base = get_or bases q b.0; key = (get_or duties r d.0).key }, ap (slice_get (nodes_of bases duties)) is ∙ node-there bases duties q r b.0 d.0 l small)
    ]

-- the node at a place is kept exactly where its flags are set
pub kept-at-place : (t u : Timetable) (old new : Net) (c : Carried) → IsCarriedOver t u old new c → (place : ℕ) (node : Node) → slice_get (nodes_of new.bases new.duties) place ≡ Some node
    → ((get_or c.bases (place / length new.duties) false && get_or c.unreached (place % length new.duties) false) ≡ true) ↔ IsKept t u old new node
kept-at-place t u old new c over place node at =
    let p = node-found new.bases new.duties place node at in
    kept-at t u old new c over (place / length new.duties) (place % length new.duties) node p.duty p.base p.known p.key
