-- The nodes of a network, by place.
use Rattle.std.proofs.Common.{◌≡◌, ◌≤◌, ◌<◌, ◌+◌, ◌*◌, ℕ, zero, suc, List, [], ◌∷◌, ◌++◌, Some, None, length, refl, ap, ◌∙◌, arith, get_or, map, Fits, w64, rules}
use Rattle.std.specs.Prelude.{slice_get}
use Rattle.std.proofs.Math.Nat.{suc-mul, mul-le-mul}
use Rattle.std.proofs.lemmas.Option.{slice_get-get_or}
use Rattle.std.proofs.lemmas.List.{length-map, get_or-map}
use Rattle.crew_net.specs.Nets.{nodes_of}
use Rattle.crew_net.specs.declared.node.Node.{Node}
use Rattle.crew_pairing.specs.declared.duty.Duty.{Duty}

in-second : {X : Type 0} (xs ys : List X) (i : ℕ) → slice_get (xs ++ ys) (length xs + i) ≡ slice_get ys i
in-second [] ys i = ap (slice_get ys) (omega arith)
in-second (x ∷ xs) ys i =
    let e : suc (length xs) + i ≡ suc (length xs + i) = omega arith in
    ap (slice_get (x ∷ (xs ++ ys))) e ∙ in-second xs ys i

in-first : {X : Type 0} (xs ys : List X) (i : ℕ) → i < length xs → slice_get (xs ++ ys) i ≡ slice_get xs i
in-first [] ys i h = absurd (omega (arith, h))
in-first (x ∷ xs) ys zero h = refl
in-first (x ∷ xs) ys (suc i) h = in-first xs ys i (omega (arith, h))

abbrev row : List ℕ → List Duty → List Node
row b ds = map (λ d. record { base = b; key = d.key }) ds

pub node-there : (bases : List (List ℕ)) (ds : List Duty) (q r : ℕ) (b : List ℕ) (d : Duty) → q < length bases → r < length ds
    → slice_get (nodes_of bases ds) (q * length ds + r) ≡ Some (record { base = get_or bases q b; key = (get_or ds r d).key })
node-there [] ds q r b d hq hr = absurd (omega (arith, hq))
node-there (x ∷ bases) ds zero r b d hq hr =
    let long = length-map ds (λ (e : Duty). let n : Node = record { base = x; key = e.key } in n) in
    let at : 0 * length ds + r ≡ r = omega arith in
    ap (slice_get (nodes_of (x ∷ bases) ds)) at
    ∙ (in-first (row x ds) (nodes_of bases ds) r (omega (arith, long, hr))
    ∙ (slice_get-get_or (row x ds) r (record { base = x; key = d.key }) (omega (arith, long, hr))
    ∙ ap (λ (n : Node). Some n) (get_or-map (λ (e : Duty). let n : Node = record { base = x; key = e.key } in n) ds r d (record { base = x; key = d.key }) hr)))
node-there (x ∷ bases) ds (suc q) r b d hq hr =
    let long = length-map ds (λ (e : Duty). let n : Node = record { base = x; key = e.key } in n) in
    let more = suc-mul q (length ds) in
    let at : suc q * length ds + r ≡ length (row x ds) + (q * length ds + r) = omega (arith, long, more) in
    ap (slice_get (nodes_of (x ∷ bases) ds)) at
    ∙ (in-second (row x ds) (nodes_of bases ds) (q * length ds + r) ∙ node-there bases ds q r b d (omega (arith, hq)) hr)

pub node-past : (bases : List (List ℕ)) (ds : List Duty) (q r : ℕ) → length bases ≤ q → slice_get (nodes_of bases ds) (q * length ds + r) ≡ None
node-past [] ds q r h = refl
node-past (x ∷ bases) ds zero r h = absurd (omega (arith, h))
node-past (x ∷ bases) ds (suc q) r h =
    let long = length-map ds (λ (e : Duty). let n : Node = record { base = x; key = e.key } in n) in
    let more = suc-mul q (length ds) in
    let at : suc q * length ds + r ≡ length (row x ds) + (q * length ds + r) = omega (arith, long, more) in
    ap (slice_get (nodes_of (x ∷ bases) ds)) at
    ∙ (in-second (row x ds) (nodes_of bases ds) (q * length ds + r) ∙ node-past bases ds q r (omega (arith, h)))

pub no-nodes : (bases : List (List ℕ)) (i : ℕ) → slice_get (nodes_of bases []) i ≡ None
no-nodes [] i = refl
no-nodes (x ∷ bases) i = no-nodes bases i

pub few-nodes : (b d : ℕ) → b ≤ 16 → d ≤ 200_000 → Fits w64 (b * d)
few-nodes b d hb hd = let p : b * d ≤ 16 * 200_000 = mul-le-mul hb hd in search (rules, p)
