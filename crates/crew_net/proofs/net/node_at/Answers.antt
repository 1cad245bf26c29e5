use Rattle.std.proofs.Common.{◌≡◌, ◌<◌, ◌≤◌, ◌+◌, ◌*◌, ◌/◌, ◌%◌, ◌∙◌, ℕ, List, [], ◌∷◌, Some, length, get_or, refl, sym, subst, ap, arith}
use Rattle.std.specs.Prelude.{slice_get}
use Rattle.std.proofs.Math.Nat.{mod-add-div', mod-lt}
use Rattle.crew_net.specs.Nets.{nodes_of}
use Rattle.crew_net.proofs.Slices.{get-at}
use Rattle.crew_net.proofs.NodeList.{no-nodes, node-past, node-there}
use Rattle.crew_pairing.specs.declared.duty.Duty.{Duty}
use Rattle.crew_net.proofs.net.node_at.Goals as goal

none : (duties : List Duty) → length duties ≡ 0 → duties ≡ []
none [] e = refl
none (d ∷ duties) e = absurd (omega (arith, e))

split : (place n : ℕ) → place ≡ place / n * n + place % n
split place n = let e = mod-add-div' place n in omega (arith, e)

pub returns-then-is_empty : goal.returns-then-is_empty
returns-then-is_empty c =
    let e = none c.args.duties.now (let t = c.if-is_empty.ensures in grind (arith, t)) in
    sym (ap (λ (ds : List Duty). slice_get (nodes_of c.args.bases.now ds) c.args.place) e ∙ no-nodes c.args.bases.now c.args.place)

any : (duties : List Duty) → (duties ≡ [] → ⊥) → 0 < length duties
any [] none = absurd (none refl)
any (d ∷ duties) none = omega arith

pub returns-then-row-bases : goal.returns-then-row-bases
returns-then-row-bases c =
    let bases = c.args.bases.now in
    let duties = c.args.duties.now in
    let q = c.args.place / length duties in
    let r = c.args.place % length duties in
    let past : length bases ≤ q = subst (λ (n : ℕ). length bases ≤ c.args.place / n) c.len-count.ensures c.if-row-bases.true in
    sym (ap (slice_get (nodes_of bases duties)) (split c.args.place (length duties)) ∙ node-past bases duties q r past)

pub returns : goal.returns
returns c =
    let bases = c.args.bases.now in
    let duties = c.args.duties.now in
    let q = c.args.place / length duties in
    let r = c.args.place % length duties in
    let b = c.index-bases-row.result in
    let d = c.at.result.now in
    let some : 0 < length duties = any duties (λ e. let t = c.is_empty.ensures.1 e in let f = c.if-is_empty.false in let z : ⊥ = (cc) in z) in
    let low : q < length bases = subst (λ (n : ℕ). c.args.place / n < length bases) c.len-count.ensures (omega (arith, c.if-row-bases.false)) in
    let there = node-there bases duties q r b d low (mod-lt c.args.place some) in
    let here : slice_get duties r ≡ Some d = subst (λ (n : ℕ). slice_get duties (c.args.place % n) ≡ Some d) c.len-count.ensures c.at.ensures in
    let base : b ≡ get_or bases q b = subst (λ (n : ℕ). b ≡ get_or bases (c.args.place / n) b) c.len-count.ensures c.index-bases-row.is in
    let key : c.copy-key.result ≡ (get_or duties r d).key = c.copy-key.ensures ∙ ap (λ (x : Duty). x.key) (sym (get-at duties r d d here)) in
    let same : Some (record { base = b; key = c.copy-key.result }) ≡ Some (record { base = get_or bases q b; key = (get_or duties r d).key }) = λ i. Some (record { base = base i; key = key i }) in
    same ∙ sym (ap (slice_get (nodes_of bases duties)) (split c.args.place (length duties)) ∙ there)
