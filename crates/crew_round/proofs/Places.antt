-- Where nodes stand: each place below the number of nodes is that of one base and one rank.
use Rattle.std.proofs.Common.{◌≡◌, ℕ, ◌+◌, ◌*◌, ◌/◌, ◌%◌, ◌<◌, ◌≤◌, List, get_or, length, true, sym, ◌∙◌, ap, subst, ⊎_elim, arith}
use Rattle.std.specs.Prelude.{slice_get}
use Rattle.std.proofs.Math.Nat.{div-add-mod, div-lt_iff_lt-mul, mod-lt, mul-le-mul}
use Rattle.std.proofs.lemmas.Bool.{cases_lt}
use Rattle.std.proofs.lemmas.Nat.{div-mul-add, mul-add-lt}
use Rattle.std.proofs.lemmas.Option.{slice_get_within}
use Rattle.crew_net.proofs.InTime.{item-at}
use Rattle.crew_net.specs.Nets.{AreArrivalPlaces, Net}
use Rattle.crew_pairing.specs.Pairings.{may_stand_after}
use Rattle.crew_pairing.specs.declared.duty.Duty.{Duty}
use Rattle.crew_round.proofs.Lists.{one-item}
use Rattle.crew_round.specs.Machinery.Lines.{IsSpot}
use Rattle.crew_round.specs.Marks.{IsJustBefore, StandsAt, node_count}

pub rank-below : (net : Net) (place base rank : ℕ) (d : Duty) → StandsAt net place base rank d → rank < length net.duties
rank-below net place base rank d s = slice_get_within net.duties rank d s.duty

-- the base and the rank of a place
pub base-of : (net : Net) (place base rank : ℕ) (d : Duty) → StandsAt net place base rank d → place / length net.duties ≡ base
base-of net place base rank d s =
    ap (λ (z : ℕ). z / length net.duties) s.is ∙ div-mul-add base (length net.duties) rank (rank-below net place base rank d s)

pub rank-of : (net : Net) (place base rank : ℕ) (d : Duty) → StandsAt net place base rank d → place % length net.duties ≡ rank
rank-of net place base rank d s =
    let n = length net.duties in
    let whole : n * (place / n) + place % n ≡ place = div-add-mod place n in
    let b : n * (place / n) ≡ n * base = ap (λ (z : ℕ). n * z) (base-of net place base rank d s) in
    let is : place ≡ base * n + rank = s.is in
    let turned : n * base ≡ base * n = omega arith in
    omega (arith, whole, b, is, turned)

pub one-base : (net : Net) (place base rank other r : ℕ) (d e : Duty) → StandsAt net place base rank d → StandsAt net place other r e → base ≡ other
one-base net place base rank other r d e s t = sym (base-of net place base rank d s) ∙ base-of net place other r e t

pub one-rank : (net : Net) (place base rank other r : ℕ) (d e : Duty) → StandsAt net place base rank d → StandsAt net place other r e → rank ≡ r
one-rank net place base rank other r d e s t = sym (rank-of net place base rank d s) ∙ rank-of net place other r e t

pub one-duty : (net : Net) (place base rank other r : ℕ) (d e : Duty) → StandsAt net place base rank d → StandsAt net place other r e → d ≡ e
one-duty net place base rank other r d e s t =
    one-item d e (sym s.duty ∙ (ap (slice_get net.duties) (one-rank net place base rank other r d e s t) ∙ t.duty))

pub place-below : (net : Net) (place base rank : ℕ) (d : Duty) → StandsAt net place base rank d → place < node_count net
place-below net place base rank d s =
    let n = length net.duties in
    let at = mul-add-lt base n rank (length net.bases) s.in_bases (rank-below net place base rank d s) in
    let is : place ≡ base * n + rank = s.is in
    let turned : n * length net.bases ≡ length net.bases * n = omega arith in
    omega (arith, at, is, turned)

pub some-duties : (place b n : ℕ) → place < b * n → 0 < n
some-duties place b n h =
    ⊎_elim {C = 0 < n} (λ l. l)
    (λ l. absurd (let z : n ≡ 0 = omega (arith, l) in let e : b * n ≡ b * 0 = ap (λ (k : ℕ). b * k) z in omega (arith, h, e)))
    (cases_lt 0 n)

-- what stands at a place below
pub record IsThere (net : Net) (place : ℕ) : Type 0 where
  pub duty : Duty
  pub stands : StandsAt net place (place / length net.duties) (place % length net.duties) duty

pub there : (net : Net) (place : ℕ) → place < node_count net → IsThere net place
there net place h =
    let n = length net.duties in
    let some = some-duties place (length net.bases) n h in
    let d = item-at net.duties (place % n) (mod-lt place some) in
    let whole : n * (place / n) + place % n ≡ place = div-add-mod place n in
    let turned : n * (place / n) ≡ place / n * n = omega arith in
    record {
      duty = d.0;
      stands = record {
        in_bases = (div-lt_iff_lt-mul some).1 h;
        duty = d.1;
        is = omega (arith, whole, turned);
      };
    }

-- what stands just before a node
pub record IsArc (net : Net) (first base : ℕ) (d : Duty) : Type 0 where
  pub rank : ℕ
  pub duty : Duty
  pub stands : StandsAt net first base rank duty
  pub may : may_stand_after net.settings duty d ≡ true

pub just-before : (net : Net) (first second base rank : ℕ) (d : Duty) → StandsAt net second base rank d → IsJustBefore net first second → IsArc net first base d
just-before net first second base rank d s j = record {
  rank = j.rank;
  duty = j.duty;
  stands = subst (λ (b : ℕ). StandsAt net first b j.rank j.duty) (sym (one-base net second base rank j.base j.next_rank d j.next_duty s j.next_stands)) j.stands;
  may = subst (λ (z : Duty). may_stand_after net.settings j.duty z ≡ true) (sym (one-duty net second base rank j.base j.next_rank d j.next_duty s j.next_stands)) j.arc;
}

pub arc-before : (net : Net) (first second base rank r : ℕ) (d e : Duty) → StandsAt net second base rank d → StandsAt net first base r e → may_stand_after net.settings e d ≡ true → IsJustBefore net first second
arc-before net first second base rank r d e s t may = record {
  base = base;
  rank = r;
  next_rank = rank;
  duty = e;
  next_duty = d;
  stands = t;
  next_stands = s;
  arc = may;
}

-- the spot of a place
pub spot-there : (net : Net) (arrivals : List ℕ) (place count : ℕ) → count ≡ length net.duties → place < node_count net → AreArrivalPlaces net arrivals
    → (d : Duty) × IsSpot net (record { place = place; base = place / count; rank = place % count; arrival = get_or arrivals (place % count) 0 }) d
spot-there net arrivals place count e h a =
    let t = there net place h in
    subst (λ (n : ℕ). (d : Duty) × IsSpot net (record { place = place; base = place / n; rank = place % n; arrival = get_or arrivals (place % n) 0 }) d) (sym e)
    (t.duty, record { stands = t.stands; arrives = a.exact (place % length net.duties) t.duty t.stands.duty })

pub few-nodes : (bases duties : ℕ) → bases ≤ 16 → duties ≤ 200_000 → bases * duties ≤ 4_294_967_295
few-nodes bases duties a b = let m : bases * duties ≤ 16 * 200_000 = mul-le-mul a b in omega (arith, m)
