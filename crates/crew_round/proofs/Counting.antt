-- What each base counts: as a line begins, and when one node more has its flag.
use Rattle.std.proofs.Common.{◌≡◌, ℕ, zero, suc, replicate, ◌+◌, ◌*◌, ◌<◌, ◌≤◌, nat_eq, Bool, true, false, cond, List, [], ◌∷◌, ◌++◌, Some, Vec, drop, get_or, length, slice_set, take, refl, sym, ◌∙◌, ap, subst, ⊎_elim, arith, tests}
use Rattle.std.specs.Prelude.{slice_get}
use Rattle.std.specs.Global.{Global}
use Rattle.std.proofs.Math.Nat.{mul-le-mul}
use Rattle.std.proofs.lemmas.List.{get_or-drop, get_or-set_other, get_or-set_same, get_or-take, length-append, length-drop, length-set, length-take-le}
use Rattle.std.proofs.lemmas.Option.{slice_get_within}
use Rattle.crew_net.proofs.InTime.{item-at}
use Rattle.crew_net.specs.Events.{AreEvents, arrival_cmp}
use Rattle.crew_net.specs.Nets.{Net}
use Rattle.crew_pairing.specs.Events.{arrival_of}
use Rattle.crew_pairing.specs.declared.duty.Duty.{Duty}
use Rattle.crew_ready.specs.Counts as Ready
use Rattle.crew_ready.specs.Counts.{AreCounts}
use Rattle.crew_round.proofs.Lists.{get-pushed, get-set-here, get-set-other, one-item, same-or-not}
use Rattle.crew_round.proofs.Places.{one-base, one-rank, rank-below}
use Rattle.crew_dirty.specs.Carried.{Carried}
use Rattle.crew_round.proofs.Due.{due-from, due-tells}
use Rattle.crew_round.specs.declared.mark.Mark.{Mark}
use Rattle.crew_round.specs.declared.mark.Mark.TheVariants.{Waiting}
use Rattle.crew_round.specs.Machinery.Lines.{AllBefore, AreCounted, AreCountsUpTo, Grows, HasCounts, IsDueOf, IsFlagged, IsLine, IsRow, IsSpot, Stays, may_come}
use Rattle.crew_round.specs.Marks.{StandsAt, node_count}
use Rattle.crew_round.specs.declared.line.Line.{Line}
use Rattle.crew_round.specs.declared.spot.Spot.{Spot}

-- a part of the flags is a base's row
pub row-of : (net : Net) (flags : List Bool) (base start count : ℕ) → length flags ≡ node_count net → base < length net.bases → start ≡ base * length net.duties → count ≡ length net.duties
    → IsRow net (λ place. get_or flags place false) base (take count (drop start flags))
row-of net flags base start count long low s n =
    let d = length net.duties in
    let more : (base + 1) * d ≤ length net.bases * d = mul-le-mul (omega (arith, low)) (omega arith) in
    let one : (base + 1) * d ≡ base * d + d = omega arith in
    let rest = length-drop start flags in
    record {
      long = length-take-le count (drop start flags) (omega (arith, more, one, rest, long, s, n)) ∙ n;
      tied = λ rank h. get_or-take count (drop start flags) rank false (omega (arith, h, n)) ∙ (get_or-drop start flags rank false ∙ ap (λ (z : ℕ). get_or flags (z + rank) false) s);
    }

pub counts-more : (net : Net) (flags : List Bool) (n : ℕ) (all next : Vec Ready.Counts Global) (counts : Ready.Counts) → AreCountsUpTo net flags n all → next.items ≡ all.items ++ counts ∷ []
    → HasCounts net (λ place. get_or flags place false) n counts → AreCountsUpTo net flags (n + 1) next
counts-more net flags n all next counts a is h =
    let long : length all.items ≡ n = a.long in
    let l : length next.items ≡ length all.items + length (counts ∷ []) = ap length is ∙ length-append all.items (counts ∷ []) in
    record {
      long = omega (arith, long, l);
      right = λ base c at.
          ⊎_elim {C = HasCounts net (λ place. get_or flags place false) base c}
          (λ s. a.right base c s)
          (λ s. subst (λ (b : ℕ). HasCounts net (λ place. get_or flags place false) b c) (sym (s.0 ∙ long)) (subst (HasCounts net (λ place. get_or flags place false) n) s.1 h))
          (get-pushed all.items counts base c (ap (λ (z : List Ready.Counts). slice_get z base) (sym is) ∙ at));
    }

-- flags with one more
pub flags-more : (flag : ℕ → Bool) (place : ℕ) → flag place ≡ false → (next : ℕ → Bool) × IsFlagged flag next place true
flags-more flag place was = (
  λ k. cond (nat_eq k place) true (flag k),
  record {
    was = was;
    here = (let e : nat_eq place place ≡ true = grind (arith, tests) in rw e refl);
    elsewhere = λ k n. (let e : nat_eq k place ≡ false = not-equal k place n in rw e refl);
  },
)
  where
    not-equal : (k p : ℕ) → (k ≡ p → ⊥) → nat_eq k p ≡ false
    not-equal k p n = grind (arith, tests, n)

-- one node more of a base has its flag
pub counted-more : (net : Net) (flag next : ℕ → Bool) (old : Line) (spot : Spot) (d : Duty) (was now : Ready.Counts) → IsSpot net spot d → IsFlagged flag next spot.place true
    → length old.counts.items ≡ length net.bases → AreCounted net flag old → slice_get old.counts.items spot.base ≡ Some was → AreEvents arrival_of arrival_cmp net.duties net.arrivals
    → ((done : List Bool) (rank : ℕ) (e : Duty) → AreCounts net done was → AreEvents arrival_of arrival_cmp net.duties net.arrivals → slice_get net.duties rank ≡ Some e
    → slice_get net.arrivals spot.arrival ≡ Some (arrival_of e) → rank < length done → get_or done rank false ≡ false → AreCounts net (slice_set done rank true) now)
    → (base : ℕ) (counts : Ready.Counts) → slice_get (slice_set old.counts.items spot.base now) base ≡ Some counts → HasCounts net next base counts
counted-more net flag next old spot d was now is f long counted at events done base counts there =
    let n = length net.duties in
    let s = is.stands in
    let low = rank-below net spot.place spot.base spot.rank d s in
    let bases = slice_get_within old.counts.items spot.base was at in
    ⊎_elim {C = HasCounts net next base counts}
    (λ e.
    let h = counted spot.base was at in
    let place : spot.place ≡ spot.base * n + spot.rank = s.is in
    let inside : spot.rank < length h.row = (let l = h.is_row.long in omega (arith, l, low)) in
    let none : get_or h.row spot.rank false ≡ false = h.is_row.tied spot.rank low ∙ (ap flag (sym place) ∙ f.was) in
    let own : now ≡ counts = one-item now counts (sym (get-set-here old.counts.items spot.base now bases) ∙ (ap (slice_get (slice_set old.counts.items spot.base now)) (sym e) ∙ there)) in
    let right : HasCounts net next spot.base now = record {
      row = slice_set h.row spot.rank true;
      is_row = record {
        long = length-set h.row spot.rank true ∙ h.is_row.long;
        tied = λ rank l.
            ⊎_elim {C = get_or (slice_set h.row spot.rank true) rank false ≡ next (spot.base * n + rank)}
            (λ q. ap (λ (z : ℕ). get_or (slice_set h.row spot.rank true) z false) q ∙ (get_or-set_same h.row spot.rank true false inside ∙ (sym f.here ∙ (ap next place ∙ ap (λ (z : ℕ). next (spot.base * n + z)) (sym q)))))
            (λ q. get_or-set_other h.row spot.rank rank true false q ∙ (h.is_row.tied rank l ∙ sym (f.elsewhere (spot.base * n + rank)
            (λ x.
            let item = item-at net.duties rank l in
            let t : StandsAt net spot.place spot.base rank item.0 = record { in_bases = s.in_bases; duty = item.1; is = sym x } in
            q (one-rank net spot.place spot.base rank spot.base spot.rank item.0 d t s)))))
            (same-or-not rank spot.rank);
      };
      are = done h.row spot.rank d h.are events s.duty is.arrives inside none;
    } in
    subst (λ (b : ℕ). HasCounts net next b counts) (sym e) (subst (HasCounts net next spot.base) own right))
    (λ e.
    let same : slice_get old.counts.items base ≡ Some counts = sym (get-set-other old.counts.items spot.base base now e) ∙ there in
    let h = counted base counts same in
    let inside = slice_get_within old.counts.items base counts same in
    record {
      row = h.row;
      is_row = record {
        long = h.is_row.long;
        tied = λ rank l. h.is_row.tied rank l ∙ sym (f.elsewhere (base * n + rank)
            (λ x.
            let item = item-at net.duties rank l in
            let t : StandsAt net spot.place base rank item.0 = record { in_bases = omega (arith, inside, long); duty = item.1; is = sym x } in
            e (one-base net spot.place base rank spot.base spot.rank item.0 d t s)));
      };
      are = h.are;
    })
    (same-or-not base spot.base)

pub none-told : (n k : ℕ) → get_or (replicate n false) k false ≡ false
none-told zero k = refl
none-told (suc n) zero = refl
none-told (suc n) (suc k) = none-told n k

-- a line as it begins
pub line-begun : (net : Net) (carried : Carried) (marks : List Mark) (flag : ℕ → Bool) (old new : Line) → AreCounted net flag old → length old.counts.items ≡ length net.bases → length old.set ≡ node_count net
    → ((k : ℕ) → get_or old.set k false ≡ false) → Stays old new
    → Grows (IsDueOf net marks carried old.any flag (length net.bases)) (IsDueOf net marks carried old.any flag (length net.bases)) old.set new.set → IsLine net carried marks flag new
line-begun net carried marks flag old new counted long long_set none s g = record {
  long = ap length s.counts ∙ long;
  counted = λ base counts at. counted base counts (ap (λ (z : List Ready.Counts). slice_get z base) (sym s.counts) ∙ at);
  long_set = s.long ∙ long_set;
  chosen = λ k base rank d at.
      let Told : Type 0 = (slice_get marks k ≡ Some Waiting) × (may_come new.any carried base rank ≡ true) × AllBefore net flag k in (
        λ t.
            ⊎_elim {C = Told}
            (λ was. absurd (let e = none k in let q : ⊥ = (cc) in q))
            (λ x. let r = due-tells net marks carried old.any flag x.base k base rank d x.due at in (r.0, subst (λ (a : Bool). may_come a carried base rank ≡ true) (sym s.any) r.1, r.2))
            (g.only k t),
        λ t. g.all k (record { base = base; high = at.in_bases; due = due-from net marks carried old.any flag k base rank d at t.0 (subst (λ (a : Bool). may_come a carried base rank ≡ true) s.any t.1) t.2 }),
      );
}
