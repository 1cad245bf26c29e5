-- Lines: what stays of them when a mark or a flag is written.
use Rattle.std.proofs.Common.{◌≡◌, ℕ, ◌+◌, ◌*◌, ◌<◌, Bool, true, false, not, List, Some, get_or, length, set, slice_set, ◌⊎◌, inl, inr, refl, sym, ◌∙◌, ap, subst, ⊎_elim}
use Rattle.std.specs.Prelude.{◌↔◌, slice_get}
use Rattle.std.proofs.lemmas.Bool.{cases_Bool}
use Rattle.std.proofs.lemmas.List.{get_or-set_other, get_or-set_same, length-set}
use Rattle.std.proofs.lemmas.Option.{slice_get_within}
use Rattle.crew_dirty.specs.Carried.{Carried}
use Rattle.crew_net.proofs.ArrivalPlaces.{own-arrival, ranks-out}
use Rattle.crew_net.proofs.Longest.{stands}
use Rattle.crew_net.specs.Events.{AreEvents, IsWindow, arrives_at, departure_cmp}
use Rattle.crew_net.specs.Nets.{Net}
use Rattle.crew_net.specs.Ranks.{ranks_where}
use Rattle.crew_net.specs.declared.window.Window.{Window}
use Rattle.crew_pairing.specs.Events.{arrival_of, departure_of, may_wait}
use Rattle.crew_pairing.specs.Pairings.{may_stand_after}
use Rattle.crew_pairing.specs.declared.duty.Duty.{Duty}
use Rattle.crew_pairing.specs.declared.events.Arrival.{Arrival}
use Rattle.crew_ready.specs.Counts as Ready
use Rattle.crew_ready.specs.Counts.{AreCounts}
use Rattle.crew_resource.proofs.Members.{Member-at}
use Rattle.crew_round.proofs.Due.{due-from, due-tells}
use Rattle.crew_round.proofs.Lists.{all-stopped, get-set-here, get-set-other, one-item, same-or-not}
use Rattle.crew_round.proofs.Places.{arc-before, just-before, one-base, one-duty}
use Rattle.crew_round.specs.Machinery.Lines.{AllBefore, AreCounted, Grows, HasCounts, IsDue, IsDueIn, IsFlagged, IsLine, IsShaped, IsSpot, Stays, may_come}
use Rattle.crew_round.specs.Marks.{IsJustBefore, StandsAt}
use Rattle.crew_round.specs.declared.line.Line.{Line}
use Rattle.crew_round.specs.declared.mark.Mark.{Mark}
use Rattle.crew_round.specs.declared.mark.Mark.TheVariants.{Done, Waiting}
use Rattle.crew_round.specs.declared.spot.Spot.{Spot}

-- counts are those of their list
pub counted-same : (net : Net) (flag : ℕ → Bool) (old new : Line) → new.counts.items ≡ old.counts.items → AreCounted net flag old → AreCounted net flag new
counted-same net flag old new e a base counts at = a base counts (ap (λ (z : List Ready.Counts). slice_get z base) (sym e) ∙ at)

pub shaped-same : (net : Net) (old new : Line) → new.counts.items ≡ old.counts.items → length new.set ≡ length old.set → IsShaped net old → IsShaped net new
shaped-same net old new e l s = record {
  long = ap length e ∙ s.long;
  undone = λ base counts at. s.undone base counts (ap (λ (z : List Ready.Counts). slice_get z base) (sym e) ∙ at);
  blocked = λ base counts at. s.blocked base counts (ap (λ (z : List Ready.Counts). slice_get z base) (sym e) ∙ at);
  long_set = l ∙ s.long_set;
}

pub line-shaped : (net : Net) (carried : Carried) (marks : List Mark) (flag : ℕ → Bool) (line : Line) → IsLine net carried marks flag line → IsShaped net line
line-shaped net carried marks flag line l = record {
  long = l.long;
  undone = λ base counts at. (l.counted base counts at).are.long;
  blocked = λ base counts at. (l.counted base counts at).are.long_blocked;
  long_set = l.long_set;
}

-- flags that are equal one by one
pub before-same : (net : Net) (flag next : ℕ → Bool) (place : ℕ) → ((k : ℕ) → next k ≡ flag k) → AllBefore net flag place → AllBefore net next place
before-same net flag next place e all p j = e p ∙ all p j

pub counts-same : (net : Net) (flag next : ℕ → Bool) (line : Line) → ((k : ℕ) → next k ≡ flag k) → AreCounted net flag line → AreCounted net next line
counts-same net flag next line e a base counts at =
    let h = a base counts at in
    record {
      row = h.row;
      is_row = record { long = h.is_row.long; tied = λ rank low. h.is_row.tied rank low ∙ sym (e (base * length net.duties + rank)) };
      are = h.are;
    }

-- a mark is written, and the line is right there
pub line-anew : (net : Net) (carried : Carried) (was marks : List Mark) (flag next : ℕ → Bool) (old new : Line) (place : ℕ) → IsLine net carried was flag old
    → new.counts.items ≡ old.counts.items → new.any ≡ old.any → length new.set ≡ length old.set
    → ((k : ℕ) → (k ≡ place → ⊥) → slice_get marks k ≡ slice_get was k)
    → ((k : ℕ) → (k ≡ place → ⊥) → get_or new.set k false ≡ get_or old.set k false)
    → ((k : ℕ) → next k ≡ flag k)
    → ((base rank : ℕ) (d : Duty) → StandsAt net place base rank d → (get_or new.set place false ≡ true) ↔ ((slice_get marks place ≡ Some Waiting) × (may_come old.any carried base rank ≡ true) × AllBefore net flag place))
    → IsLine net carried marks next new
line-anew net carried was marks flag next old new place l counts any long marked chosen same here = record {
  long = ap length counts ∙ l.long;
  counted = counts-same net flag next new same (counted-same net flag old new counts l.counted);
  long_set = long ∙ l.long_set;
  chosen = λ k base rank d s.
      let Goal : ℕ → Type 0 = λ z. (get_or new.set z false ≡ true) ↔ ((slice_get marks z ≡ Some Waiting) × (may_come new.any carried base rank ≡ true) × AllBefore net next z) in
      ⊎_elim {C = Goal k}
      (λ e.
      let own = here base rank d (subst (λ (z : ℕ). StandsAt net z base rank d) e s) in
      let at : Goal place = (
        λ t. (let r = own.0 t in (r.0, subst (λ (a : Bool). may_come a carried base rank ≡ true) (sym any) r.1, before-same net flag next place same r.2)),
        λ t. own.1 (t.0, subst (λ (a : Bool). may_come a carried base rank ≡ true) any t.1, before-same net next flag place (λ q. sym (same q)) t.2),
      ) in
      subst Goal (sym e) at)
      (λ n.
      let own = l.chosen k base rank d s in (
        λ t. (let r = own.0 (sym (chosen k n) ∙ t) in (marked k n ∙ r.0, subst (λ (a : Bool). may_come a carried base rank ≡ true) (sym any) r.1, before-same net flag next k same r.2)),
        λ t. chosen k n ∙ own.1 (sym (marked k n) ∙ t.0, subst (λ (a : Bool). may_come a carried base rank ≡ true) any t.1, before-same net next flag k (λ q. sym (same q)) t.2),
      ))
      (same-or-not k place);
}

-- a node leaves the line
pub line-left : (net : Net) (carried : Carried) (was marks : List Mark) (flag next : ℕ → Bool) (old new : Line) (place : ℕ) (mark : Mark) → IsLine net carried was flag old
    → new.counts.items ≡ old.counts.items → new.any ≡ old.any → new.set ≡ slice_set old.set place false → marks ≡ slice_set was place mark → place < length was → place < length old.set → (mark ≡ Waiting → ⊥)
    → ((k : ℕ) → next k ≡ flag k) → IsLine net carried marks next new
line-left net carried was marks flag next old new place mark l counts any set marked within low other same =
    line-anew net carried was marks flag next old new place l counts any (ap length set ∙ length-set old.set place false)
    (λ k n. ap (λ (z : List Mark). slice_get z k) marked ∙ get-set-other was place k mark n)
    (λ k n. ap (λ (z : List Bool). get_or z k false) set ∙ get_or-set_other old.set place k false false n)
    same
    (λ base rank d s. (
      λ t. absurd (let f : get_or new.set place false ≡ false = ap (λ (z : List Bool). get_or z place false) set ∙ get_or-set_same old.set place false false low in let q : ⊥ = (cc) in q),
      λ t. absurd (other (one-item mark Waiting (sym (get-set-here was place mark within) ∙ (ap (λ (z : List Mark). slice_get z place) (sym marked) ∙ t.0)))),
    ))

-- a node has its flag: whether all before another have theirs
pub before-more : (net : Net) (flag next : ℕ → Bool) (place other : ℕ) → IsFlagged flag next place true → AllBefore net flag other → AllBefore net next other
before-more net flag next place other f all p j =
    ⊎_elim {C = next p ≡ true} (λ e. ap next e ∙ f.here) (λ n. f.elsewhere p n ∙ all p j) (same-or-not p place)

-- .. where it doesn't stand just before that one
pub before-less : (net : Net) (flag next : ℕ → Bool) (place other : ℕ) → IsFlagged flag next place true → (IsJustBefore net place other → ⊥) → AllBefore net next other → AllBefore net flag other
before-less net flag next place other f apart all p j =
    ⊎_elim {C = flag p ≡ true}
    (λ e. absurd (apart (subst (λ (z : ℕ). IsJustBefore net z other) e j)))
    (λ n. sym (f.elsewhere p n) ∙ all p j)
    (same-or-not p place)

-- one node stands just before another, or doesn't
pub before-or-not : (net : Net) (place base rank other b r : ℕ) (d e : Duty) → StandsAt net place base rank d → StandsAt net other b r e
    → ((base ≡ b) × (may_stand_after net.settings d e ≡ true)) ⊎ (IsJustBefore net place other → ⊥)
before-or-not net place base rank other b r d e s t =
    let Goal : Type 0 = ((base ≡ b) × (may_stand_after net.settings d e ≡ true)) ⊎ (IsJustBefore net place other → ⊥) in
    ⊎_elim {C = Goal}
    (λ same. ⊎_elim {C = Goal} (λ may. inl (same, may))
    (λ not_may. inr (λ j.
    let a = just-before net place other b r e t j in
    let own : d ≡ a.duty = one-duty net place base rank b a.rank d a.duty s a.stands in
    let may : may_stand_after net.settings d e ≡ true = subst (λ (z : Duty). may_stand_after net.settings z e ≡ true) (sym own) a.may in
    let q : ⊥ = (cc) in q))
    (cases_Bool (may_stand_after net.settings d e)))
    (λ apart. inr (λ j.
    let a = just-before net place other b r e t j in
    apart (one-base net place base rank b a.rank d a.duty s a.stands)))
    (same-or-not base b)

not-false : (b : Bool) → b ≡ true → not b ≡ false
not-false true e = refl
not-false false e = absurd (let q : ⊥ = (cc) in q)

-- where all before a node have their flags, none is left at an arrival that it may wait on
pub none-left : (net : Net) (flag : ℕ → Bool) (base : ℕ) (counts : Ready.Counts) (place rank arrival : ℕ) (d : Duty) (x : Arrival) → HasCounts net flag base counts → StandsAt net place base rank d
    → slice_get net.arrivals arrival ≡ Some x → may_wait net.settings x (departure_of d) ≡ true → AllBefore net flag place → get_or counts.undone arrival 0 ≡ 0
none-left net flag base counts place rank arrival d x h s at may all =
    h.are.undone arrival x (slice_get_within net.arrivals arrival x at) at
    ∙ all-stopped (λ q. not (get_or h.row q false)) (ranks_where (arrives_at x) net.duties)
    (λ r m.
    let e = ranks-out (arrives_at x) net.duties r m in
    let its : may_wait net.settings (arrival_of e.0) (departure_of d) ≡ true = subst (λ (z : Arrival). may_wait net.settings z (departure_of d) ≡ true) (own-arrival x e.0 e.2) may in
    let t : StandsAt net (base * length net.duties + r) base r e.0 = record { in_bases = s.in_bases; duty = e.1; is = refl } in
    not-false (get_or h.row r false) (h.is_row.tied r (slice_get_within net.duties r e.0 e.1) ∙ all (base * length net.duties + r) (arc-before net (base * length net.duties + r) place base rank r d e.0 s t its)))

-- a node has its flag, and what became due came into the line
pub line-flagged : (net : Net) (carried : Carried) (marks : List Mark) (flag next : ℕ → Bool) (old new : Line) (spot : Spot) (d : Duty) → IsSpot net spot d → IsFlagged flag next spot.place true
    → IsLine net carried marks flag old → AreCounted net next new → new.any ≡ old.any → length new.set ≡ length old.set → length new.counts.items ≡ length old.counts.items
    → ((k : ℕ) → get_or old.set k false ≡ true → get_or new.set k false ≡ true)
    → ((k : ℕ) → get_or new.set k false ≡ true → (get_or old.set k false ≡ true) ⊎ IsDue net marks carried old.any next spot.base k)
    → ((k rank : ℕ) (e : Duty) → StandsAt net k spot.base rank e → may_stand_after net.settings d e ≡ true → IsDue net marks carried old.any next spot.base k → get_or new.set k false ≡ true)
    → IsLine net carried marks next new
line-flagged net carried marks flag next old new spot d is f l counted any long longer kept only all = record {
  long = longer ∙ l.long;
  counted = counted;
  long_set = long ∙ l.long_set;
  chosen = λ k base rank e s.
      let Told : Type 0 = (slice_get marks k ≡ Some Waiting) × (may_come new.any carried base rank ≡ true) × AllBefore net next k in (
        λ t.
            ⊎_elim {C = Told}
            (λ was. let r = (l.chosen k base rank e s).0 was in (r.0, subst (λ (a : Bool). may_come a carried base rank ≡ true) (sym any) r.1, before-more net flag next spot.place k f r.2))
            (λ due. let r = due-tells net marks carried old.any next spot.base k base rank e due s in (r.0, subst (λ (a : Bool). may_come a carried base rank ≡ true) (sym any) r.1, r.2))
            (only k t),
        λ t.
            let may : may_come old.any carried base rank ≡ true = subst (λ (a : Bool). may_come a carried base rank ≡ true) any t.1 in
            ⊎_elim {C = get_or new.set k false ≡ true}
            (λ b.
            let here : StandsAt net k spot.base rank e = subst (λ (z : ℕ). StandsAt net k z rank e) (sym b.0) s in
            all k rank e here b.1 (due-from net marks carried old.any next k spot.base rank e here t.0 (subst (λ (z : ℕ). may_come old.any carried z rank ≡ true) (sym b.0) may) t.2))
            (λ apart. kept k ((l.chosen k base rank e s).1 (t.0, may, before-less net flag next spot.place k f apart t.2)))
            (before-or-not net spot.place spot.base spot.rank k base rank d e is.stands s),
      );
}

-- .. where it was the last at its arrival
pub line-last : (net : Net) (carried : Carried) (marks : List Mark) (flag next : ℕ → Bool) (old mid new : Line) (spot : Spot) (d : Duty) (window : Window) → IsSpot net spot d → IsFlagged flag next spot.place true
    → AreEvents departure_of departure_cmp net.duties net.departures → IsWindow (may_wait net.settings (arrival_of d)) net.departures window
    → IsLine net carried marks flag old → AreCounted net next mid → mid.set ≡ old.set → mid.any ≡ old.any → length mid.counts.items ≡ length old.counts.items → Stays mid new
    → Grows (IsDueIn net marks carried mid.any next spot.base window.from window.end) (IsDue net marks carried mid.any next spot.base) mid.set new.set
    → IsLine net carried marks next new
line-last net carried marks flag next old mid new spot d window is f events w l counted set any long s g =
    line-flagged net carried marks flag next old new spot d is f l (counted-same net next mid new s.counts counted) (s.any ∙ any) (s.long ∙ ap length set) (ap length s.counts ∙ long)
    (λ k t. s.kept k (ap (λ (z : List Bool). get_or z k false) set ∙ t))
    (λ k t. ⊎_elim {C = (get_or old.set k false ≡ true) ⊎ IsDue net marks carried old.any next spot.base k}
    (λ x. inl (ap (λ (z : List Bool). get_or z k false) (sym set) ∙ x))
    (λ x. inr (subst (λ (a : Bool). IsDue net marks carried a next spot.base k) any x))
    (g.only k t))
    (λ k rank e at may due.
    let own = subst (λ (a : Bool). IsDue net marks carried a next spot.base k) (sym any) due in
    let same : own.duty ≡ e = one-duty net k spot.base own.rank spot.base rank own.duty e own.stands at in
    let p = stands net.departures (departure_of own.duty) (events.every own.duty (Member-at net.duties own.rank own.duty own.stands.duty)) in
    let inside = (w.exact p.0 (departure_of own.duty) p.1).0 (subst (λ (z : Duty). may_wait net.settings (arrival_of d) (departure_of z) ≡ true) (sym same) may) in
    g.all k (record { due = own; departure = p.0; low = inside.0; high = inside.1; leaves = p.1 }))

-- .. where it wasn't
pub line-more : (net : Net) (carried : Carried) (marks : List Mark) (flag next : ℕ → Bool) (old new : Line) (spot : Spot) (d : Duty) (counts : Ready.Counts) → IsSpot net spot d → IsFlagged flag next spot.place true
    → slice_get new.counts.items spot.base ≡ Some counts → (get_or counts.undone spot.arrival 0 ≡ 0 → ⊥)
    → IsLine net carried marks flag old → AreCounted net next new → new.set ≡ old.set → new.any ≡ old.any → length new.counts.items ≡ length old.counts.items
    → IsLine net carried marks next new
line-more net carried marks flag next old new spot d counts is f at some l counted set any long =
    line-flagged net carried marks flag next old new spot d is f l counted any (ap length set) long
    (λ k t. ap (λ (z : List Bool). get_or z k false) set ∙ t)
    (λ k t. inl (ap (λ (z : List Bool). get_or z k false) (sym set) ∙ t))
    (λ k rank e here may due. absurd (some (none-left net next spot.base counts k rank spot.arrival e (arrival_of d) (counted spot.base counts at) here is.arrives may due.before)))

-- no flag is set
pub flagged-none : (flag next : ℕ → Bool) (place : ℕ) (told : Bool) → IsFlagged flag next place told → told ≡ false → (k : ℕ) → next k ≡ flag k
flagged-none flag next place told f e k =
    ⊎_elim {C = next k ≡ flag k}
    (λ q. ap next q ∙ (f.here ∙ (e ∙ (sym f.was ∙ ap flag (sym q)))))
    (λ n. f.elsewhere k n)
    (same-or-not k place)

pub done-waits : Done ≡ Waiting → ⊥
done-waits e = (cc)
