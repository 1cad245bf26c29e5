-- Which nodes are due: by the flags of one base, and by a departure.
use Rattle.std.proofs.Common.{◌≡◌, ℕ, ◌+◌, ◌*◌, ◌<◌, Bool, true, false, List, Some, get_or, length, take, ◌⊎◌, inl, inr, refl, sym, ◌∙◌, ap, subst, ⊎_elim, arith}
use Rattle.std.specs.Prelude.{◌↔◌, slice_get}
use Rattle.std.proofs.lemmas.Bool.{cases_lt}
use Rattle.std.proofs.lemmas.Option.{slice_get_within}
use Rattle.crew_dirty.proofs.Sames.{leaves, own-departure}
use Rattle.crew_dirty.proofs.Taken.{taken-before, taken-here, taken-more}
use Rattle.crew_dirty.specs.Carried.{Carried}
use Rattle.crew_net.proofs.ArrivalPlaces.{ranks-in, ranks-out}
use Rattle.crew_net.proofs.Longest.{stands}
use Rattle.crew_net.specs.Events.{AreEvents, departure_cmp, leaves_at}
use Rattle.crew_resource.proofs.Members.{Member-at}
use Rattle.crew_net.specs.Nets.{Net}
use Rattle.crew_net.specs.Ranks.{ranks_where}
use Rattle.crew_pairing.specs.Events.{departure_of}
use Rattle.crew_pairing.specs.declared.duty.Duty.{Duty}
use Rattle.crew_pairing.specs.declared.events.Departure.{Departure}
use Rattle.crew_ready.specs.Counts as Ready
use Rattle.crew_ready.specs.Counts.{AreCounts, undone_of}
use Rattle.crew_resource.specs.Members.{Member}
use Rattle.crew_round.proofs.Grown.{grows-none, grows-then}
use Rattle.crew_round.proofs.Lists.{one-item}
use Rattle.crew_round.proofs.Places.{arc-before, just-before, one-base, one-rank, rank-below}
use Rattle.crew_round.specs.Machinery.Lines.{AllBefore, Grows, IsDue, IsDueIn, IsDueOf, IsOpen, IsOpenAmong, IsRow, may_come}
use Rattle.crew_round.specs.Marks.{StandsAt}
use Rattle.crew_round.specs.declared.mark.Mark.{Mark}
use Rattle.crew_round.specs.declared.mark.Mark.TheVariants.{Waiting}

-- one base's flags, and those of all places
pub row-all : (net : Net) (flag : ℕ → Bool) (base rank : ℕ) (row : List Bool) (place : ℕ) (d : Duty) → IsRow net flag base row → StandsAt net place base rank d → Ready.AreDoneBefore net row d → AllBefore net flag place
row-all net flag base rank row place d r s all p j =
    let a = just-before net p place base rank d s j in
    ap flag a.stands.is ∙ (sym (r.tied a.rank (rank-below net p base a.rank a.duty a.stands)) ∙ all a.rank a.duty a.stands.duty a.may)

pub all-row : (net : Net) (flag : ℕ → Bool) (base rank : ℕ) (row : List Bool) (place : ℕ) (d : Duty) → IsRow net flag base row → StandsAt net place base rank d → AllBefore net flag place → Ready.AreDoneBefore net row d
all-row net flag base rank row place d r s all k e at may =
    let t : StandsAt net (base * length net.duties + k) base k e = record { in_bases = s.in_bases; duty = at; is = refl } in
    r.tied k (slice_get_within net.duties k e at) ∙ all (base * length net.duties + k) (arc-before net (base * length net.duties + k) place base rank k d e s t may)

-- one rank more is put in
pub rank-more : (ranks : List ℕ) (marks : List Mark) (carried : Carried) (any : Bool) (base offset i : ℕ) (told : Bool) (first now next : List Bool) → i < length ranks
    → Grows (IsOpenAmong (take i ranks) marks carried any base offset) (IsOpenAmong (take i ranks) marks carried any base offset) first now
    → (told ≡ true) ↔ IsOpen marks carried any base offset (get_or ranks i 0)
    → (told ≡ true → get_or next (offset + get_or ranks i 0) false ≡ true)
    → ((k : ℕ) → get_or now k false ≡ true → get_or next k false ≡ true)
    → ((k : ℕ) → get_or next k false ≡ true → (get_or now k false ≡ true) ⊎ ((k ≡ offset + get_or ranks i 0) × (told ≡ true)))
    → Grows (IsOpenAmong (take (i + 1) ranks) marks carried any base offset) (IsOpenAmong (take (i + 1) ranks) marks carried any base offset) first next
rank-more ranks marks carried any base offset i told first now next h g tells there kept only =
    let P : ℕ → ℕ → Type 0 = λ n. IsOpenAmong (take n ranks) marks carried any base offset in
    let E : ℕ → Type 0 = λ k. (k ≡ offset + get_or ranks i 0) × (told ≡ true) in
    grows-then (P i) (P i) E E (P (i + 1)) (P (i + 1)) first now next g
    (record { all = λ k e. ap (λ (z : ℕ). get_or next z false) e.0 ∙ there e.1; only = only })
    kept
    (λ k x. ⊎_elim {C = P i k ⊎ E k}
    (λ m. inl (record { rank = x.rank; among = m; is = x.is; is_open = x.is_open }))
    (λ e. inr (x.is ∙ ap (λ (z : ℕ). offset + z) (sym e), tells.1 (subst (IsOpen marks carried any base offset) (sym e) x.is_open)))
    (taken-more ranks i h x.rank x.among))
    (λ k x. record { rank = x.rank; among = taken-before ranks i h x.rank x.among; is = x.is; is_open = x.is_open })
    (λ k e. record { rank = get_or ranks i 0; among = taken-here ranks i h; is = e.0; is_open = tells.0 e.1 })

-- a departure that is clear brings in what is due there
pub departure-in : (net : Net) (marks : List Mark) (carried : Carried) (any : Bool) (flag : ℕ → Bool) (base offset departure : ℕ) (g : Departure) (ranks : List ℕ) (old new : List Bool)
    → base < length net.bases → offset ≡ base * length net.duties → slice_get net.departures departure ≡ Some g → ranks ≡ ranks_where (leaves_at g) net.duties
    → ((place rank : ℕ) (d : Duty) → StandsAt net place base rank d → departure_of d ≡ g → AllBefore net flag place)
    → Grows (IsOpenAmong ranks marks carried any base offset) (IsOpenAmong ranks marks carried any base offset) old new
    → Grows (IsDueIn net marks carried any flag base departure (departure + 1)) (IsDue net marks carried any flag base) old new
departure-in net marks carried any flag base offset departure g ranks old new low e at is clear grows = record {
  all = λ k x.
      let d = x.due.duty in
      let same : x.departure ≡ departure = (let a = x.low in let b = x.high in omega (arith, a, b)) in
      let own : departure_of d ≡ g = one-item (departure_of d) g (sym x.leaves ∙ (ap (slice_get net.departures) same ∙ at)) in
      grows.all k (record {
        rank = x.due.rank;
        among = subst (λ (z : List ℕ). Member z x.due.rank) (sym is) (ranks-in (leaves_at g) net.duties x.due.rank d x.due.stands.duty (leaves g d own));
        is = x.due.stands.is ∙ ap (λ (z : ℕ). z + x.due.rank) (sym e);
        is_open = subst (λ (z : ℕ). IsOpen marks carried any base z x.due.rank) (sym e) x.due.is_open;
      });
  only = λ k t.
      ⊎_elim {C = (get_or old k false ≡ true) ⊎ IsDue net marks carried any flag base k} (λ y. inl y)
      (λ x.
      let o = ranks-out (leaves_at g) net.duties x.rank (subst (λ (z : List ℕ). Member z x.rank) is x.among) in
      let s : StandsAt net k base x.rank o.0 = record { in_bases = low; duty = o.1; is = x.is ∙ ap (λ (z : ℕ). z + x.rank) e } in
      inr (record {
        rank = x.rank;
        duty = o.0;
        stands = s;
        is_open = subst (λ (z : ℕ). IsOpen marks carried any base z x.rank) e x.is_open;
        before = clear k x.rank o.0 s (own-departure g o.0 o.2);
      }))
      (grows.only k t);
}

-- one that isn't brings nothing in, since nothing is due there
pub departure-out : (net : Net) (marks : List Mark) (carried : Carried) (any : Bool) (flag : ℕ → Bool) (base departure : ℕ) (g : Departure) (old : List Bool)
    → slice_get net.departures departure ≡ Some g
    → ((place rank : ℕ) (d : Duty) → StandsAt net place base rank d → departure_of d ≡ g → AllBefore net flag place → ⊥)
    → Grows (IsDueIn net marks carried any flag base departure (departure + 1)) (IsDue net marks carried any flag base) old old
departure-out net marks carried any flag base departure g old at none =
    grows-none (IsDueIn net marks carried any flag base departure (departure + 1)) (IsDue net marks carried any flag base) old
    (λ k x.
    let d = x.due.duty in
    let same : x.departure ≡ departure = (let a = x.low in let b = x.high in omega (arith, a, b)) in
    let own : departure_of d ≡ g = one-item (departure_of d) g (sym x.leaves ∙ (ap (slice_get net.departures) same ∙ at)) in
    none k x.due.rank d x.due.stands own x.due.before)

-- one departure more of a window
pub window-more : (net : Net) (marks : List Mark) (carried : Carried) (any : Bool) (flag : ℕ → Bool) (base start i : ℕ) (first now next : List Bool)
    → Grows (IsDueIn net marks carried any flag base start i) (IsDue net marks carried any flag base) first now
    → Grows (IsDueIn net marks carried any flag base i (i + 1)) (IsDue net marks carried any flag base) now next
    → ((k : ℕ) → get_or now k false ≡ true → get_or next k false ≡ true)
    → Grows (IsDueIn net marks carried any flag base start (i + 1)) (IsDue net marks carried any flag base) first next
window-more net marks carried any flag base start i first now next g h kept =
    let D : ℕ → Type 0 = IsDue net marks carried any flag base in
    let P : ℕ → ℕ → ℕ → Type 0 = IsDueIn net marks carried any flag base in
    grows-then (P start i) D (P i (i + 1)) D (P start (i + 1)) D first now next g h kept
    (λ k x. ⊎_elim {C = P start i k ⊎ P i (i + 1) k}
    (λ l. inl (record { due = x.due; departure = x.departure; low = x.low; high = l; leaves = x.leaves }))
    (λ l. inr (record { due = x.due; departure = x.departure; low = l; high = x.high; leaves = x.leaves }))
    (cases_lt x.departure i))
    (λ k x. x)
    (λ k x. x)

-- one base more
pub base-more : (net : Net) (marks : List Mark) (carried : Carried) (any : Bool) (flag : ℕ → Bool) (i : ℕ) (first now next : List Bool)
    → AreEvents departure_of departure_cmp net.duties net.departures → i < length net.bases
    → Grows (IsDueOf net marks carried any flag i) (IsDueOf net marks carried any flag (length net.bases)) first now
    → Grows (IsDueIn net marks carried any flag i 0 (length net.departures)) (IsDue net marks carried any flag i) now next
    → ((k : ℕ) → get_or now k false ≡ true → get_or next k false ≡ true)
    → Grows (IsDueOf net marks carried any flag (i + 1)) (IsDueOf net marks carried any flag (length net.bases)) first next
base-more net marks carried any flag i first now next events low g h kept =
    let P : ℕ → ℕ → Type 0 = IsDueOf net marks carried any flag in
    let D : ℕ → Type 0 = IsDue net marks carried any flag i in
    let E : ℕ → Type 0 = IsDueIn net marks carried any flag i 0 (length net.departures) in
    grows-then (P i) (P (length net.bases)) E D (P (i + 1)) (P (length net.bases)) first now next g h kept
    (λ k x. ⊎_elim {C = P i k ⊎ E k}
    (λ l. inl (record { base = x.base; high = l; due = x.due }))
    (λ l.
    let same : x.base ≡ i = (let a = x.high in omega (arith, a, l)) in
    let due : D k = subst (λ (b : ℕ). IsDue net marks carried any flag b k) same x.due in
    let g = stands net.departures (departure_of due.duty) (events.every due.duty (Member-at net.duties due.rank due.duty due.stands.duty)) in
    inr (record { due = due; departure = g.0; low = omega arith; high = slice_get_within net.departures g.0 (departure_of due.duty) g.1; leaves = g.1 }))
    (cases_lt x.base i))
    (λ k x. x)
    (λ k x. record { base = i; high = low; due = x })

-- what is due, told by where it stands
pub due-tells : (net : Net) (marks : List Mark) (carried : Carried) (any : Bool) (flag : ℕ → Bool) (b place base rank : ℕ) (d : Duty) → IsDue net marks carried any flag b place → StandsAt net place base rank d
    → (slice_get marks place ≡ Some Waiting) × (may_come any carried base rank ≡ true) × AllBefore net flag place
due-tells net marks carried any flag b place base rank d x s = (
  ap (slice_get marks) x.stands.is ∙ x.is_open.waits,
  subst (λ (r : ℕ). may_come any carried base r ≡ true) (one-rank net place b x.rank base rank x.duty d x.stands s) (subst (λ (z : ℕ). may_come any carried z x.rank ≡ true) (one-base net place b x.rank base rank x.duty d x.stands s) x.is_open.may),
  x.before,
)

pub due-from : (net : Net) (marks : List Mark) (carried : Carried) (any : Bool) (flag : ℕ → Bool) (place base rank : ℕ) (d : Duty) → StandsAt net place base rank d
    → slice_get marks place ≡ Some Waiting → may_come any carried base rank ≡ true → AllBefore net flag place → IsDue net marks carried any flag base place
due-from net marks carried any flag place base rank d s waits may before = record {
  rank = rank;
  duty = d;
  stands = s;
  is_open = record { waits = ap (slice_get marks) (sym s.is) ∙ waits; may = may };
  before = before;
}
