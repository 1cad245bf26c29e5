-- Laws of what a planner keeps.
use Rattle.std.proofs.Common.{◌≡◌, ◌≤◌, ◌<◌, ℕ, zero, suc, ◌+◌, ◌∙◌, List, [], ◌∷◌, ◌++◌, Some, length, refl, sym, ap, subst, arith, append_assoc, length-append, zero-add, Bool, true, false, true≢false, inl, inr, ◌≢◌}
use Rattle.std.proofs.Math.Dec.{ltb}
use Rattle.std.proofs.lemmas.Bool.Decides.{Decides-ltb}
use Rattle.std.proofs.lemmas.List.Elements.{All-append, All-cons}
use Rattle.std.specs.Prelude.{slice_get, slice_index_or}
use mathlib.Core.List.{IsPrefix}
use Rattle.boxcar.specs.Table.{Where}
use Rattle.crew_flights.specs.declared.entries.Entry.{Entry}
use Rattle.crew_log.specs.Logs.{AreOf, HaveNone, IsOf, IsRun, Seat, unused_seat}
use Rattle.crew_publish.proofs.Chains.{ends_push}
use Rattle.crew_publish.specs.Chain.{IsNext}
use Rattle.crew_resource.proofs.Lists.{Member-All}
use Rattle.crew_resource.specs.Members.{Member}
use Rattle.crew_rules.specs.Settings.{IsChecked}
use Rattle.crew_service.specs.Next.{IsNextOver}
use Rattle.crew_service.specs.Faults.{IsMissing}
use Rattle.crew_service.specs.Machinery.Kept.{HasRead, IsPlanning}
use Rattle.crew_service.specs.Plans.{AreBelow, AreSeatsFrom, Planning, entries_of}
use Rattle.crew_board.proofs.crew_version_lemmas.Places.{prefix-at}
use Rattle.crew_board.specs.crew_version.Versions.{Snapshot}

-- ---- beginnings

pub prefix-self : {A : Type 0} (xs : List A) → IsPrefix xs xs
prefix-self [] = ([], refl)
prefix-self (x ∷ xs) = let r = prefix-self xs in (r.0, ap (λ ys. x ∷ ys) r.1)

pub prefix-more : {A : Type 0} (xs ys more : List A) → IsPrefix xs ys → IsPrefix xs (ys ++ more)
prefix-more xs ys more p = (p.0 ++ more, sym (append_assoc xs p.0 more) ∙ ap (λ zs. zs ++ more) p.1)

pub prefix-over : {A : Type 0} (xs ys zs : List A) → IsPrefix xs ys → IsPrefix ys zs → IsPrefix xs zs
prefix-over xs ys zs p q = let r = prefix-more xs ys q.0 p in (r.0, r.1 ∙ q.1)

pub prefix-length : {A : Type 0} (xs ys : List A) → IsPrefix xs ys → length xs ≤ length ys
prefix-length xs ys p = let e = sym (length-append xs p.0) ∙ ap length p.1 in omega (arith, e)

-- ---- entries

pub length-entries : (rs : List (Where Entry)) → length (entries_of rs) ≡ length rs
length-entries [] = refl
length-entries (r ∷ rs) = ap suc (length-entries rs)

pub entries-append : (rs qs : List (Where Entry)) → entries_of (rs ++ qs) ≡ entries_of rs ++ entries_of qs
entries-append [] qs = refl
entries-append (r ∷ rs) qs = ap (λ es. r.value ∷ es) (entries-append rs qs)

pub entry-at : (rs : List (Where Entry)) (k : ℕ) (d : Where Entry) → k < length rs → slice_get (entries_of rs) k ≡ Some (slice_index_or rs k d).value
entry-at [] k d lt = absurd (omega arith)
entry-at (r ∷ rs) zero d lt = refl
entry-at (r ∷ rs) (suc k) d lt = entry-at rs k d (omega arith)

pub entries-prefix : (rs qs : List (Where Entry)) → IsPrefix rs qs → IsPrefix (entries_of rs) (entries_of qs)
entries-prefix rs qs p = (entries_of p.0, sym (entries-append rs p.0) ∙ ap entries_of p.1)

-- ---- runs of receipts

pub run-append : (n : ℕ) (rs qs : List (Where Entry)) → IsRun n rs → IsRun (n + length rs) qs → IsRun n (rs ++ qs)
run-append n [] qs h k = subst (λ (m : ℕ). IsRun m qs) (omega arith) k
run-append n (r ∷ rs) qs h k = (h.0, run-append (suc n) rs qs h.1 (subst (λ (m : ℕ). IsRun m qs) (omega arith) k))

pub run-at : (n : ℕ) (rs : List (Where Entry)) (k : ℕ) (d : Where Entry) → IsRun n rs → k < length rs → (slice_index_or rs k d).index ≡ n + k
run-at n [] k d h lt = absurd (omega arith)
run-at n (r ∷ rs) zero d h lt = omega (arith, h.0)
run-at n (r ∷ rs) (suc k) d h lt = let e = run-at (suc n) rs k d h.1 (omega arith) in omega (arith, e)

-- ---- planners

pub read-self : (p : Planning) → HasRead p p
read-self p = record { log = refl; version = refl; shown = refl; read = prefix-self p.receipts }

pub read-over : (p q r : Planning) → HasRead p q → HasRead q r → HasRead p r
read-over p q r h k = record {
  log = k.log ∙ h.log;
  version = k.version ∙ h.version;
  shown = k.shown ∙ h.shown;
  read = prefix-over p.receipts q.receipts r.receipts h.read k.read;
}

-- with receipts more, of the places after those that are there
pub with-receipts : (p : Planning) (more : List (Where Entry)) → IsPlanning p → AreOf p.log more → IsRun (length p.receipts) more
    → IsPlanning (record { log = p.log; version = p.version; receipts = p.receipts ++ more; published = p.published })
with-receipts p more h of run = record {
  of = All-append (IsOf p.log) p.receipts more h.of of;
  run = run-append 0 p.receipts more h.run (subst (λ (n : ℕ). IsRun n more) (sym (zero-add (length p.receipts))) run);
  over = prefix-over p.version.entries (entries_of p.receipts) (entries_of (p.receipts ++ more)) h.over (entries-prefix p.receipts (p.receipts ++ more) (prefix-more p.receipts p.receipts more (prefix-self p.receipts)));
  right = h.right;
  checked = h.checked;
  last = h.last;
  ends = h.ends;
  behind = h.behind;
}

-- with the next version
pub with-next : (p : Planning) (v : Snapshot) → IsPlanning p → IsNextOver p.version (entries_of p.receipts) v
    → IsPlanning (record { log = p.log; version = v; receipts = p.receipts; published = p.published })
with-next p v h next = record {
  of = h.of;
  run = h.run;
  over = subst (λ (es : List Entry). IsPrefix es (entries_of p.receipts)) (sym next.over) (prefix-self (entries_of p.receipts));
  right = next.right;
  checked = subst IsChecked (sym next.settings) h.checked;
  last = h.last;
  ends = h.ends;
  behind = record {
    number = let a = h.behind.number in let b = next.number in omega (arith, a, b);
    begins = subst (λ (es : List Entry). IsPrefix h.last.entries es) (sym next.over) (prefix-over h.last.entries p.version.entries (entries_of p.receipts) h.behind.begins h.over);
  };
}

-- the next version follows what was published last
pub next-follows : (p : Planning) (v : Snapshot) → IsPlanning p → IsNextOver p.version (entries_of p.receipts) v → IsNext p.published v
next-follows p v h next = (
  h.last,
  h.ends,
  record {
    rises = let a = h.behind.number in let b = next.number in omega (arith, a, b);
    begins = subst (λ (es : List Entry). IsPrefix h.last.entries es) (sym next.over) (prefix-over h.last.entries p.version.entries (entries_of p.receipts) h.behind.begins h.over);
  },
)

-- with its version published
pub with-shown : (p : Planning) → IsPlanning p
    → IsPlanning (record { log = p.log; version = p.version; receipts = p.receipts; published = p.published ++ p.version ∷ [] })
with-shown p h = record {
  of = h.of;
  run = h.run;
  over = h.over;
  right = h.right;
  checked = h.checked;
  last = p.version;
  ends = ends_push p.published p.version;
  behind = record { number = omega arith; begins = prefix-self p.version.entries };
}

-- where no receipt has a place, and not all have one below it, one has a greater one
pub some-missing : (end : ℕ) (wanted : List (Where Entry)) → HaveNone wanted end → (AreBelow end wanted → ⊥) → IsMissing wanted end
some-missing end wanted none h =
    let found = above end wanted (λ r m. Member-All (λ (q : Where Entry). q.index ≢ end) wanted r none m) h in
    record { none_there = none; above = found.0; wants = found.1; greater = found.2 }
  where
    above : (n : ℕ) (rs : List (Where Entry)) → ((r : Where Entry) → Member rs r → r.index ≢ n) → (AreBelow n rs → ⊥) → (r : Where Entry) × Member rs r × (n < r.index)
    above n [] apart h = absurd (h (λ k d lt. absurd (omega arith)))
    above n (r ∷ rs) apart h = go (ltb n r.index) refl (λ less. above n rs (λ q m. apart q (inr m)) less)
      where
        go : (b : Bool) → ltb n r.index ≡ b → ((AreBelow n rs → ⊥) → (q : Where Entry) × Member rs q × (n < q.index)) → (q : Where Entry) × Member (r ∷ rs) q × (n < q.index)
        go true e recur = (r, inl refl, (Decides-ltb n r.index).0 e)
        go false e recur =
            let not_above : n < r.index → ⊥ = λ lt. true≢false (sym ((Decides-ltb n r.index).1 lt) ∙ e) in
            let not_there : r.index ≡ n → ⊥ = apart r (inl refl) in
            let below : r.index < n = omega (arith, not_above, not_there) in
            let rest = recur (λ all. h (All-cons (λ (q : Where Entry). q.index < n) r rs below all)) in
            (rest.0, inr rest.1, rest.2)

-- the entry at a place of the version is that of the receipt of the place
pub planned-entry : (p : Planning) (k : ℕ) (d : Where Entry) → IsPlanning p → k < length p.version.entries
    → ((slice_index_or p.receipts k d).index ≡ k) × (slice_get p.version.entries k ≡ Some (slice_index_or p.receipts k d).value)
planned-entry p k d h lt =
    let a = prefix-length p.version.entries (entries_of p.receipts) h.over in
    let b = length-entries p.receipts in
    let below : k < length p.receipts = omega (arith, a, b, lt) in
    (run-at 0 p.receipts k d h.run below ∙ zero-add k, prefix-at p.version.entries (entries_of p.receipts) k h.over lt ∙ entry-at p.receipts k d below)

-- ---- seats

pub seats-push : (n : ℕ) (seats : List Seat) (seat : Seat) → AreSeatsFrom n seats → seat ≡ unused_seat (n + length seats) → AreSeatsFrom n (seats ++ seat ∷ [])
seats-push n [] seat h e = (e ∙ ap unused_seat (let z : n + 0 ≡ n = omega arith in z), tt)
seats-push n (s ∷ seats) seat h e = (h.0, seats-push (suc n) seats seat h.1 (e ∙ ap unused_seat (let z : n + suc (length seats) ≡ suc n + length seats = omega arith in z)))
