-- A session writes one text.
use Rattle.std.proofs.Common.{◌≡◌, ◌+◌, ◌∙◌, ℕ, ℤ, List, [], ◌∷◌, ◌++◌, length, drop, Option, Some, None, refl, sym, ap, subst, inl, inr, arith}
use Rattle.std.specs.Prelude.{codes}
use Rattle.std.proofs.lemmas.Cmp.{tied_itself}
use Rattle.std.proofs.lemmas.Int.{ints}
use Rattle.std.specs.Cmp.{on_total, then_total}
use Rattle.std.specs.declared.cmp.Ordering.TheVariants.{Equal, Less}
use Rattle.crew_rules.specs.declared.settings.Settings.{Settings}
use Rattle.crew_flights.specs.Codes.{code_cmp_total}
use Rattle.crew_flights.specs.Timetable.{Timetable, IsSound}
use Rattle.crew_flights.specs.declared.entries.Entry.{Entry}
use Rattle.crew_resource.specs.Members.{Member}
use Rattle.crew_pairing.proofs.Tree.{Each-member}
use Rattle.crew_resource.proofs.Rising.{Rising, same-rising}
use Rattle.crew_pairing.specs.Duties.{RiseByKey, HasFew, HasTooMany, flights_of}
use Rattle.crew_pairing.specs.Keys.{key_cmp, key_total, walk_total}
use Rattle.crew_pairing.specs.Legs.{Leg}
use Rattle.crew_pairing.specs.Pairings.{IsDuty}
use Rattle.crew_pairing.specs.declared.duty.Duty.{Duty}
use Rattle.crew_pairing.proofs.InOrder.{all-duties}
use Rattle.crew_pairing.proofs.Timetables.{flights-of-timetable}
use Rattle.crew_duty.proofs.Unique.{unique}
use Rattle.crew_answers.specs.Bests.{IsBest}
use Rattle.crew_answers.specs.Fronts.{IsFrontAt}
use Rattle.crew_answers.specs.LongVectors.{LongVector}
use Rattle.crew_answers.proofs.OneBest.{one-best}
use Rattle.crew_answers.proofs.Unique.{same-listed}
use Rattle.crew_plan.proofs.OneList.{one-list}
use Rattle.crew_plan.proofs.Owned.{one-best-of}
use Rattle.crew_plan.proofs.Sharing.{one-apart}
use Rattle.crew_plan.specs.Cheapest.{IsShown, IsShownOf}
use Rattle.crew_audit.specs.Partials.{ArePartials, Rise, partial_cmp}
use Rattle.crew_audit.specs.Tallies.{IsLeast, IsTally}
use Rattle.crew_audit.specs.declared.partial.Partial.{Partial}
use Rattle.crew_audit.specs.declared.tally.Tally.{Tally}
use Rattle.crew_version.specs.Fronts.{IsFrontByKey}
use Rattle.crew_version.specs.Versions.{IsNext, IsRight, Snapshot, timetable_of, verdicts_of}
use Rattle.crew_version.proofs.SolutionFacts.{timetable-sound}
use Rattle.crew_records.specs.Commands.{command_of}
use Rattle.crew_records.specs.Fields.{Fields}
use Rattle.crew_records.specs.declared.command.Command.{Command}
use Rattle.crew_records.specs.declared.command.Command.TheVariants.{AddZone, Submit, AddFlight, Retime, Settle, Best, BestOf, ShowFront, Cheapest, Apart, CheapestOf, ApartOf, Explain, Audit, Refuse}
use Rattle.crew_session.specs.Audits.{Audits, Counts, PassesLimit}
use Rattle.crew_session.specs.Fronts.{ShowsFront}
use Rattle.crew_session.specs.Lines.{audit_line, best_line, front_lines, pairings_lines, refused_lines, version_line}
use Rattle.crew_pairing.specs.Pairings.{minutes_away}
use Rattle.crew_pairing.specs.Vectors.{cost_of, pay_of}
use Rattle.crew_explain.specs.Explanations.{IsExplained, way_of}
use Rattle.crew_explain.specs.declared.breach.Breach.{Breach}
use Rattle.crew_explain.specs.declared.explained.Explained.{Explained}
use Rattle.crew_explain.specs.declared.explained.Explained.TheVariants.{Broken, Legal}
use Rattle.crew_explain.specs.declared.explained.Limits.{Limits}
use Rattle.crew_session.specs.Explanations.{ShowsExplained, broken_text, duties_text, named, told_text, way_text}
use Rattle.crew_session.specs.Pairings.{ShowsApart, ShowsApartOf, ShowsBestOf, ShowsCheapest, ShowsCheapestOf}
use Rattle.crew_session.specs.Session.{Declines, Does, Obeys, Publishes, Settles, State, Writes}

-- ---- the version that a settle makes

one-snapshot : (v w : Snapshot) → v.number ≡ w.number → v.settings ≡ w.settings → v.entries ≡ w.entries → v.best ≡ w.best → v ≡ w
one-snapshot v w n s e b = λ i. record { number = n i; settings = s i; entries = e i; best = b i }

one-version : (before v w : Snapshot) (entries : List Entry) → IsNext before entries v → IsRight v → IsNext before entries w → IsRight w → v ≡ w
one-version before v w entries next right next2 right2 =
    let settings : w.settings ≡ v.settings = next2.settings ∙ sym next.settings in
    let grown : w.entries ≡ v.entries = next2.grown ∙ sym next.grown in
    let least : IsBest v.settings (timetable_of v.entries) w.best =
    subst (λ (s : Settings). IsBest s (timetable_of v.entries) w.best) settings (subst (λ (es : List Entry). IsBest w.settings (timetable_of es) w.best) grown right2.least) in
    one-snapshot v w (next.number ∙ sym next2.number) (sym settings) (sym grown)
    (one-best v.settings (timetable_of v.entries) v.best w.best (timetable-sound v.entries) right.least least)

not-both : (s : Settings) (t : Timetable) → HasFew s t → HasTooMany s t → ⊥
not-both s t few many =
    let same = unique s (flights_of t) few.0 many.0 few.1 many.1 in
    let count = few.2 in
    let more = many.2 in
    omega (arith, ap length same, count, more)

never : (number : ℕ) (a b c : State) (x y : List ℕ) → Publishes a b x → Declines number a c y → ⊥
never number a b c x y p q =
    not-both a.version.settings (timetable_of (a.version.entries ++ a.entries))
    (subst (λ (s : Settings). HasFew s (timetable_of (a.version.entries ++ a.entries))) p.next.settings (subst (λ (es : List Entry). HasFew b.version.settings (timetable_of es)) p.next.grown p.right.few)) q.many

-- what two of them come to is one state and one text
abbrev pub AreOne : State → List ℕ → State → List ℕ → Type 0
AreOne b x c y = (b ≡ c) × (x ≡ y)

one-publishing : (a b c : State) (x y : List ℕ) → Publishes a b x → Publishes a c y → AreOne b x c y
one-publishing a b c x y p q =
    let same = one-version a.version b.version c.version a.entries p.next p.right q.next q.right in (
      p.after ∙ ap (λ (v : Snapshot). let s : State = record { zones = a.zones; version = v; entries = []; records = [] } in s) same ∙ sym q.after,
      p.written ∙ ap (λ (v : Snapshot). refused_lines a.records (drop (length a.version.entries) (verdicts_of v.entries)) ++ version_line v) same ∙ sym q.written,
    )

one-settle : (number : ℕ) (a b c : State) (x y : List ℕ) → Settles number a b x → Settles number a c y → AreOne b x c y
one-settle number a b c x y (inl p) (inl q) = one-publishing a b c x y p q
one-settle number a b c x y (inl p) (inr q) = absurd (never number a b c x y p q)
one-settle number a b c x y (inr p) (inl q) = absurd (never number a c b y x q p)
one-settle number a b c x y (inr p) (inr q) = (p.after ∙ sym q.after, p.written ∙ sym q.written)

-- ---- a front

apart : (d e : Duty) → key_cmp d.key e.key ≡ Less → d.key ≡ e.key → ⊥
apart d e h k = let q : Less ≡ Equal = sym h ∙ (ap (key_cmp d.key) (sym k) ∙ tied_itself key_total d.key) in (cc)

-- in a list that rises by key, a key tells the duty
key-tells : (ds : List Duty) (d e : Duty) → RiseByKey ds → Member ds d → Member ds e → d.key ≡ e.key → d ≡ e
key-tells [] d e h m n k = absurd m
key-tells (x ∷ ds) d e h (inl p) (inl q) k = sym p ∙ q
key-tells (x ∷ ds) d e h (inl p) (inr n) k = absurd (apart x e (Each-member (λ y. key_cmp x.key y.key ≡ Less) ds e h.0 n) (ap (λ (y : Duty). y.key) p ∙ k))
key-tells (x ∷ ds) d e h (inr m) (inl q) k = absurd (apart x d (Each-member (λ y. key_cmp x.key y.key ≡ Less) ds d h.0 m) (ap (λ (y : Duty). y.key) q ∙ sym k))
key-tells (x ∷ ds) d e h (inr m) (inr n) k = key-tells ds d e h.1 m n k

one-duty : (s : Settings) (t : Timetable) → IsSound t → (d e : Duty) → IsDuty s (flights_of t) d → IsDuty s (flights_of t) e → d.key ≡ e.key → d ≡ e
one-duty s t sound d e l m k =
    let all = all-duties s (flights_of t) (flights-of-timetable t sound) in
    key-tells _ d e all.rising (subst (Member _) (sym l.3) (all.every l.0 l.1 l.2)) (subst (Member _) (sym m.3) (all.every m.0 m.1 m.2)) k

one-front : (s : Settings) (t : Timetable) → IsSound t → (base : List ℕ) (key : List Leg) (f g : Option (List (LongVector × List (List Leg))))
    → IsFrontByKey s t base key f → IsFrontByKey s t base key g → f ≡ g
one-front s t sound base key None None h k = refl
one-front s t sound base key None (Some g) h k = absurd (h k.0 k.1 k.2 k.3 k.4)
one-front s t sound base key (Some f) None h k = absurd (k h.0 h.1 h.2 h.3 h.4)
one-front s t sound base key (Some f) (Some g) h k =
    let price : k.0 ≡ h.0 = cc (h.2, k.2) in
    let duty : k.1 ≡ h.1 = one-duty s t sound k.1 h.1 k.3 h.3 (k.4 ∙ sym h.4) in
    let other : IsFrontAt s t base h.0 h.1 g = subst (λ (d : Duty). IsFrontAt s t base h.0 d g) duty (subst (λ (p : ℤ). IsFrontAt s t base p k.1 g) price k.5) in
    ap (λ (es : List (LongVector × List (List Leg))). Some es) (same-listed s t base h.0 h.1 f g h.5 other h.6 k.6)

one-showing : (base : List ℕ) (key : List Leg) (v : Snapshot) (x y : List ℕ) → ShowsFront base key v x → ShowsFront base key v y → x ≡ y
one-showing base key v x y h k =
    h.written ∙ ap (front_lines v.settings base key) (one-front v.settings (timetable_of v.entries) (timetable-sound v.entries) base key h.front k.front h.exact k.exact) ∙ sym k.written

one-listing : (limit : ℕ) (v : Snapshot) (x y : List ℕ) → ShowsCheapest limit v x → ShowsCheapest limit v y → x ≡ y
one-listing limit v x y h k = h.written ∙ ap pairings_lines (one-list (IsShown v.settings (timetable_of v.entries)) limit h.pairings k.pairings h.exact k.exact) ∙ sym k.written

one-apart-listing : (limit share : ℕ) (v : Snapshot) (x y : List ℕ) → ShowsApart limit share v x → ShowsApart limit share v y → x ≡ y
one-apart-listing limit share v x y h k = h.written ∙ ap pairings_lines (one-apart (IsShown v.settings (timetable_of v.entries)) limit share h.pairings k.pairings h.exact k.exact) ∙ sym k.written

one-best-showing : (base : List ℕ) (v : Snapshot) (x y : List ℕ) → ShowsBestOf base v x → ShowsBestOf base v y → x ≡ y
one-best-showing base v x y h k =
    h.written ∙ ap best_line (one-best-of v.settings (timetable_of v.entries) (timetable-sound v.entries) base h.best k.best h.exact k.exact) ∙ sym k.written

one-listing-of : (base : List ℕ) (limit : ℕ) (v : Snapshot) (x y : List ℕ) → ShowsCheapestOf base limit v x → ShowsCheapestOf base limit v y → x ≡ y
one-listing-of base limit v x y h k =
    h.written ∙ ap pairings_lines (one-list (IsShownOf v.settings (timetable_of v.entries) base) limit h.pairings k.pairings h.exact k.exact) ∙ sym k.written

one-apart-listing-of : (base : List ℕ) (limit share : ℕ) (v : Snapshot) (x y : List ℕ) → ShowsApartOf base limit share v x → ShowsApartOf base limit share v y → x ≡ y
one-apart-listing-of base limit share v x y h k =
    h.written ∙ ap pairings_lines (one-apart (IsShownOf v.settings (timetable_of v.entries) base) limit share h.pairings k.pairings h.exact k.exact) ∙ sym k.written

-- ---- an audit

rising : (ps : List Partial) → Rise ps → Rising partial_cmp ps
rising [] h = tt
rising (p ∷ ps) h = (h.0, rising ps h.1)

one-partials : (s : Settings) (t : Timetable) (ps qs : List Partial) → ArePartials s t ps → ArePartials s t qs → ps ≡ qs
one-partials s t ps qs h k =
    same-rising partial_cmp (then_total (on_total (λ (p : Partial). p.base) code_cmp_total) (on_total (λ (p : Partial). p.walk) walk_total)) ps qs (rising ps h.rising) (rising qs k.rising)
    (λ p m. k.every p (h.sound p m)) (λ p m. h.every p (k.sound p m))

one-least : (ps : List Partial) (a b : Option ℤ) → IsLeast ps a → IsLeast ps b → a ≡ b
one-least ps None None h k = refl
one-least ps None (Some y) h k = absurd (h k.0.0 k.0.1 k.0.2)
one-least ps (Some x) None h k = absurd (k h.0.0 h.0.1 h.0.2)
one-least ps (Some x) (Some y) h k =
    let down = h.1 k.0.0 k.0.1 k.0.2 in
    let up = k.1 h.0.0 h.0.1 h.0.2 in
    let here = h.0.3 in
    let there = k.0.3 in
    let same : x ≡ y = omega (arith, ints, down, up, here, there) in
    ap (λ (z : ℤ). Some z) same

one-tally : (ps : List Partial) (a b : Tally) → IsTally ps a → IsTally ps b → a ≡ b
one-tally ps a b h k =
    let partials : a.partials ≡ b.partials = h.partials ∙ sym k.partials in
    let pairings : a.pairings ≡ b.pairings = h.pairings ∙ sym k.pairings in
    let cost = one-least ps a.cost b.cost h.cost k.cost in
    λ i. record { partials = partials i; pairings = pairings i; cost = cost i }

never-more : (limit number : ℕ) (v : Snapshot) (x y : List ℕ) → Counts limit v x → PassesLimit limit number v y → ⊥
never-more limit number v x y h k =
    let same = one-partials v.settings (timetable_of v.entries) h.partials k.more.0 h.all k.more.1 in
    let few = h.few in
    let more = k.more.2 in
    omega (arith, ap length same, few, more)

one-audit : (limit number : ℕ) (v : Snapshot) (x y : List ℕ) → Audits limit number v x → Audits limit number v y → x ≡ y
one-audit limit number v x y (inl h) (inl k) =
    let same = one-partials v.settings (timetable_of v.entries) h.partials k.partials h.all k.all in
    h.written ∙ ap audit_line (one-tally k.partials h.tally k.tally (subst (λ (ps : List Partial). IsTally ps h.tally) same h.counted) k.counted) ∙ sym k.written
one-audit limit number v x y (inl h) (inr k) = absurd (never-more limit number v x y h k)
one-audit limit number v x y (inr h) (inl k) = absurd (never-more limit number v y x k h)
one-audit limit number v x y (inr h) (inr k) = h.written ∙ sym k.written

-- a walk is explained in one way
one-told : (s : Settings) (t : Timetable) (base : List ℕ) (walk : List (List Leg)) (a b : Explained) → IsExplained s t base walk a → IsExplained s t base walk b → told_text a ≡ told_text b
one-told s t base walk (Broken p) (Broken q) h k = ap (λ (o : Breach). broken_text o) (let e : p ≡ q = (cc) in e)
one-told s t base walk (Broken p) (Legal n) h k = absurd (let u = k.unbroken in let q : ⊥ = (cc) in q)
one-told s t base walk (Legal m) (Broken q) h k = absurd (let u = h.unbroken in let q : ⊥ = (cc) in q)
one-told s t base walk (Legal m) (Legal n) h k =
    let read : (m.duties.items, m.limits.items) ≡ (n.duties.items, n.limits.items) = (let r = h.limits in let u = k.limits in cc) in
    let duties : m.duties.items ≡ n.duties.items = ap (λ (r : List Duty × List Limits). r.0) read in
    let limits : m.limits.items ≡ n.limits.items = ap (λ (r : List Duty × List Limits). r.1) read in
    let price : h.pairing.price ≡ k.pairing.price = (let r = h.pairing.based in let u = k.pairing.based in cc) in
    let cost = h.numbers.cost ∙ (λ i. cost_of s (price i) (duties i)) ∙ sym k.numbers.cost in
    let pay = h.numbers.pay ∙ ap (pay_of s) duties ∙ sym k.numbers.pay in
    let away = h.numbers.away ∙ ap minutes_away duties ∙ sym k.numbers.away in
    let way = h.numbers.way ∙ ap (way_of s) duties ∙ sym k.numbers.way in
    λ i. (codes " legal" ++ (named (codes " cost ") (cost i) ++ named (codes " pay ") (pay i) ++ named (codes " away ") (away i)) ++ codes " by " ++ way_text (way i) ++ codes "\n") ++ duties_text (duties i) (limits i)

one-explanation : (base : List ℕ) (walk : List (List Leg)) (v : Snapshot) (x y : List ℕ) → ShowsExplained base walk v x → ShowsExplained base walk v y → x ≡ y
one-explanation base walk v x y h k =
    h.written ∙ ap (λ (text : List ℕ). codes "explain " ++ base ++ text) (one-told v.settings (timetable_of v.entries) base walk h.told k.told h.exact k.exact) ∙ sym k.written

-- ---- a record, and all of them

both : (p : State × List ℕ) (b c : State) (x y : List ℕ) → Does b x p → Does c y p → AreOne b x c y
both p b c x y h k = (h.0 ∙ sym k.0, h.1 ∙ sym k.1)

pub one-record : (s : Settings) (number : ℕ) (command : Command) (a b c : State) (x y : List ℕ) → Obeys s number command a b x → Obeys s number command a c y → AreOne b x c y
one-record s number (AddZone code zone) a b c x y h k = both _ b c x y h k
one-record s number (Submit e) a b c x y h k = both _ b c x y h k
one-record s number (AddFlight id from to dep arr price) a b c x y h k = both _ b c x y h k
one-record s number (Retime id from dep arr) a b c x y h k = both _ b c x y h k
one-record s number Settle a b c x y h k = one-settle number a b c x y h k
one-record s number Best a b c x y h k = both _ b c x y h k
one-record s number (BestOf base) a b c x y h k = (h.0 ∙ sym k.0, one-best-showing base a.version x y h.1 k.1)
one-record s number (ShowFront base key) a b c x y h k = (h.0 ∙ sym k.0, one-showing base key a.version x y h.1 k.1)
one-record s number (Cheapest limit) a b c x y h k = (h.0 ∙ sym k.0, one-listing limit a.version x y h.1 k.1)
one-record s number (Apart limit share) a b c x y h k = (h.0 ∙ sym k.0, one-apart-listing limit share a.version x y h.1 k.1)
one-record s number (CheapestOf base limit) a b c x y h k = (h.0 ∙ sym k.0, one-listing-of base limit a.version x y h.1 k.1)
one-record s number (ApartOf base limit share) a b c x y h k = (h.0 ∙ sym k.0, one-apart-listing-of base limit share a.version x y h.1 k.1)
one-record s number (Explain base walk) a b c x y h k = (h.0 ∙ sym k.0, one-explanation base walk a.version x y h.1 k.1)
one-record s number (Audit limit) a b c x y h k = (h.0 ∙ sym k.0, one-audit limit number a.version x y h.1 k.1)
one-record s number (Refuse fault) a b c x y h k = both _ b c x y h k

pub one-text : (s : Settings) (number : ℕ) (a : State) (rows : List Fields) (x y : List ℕ) → Writes s number a rows x → Writes s number a rows y → x ≡ y
one-text s number a [] x y h k = h ∙ sym k
one-text s number a (row ∷ rows) x y h k =
    let first = one-record s (number + 1) (command_of row) a h.0 k.0 h.1 k.1 h.3 k.3 in
    let more = one-text s (number + 1) k.0 rows h.2 k.2 (subst (λ (b : State). Writes s (number + 1) b rows h.2) first.0 h.4) k.4 in
    h.5 ∙ ap (λ (line : List ℕ). line ++ h.2) first.1 ∙ ap (λ (rest : List ℕ). k.1 ++ rest) more ∙ sym k.5
