-- What a session does with a record.
use Rattle.std.proofs.Common.{◌≡◌, ◌+◌, ◌∙◌, ℕ, zero, suc, Bool, false, List, [], ◌∷◌, ◌++◌, length, drop, Option, Some, Result, Ok, Err, refl, sym, ap, subst, arith, if◌then◌else◌, append_assoc, length-append, inl, inr}
use Rattle.std.specs.Prelude.{OnErr, OnOk, nat_lt, true}
use Rattle.std.proofs.lemmas.Bool.Decides.{nat_tests}
use Rattle.std.specs.FinMap as map
use Rattle.std.specs.Io.KnownBytes.{Appends}
use Rattle.std.proofs.lemmas.List.{append-nil}
use Rattle.crew_rules.specs.declared.settings.Settings.{Settings}
use Rattle.crew_flights.specs.declared.edit.Edit.{Edit}
use Rattle.crew_flights.specs.declared.entries.Entry.{Entry}
use Rattle.crew_session.specs.Engines.{AreTooMany, BeginsWith, IsSubmitFault, engine_number}
use Rattle.crew_session.specs.declared.engine_fault.EngineFault.{EngineFault}
use Rattle.crew_session.specs.declared.engine_fault.EngineFault.TheVariants.{TooManyDuties, LastVersion, SeatFull, Gap, OtherLog, NoView, Memory}
use Rattle.crew_session.specs.Machinery.Journals.{Came, IsInStep, IsRefusal, since, state_of, zones_of}
use Rattle.crew_session.specs.Lines.{refused_line, refused_lines, version_line}
use Rattle.crew_session.specs.Session.{Does, Obeys, Publishes, Settles, State, add_zone, entry_count, refuse, start, submit, submit_at, with_entry, zone_or_refuse}
use Rattle.crew_session.specs.Zones.{zone_fault}
use Rattle.crew_version.specs.Versions.{IsRight, Snapshot, opening, timetable_of, verdicts_of}
use Rattle.crew_pairing.specs.Duties.{HasTooMany}
use Rattle.crew_session.specs.declared.journal.Journal.{Journal}
use Rattle.crew_session.specs.Questions.{Tells}
use Rattle.crew_records.specs.declared.command.Command.{Command}
use Rattle.crew_records.specs.declared.command.Command.TheVariants.{AddZone, Submit, AddFlight, Retime, Settle, Best, BestOf, ShowFront, Cheapest, Apart, CheapestOf, ApartOf, Explain, Audit, Refuse}
use Rattle.jiff_tz.specs.PosixText.{TzText}
use Rattle.crew_records.specs.Faults.{record_number}
use Rattle.crew_records.specs.declared.fault.RecordFault.{RecordFault}
use Rattle.crew_session.specs.Faults.{IsPlayFault, cause_of}
use Rattle.crew_session.specs.Stops.{IsSessionFault}
use Rattle.crew_session.specs.declared.fault.SessionFault.{SessionFault}
use Rattle.crew_session.specs.declared.fault.SessionFault.TheVariants.{Read, Strange, Write}
use Rattle.crew_session.specs.declared.fault.SessionFault.TheVariants as fault
use Rattle.crew_session.specs.Texts.{AppendsBeginning, BeginsOne}
use Rattle.crew_session.proofs.BeginFacts.{begun-as}

-- a state and a text that came of a record are what the record does
pub did : {F : Type 0} (r : Result (Unit {0}) F) (old new : Option (List ℕ)) (s : Settings) (number : ℕ) (command kind : Command) (a b : State) (p q : State × List ℕ)
    → command ≡ kind → p ≡ q → ((text : List ℕ) → Does b text q → Obeys s number kind a b text) → OnOk r (Came old new b p)
    → OnOk r ((text : List ℕ) × Appends old new text × Obeys s number command a b text)
did (Ok u) old new s number command kind a b p q e f does came =
    (q.1, subst (λ (x : State × List ℕ). Appends old new x.1) f came.0, subst (λ (k : Command). Obeys s number k a b q.1) (sym e) (does q.1 (came.1 ∙ ap (λ (x : State × List ℕ). x.0) f, refl)))
did (Err x) old new s number command kind a b p q e f does came = tt

-- a question changes nothing
asked : (s : Settings) (number : ℕ) (command : Command) (a : State) (text : List ℕ) → Tells number command a.version text → Obeys s number command a a text
asked s number Best a text told = (refl, told)
asked s number (BestOf base) a text told = (refl, told)
asked s number (ShowFront base key) a text told = (refl, told)
asked s number (Cheapest limit) a text told = (refl, told)
asked s number (Apart limit share) a text told = (refl, told)
asked s number (CheapestOf base limit) a text told = (refl, told)
asked s number (ApartOf base limit share) a text told = (refl, told)
asked s number (Explain base walk) a text told = (refl, told)
asked s number (Audit limit) a text told = (refl, told)
asked s number (AddZone code zone) a text told = absurd told
asked s number (Submit e) a text told = absurd told
asked s number (AddFlight id from to dep arr price) a text told = absurd told
asked s number (Retime id from dep arr) a text told = absurd told
asked s number Settle a text told = absurd told
asked s number (Refuse fault) a text told = absurd told

pub told-of : {F : Type 0} (r : Result (Unit {0}) F) (old new : Option (List ℕ)) (s : Settings) (number : ℕ) (command : Command) (a : State) (w : Snapshot) → w ≡ a.version
    → OnOk r ((text : List ℕ) × Appends old new text × Tells number command w text) → OnOk r ((text : List ℕ) × Appends old new text × Obeys s number command a a text)
told-of (Ok u) old new s number command a w f told =
    (told.0, told.1, asked s number command a told.0 (subst (λ (x : Snapshot). Tells number command x told.0) f told.2))
told-of (Err x) old new s number command a w f told = tt

-- ---- what was begun

-- a beginning of a text that comes of a record is one of what the record writes
pub did-begin : {F : Type 0} (r : Result (Unit {0}) F) (old new : Option (List ℕ)) (s : Settings) (number : ℕ) (command kind : Command) (a : State) (p q : State × List ℕ)
    → command ≡ kind → p ≡ q → ((b : State) (text : List ℕ) → Does b text q → Obeys s number kind a b text) → OnErr r (AppendsBeginning old new p.1)
    → OnErr r (BeginsOne old new (λ text. (b : State) × Obeys s number command a b text))
did-begin (Ok u) old new s number command kind a p q e f does begun = tt
did-begin (Err x) old new s number command kind a p q e f does begun =
    inr (q.1, (q.0, subst (λ (k : Command). Obeys s number k a q.0 q.1) (sym e) (does q.0 q.1 (refl, refl))), subst (λ (x : State × List ℕ). AppendsBeginning old new x.1) f begun)

-- the same of what was asked for itself
pub begun-do : {F : Type 0} (r : Result (Unit {0}) F) (old new : Option (List ℕ)) (s : Settings) (number : ℕ) (command kind : Command) (a : State) (q : State × List ℕ)
    → command ≡ kind → ((b : State) (text : List ℕ) → Does b text q → Obeys s number kind a b text) → OnErr r (AppendsBeginning old new q.1)
    → OnErr r (BeginsOne old new (λ text. (b : State) × Obeys s number command a b text))
begun-do r old new s number command kind a q e does begun = did-begin r old new s number command kind a q q e refl does begun

-- the same of an edit that needs a report clock
pub edit-begin : {F : Type 0} (r : Result (Unit {0}) F) (old new : Option (List ℕ)) (s : Settings) (number : ℕ) (command kind : Command) (a : State) (clock was : Option ℕ) (e : ℕ → Edit)
    → command ≡ kind → was ≡ clock → ((b : State) (text : List ℕ) → Does b text (submit_at clock e number a) → Obeys s number kind a b text) → OnErr r (AppendsBeginning old new (submit_at was e number a).1)
    → OnErr r (BeginsOne old new (λ text. (b : State) × Obeys s number command a b text))
edit-begin r old new s number command kind a clock was e is same does begun =
    did-begin r old new s number command kind a (submit_at was e number a) (submit_at clock e number a) is (ap (λ (o : Option ℕ). submit_at o e number a) same) does begun

-- what an edit writes is the same whatever it is
text-by : (number : ℕ) (a b c : State) (few : Bool) → (if few then (b, []) else refuse number 61 a).1 ≡ (if few then (c, []) else refuse number 61 a).1
text-by number a b c true = refl
text-by number a b c false = refl

pub submit-text : (number : ℕ) (e f : Edit) (a : State) → (submit number e a).1 ≡ (submit number f a).1
submit-text number e f a = text-by number a (with_entry number e a) (with_entry number f a) (nat_lt (entry_count a) 1_000_000)

-- a beginning of the line of a zone that is refused
pub zone-begin : {F : Type 0} (r : Result (Unit {0}) F) (old new : Option (List ℕ)) (number : ℕ) (code : List ℕ) (zone : TzText) (j : Journal) (v : Snapshot) (taken : List Entry) (fault : RecordFault)
    → zone_fault (zones_of j.zones) code ≡ Some fault → OnErr r (AppendsBeginning old new (refused_line number (record_number fault))) → OnErr r (AppendsBeginning old new (add_zone number code zone (state_of j v taken)).1)
zone-begin r old new number code zone j v taken fault e begun =
    begun-as r old new _ _ (ap (λ (o : Option RecordFault). (zone_or_refuse o number code zone (state_of j v taken)).1) (sym e)) begun

-- texts of one kind are of another
pub begins-of : {F : Type 0} (r : Result (Unit {0}) F) (old new : Option (List ℕ)) (Is Was : List ℕ → Type 0) → ((text : List ℕ) → Is text → Was text) → OnErr r (BeginsOne old new Is) → OnErr r (BeginsOne old new Was)
begins-of (Ok u) old new Is Was more begun = tt
begins-of (Err x) old new Is Was more (inl none) = inl none
begins-of (Err x) old new Is Was more (inr told) = inr (told.0, more told.0 told.1, told.2)

-- a beginning of a text of a kind
pub begun-one : {F : Type 0} (r : Result (Unit {0}) F) (old new : Option (List ℕ)) (Is : List ℕ → Type 0) (text : List ℕ) → Is text → OnErr r (AppendsBeginning old new text) → OnErr r (BeginsOne old new Is)
begun-one (Ok u) old new Is text is begun = tt
begun-one (Err x) old new Is text is begun = inr (text, is, begun)

-- a settle
pub settled-begin : {F : Type 0} (r : Result (Unit {0}) F) (old new : Option (List ℕ)) (s : Settings) (number : ℕ) (command : Command) (a : State) → command ≡ Settle
    → OnErr r (BeginsOne old new (λ text. (b : State) × Settles number a b text)) → OnErr r (BeginsOne old new (λ text. (b : State) × Obeys s number command a b text))
settled-begin r old new s number command a e =
    begins-of r old new (λ text. (b : State) × Settles number a b text) (λ text. (b : State) × Obeys s number command a b text)
    (λ text h. (h.0, subst (λ (k : Command). Obeys s number k a h.0 text) (sym e) h.1))

-- a question
pub told-begin : {F : Type 0} (r : Result (Unit {0}) F) (old new : Option (List ℕ)) (s : Settings) (number : ℕ) (command : Command) (a : State) (w : Snapshot) → w ≡ a.version
    → OnErr r (BeginsOne old new (Tells number command w)) → OnErr r (BeginsOne old new (λ text. (b : State) × Obeys s number command a b text))
told-begin r old new s number command a w f =
    begins-of r old new (Tells number command w) (λ text. (b : State) × Obeys s number command a b text)
    (λ text h. (a, asked s number command a text (subst (λ (x : Snapshot). Tells number command x text) f h)))

-- ---- entries since the last version

drop-all : (xs ys : List Entry) → drop (length xs) (xs ++ ys) ≡ ys
drop-all [] ys = refl
drop-all (x ∷ xs) ys = drop-all xs ys

since-more : (v : Snapshot) (taken : List Entry) (e : Entry) → taken ≡ v.entries ++ since v taken → since v (taken ++ e ∷ []) ≡ since v taken ++ e ∷ []
since-more v taken e h =
    ap (λ (es : List Entry). drop (length v.entries) (es ++ e ∷ [])) h ∙ ap (drop (length v.entries)) (append_assoc v.entries (since v taken) (e ∷ [])) ∙ drop-all v.entries (since v taken ++ e ∷ [])

state-count : (strange : Bool) (j : Journal) (v : Snapshot) (taken : List Entry) → IsInStep strange j v taken → entry_count (state_of j v taken) ≡ length taken
state-count strange j v taken step = sym (ap length step.goes_on ∙ length-append v.entries (since v taken))

pub seat-full : (strange : Bool) (j : Journal) (v w : Snapshot) (taken taken' : List Entry) (number : ℕ) (e : Edit) (old new : Option (List ℕ)) → IsInStep strange j v taken → length taken ≡ 1_000_000
    → w ≡ v → taken' ≡ taken → Appends old new (refused_line number 61) → Came old new (state_of j w taken') (submit number e (state_of j v taken))
seat-full strange j v w taken taken' number e old new step full same kept written =
    let count = state-count strange j v taken step in
    let test : nat_lt (entry_count (state_of j v taken)) 1_000_000 ≡ false = rw count (grind (arith, nat_tests)) in
    let refused : submit number e (state_of j v taken) ≡ refuse number 61 (state_of j v taken) =
    ap (λ b. if b then (with_entry number e (state_of j v taken), []) else refuse number 61 (state_of j v taken)) test in
    rw (refused, same, kept) (written, refl)

-- an edit that an engine refuses
pub refused-edit : {F : Type 0} (r : Result (Unit {0}) F) (strange : Bool) (j : Journal) (v w : Snapshot) (taken taken' : List Entry) (number : ℕ) (e : Edit) (old new : Option (List ℕ)) (fault : EngineFault) → IsInStep strange j v taken
    → IsSubmitFault taken fault → w ≡ v → taken' ≡ taken → OnOk r ((why : ℕ) × (engine_number fault ≡ Some why) × Appends old new (refused_line number why))
    → OnOk r (Came old new (state_of j w taken') (submit number e (state_of j v taken)))
refused-edit (Ok u) strange j v w taken taken' number e old new SeatFull step why same kept told =
    let is : told.0 ≡ 61 = cc (told.1) in
    seat-full strange j v w taken taken' number e old new step why same kept (subst (λ (n : ℕ). Appends old new (refused_line number n)) is told.2)
refused-edit (Ok u) strange j v w taken taken' number e old new Memory step why same kept told = cc (told.1)
refused-edit (Ok u) strange j v w taken taken' number e old new TooManyDuties step why same kept told = absurd why
refused-edit (Ok u) strange j v w taken taken' number e old new LastVersion step why same kept told = absurd why
refused-edit (Ok u) strange j v w taken taken' number e old new (Gap place) step why same kept told = absurd why
refused-edit (Ok u) strange j v w taken taken' number e old new OtherLog step why same kept told = absurd why
refused-edit (Ok u) strange j v w taken taken' number e old new NoView step why same kept told = absurd why
refused-edit (Err x) strange j v w taken taken' number e old new fault step why same kept told = tt

full-begin : (strange : Bool) (j : Journal) (v : Snapshot) (taken : List Entry) (number : ℕ) (e : Edit) (old new : Option (List ℕ)) → IsInStep strange j v taken → length taken ≡ 1_000_000
    → AppendsBeginning old new (refused_line number 61) → AppendsBeginning old new (submit number e (state_of j v taken)).1
full-begin strange j v taken number e old new step full begun =
    let count = state-count strange j v taken step in
    let test : nat_lt (entry_count (state_of j v taken)) 1_000_000 ≡ false = rw count (grind (arith, nat_tests)) in
    let refused : submit number e (state_of j v taken) ≡ refuse number 61 (state_of j v taken) =
    ap (λ b. if b then (with_entry number e (state_of j v taken), []) else refuse number 61 (state_of j v taken)) test in
    subst (λ (p : State × List ℕ). AppendsBeginning old new p.1) (sym refused) begun

begun-by : (strange : Bool) (j : Journal) (v : Snapshot) (taken : List Entry) (number : ℕ) (e : Edit) (old new : Option (List ℕ)) (fault : EngineFault) → IsInStep strange j v taken
    → IsSubmitFault taken fault → (text : List ℕ) → IsRefusal number fault text → AppendsBeginning old new text → AppendsBeginning old new (submit number e (state_of j v taken)).1
begun-by strange j v taken number e old new SeatFull step why text is begun =
    let number61 : is.0 ≡ 61 = cc (is.1) in
    full-begin strange j v taken number e old new step why (subst (AppendsBeginning old new) (is.2 ∙ ap (refused_line number) number61) begun)
begun-by strange j v taken number e old new Memory step why text is begun = cc (is.1)
begun-by strange j v taken number e old new TooManyDuties step why text is begun = absurd why
begun-by strange j v taken number e old new LastVersion step why text is begun = absurd why
begun-by strange j v taken number e old new (Gap place) step why text is begun = absurd why
begun-by strange j v taken number e old new OtherLog step why text is begun = absurd why
begun-by strange j v taken number e old new NoView step why text is begun = absurd why

-- a beginning of the line of an edit that an engine refuses
pub refused-begin : {F : Type 0} (r : Result (Unit {0}) F) (strange : Bool) (j : Journal) (v : Snapshot) (taken : List Entry) (number : ℕ) (e : Edit) (old new : Option (List ℕ)) (fault : EngineFault) → IsInStep strange j v taken
    → IsSubmitFault taken fault → OnErr r (BeginsOne old new (IsRefusal number fault)) → OnErr r (AppendsBeginning old new (submit number e (state_of j v taken)).1)
refused-begin (Ok u) strange j v taken number e old new fault step why begun = tt
refused-begin (Err x) strange j v taken number e old new fault step why (inl none) = ([], _, refl, none)
refused-begin (Err x) strange j v taken number e old new fault step why (inr told) = begun-by strange j v taken number e old new fault step why told.0 told.1 told.2

-- ---- a settle

nothing-more : (xs ys zs : List Entry) → ys ≡ xs ++ zs → length ys ≡ length xs → ys ≡ xs
nothing-more xs ys [] e n = e ∙ append-nil xs
nothing-more xs ys (z ∷ zs) e n = absurd (omega (arith, ap length e, length-append xs (z ∷ zs)))

-- a version with as many entries as were taken has all of them
has-all : (w : Snapshot) (taken : List Entry) → BeginsWith w.entries taken → length w.entries ≡ length taken → taken ≡ w.entries
has-all w taken begins n = nothing-more w.entries taken begins.0 begins.1 (sym n)

none-since : (w : Snapshot) (taken : List Entry) → taken ≡ w.entries → since w taken ≡ []
none-since w taken e = ap (λ (es : List Entry). drop (length w.entries) es) (e ∙ sym (append-nil w.entries)) ∙ drop-all w.entries []

-- a version of all entries that were taken
publishes-all : (strange : Bool) (j : Journal) (v w : Snapshot) (taken after : List Entry) (text : List ℕ) → IsInStep strange j v taken → after ≡ taken → BeginsWith w.entries after → w.number ≡ v.number + 1
    → length w.entries ≡ length v.entries + length j.records.items → w.settings ≡ v.settings → IsRight w → text ≡ refused_lines j.records.items (drop (length v.entries) (verdicts_of w.entries)) ++ version_line w
    → after ≡ w.entries × Publishes (state_of j v taken) (record { zones = zones_of j.zones; version = w; entries = []; records = [] }) text
publishes-all strange j v w taken after text step same begins number count settings right written =
    let total = ap length step.goes_on ∙ length-append v.entries (since v taken) in
    let records = step.records in
    let long : length w.entries ≡ length after = omega (arith, total, records, count, ap length same) in
    let all = has-all w after begins long in
    (all, record { next = record { number = number; settings = settings; grown = sym all ∙ same ∙ step.goes_on }; right = right; after = refl; written = written })

pub published : (strange : Bool) (j k : Journal) (v w : Snapshot) (taken after : List Entry) (number : ℕ) (text : List ℕ) → IsInStep strange j v taken → after ≡ taken → BeginsWith w.entries after → w.number ≡ v.number + 1
    → length w.entries ≡ length v.entries + length j.records.items → w.settings ≡ v.settings → IsRight w → text ≡ refused_lines j.records.items (drop (length v.entries) (verdicts_of w.entries)) ++ version_line w
    → zones_of k.zones ≡ zones_of j.zones → k.records.items ≡ [] → Settles number (state_of j v taken) (state_of k w after) text
published strange j k v w taken after number text step same begins next count settings right written zones records =
    let all = publishes-all strange j v w taken after text step same begins next count settings right written in
    let one : (let s : State = record { zones = zones_of j.zones; version = w; entries = []; records = [] } in s) ≡ state_of k w after =
    λ i. record { zones = sym zones i; version = w; entries = sym (none-since w after all.0) i; records = sym records i } in
    subst (λ (b : State). Settles number (state_of j v taken) b text) one (inl all.1)

-- a version that was begun to be told
pub begun-publishing : (strange : Bool) (j : Journal) (v w : Snapshot) (taken after : List Entry) (number : ℕ) (old new : Option (List ℕ)) → IsInStep strange j v taken → after ≡ taken → BeginsWith w.entries after → w.number ≡ v.number + 1
    → length w.entries ≡ length v.entries + length j.records.items → w.settings ≡ v.settings → IsRight w
    → AppendsBeginning old new (refused_lines j.records.items (drop (length v.entries) (verdicts_of w.entries)) ++ version_line w)
    → BeginsOne old new (λ text. (b : State) × Settles number (state_of j v taken) b text)
begun-publishing strange j v w taken after number old new step same begins next count settings right begun =
    let all = publishes-all strange j v w taken after _ step same begins next count settings right refl in
    inr (_, (_, inl all.1), begun)

-- a settle that is declined
pub begun-declining : {F : Type 0} (r : Result (Unit {0}) F) (strange : Bool) (j : Journal) (v w : Snapshot) (taken after : List Entry) (number : ℕ) (old new : Option (List ℕ)) → IsInStep strange j v taken → w ≡ v → after ≡ taken
    → OnErr r (BeginsOne old new (λ text. AreTooMany w after × (text ≡ refused_line number 40))) → OnErr r (BeginsOne old new (λ text. (b : State) × Settles number (state_of j v taken) b text))
begun-declining r strange j v w taken after number old new step same kept =
    begins-of r old new (λ text. AreTooMany w after × (text ≡ refused_line number 40)) (λ text. (b : State) × Settles number (state_of j v taken) b text)
    (λ text h. (state_of j v taken, inr (record { many = subst (λ (x : Snapshot). HasTooMany x.settings (timetable_of (v.entries ++ since v taken))) same (subst (λ (es : List Entry). HasTooMany w.settings (timetable_of es)) (kept ∙ step.goes_on) h.0); after = refl; written = h.1 })))

-- before any record
pub at-start : (j : Journal) (v : Snapshot) (s : Settings) (taken : List Entry) → zones_of j.zones ≡ map.empty → j.records.items ≡ [] → v ≡ opening s → taken ≡ [] → state_of j v taken ≡ start s
at-start j v s taken zones records version none =
    let old : since v taken ≡ [] = ap (λ (es : List Entry). drop (length v.entries) es) none ∙ drop-none (length v.entries) in
    λ i. record { zones = zones i; version = version i; entries = old i; records = records i }
  where
    drop-none : (n : ℕ) → drop {A = Entry} n [] ≡ []
    drop-none zero = refl
    drop-none (suc n) = refl

pub in-step-at-start : (strange : Bool) (j : Journal) (v : Snapshot) (s : Settings) (taken : List Entry) → j.entries.items ≡ [] → j.records.items ≡ [] → v ≡ opening s → taken ≡ [] → IsInStep strange j v taken
in-step-at-start strange j v s taken entries records version none =
    rw (version, none)
    (record {
      goes_on = refl;
      records = ap length records;
      few = omega arith;
      kept = λ s. entries;
    })

-- ---- which fault

-- why a session stops, of what its play says and what has failed
pub stops-by : (Called : ℕ → Type 0) (reader writer : Bool) (input : Option (List ℕ)) (fault : SessionFault) → IsPlayFault Called fault → IsSessionFault Called input reader writer (cause_of fault reader writer)
stops-by Called reader writer input (Strange number) h = h
stops-by Called true writer input Read h = inl refl
stops-by Called false true input Read h = refl
stops-by Called false false input Read h = (refl, refl)
stops-by Called true writer input Write h = inl refl
stops-by Called false true input Write h = refl
stops-by Called false false input Write h = (refl, refl)
stops-by Called true writer input fault.Memory h = inl refl
stops-by Called false true input fault.Memory h = refl
stops-by Called false false input fault.Memory h = (refl, refl)
