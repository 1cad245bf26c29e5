-- What a client is answered goes on from what it has seen.
use Rattle.std.proofs.Common.{◌≡◌, ℕ, zero, suc, List, [], ◌∷◌, ◌++◌, Option, None, Some, refl, ap, sym, subst, inl, inr}
use Rattle.std.specs.Prelude.{slice_get}
use mathlib.Core.List.{IsPrefix}
use Rattle.crew_flights.specs.declared.edit.Edit.{Edit}
use Rattle.crew_flights.specs.declared.edit.Edit.TheVariants as edit
use Rattle.crew_flights.specs.declared.entries.Entry.{Entry}
use Rattle.crew_publish.proofs.Chains.{extends_trans}
use Rattle.crew_publish.specs.Chain.{Extends}
use Rattle.crew_records.specs.declared.command.Command.{Command}
use Rattle.crew_records.specs.declared.command.Command.TheVariants.{AddZone, Submit, AddFlight, Retime, Settle, Best, BestOf, ShowFront, Cheapest, Apart, CheapestOf, ApartOf, Explain, Audit, Refuse}
use Rattle.crew_records.specs.declared.fault.RecordFault.{RecordFault}
use Rattle.crew_rules.specs.declared.settings.Settings.{Settings}
use Rattle.crew_serve.proofs.ClerkFacts.{extends-self}
use Rattle.crew_serve.specs.Clients.{AddsZone, Client, Does, HaveAll, IsForgone, Serves, Submits, SubmitsAt}
use Rattle.crew_serve.specs.Conversations.{Coming, Converses, Line, Long, Lost, Leaving, Talk, TellsLine, TellsOf, command_in}
use Rattle.crew_serve.specs.declared.waiting.Waiting.{Waiting}
use Rattle.crew_session.specs.Zones.{clock_at, flight_with, zone_fault}
use Rattle.crew_version.specs.Versions.{Snapshot}
use Rattle.jiff_tz.specs.PosixText.{TzText}

abbrev Goes : Client → Client → Type 0
Goes a b = Extends a.version b.version

stays : (a b : Client) → b.version ≡ a.version → Goes a b
stays a b is = subst (λ (v : Snapshot). Extends a.version v) (sym is) (extends-self a.version)

zone-goes : (o : Option RecordFault) (number : ℕ) (code : List ℕ) (zone : TzText) (a b : Client) (text : List ℕ) → AddsZone o number code zone a b text → Goes a b
zone-goes None number code zone a b text h = stays a b (ap (λ (c : Client). c.version) h.0)
zone-goes (Some fault) number code zone a b text h = stays a b (ap (λ (c : Client). c.version) h.0)

submit-goes : (number : ℕ) (e : Edit) (a b : Client) (text : List ℕ) → Submits number e a b text → Goes a b
submit-goes number e a b text (inl entered) = stays a b (ap (λ (c : Client). c.version) entered.entered)
submit-goes number e a b text (inr (inl full)) = stays a b (ap (λ (c : Client). c.version) full.kept)
submit-goes number e a b text (inr (inr none)) = stays a b (ap (λ (c : Client). c.version) none.1.0)

at-goes : (clock : Option ℕ) (e : ℕ → Edit) (number : ℕ) (a b : Client) (text : List ℕ) → SubmitsAt clock e number a b text → Goes a b
at-goes None e number a b text h = stays a b (ap (λ (c : Client). c.version) h.0)
at-goes (Some clock) e number a b text h = submit-goes number (e clock) a b text h

does-goes : (s : Settings) (number : ℕ) (command : Command) (a b : Client) (text : List ℕ) → Does s number command a b text → Goes a b
does-goes s number (AddZone code zone) a b text h = zone-goes (zone_fault a.zones code) number code zone a b text h
does-goes s number (Submit e) a b text h = submit-goes number e a b text h
does-goes s number (AddFlight id from to dep arr price) a b text h = at-goes (clock_at s a.zones from dep) (flight_with id from to dep arr price) number a b text h
does-goes s number (Retime id from dep arr) a b text h = at-goes (clock_at s a.zones from dep) (edit.Retime id from dep arr) number a b text h
does-goes s number Settle a b text (inl settled) = settled.sight.extends
does-goes s number Settle a b text (inr (inl declined)) = declined.sight.extends
does-goes s number Settle a b text (inr (inr blind)) = blind.sight.extends
does-goes s number (Refuse fault) a b text h = stays a b (ap (λ (c : Client). c.version) h.0)
does-goes s number Best a b text (inl asked) = asked.sight.extends
does-goes s number Best a b text (inr blind) = blind.sight.extends
does-goes s number (BestOf base) a b text (inl asked) = asked.sight.extends
does-goes s number (BestOf base) a b text (inr blind) = blind.sight.extends
does-goes s number (ShowFront base key) a b text (inl asked) = asked.sight.extends
does-goes s number (ShowFront base key) a b text (inr blind) = blind.sight.extends
does-goes s number (Cheapest limit) a b text (inl asked) = asked.sight.extends
does-goes s number (Cheapest limit) a b text (inr blind) = blind.sight.extends
does-goes s number (Apart limit share) a b text (inl asked) = asked.sight.extends
does-goes s number (Apart limit share) a b text (inr blind) = blind.sight.extends
does-goes s number (CheapestOf base limit) a b text (inl asked) = asked.sight.extends
does-goes s number (CheapestOf base limit) a b text (inr blind) = blind.sight.extends
does-goes s number (ApartOf base limit share) a b text (inl asked) = asked.sight.extends
does-goes s number (ApartOf base limit share) a b text (inr blind) = blind.sight.extends
does-goes s number (Explain base walk) a b text (inl asked) = asked.sight.extends
does-goes s number (Explain base walk) a b text (inr blind) = blind.sight.extends
does-goes s number (Audit limit) a b text (inl asked) = asked.sight.extends
does-goes s number (Audit limit) a b text (inr blind) = blind.sight.extends

forgone-goes : (a b : Client) → IsForgone a b → Goes a b
forgone-goes a b (inl same) = stays a b (ap (λ (c : Client). c.version) same)
forgone-goes a b (inr forgone) = forgone.sight.extends

serves-goes : (s : Settings) (number : ℕ) (command : Command) (a b : Client) (text : List ℕ) → Serves s number command a b text → Goes a b
serves-goes s number command a b text (inl does) = does-goes s number command a b text does
serves-goes s number command a b text (inr forgone) = forgone-goes a b forgone.0

line-goes : (s : Settings) (command : Option Command) (a b : Talk) (text : List ℕ) → TellsLine s command a b text → Goes a.client b.client
line-goes s None a b text h = stays a.client b.client (ap (λ (t : Talk). t.client.version) h.0)
line-goes s (Some command) a b text h = serves-goes s b.records command a.client b.client text h.does

tells-goes : (s : Settings) (coming : Coming) (a b : Talk) (text : List ℕ) → TellsOf s coming a b text → Goes a.client b.client
tells-goes s (Line line) a b text (inl told) = line-goes s (command_in line) a b text told
tells-goes s (Line line) a b text (inr forgone) = forgone-goes a.client b.client forgone.does.0
tells-goes s Long a b text told = stays a.client b.client (ap (λ (c : Client). c.version) told.does.0)
tells-goes s Lost a b text told = stays a.client b.client (ap (λ (c : Client). c.version) told.does.0)
tells-goes s Leaving a b text told = stays a.client b.client (ap (λ (t : Talk). t.client.version) told.0)

-- all that comes, one after another
pub converses-goes : (s : Settings) (name : List ℕ) (comings : List Coming) (a b : Talk) (out : List ℕ) → Converses s name comings a b out → Extends a.client.version b.client.version
converses-goes s name [] a b out h = stays a.client b.client (ap (λ (t : Talk). t.client.version) h.0)
converses-goes s name (coming ∷ later) a b out h =
    extends_trans a.client.version h.0.client.version b.client.version (tells-goes s coming a h.0 h.3.0 h.3.1) (converses-goes s name later h.0 b h.2 h.4)

-- ---- what a version has, those after it have

at-prefix : (xs ys : List Entry) (k : ℕ) (e : Entry) → IsPrefix xs ys → slice_get xs k ≡ Some e → slice_get ys k ≡ Some e
at-prefix [] ys k e p is = absurd (cc is)
at-prefix (x ∷ xs) ys zero e p is = subst (λ (zs : List Entry). slice_get zs zero ≡ Some e) p.1 is
at-prefix (x ∷ xs) ys (suc k) e p is = subst (λ (zs : List Entry). slice_get zs (suc k) ≡ Some e) p.1 (at-prefix xs (xs ++ p.0) k e (p.0, refl) is)

all-prefix : (xs ys : List Entry) (edits : List Waiting) → IsPrefix xs ys → HaveAll xs edits → HaveAll ys edits
all-prefix xs ys edits p h = λ k d less. at-prefix xs ys _ _ p (h k d less)

pub all-later : (v w : Snapshot) (edits : List Waiting) → Extends v w → HaveAll v.entries edits → HaveAll w.entries edits
all-later v w edits (inl same) h = subst (λ (es : List Entry). HaveAll es edits) same.1 h
all-later v w edits (inr follows) h = all-prefix v.entries w.entries edits follows.begins h
