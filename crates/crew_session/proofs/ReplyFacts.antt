-- How the lines of a reply are those of the machine's.
use Rattle.std.proofs.Common.{◌≡◌, ◌≤◌, ◌+◌, ◌∙◌, ℕ, zero, suc, List, [], ◌∷◌, ◌++◌, length, drop, reverse, refl, sym, ap, ap₂, add-one, arith}
use Rattle.std.specs.Prelude.{slice_get}
use Rattle.std.proofs.lemmas.List.{length-reverse}
use Rattle.std.proofs.Math.ListN.{drop_of_length-le}
use Rattle.crew_core.specs.Replies.{IsReplyOf}
use Rattle.crew_core.specs.declared.reply.Reply.{Reply}
use Rattle.crew_core.specs.declared.reply.Reply.TheVariants as Told
use Rattle.crew_flights.specs.Fold.{verdicts_after}
use Rattle.crew_flights.specs.declared.edit.Verdict.{Verdict}
use Rattle.crew_flights.specs.declared.entries.Entry.{Entry}
use Rattle.crew_machine.specs.Crew.{CrewReply}
use Rattle.crew_machine.specs.Steps as Machine
use Rattle.crew_net.specs.declared.node.Node.{Node}
use Rattle.crew_rules.specs.declared.settings.Settings.{Settings}
use Rattle.crew_session.specs.Machinery.Told.{answer_line, claim_line, told_lines}
use Rattle.crew_session.specs.ReplyLines.{abandoned_line, brought_text, freed_text, node_text, numbered, place_lines, reply_lines}
use Rattle.crew_session.specs.Verdicts.{place_text}
use Rattle.crew_version.specs.Versions.{Snapshot, verdicts_of}
use Rattle.std.specs.Prelude.{codes}

-- ---- the refusals among entries

-- the line of the verdict at a place, and then the others
lines-more : (vs : List Verdict) (p n : ℕ) → place_lines n (drop p vs) ≡ place_text n (slice_get vs p) ++ place_lines (n + 1) (drop (suc p) vs)
lines-more [] zero n = refl
lines-more [] (suc p) n = refl
lines-more (v ∷ vs) zero n = refl
lines-more (v ∷ vs) (suc p) n = lines-more vs p n

pub places-more : (vs : List Verdict) (place : ℕ) → place_lines place (drop place vs) ≡ place_text place (slice_get vs place) ++ place_lines (place + 1) (drop (place + 1) vs)
places-more vs place = lines-more vs place place ∙ ap (λ (n : ℕ). place_text place (slice_get vs place) ++ place_lines (place + 1) (drop n vs)) (sym (add-one place))

verdict-count : (earlier : List Entry) → length (verdicts_after earlier) ≡ length earlier
verdict-count [] = refl
verdict-count (e ∷ earlier) = ap suc (verdict-count earlier)

-- past the last entry there is nothing
pub places-over : (entries : List Entry) (place : ℕ) → length entries ≤ place → place_lines place (drop place (verdicts_of entries)) ≡ []
places-over entries place h =
    let count : length (verdicts_of entries) ≡ length entries = length-reverse (verdicts_after (reverse entries)) ∙ verdict-count (reverse entries) ∙ length-reverse entries in
    let over : length (verdicts_of entries) ≤ place = omega (arith, count, h) in
    ap (place_lines place) (drop_of_length-le (verdicts_of entries) over)

-- ---- the lines of a reply

pub lines-told : (s : Settings) (reply : Reply) (answer : CrewReply) → IsReplyOf s reply answer → told_lines reply ≡ reply_lines answer
lines-told s (Told.Pushed place) (Machine.Pushed k) h = ap (λ (n : ℕ). numbered (codes "push ") n (codes "\n")) h
lines-told s Told.Begun Machine.Begun h = refl
lines-told s Told.Busy Machine.Busy h = refl
lines-told s Told.LastVersion Machine.Last_version h = refl
lines-told s Told.TooManyDuties Machine.Too_large h = refl
lines-told s (Told.Claimed job node) (Machine.Claimed k work) h = ap₂ claim_line h.0 h.1
lines-told s Told.NoneReady Machine.None_ready h = refl
lines-told s (Told.Brought job brought) (Machine.Was_brought k b) h = ap₂ (λ n x. numbered (codes "bring ") n (brought_text x)) h.0 h.1
lines-told s (Told.NotBrought job) (Machine.Not_brought k) h = ap (λ (n : ℕ). numbered (codes "bring ") n (codes " refused 54\n")) h
lines-told s (Told.GivenBack job freed) (Machine.Given_back k f) h = ap₂ (λ n x. numbered (codes "giveback ") n (freed_text x)) h.0 h.1
lines-told s (Told.NotGivenBack job) (Machine.Not_given_back k) h = ap (λ (n : ℕ). numbered (codes "giveback ") n (codes " refused 54\n")) h
lines-told s (Told.Abandoned was_open) (Machine.Abandoned o) h = ap abandoned_line h
lines-told s (Told.Sealed settled version) (Machine.Sealed k v) h =
    ap₂ (λ (n : ℕ) (w : Snapshot). place_lines n (drop n (verdicts_of w.entries)) ++ numbered (codes "seal ") w.number (codes "\n")) h.0 h.1
lines-told s Told.NoRound Machine.No_round h = refl
lines-told s (Told.NotDone node) (Machine.Not_done n) h = ap (λ (x : Node). codes "seal refused 52 " ++ node_text x.base x.key) h
lines-told s (Told.Published version) (Machine.Was_published v) h = ap (λ (w : Snapshot). numbered (codes "publish ") w.number (codes "\n")) h
lines-told s Told.NothingNew Machine.Nothing_new h = refl
lines-told s (Told.Answered reader version) (Machine.Answered r place v) h = ap₂ answer_line h.0 h.1
lines-told s reply answer h = absurd h
