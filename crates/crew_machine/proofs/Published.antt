-- Each log has a run that publishes its version: its entries are pushed, a round is begun over all of them, finished and published.
use Rattle.std.proofs.Common.{◌≡◌, ◌≢◌, ℕ, List, [], ◌∷◌, ◌++◌, map, length, Some, None, refl, sym, ◌∙◌, ap, subst, arith, append_assoc, append-nil}
use Rattle.std.specs.List.{slice_get}
use Rattle.crew_flights.specs.declared.entries.Entry.{Entry}
use Rattle.crew_machine.proofs.Cells.{Some-same}
use Rattle.crew_machine.proofs.CrewLaws.{crew-laws, no-duty}
use Rattle.crew_machine.proofs.Finish.{Ends, round-ends, runs-on}
use Rattle.crew_machine.proofs.NodeList.{some-nodes}
use Rattle.crew_machine.proofs.Runs.{all_sound}
use Rattle.crew_machine.specs.Crew.{CrewAct, CrewReply, CrewRound, CrewState, CrewVersion, DutyNode, Entries, crew, timetable_of}
use Rattle.crew_machine.specs.Rounds.{IsCarried, Opens}
use Rattle.crew_machine.specs.Steps.{Begin, BeginsOver, Begun, Publish, Push, Pushed, Run, Shows, Was_published, last_of, opening, start}
use Rattle.crew_machine.specs.Worlds.{AreNodes}
use Rattle.crew_machine.specs.declared.rounds.Cell.{Cell}
use Rattle.crew_machine.specs.declared.rounds.Cell.TheVariants.{Waiting, Out, Done}
use Rattle.crew_pairing.specs.Duties.{HasFew}
use Rattle.crew_resource.proofs.Members.{Member-map_out}
use Rattle.crew_resource.specs.Members.{Member}
use Rattle.crew_rules.specs.Settings.{IsChecked}
use Rattle.crew_rules.specs.declared.settings.Settings.{Settings}

abbrev waiting : DutyNode → DutyNode × Cell Entries
waiting n = (n, Waiting)

named : (nodes : List DutyNode) → map (λ (c : DutyNode × Cell Entries). c.0) (map waiting nodes) ≡ nodes
named [] = refl
named (n ∷ nodes) = ap (λ z. n ∷ z) (named nodes)

-- of cells that all wait, none is out or done
waits : (nodes : List DutyNode) (n : DutyNode) (c : Cell Entries) → Member (map waiting nodes) (n, c) → c ≡ Waiting
waits nodes n c m = let from = Member-map_out waiting nodes (n, c) m in sym (ap (λ (z : DutyNode × Cell Entries). z.1) from.2)

module _ (s : Settings) where
  -- the machine before any round, with a log
  abbrev fresh : List Entry → CrewState
  fresh log = record { log = log; board = record { sealed = opening (crew s); round = None }; jobs = []; published = opening (crew s) ∷ []; seen = [] }

  abbrev places : List Entry → List Entry → List CrewReply
  places log [] = []
  places log (e ∷ es) = Pushed (length log) ∷ places (log ++ e ∷ []) es

  pushed : (es log : List Entry) → Run (crew s) (fresh log) (map Push es) (places log es) (fresh (log ++ es))
  pushed [] log = ap fresh (append-nil log)
  pushed (e ∷ es) log = (fresh (log ++ e ∷ []), (refl, refl), subst (λ (z : List Entry). Run (crew s) (fresh (log ++ e ∷ [])) (map Push es) (places (log ++ e ∷ []) es) (fresh z)) (append_assoc log (e ∷ []) es) (pushed es (log ++ e ∷ [])))

  module _ (checked : IsChecked s) (entries : List Entry) (few : HasFew s (timetable_of entries)) where
    nodes-of : (nodes : List DutyNode) × AreNodes (crew s) (timetable_of entries) nodes
    nodes-of = some-nodes s (timetable_of entries) few

    abbrev cells-of : List (DutyNode × Cell Entries)
    cells-of = map waiting nodes-of.0

    abbrev begun : CrewState
    begun = record { log = entries; board = record { sealed = opening (crew s); round = Some (record { entries = entries; cells = cells-of }) }; jobs = []; published = opening (crew s) ∷ []; seen = [] }

    carried : IsCarried (crew s) (opening (crew s)) entries cells-of
    carried = record {
      nodes = subst (AreNodes (crew s) (timetable_of entries)) (sym (named nodes-of.0)) nodes-of.1;
      done = λ n f m. absurd (let e = waits nodes-of.0 n (Done f) m in let q : ⊥ = (cc) in q);
      kept = λ n c m clear.
          let from = Member-map_out waiting nodes-of.0 (n, c) m in
          let node : from.0 ≡ n = ap (λ (z : DutyNode × Cell Entries). z.0) from.2 in
          let is = (nodes-of.1.exact n).0 (subst (Member nodes-of.0) node from.1) in
          no-duty s checked n.duty (clear n [] is refl).there.legal;
      none_out = λ n m. (let e = waits nodes-of.0 n Out m in let q : ⊥ = (cc) in q);
    }

    begins : Run (crew s) (fresh entries) (Begin ∷ []) (Begun ∷ []) begun
    begins =
        let opens : Opens (crew s) (fresh entries).board entries begun.board = record { none_open = refl; begins = (entries, refl); number_left = omega arith; small = few; cells = cells-of; carried = carried; after = refl } in
        let over : BeginsOver (crew s) (fresh entries) begun = record { entries = entries; beginning = ([], append-nil entries); board = begun.board; opens = opens; after = refl } in
        (begun, over, refl)

    to-begun : Run (crew s) (start (crew s)) (map Push entries ++ Begin ∷ []) (places [] entries ++ Begun ∷ []) begun
    to-begun = runs-on s checked (start (crew s)) (fresh entries) begun (map Push entries) (Begin ∷ []) (places [] entries) (Begun ∷ []) (pushed entries []) begins

    finishes : Ends s checked (record { entries = entries; cells = cells-of }) begun
    finishes =
        let round : CrewRound = record { entries = entries; cells = cells-of } in
        round-ends s checked begun round refl ((all_sound (crew s) (crew-laws s checked) (map Push entries ++ Begin ∷ []) (places [] entries ++ Begun ∷ []) begun to-begun).board.round round refl)
        (λ n m. (let e = waits nodes-of.0 n Out m in let q : ⊥ = (cc) in q))

    pub published : (acts : List CrewAct) × (replies : List CrewReply) × (state : CrewState) × Run (crew s) (start (crew s)) acts replies state × ((place : ℕ) × (version : CrewVersion) × (slice_get state.published place ≡ Some version) × (version.entries ≡ entries))
    published =
        let f = finishes in
        let next = f.2 in
        let sealed = next.board.sealed in
        let last : CrewState = record { log = next.log; board = next.board; jobs = next.jobs; published = next.published ++ sealed ∷ []; seen = next.seen } in
        let first : CrewVersion = opening (crew s) in
        let ends : last_of next.published ≡ Some first = ap last_of f.7 in
        let is-new : last_of next.published ≢ Some sealed = λ e.
        (
        let same : first ≡ sealed = Some-same first sealed (sym ends ∙ e) in
        let number : 0 ≡ sealed.number = ap (λ (v : CrewVersion). v.number) same in
        let one : sealed.number ≡ 1 = f.6 in
        absurd (omega (arith, number, one))) in
        let shows : Shows (crew s) next last = record { is_new = is-new; after = refl } in
        let more : Run (crew s) next (Publish ∷ []) (Was_published sealed ∷ []) last = (last, (refl, shows), refl) in
        let there : slice_get last.published 1 ≡ Some sealed = ap (λ (z : List CrewVersion). slice_get (z ++ sealed ∷ []) 1) f.7 in
        let finished = runs-on s checked begun next last f.0 (Publish ∷ []) f.1 (Was_published sealed ∷ []) f.3 more in (
          (map Push entries ++ Begin ∷ []) ++ (f.0 ++ Publish ∷ []),
          (places [] entries ++ Begun ∷ []) ++ (f.1 ++ Was_published sealed ∷ []),
          last,
          runs-on s checked (start (crew s)) begun last (map Push entries ++ Begin ∷ []) (f.0 ++ Publish ∷ []) (places [] entries ++ Begun ∷ []) (f.1 ++ Was_published sealed ∷ []) to-begun finished,
          (1, sealed, there, f.5),
        )
