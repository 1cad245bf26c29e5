-- Each job that was handed out is its node's own job in the timetable of some entries, and each reader has seen a published version.
use Rattle.std.proofs.Common.{◌≡◌, ℕ, ◌<◌, ◌==◌, cond, List, [], ◌∷◌, length, Some, sym, ap, subst, ⊎_elim, arith}
use Rattle.std.specs.List.{slice_get}
use Rattle.std.proofs.lemmas.Bool.{cases_Bool}
use Rattle.std.proofs.lemmas.Option.{slice_get_within}
use Rattle.crew_machine.proofs.Boards.{IsWorkOf-weaker}
use Rattle.crew_machine.proofs.Runs.{length_push_lem, slice_get_push_cases, start_sound, step_sound}
use Rattle.crew_machine.specs.Machinery.Sound.{IsServed, IsSound, IsStanding}
use Rattle.crew_machine.specs.Machinery.Worked.{Laws}
use Rattle.crew_machine.specs.Rounds.{Board, Claims, IsDone}
use Rattle.crew_machine.specs.Steps.{Abandon, Abandoned, Act, Answered, Ask, Begin, Begun, Bring, Busy, Claim, Claimed, Give_back, Given_back, Last_version, No_round, None_ready, Not_brought, Not_done, Not_given_back, Nothing_new, Publish, Push, Pushed, Reply, Run, Seal, Sealed, State, Step, Too_large, Was_brought, Was_published, seen_by, start}
use Rattle.crew_machine.specs.Worlds.{IsWorkOf, Work, World}
use Rattle.crew_resource.proofs.Members.{Member-at, Member-map_in}

module _ {E D N I F B : Type 0} (w : World E D N I F B) (laws : Laws w) where
  abbrev IsOwnSomewhere : Work N I F → Type 0
  IsOwnSomewhere job = (es : List E) × w.IsNode (w.fold es) job.node × IsWorkOf w (w.fold es) (w.IsFront (w.fold es)) job

  claimed_own : (old : Board E N F B) (job : Work N I F) (new : Board E N F B) → IsStanding w old → Claims w old job new → IsOwnSomewhere job
  claimed_own old job new s c =
      let sound = s.round c.round c.is_open in (
        c.round.entries,
        (sound.nodes.exact job.node).0 (Member-map_in (λ c. c.0) c.round.cells _ (Member-at c.round.cells c.place _ c.own.0)),
        IsWorkOf-weaker w (w.fold c.round.entries) (IsDone w c.round.cells) (w.IsFront (w.fold c.round.entries)) job sound.right c.own.1,
      )

  -- the jobs and what readers have seen are as they were
  as_it_was : (old new : State E N I F B) → new.jobs ≡ old.jobs → new.seen ≡ old.seen → new.published ≡ old.published → IsServed w old → IsServed w new
  as_it_was old new jobs seen published v = record {
    jobs = λ j job at. v.jobs j job (subst (λ z. slice_get z j ≡ Some job) jobs at);
    seen = λ reader. subst (λ z. seen_by reader z < length new.published) (sym seen) (subst (λ z. seen_by reader old.seen < length z) (sym published) (v.seen reader));
  }

  same : (old new : State E N I F B) → new ≡ old → IsServed w old → IsServed w new
  same old new e v = subst (IsServed w) (sym e) v

  answered : (reader r place low limit : ℕ) → place < limit → low < limit → cond (r == reader) place low < limit
  answered reader r place low limit a b =
      ⊎_elim (λ t. subst (λ z. cond z place low < limit) (sym t) a) (λ f. subst (λ z. cond z place low < limit) (sym f) b) (cases_Bool (r == reader))

  pub step_served : (old : State E N I F B) (act : Act E) (reply : Reply E N I F B) (new : State E N I F B) → IsSound w old → IsServed w old → Step w old act reply new → IsServed w new
  step_served old (Push e) (Pushed k) new s v h = as_it_was old new (ap (λ z. z.jobs) h.1) (ap (λ z. z.seen) h.1) (ap (λ z. z.published) h.1) v
  step_served old Begin Begun new s v h = as_it_was old new (ap (λ z. z.jobs) h.after) (ap (λ z. z.seen) h.after) (ap (λ z. z.published) h.after) v
  step_served old Begin Busy new s v h = same old new h.1 v
  step_served old Begin Last_version new s v h = same old new h.2 v
  step_served old Begin Too_large new s v h = same old new h.1 v
  step_served old Claim (Claimed j job) new s v h = subst (IsServed w) (sym h.1.after) (record {
    jobs = λ k other at. ⊎_elim (λ q. v.jobs k other q.1) (λ q. subst IsOwnSomewhere q.1 (claimed_own old.board job h.1.board s.board h.1.claims)) (slice_get_push_cases old.jobs job other k at);
    seen = v.seen;
  })
  step_served old Claim None_ready new s v h = same old new h.1 v
  step_served old (Bring j) (Not_brought k) new s v h = same old new h.2 v
  step_served old (Bring j) (Was_brought k b) new s v h = as_it_was old new (ap (λ z. z.jobs) h.1.after) (ap (λ z. z.seen) h.1.after) (ap (λ z. z.published) h.1.after) v
  step_served old (Give_back j) (Not_given_back k) new s v h = same old new h.2 v
  step_served old (Give_back j) (Given_back k freed) new s v h = as_it_was old new (ap (λ z. z.jobs) h.1.after) (ap (λ z. z.seen) h.1.after) (ap (λ z. z.published) h.1.after) v
  step_served old Abandon (Abandoned was_open) new s v h = as_it_was old new (ap (λ z. z.jobs) h.after) (ap (λ z. z.seen) h.after) (ap (λ z. z.published) h.after) v
  step_served old Seal (Sealed settled version) new s v h = as_it_was old new (ap (λ z. z.jobs) h.1.after) (ap (λ z. z.seen) h.1.after) (ap (λ z. z.published) h.1.after) v
  step_served old Seal No_round new s v h = same old new h.1 v
  step_served old Seal (Not_done n) new s v h = same old new h.1 v
  step_served old Publish (Was_published version) new s v h = subst (IsServed w) (sym h.1.after) (record {
    jobs = v.jobs;
    seen = λ reader. (let low = v.seen reader in let more = length_push_lem old.published old.board.sealed in omega (arith, low, more));
  })
  step_served old Publish Nothing_new new s v h = same old new h.1 v
  step_served old (Ask r) (Answered q place version) new s v h = subst (IsServed w) (sym h.1.after) (record {
    jobs = v.jobs;
    seen = λ reader. answered reader r place (seen_by reader old.seen) (length old.published) (slice_get_within old.published place version h.1.stands) (v.seen reader);
  })
  step_served old act reply new s v h = absurd h

  run_served : (old : State E N I F B) (acts : List (Act E)) (replies : List (Reply E N I F B)) (new : State E N I F B) → IsSound w old → IsServed w old → Run w old acts replies new → IsServed w new
  run_served old [] [] new s v h = subst (IsServed w) (sym h) v
  run_served old [] (reply ∷ replies) new s v h = absurd h
  run_served old (act ∷ acts) [] new s v h = absurd h
  run_served old (act ∷ acts) (reply ∷ replies) new s v h = run_served h.0 acts replies new (step_sound w laws old act reply h.0 s h.1) (step_served old act reply h.0 s v h.1) h.2

  pub start_served : IsServed w (start w)
  start_served = record { jobs = λ j job at. absurd (let b : ⊥ = (cc) in b); seen = λ reader. omega arith }

  pub all_served : (acts : List (Act E)) (replies : List (Reply E N I F B)) (s : State E N I F B) → Run w (start w) acts replies s → IsServed w s
  all_served acts replies s h = run_served (start w) acts replies s (start_sound w laws) start_served h
