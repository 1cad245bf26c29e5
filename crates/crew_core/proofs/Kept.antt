-- What the states have that a machine stands for.
use Rattle.std.proofs.Common.{◌≡◌, ℕ, zero, suc, List, [], ◌∷◌, ◌++◌, Some, length, map, refl, ap, subst}
use Rattle.std.specs.List.{slice_get}
use Rattle.crew_board.specs.Boards.{ShownBoard, shown_version}
use Rattle.crew_core.specs.Machines.{AreJobsOf, IsMachineOf, IsReached, ShownMachine, settings_of}
use Rattle.crew_board.specs.crew_job.Jobs.{IsJobOf, Job}
use Rattle.crew_machine.proofs.Cells.{Some-same}
use Rattle.crew_machine.proofs.Chosen.{chosen_run}
use Rattle.crew_machine.proofs.CrewLaws.{crew-laws}
use Rattle.crew_machine.proofs.Logged.{all_logged}
use Rattle.crew_machine.proofs.Runs.{all_sound}
use Rattle.crew_machine.proofs.Served.{all_served}
use Rattle.crew_machine.specs.Choices.{ChosenRun, ChosenStep}
use Rattle.crew_machine.specs.Crew.{CrewAct, CrewReply, CrewState, DutyWork, crew}
use Rattle.crew_machine.specs.Machinery.Sound.{IsLogged, IsServed, IsSound}
use Rattle.crew_machine.specs.Steps.{Act, Reply, State, start}
use Rattle.crew_machine.specs.Worlds.{World}

-- a run goes on by one step
pub run-more : {E D N I F B : Type 0} (w : World E D N I F B) (old mid new : State E N I F B) (acts : List (Act E)) (replies : List (Reply E N I F B)) (act : Act E) (reply : Reply E N I F B)
    → ChosenRun w old acts replies mid → ChosenStep w mid act reply new → ChosenRun w old (acts ++ act ∷ []) (replies ++ reply ∷ []) new
run-more w old mid new [] [] act reply h step = (new, subst (λ z. ChosenStep w z act reply new) h step, refl)
run-more w old mid new [] (r ∷ rs) act reply h step = absurd h
run-more w old mid new (a ∷ rest) [] act reply h step = absurd h
run-more w old mid new (a ∷ rest) (r ∷ rs) act reply h step = (h.0, h.1, run-more w h.0 mid new rest rs act reply h.2 step)

-- ---- the jobs

pub jobs-long : (jobs : List Job) (works : List DutyWork) → AreJobsOf jobs works → length jobs ≡ length works
jobs-long [] [] h = refl
jobs-long [] (w ∷ ws) h = absurd h
jobs-long (j ∷ js) [] h = absurd h
jobs-long (j ∷ js) (w ∷ ws) h = ap suc (jobs-long js ws h.1)

pub jobs-more : (jobs : List Job) (works : List DutyWork) (job : Job) (work : DutyWork) → AreJobsOf jobs works → IsJobOf job work → AreJobsOf (jobs ++ job ∷ []) (works ++ work ∷ [])
jobs-more [] [] job work h is = (is, tt)
jobs-more [] (w ∷ ws) job work h is = absurd h
jobs-more (j ∷ js) [] job work h is = absurd h
jobs-more (j ∷ js) (w ∷ ws) job work h is = (h.0, jobs-more js ws job work h.1 is)

pub job-at : (jobs : List Job) (works : List DutyWork) → AreJobsOf jobs works → (k : ℕ) (job : Job) → slice_get jobs k ≡ Some job → (work : DutyWork) × (slice_get works k ≡ Some work) × IsJobOf job work
job-at [] [] h k job at = absurd (let b : ⊥ = (cc) in b)
job-at [] (w ∷ ws) h k job at = absurd h
job-at (j ∷ js) [] h k job at = absurd h
job-at (j ∷ js) (w ∷ ws) h zero job at = (w, refl, subst (λ z. IsJobOf z w) (Some-same j job at) h.0)
job-at (j ∷ js) (w ∷ ws) h (suc k) job at = job-at js ws h.1 k job at

-- ---- the published versions

pub map-push : {X Y : Type 0} (f : X → Y) (xs : List X) (x : X) → map f (xs ++ x ∷ []) ≡ map f xs ++ f x ∷ []
map-push f [] x = refl
map-push f (y ∷ ys) x = ap (λ z. f y ∷ z) (map-push f ys x)

module _ (shown : ShownMachine) (state : CrewState) (is : IsMachineOf shown state) where
  abbrev reached : IsReached (settings_of shown) state
  reached = is.reached

  pub sound : IsSound (crew (settings_of shown)) state
  sound =
      let s = settings_of shown in
      all_sound (crew s) (crew-laws s is.checked) reached.acts reached.replies state (chosen_run (crew s) (start (crew s)) reached.acts reached.replies state reached.run)

  pub logged : IsLogged (crew (settings_of shown)) state
  logged =
      let s = settings_of shown in
      all_logged (crew s) reached.acts reached.replies state (chosen_run (crew s) (start (crew s)) reached.acts reached.replies state reached.run)

  pub served : IsServed (crew (settings_of shown)) state
  served =
      let s = settings_of shown in
      all_served (crew s) (crew-laws s is.checked) reached.acts reached.replies state (chosen_run (crew s) (start (crew s)) reached.acts reached.replies state reached.run)

  pub further : (act : CrewAct) (answer : CrewReply) (after : CrewState) → ChosenStep (crew (settings_of shown)) state act answer after → IsReached (settings_of shown) after
  further act answer after step =
      let s = settings_of shown in
      record {
        acts = reached.acts ++ act ∷ [];
        replies = reached.replies ++ answer ∷ [];
        run = run-more (crew s) (start (crew s)) state after reached.acts reached.replies act answer reached.run step;
      }

  pub sealed-shows : shown_version (settings_of shown) state.board.sealed ≡ shown.board.sealed
  sealed-shows = ap (λ (z : ShownBoard). z.sealed) is.board.shows
