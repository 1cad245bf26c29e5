-- A run with the product's choices is a run.
use Rattle.std.proofs.Common.{List, [], ◌∷◌}
use Rattle.crew_machine.specs.Choices.{ChosenRun, ChosenStep}
use Rattle.crew_machine.specs.Steps.{Act, Answered, Ask, Begin, Begun, Bring, Claim, Claimed, Reply, Run, State, Step, Too_large, Was_brought}
use Rattle.crew_machine.specs.Worlds.{World}

module _ {E D N I F B : Type 0} (w : World E D N I F B) where
  pub chosen_step : (old : State E N I F B) (act : Act E) (reply : Reply E N I F B) (new : State E N I F B) → ChosenStep w old act reply new → Step w old act reply new
  chosen_step old Begin Begun new h = h.over
  chosen_step old Begin Too_large new h = (h.0.refuses, h.1)
  chosen_step old Claim (Claimed j job) new h = (h.0, h.1.hands_out)
  chosen_step old (Bring j) (Was_brought k b) new h = (h.0, h.1.takes_back)
  chosen_step old (Ask r) (Answered q place version) new h = (h.1, h.2)
  chosen_step old act reply new h = h

  pub chosen_run : (old : State E N I F B) (acts : List (Act E)) (replies : List (Reply E N I F B)) (new : State E N I F B) → ChosenRun w old acts replies new → Run w old acts replies new
  chosen_run old [] [] new h = h
  chosen_run old [] (reply ∷ replies) new h = absurd h
  chosen_run old (act ∷ acts) [] new h = absurd h
  chosen_run old (act ∷ acts) (reply ∷ replies) new h = (h.0, chosen_step old act reply h.0 h.1, chosen_run h.0 acts replies new h.2)
