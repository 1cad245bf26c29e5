use Rattle.crew_pass.proofs.stretching.+up.Given as goal

abbrev pub decreases-stretch_up : goal.decreases-stretch_up
decreases-stretch_up g l = l.end
