use Rattle.crew_label.proofs.parts.+divide.Given as goal

abbrev pub decreases-divide : goal.decreases-divide
decreases-divide g l = l.cuts
