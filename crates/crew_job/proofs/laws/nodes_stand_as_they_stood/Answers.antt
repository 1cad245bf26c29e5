use Rattle.crew_job.proofs.Standing.{as-sealed-by-front, as-sealed-by-net, as-sealed-kept}
use Rattle.crew_job.proofs.laws.nodes_stand_as_they_stood.Goals as goal

pub returns-clause-kept : goal.returns-clause-kept
returns-clause-kept c = λ g old code d is settings over m kept. as-sealed-kept g is old settings over code d m kept

pub returns-clause-untouched : goal.returns-clause-untouched
returns-clause-untouched c = λ g old code d is settings over b m own before. as-sealed-by-net g is old settings over code d b m own before

pub returns-clause-same : goal.returns-clause-same
returns-clause-same c = λ g n f is there x y. as-sealed-by-front g is n f there x y
