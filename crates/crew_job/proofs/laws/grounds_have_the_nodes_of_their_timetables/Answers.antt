use Rattle.crew_job.proofs.GroundNodes.{are-nodes}
use Rattle.crew_job.proofs.NodePlaces.{node-place}
use Rattle.crew_job.proofs.laws.grounds_have_the_nodes_of_their_timetables.Goals as goal

pub returns-clause-nodes : goal.returns-clause-nodes
returns-clause-nodes c = λ g is. are-nodes g is

pub returns-clause-place : goal.returns-clause-place
returns-clause-place c = λ net base rank h. node-place net base rank h
