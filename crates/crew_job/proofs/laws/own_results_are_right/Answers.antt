use Rattle.crew_job.proofs.GroundNodes.{are-nodes}
use Rattle.crew_job.proofs.BaseSweeps.{node-legal}
use Rattle.crew_version.specs.crew_fronts.Fronts.{front_at}
use Rattle.crew_job.specs.Grounds.{nodes_in}
use Rattle.crew_machine.proofs.CrewLaws.{crew-laws}
use Rattle.crew_resource.proofs.Members.{Member-at}
use Rattle.crew_job.proofs.laws.own_results_are_right.Goals as goal

pub returns-clause-front : goal.returns-clause-front
returns-clause-front c = λ g work f is place at own local.
    (crew-laws g.settings is.checked).local_in g.entries work f (((are-nodes g is).exact work.node).0 (Member-at (nodes_in g.plan.net) place work.node at)) own local

pub returns-clause-shown : goal.returns-clause-shown
returns-clause-shown c = λ job g work b is here of own place at shows.
    record {
      own = shows.own;
      there = shows.there;
      front =
          let j = job.ground in
          let f = front_at b work.node.duty in
          let local = (crew-laws j.settings is.checked).local_out j.entries work f (node-legal j is job.base job.rank work.node of.node) of.own shows.front in
          (crew-laws g.settings here.checked).local_in g.entries work f (((are-nodes g here).exact work.node).0 (Member-at (nodes_in g.plan.net) place work.node at)) own local;
    }
