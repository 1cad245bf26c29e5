use Rattle.std.proofs.Common.{[]}
use Rattle.crew_label.proofs.pool.Pool.of_pools.Goals as goal

pub returns-clause-pool : goal.returns-clause-pool
returns-clause-pool g c candidates h =
    c.in_ok-labels.ensures.pool [] candidates (record {
      among = λ v w m. absurd m;
      covers = λ x y m. absurd m;
      alone = λ v w x y m n s. absurd m;
    }) h
