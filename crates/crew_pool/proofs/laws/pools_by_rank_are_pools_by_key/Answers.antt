use Rattle.crew_pool.proofs.RankLemmas.{pool_of_rising}
use Rattle.crew_pool.proofs.laws.pools_by_rank_are_pools_by_key.Goals as goal

pub returns : goal.returns
returns g c = λ s t duties candidates entries exactly ranks i. pool_of_rising g.R.Resource.below duties candidates entries exactly.rising ranks i
