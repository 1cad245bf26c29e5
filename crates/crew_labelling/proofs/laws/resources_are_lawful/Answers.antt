use Rattle.crew_labelling.proofs.laws.resources_are_lawful.Goals as goal

pub returns : goal.returns
returns g c = λ r net base numbers leaves.
    let bounds = g.met.R.Staged.bounds r in
    let rests = g.met.R.Lapses.resting r in
    record {
      order = g.met.R.Resource.order;
      total = g.met.R.Value.Ord.total;
      forgets = g.met.R.Forgets.forgets r;
      counting = g.met.R.Staged.counting r;
      idle_ready = λ x. bounds.idle_ready x tt;
      wait_ready = bounds.wait_ready;
      board_arrived = bounds.board_arrived;
      rest_counts = rests.rested_counts;
      rest_arrived = rests.rested_arrived;
    }
