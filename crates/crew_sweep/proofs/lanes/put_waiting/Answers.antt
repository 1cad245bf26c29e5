use Rattle.std.proofs.Common.{◌≡◌, ◌⊎◌, Some, inl, inr, ⊎_elim}
use Rattle.crew_pool.proofs.MergeLemmas.{Member-set_out}
use Rattle.crew_resource.specs.Members.{Member}
use Rattle.crew_sweep.proofs.lanes.put_waiting.Goals as goal

pub returns-then-index-len : goal.returns-then-index-len
returns-then-index-len c w m =
    let Goal = Member c.args.ahead.now.items (Some w) ⊎ (w ≡ c.args.waiting) in
    ⊎_elim {C = Goal} (λ k. inl k) (λ e. let same : w ≡ c.args.waiting = (cc) in inr same) (Member-set_out c.args.ahead.now.items _ (Some c.args.waiting) (Some w) m)
