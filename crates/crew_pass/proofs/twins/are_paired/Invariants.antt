use Rattle.crew_pass.proofs.Twinned.{PairedSo}
use Rattle.crew_pass.proofs.twins.are_paired.Given as goal

abbrev pub invariant-loop-k : goal.invariant-loop-k
invariant-loop-k l = PairedSo l.duties l.ranks l.others l.k
