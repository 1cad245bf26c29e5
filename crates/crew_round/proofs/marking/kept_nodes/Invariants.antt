use Rattle.std.proofs.Common.{◌≡◌, ◌/◌, ◌%◌, ◌<◌, ◌&&◌, ℕ, false, get_or, length}
use Rattle.crew_round.proofs.marking.kept_nodes.Given as goal

-- the places so far have their flags
abbrev pub invariant-loop-place : goal.invariant-loop-place
invariant-loop-place l = record {
  long : length l.kept.items ≡ l.place;
  right : (place : ℕ) → place < l.place → get_or l.kept.items place false ≡ (get_or l.carried.bases (place / length l.net.duties) false && get_or l.carried.unreached (place % length l.net.duties) false);
}
