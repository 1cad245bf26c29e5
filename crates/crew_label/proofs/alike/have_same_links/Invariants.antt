use Rattle.std.proofs.Common.{◌≡◌, length, map, take}
use Rattle.crew_label.proofs.alike.have_same_links.Given as goal

abbrev pub invariant-loop-label : goal.invariant-loop-label
invariant-loop-label g l =
    map (λ x. x.before) (take (length l.yielded) l.labels) ≡ map (λ x. x.before) (take (length l.yielded) l.others)
