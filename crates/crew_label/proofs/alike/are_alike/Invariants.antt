use Rattle.std.proofs.Common.{◌≡◌, length, map, take}
use Rattle.crew_label.proofs.TwinLabels.{told_of, twins_of}
use Rattle.crew_label.proofs.alike.are_alike.Given as goal

abbrev pub invariant-loop-label : goal.invariant-loop-label
invariant-loop-label g l =
    map (twins_of l.twins (g.T.Trails.trail l.here)) (take (length l.yielded) l.pool)
    ≡ map (told_of (g.U.Trails.trail l.there)) (take (length l.yielded) l.other)
