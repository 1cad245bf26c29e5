use Rattle.std.proofs.Common.{◌≡◌, ◌∙◌, ◌++◌, ℕ, Bool, List, ap, arith, drop, false, get_or, length, subst, sym, take, true}
use Rattle.std.proofs.Math.Seq.{take-append_seam}
use Rattle.crew_net.proofs.Slices.{stands}
use Rattle.crew_resource.specs.Members.{Member}
use Rattle.crew_sweep.proofs.KeptSteps.{laid-of}
use Rattle.crew_sweep.proofs.Marks.{AreMarked, leaving-within, none-left}
use Rattle.crew_sweep.proofs.renewal.note.Goals as goal

pub mark-requires-clause-ranks : goal.mark-requires-clause-ranks
mark-requires-clause-ranks c rank m =
    let net = c.args.ground.now.net.now in
    let laid = laid-of net c.args.ground.now.positions.now c.requires.ground.passable in
    let g = stands net.departures c.args.place c.requires.place in
    (leaving-within net laid c.args.earlier.now.places.now c.requires.beside.places g.0 rank (subst (λ (rs : List ℕ). Member rs rank) (c.leaving.ensures g.0 g.1) m)).0

pub mark-requires-clause-places : goal.mark-requires-clause-places
mark-requires-clause-places c rank m =
    let net = c.args.ground.now.net.now in
    let laid = laid-of net c.args.ground.now.positions.now c.requires.ground.passable in
    let g = stands net.departures c.args.place c.requires.place in
    let within = (leaving-within net laid c.args.earlier.now.places.now c.requires.beside.places g.0 rank (subst (λ (rs : List ℕ). Member rs rank) (c.leaving.ensures g.0 g.1) m)).1 in
    let long = c.requires.marks in
    let same = ap length c.deref_mut.ensures.value in
    omega (arith, within, long, same)

pub returns-then-not-branch-clause-own : goal.returns-then-not-branch-clause-own
returns-then-not-branch-clause-own c g at p unmarked d m is leaves =
    let net = c.args.ground.now.net.now in
    let laid = laid-of net c.args.ground.now.positions.now c.requires.ground.passable in
    let now = c.mark.new.changed in
    let was = c.args.changed.now.items in
    let len : length now ≡ c.args.changed.now.len = c.mark.ensures.long ∙ c.deref_mut.ensures.len in
    let whole : take c.args.changed.now.len (now ++ drop (length now) was) ≡ now = ap (λ (n : ℕ). take n (now ++ drop (length now) was)) (sym len) ∙ take-append_seam now (drop (length now) was) in
    let free : get_or now p true ≡ false = ap (λ (bs : List Bool). get_or bs p true) (sym whole) ∙ unmarked in
    let marked = subst (AreMarked now c.args.earlier.now.places.now) (c.leaving.ensures g at) c.mark.ensures.marked in
    absurd (none-left net laid c.args.earlier.now.places.now c.requires.beside.places g now marked p free d m is leaves)
