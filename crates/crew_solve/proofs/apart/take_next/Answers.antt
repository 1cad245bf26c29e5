use Rattle.std.proofs.Common.{◌≡◌, ◌∙◌, ◌++◌, List, Some, ap, length, map, subst, sym}
use Rattle.std.specs.Arc.{arc_value}
use Rattle.std.specs.List.{flat_map}
use Rattle.crew_solve.specs.Machinery.Floors.{AreKnown}
use Rattle.crew_solve.specs.Machinery.Homes.{home_of}
use Rattle.crew_solve.specs.Machinery.Keeps.{CheapestSoFar, KeepsSome, keep_all, nothing_beside}
use Rattle.crew_solve.specs.Machinery.Takes.{looked_at}
use Rattle.crew_solve.proofs.Choosing.{begins-none, might-before}
use Rattle.crew_solve.proofs.Flooring.{known-stays}
use Rattle.crew_solve.proofs.Keeping.{keep-append, still-beside}
use Rattle.crew_solve.proofs.Results.{ok-both}
use Rattle.crew_sweep.specs.Sweeps.{BaseSweep}
use Rattle.crew_vector.specs.declared.priced.PricedPairing.{PricedPairing}
use Rattle.crew_solve.proofs.apart.take_next.Goals as goal

-- what is kept of some of a list, and then of all of it
kept-twice : (homes : List PricedPairing) (empty first k last : CheapestSoFar) → first ≡ empty → (some : KeepsSome homes first k) → last ≡ keep_all k homes → last ≡ keep_all empty (some.some ++ homes)
kept-twice homes empty first k last is some e =
    e ∙ (ap (λ z. keep_all z homes) (some.kept ∙ ap (λ z. keep_all z some.some) is) ∙ sym (keep-append empty some.some homes))

pub keep_of_bases_low_first-requires-clause-known : goal.keep_of_bases_low_first-requires-clause-known
keep_of_bases_low_first-requires-clause-known c =
    let ss = map (arc_value {X = BaseSweep}) c.args.fronts.now in
    subst (λ (k : CheapestSoFar). AreKnown k.beside ss c.args.known.now) (sym c.beside-kept.ensures) c.requires.known

pub look_at_kept-requires : goal.look_at_kept-requires
look_at_kept-requires c =
    let homes = flat_map home_of (map (arc_value {X = BaseSweep}) c.args.fronts.now) in
    let empty = nothing_beside c.args.many c.args.taken in
    let low = c.in_ok-keep_of_bases_low_first.ensures.kept in
    let all = kept-twice homes empty _ _ _ c.beside-kept.ensures low.1 low.2 in
    (c.args.taken, ap (λ (k : CheapestSoFar). k.beside) all ∙ still-beside empty (low.1.some ++ homes))

pub returns-clause-look : goal.returns-clause-look
returns-clause-look c =
    let homes = flat_map home_of (map (arc_value {X = BaseSweep}) c.args.fronts.now) in
    let empty = nothing_beside c.args.many c.args.taken in
    let low = c.in_ok-keep_of_bases_low_first.ensures.kept in
    let all = kept-twice homes empty _ _ _ c.beside-kept.ensures low.1 low.2 in
    let beside = ap (λ (k : CheapestSoFar). k.beside) all ∙ still-beside empty (low.1.some ++ homes) in
    let found = ap (λ (k : CheapestSoFar). k.pairings) all in
    ok-both c.look_at_kept.result _ _ _ (λ next look count. record {
      again = low.1.some;
      among = low.1.among;
      taken = look c.args.taken beside ∙ ap (looked_at c.args.taken) found;
      count = count ∙ ap length found;
    }) c.look_at_kept.ensures.taken c.look_at_kept.ensures.found

pub returns-clause-known : goal.returns-clause-known
returns-clause-known c =
    let ss = map (arc_value {X = BaseSweep}) c.args.fronts.now in
    let homes = flat_map home_of ss in
    let empty = nothing_beside c.args.many c.args.taken in
    let low = c.in_ok-keep_of_bases_low_first.ensures.kept in
    let all = kept-twice homes empty _ _ _ c.beside-kept.ensures low.1 low.2 in
    let beside = ap (λ (k : CheapestSoFar). k.beside) all ∙ still-beside empty (low.1.some ++ homes) in
    let found = ap (λ (k : CheapestSoFar). k.pairings) all in
    let was = subst (λ (k : CheapestSoFar). AreKnown k.beside ss c.keep_of_bases_low_first.new.known) c.beside-kept.ensures c.in_ok-keep_of_bases_low_first.ensures.known in
    ok-both c.look_at_kept.result _ _ _ (λ next look count.
    let is = look c.args.taken beside ∙ ap (looked_at c.args.taken) found in
    known-stays (Some c.args.taken) (Some next.0) ss _ (might-before c.args.many c.args.taken _ (low.1.some ++ homes) is) (begins-none c.args.many c.args.taken _ (low.1.some ++ homes) is) was) c.look_at_kept.ensures.taken c.look_at_kept.ensures.found
