use Rattle.std.proofs.Common.{◌++◌, false, List, map, subst, sym, ⊎_elim}
use Rattle.std.proofs.lemmas.Result.{IfOk-weaker}
use Rattle.crew_pairing.specs.declared.vector.PairingVector.{PairingVector}
use Rattle.crew_pool.specs.Counted.{AreCounted, IsCounted}
use Rattle.crew_pool.specs.LabelWalks.{IsPoolOf, shown}
use Rattle.crew_pool.specs.declared.label_walk.LabelWalk.{LabelWalk}
use Rattle.crew_pool.proofs.BoardLemmas.{counted_alike}
use Rattle.crew_vector.specs.Dominance.{is_at_most}
use Rattle.crew_sweep.proofs.slide.joined.Goals as goal

pub merge-requires-clause-between : goal.merge-requires-clause-between
merge-requires-clause-between c a b m n e =
    let count = λ (v : PairingVector). v.duties in
    let walks = c.args.walks.now in
    let first = subst (λ (ls : List (PairingVector × LabelWalk)). AreCounted count walks false ls) (sym c.in_ok-pool.ensures) c.requires.first in
    counted_alike count walks false a b (first a m) (c.requires.second b n) e

pub merge-requires-clause-within : goal.merge-requires-clause-within
merge-requires-clause-within c a b m n e =
    counted_alike (λ (v : PairingVector). v.duties) c.args.walks.now false a b (c.requires.second a m) (c.requires.second b n) e

pub returns-clause-local : goal.returns-clause-local
returns-clause-local c =
    let walks = c.args.walks.now in
    IfOk-weaker c.copy_out.result _ _ (λ pool same cs local.
    let before = subst (λ (ls : List (PairingVector × LabelWalk)). IsPoolOf is_at_most cs (map (shown walks) ls)) (sym c.in_ok-pool.ensures) local in
    subst (λ (ls : List (PairingVector × LabelWalk)). IsPoolOf is_at_most (cs ++ map (shown walks) c.args.second.now) (map (shown walks) ls)) (sym same) (c.in_ok-merge.ensures.local cs before)) c.copy_out.ensures

pub returns-clause-counts : goal.returns-clause-counts
returns-clause-counts c =
    let count = λ (v : PairingVector). v.duties in
    let walks = c.args.walks.now in
    let first = subst (λ (ls : List (PairingVector × LabelWalk)). AreCounted count walks false ls) (sym c.in_ok-pool.ensures) c.requires.first in
    let after : AreCounted count walks false c.merge.new.self = λ l m. ⊎_elim {C = IsCounted count walks false l} (first l) (c.requires.second l) (c.merge.ensures.from l m) in
    IfOk-weaker c.copy_out.result _ _ (λ pool same. subst (λ (ls : List (PairingVector × LabelWalk)). AreCounted count walks false ls) (sym same) after) c.copy_out.ensures
