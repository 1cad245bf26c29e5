use Rattle.std.proofs.Common.{◌++◌, ◌⊎◌, List, inl, inr, map, subst, sym, true, ⊎_elim}
use Rattle.std.proofs.lemmas.Result.{IfOk-weaker}
use Rattle.crew_pairing.specs.declared.vector.PairingVector.{PairingVector}
use Rattle.crew_pool.specs.Apart.{AreApart}
use Rattle.crew_pool.specs.Counted.{AreCounted, IsCounted}
use Rattle.crew_pool.specs.LabelWalks.{IsPoolOf, shown}
use Rattle.crew_pool.specs.Machinery.Meets.{vectors_of}
use Rattle.crew_pool.specs.declared.label_walk.LabelWalk.{LabelWalk}
use Rattle.crew_pool.proofs.BoardLemmas.{counted_alike}
use Rattle.crew_resource.specs.Members.{Member}
use Rattle.crew_sweep.specs.Machinery.Mending.{IsMended}
use Rattle.crew_vector.specs.Dominance.{is_at_most}
use Rattle.crew_sweep.proofs.mending.mended.Goals as goal

abbrev Labels : Type 0
Labels = List (PairingVector × LabelWalk)

pub merge-requires-clause-apart : goal.merge-requires-clause-apart
merge-requires-clause-apart c = subst (λ (ls : Labels). AreApart is_at_most (vectors_of ls)) (sym c.as_slice.ensures.all) c.as_slice.ensures.apart

pub merge-requires-clause-between : goal.merge-requires-clause-between
merge-requires-clause-between c a b m n e =
    let count = λ (v : PairingVector). v.duties in
    let walks = c.args.walks.now in
    let fresh = subst (λ (ls : Labels). AreCounted count walks true ls) (sym c.in_ok-growing.ensures) c.requires.fresh in
    let old = subst (λ (ls : Labels). AreCounted count walks true ls) (sym c.as_slice.ensures.all) c.requires.old in
    counted_alike count walks true a b (fresh a m) (old b n) e

pub merge-requires-clause-within : goal.merge-requires-clause-within
merge-requires-clause-within c a b m n e =
    let count = λ (v : PairingVector). v.duties in
    let walks = c.args.walks.now in
    let old = subst (λ (ls : Labels). AreCounted count walks true ls) (sym c.as_slice.ensures.all) c.requires.old in
    counted_alike count walks true a b (old a m) (old b n) e

pub returns : goal.returns
returns c =
    let count = λ (v : PairingVector). v.duties in
    let walks = c.args.walks.now in
    let fresh = c.args.fresh in
    let old = c.args.old.now in
    let counted = IsCounted count walks true in
    let first = subst (λ (ls : Labels). IsPoolOf is_at_most (map (shown walks) fresh) (map (shown walks) ls)) (sym c.in_ok-growing.ensures) c.requires.settled in
    let local = subst (λ (ls : Labels). IsPoolOf is_at_most (map (shown walks) fresh ++ map (shown walks) ls) (map (shown walks) c.merge.new.self)) c.as_slice.ensures.all (c.in_ok-merge.ensures.local (map (shown walks) fresh) first) in
    let from : (l : PairingVector × LabelWalk) → Member c.merge.new.self l → Member fresh l ⊎ Member old l = λ l m. ⊎_elim {C = Member fresh l ⊎ Member old l}
    (λ k. inl (subst (λ (ls : Labels). Member ls l) c.in_ok-growing.ensures k)) (λ k. inr (subst (λ (ls : Labels). Member ls l) c.as_slice.ensures.all k)) (c.in_ok-merge.ensures.from l m) in
    let all : IsMended walks fresh old c.merge.new.self = record { local = local; from = from; counts = λ l m. ⊎_elim {C = counted l} (c.requires.fresh l) (c.requires.old l) (from l m) } in
    IfOk-weaker c.copy_out.result _ _ (λ pool same. subst (IsMended walks fresh old) (sym same) all) c.copy_out.ensures
