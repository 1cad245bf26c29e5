use Rattle.std.proofs.Common.{◌≡◌, ◌∙◌, ◌++◌, ◌∷◌, [], List, inl, refl, sym, ap, subst}
use Rattle.crew_net.proofs.Orders.{place-within}
use Rattle.crew_pairing.specs.declared.vector.PairingVector.{PairingVector}
use Rattle.crew_pool.specs.declared.label_walk.LabelWalk.{LabelWalk}
use Rattle.crew_resource.specs.Members.{Member}
use Rattle.crew_resource.proofs.Members.{Member-append_right}
use Rattle.crew_sweep.specs.Machinery.Renewing.{IsRenewing}
use Rattle.crew_sweep.proofs.Besides.{stands-beside}
use Rattle.crew_sweep.proofs.Redone.{last-pool, on-ok-by, renewing-redone}
use Rattle.crew_sweep.proofs.renewal.Renewal.recompute_departure.Goals as goal

abbrev Labels : Type 0
Labels = List (PairingVector × LabelWalk)

pub note-requires-clause-place : goal.note-requires-clause-place
note-requires-clause-place c =
    let p = c.requires.ground.passable in
    place-within c.args.ground.now.net.now p.departs p.ordered _ c.args.place c.requires.place

pub note-requires-clause-counts : goal.note-requires-clause-counts
note-requires-clause-counts c =
    let was = c.args.self.now.passing.passed.pools in
    let now = c.make_departure.new.self.passing.passed.pools in
    let pool = c.get-pool.result.now in
    let added = c.in_ok-make_departure.ensures.made in
    let is = last-pool was now added.0 pool c.len-last.result added.1 c.len-last.ensures c.get-pool.ensures in
    let last = Member-append_right was (added.0 ∷ []) added.0 (inl refl) in
    let there = subst (λ (ps : List Labels). Member ps pool) (sym added.1) (subst (λ (p : Labels). Member (was ++ added.0 ∷ []) p) (sym is) last) in
    c.in_ok-make_departure.ensures.stands.pools.whole pool there

pub returns-clause-stands : goal.returns-clause-stands
returns-clause-stands c =
    let e = c.args.earlier.now in
    let g = c.args.ground.now in
    let old = e.sweep.now in
    let net = g.net.now in
    let was = c.args.self.now.passing.passed in
    let made = c.make_departure.new.self in
    let now = made.passing.passed in
    let pool = c.get-pool.result.now in
    let added = c.in_ok-make_departure.ensures.made in
    let is = last-pool was.pools now.pools added.0 pool c.len-last.result added.1 c.len-last.ensures c.get-pool.ensures in
    let all : now.pools ≡ was.pools ++ pool ∷ [] = added.1 ∙ ap (λ (p : Labels). was.pools ++ p ∷ []) (sym is) in
    on-ok-by c.note.result
    (λ own. stands-beside e g c.in_ok-make_departure.ensures.stands (subst (λ (ps : List Labels). IsRenewing old net now.walks ps c.note.new.changed.items made.alike.items) (sym all)
    (renewing-redone old net g.positions.now c.requires.ground.passable now.walks was.pools made.changed.items c.note.new.changed.items made.alike.items
    c.in_ok-make_departure.ensures.marks c.note.ensures.long c.note.ensures.less c.args.place c.requires.place pool own)) c.in_ok-make_departure.ensures.carried)
    c.note.ensures.own
