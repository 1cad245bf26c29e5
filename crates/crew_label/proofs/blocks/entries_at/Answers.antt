use Rattle.std.proofs.Common.{ℕ, List, refl, sym, subst, ⊎_elim}
use Rattle.crew_resource.specs.Members.{Member}
use Rattle.crew_label.proofs.Listed.{member_more, taken_all}
use Rattle.crew_label.proofs.blocks.entries_at.Goals as goal

pub loop-place-preserved : goal.loop-place-preserved
loop-place-preserved g c e m h = ⊎_elim
    (λ k. c.in_ok-push_entry.ensures.stays e (c.loop-place.invariant e m k))
    (λ q. c.in_ok-push_entry.ensures.has e m (sym q))
    (member_more c.args.places.now c.loop-place.place-index 0 e.place c.loop-place-test.true h)

pub returns : goal.returns
returns g c e m h =
    c.loop-place.invariant e m (subst (λ (ks : List ℕ). Member ks e.place) (sym (taken_all c.args.places.now c.args.places.now c.loop-place.place-index refl c.loop-place-test.false)) h)
