use Rattle.std.proofs.Common.{◌∙◌, List, ap, map, subst, sym, ℕ}
use Rattle.crew_net.specs.Machinery.Moments.{AreMoments, AreStarts, Ascend, IsKey, keyed_slot}
use Rattle.crew_net.proofs.Keyed.{key-places, keys-ascend, keys-in-order}
use Rattle.crew_net.proofs.SlotKeys.{keys-stay}
use Rattle.crew_resource.specs.Members.{Each}
use Rattle.crew_net.proofs.timeline.Timeline.of.Goals as goal

pub moments_of-requires-clause-keys : goal.moments_of-requires-clause-keys
moments_of-requires-clause-keys c = subst (Each IsKey) (sym c.deref.ensures.value) (keys-stay c.args.keys.items c.sort_unstable.new.self.items c.requires.keys c.sort_unstable.ensures.permutation)

pub moments_of-requires-clause-ascend : goal.moments_of-requires-clause-ascend
moments_of-requires-clause-ascend c = subst (λ (l : List ℕ). Ascend (map keyed_slot l)) (sym c.deref.ensures.value) (keys-ascend c.sort_unstable.new.self.items c.sort_unstable.ensures.sorted)

pub returns : goal.returns
returns c = λ ats are.
    let keys = c.sort_unstable.new.self.items in
    let ms = c.in_ok-moments.moments.items in
    let starts = c.in_ok-moments.starts.items in
    record {
      slots = map keyed_slot keys;
      in_order = keys-in-order ats c.args.keys.items keys are c.sort_unstable.ensures.permutation c.sort_unstable.ensures.sorted;
      are_moments = subst (λ (l : List ℕ). AreMoments (map keyed_slot l) ms) c.deref.ensures.value c.in_ok-moments.ensures.moments;
      are_starts = subst (λ (l : List ℕ). AreStarts (map keyed_slot l) ms starts) c.deref.ensures.value c.in_ok-moments.ensures.starts;
      are_places = c.in_ok-places.ensures ∙ (ap (map (λ (k : ℕ). (keyed_slot k).place)) c.deref-2.ensures.value ∙ key-places keys);
    }
