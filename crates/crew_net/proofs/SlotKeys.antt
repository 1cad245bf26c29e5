-- Keys of slots at bounded moments, also in another order.
use Rattle.std.proofs.Common.{◌≡◌, ◌∷◌, [], inl, inr, ℕ, suc, List, ℤ, map, subst, ap, sym, IsPermutation}
use Rattle.std.proofs.lemmas.List.Sorted.{IsPermutation-sym}
use Rattle.crew_net.specs.Machinery.Held.{IsLeft, IsReached, arrive_at, leave_at}
use Rattle.crew_net.specs.Machinery.Moments.{AreKeys, AreSlotKeys, IsBounded, IsKey, Slot, keyed_slot, slots_from}
use Rattle.crew_net.proofs.Codes.{moment-bounded}
use Rattle.crew_net.proofs.EventsReal.{each-of}
use Rattle.crew_pairing.proofs.Shuffled.{Member-shuffled}
use Rattle.crew_pairing.specs.declared.duty.Duty.{Duty}
use Rattle.crew_resource.proofs.Members.{Member-map_in}
use Rattle.crew_resource.specs.Members.{Each, Member}

slot-bounded : (place : ℕ) (ats : List ℤ) (s : Slot) → Each IsBounded ats → Member (slots_from place ats) s → IsBounded s.at
slot-bounded place [] s h m = absurd m
slot-bounded place (at ∷ ats) s h (inl e) = subst (λ (x : Slot). IsBounded x.at) e h.0
slot-bounded place (at ∷ ats) s h (inr m) = slot-bounded (suc place) ats s h.1 m

pub keys-stay : (keys sorted : List ℕ) → AreSlotKeys keys → IsPermutation keys sorted → Each IsKey sorted
keys-stay keys sorted are perm = each-of IsKey sorted (λ key m.
    let own = Member-shuffled sorted keys key (IsPermutation-sym keys sorted perm) m in
    let slot = Member-shuffled (map keyed_slot keys) (slots_from 0 are.0) (keyed_slot key) (IsPermutation-sym (slots_from 0 are.0) (map keyed_slot keys) are.1) (Member-map_in keyed_slot keys key own) in
    (slot-bounded 0 are.0 (keyed_slot key) are.2 slot).most)

pub leaving-bounded : (duties : List Duty) → Each IsLeft duties → Each IsBounded (map leave_at duties)
leaving-bounded [] h = tt
leaving-bounded (d ∷ ds) h = (moment-bounded d.from d.report h.0.airport h.0.time, leaving-bounded ds h.1)

pub arriving-bounded : (duties : List Duty) → Each IsReached duties → Each IsBounded (map arrive_at duties)
arriving-bounded [] h = tt
arriving-bounded (d ∷ ds) h = (moment-bounded d.to d.release h.0.airport h.0.time, arriving-bounded ds h.1)
