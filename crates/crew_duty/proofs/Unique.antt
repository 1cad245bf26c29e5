-- The legal duties over some flights, by key, are one list.
use Rattle.std.proofs.Common.{◌≡◌, List, [], ◌∷◌, sym, subst}
use Rattle.std.specs.Cmp.{on_total}
use Rattle.crew_pairing.specs.Duties.{AreDutiesOver, RiseByKey}
use Rattle.crew_pairing.specs.Flights.{Flights}
use Rattle.crew_pairing.specs.Keys.{key_cmp, key_total}
use Rattle.crew_pairing.specs.declared.duty.Duty.{Duty}
use Rattle.crew_resource.specs.Members.{Member}
use Rattle.crew_resource.proofs.Rising.{Rising, same-rising}
use Rattle.crew_rules.specs.declared.settings.Settings.{Settings}

rising : (ds : List Duty) → RiseByKey ds → Rising (λ (d e : Duty). key_cmp d.key e.key) ds
rising [] h = tt
rising (d ∷ ds) h = (h.0, rising ds h.1)

among : (s : Settings) (flights : Flights) (ds es : List Duty) → AreDutiesOver s flights ds → AreDutiesOver s flights es → (d : Duty) → Member ds d → Member es d
among s flights ds es h k d m = let l = h.sound d m in subst (Member es) (sym l.3) (k.every l.0 l.1 l.2)

pub unique : (s : Settings) (flights : Flights) (ds es : List Duty) → AreDutiesOver s flights ds → AreDutiesOver s flights es → ds ≡ es
unique s flights ds es h k =
    same-rising (λ (d e : Duty). key_cmp d.key e.key) (on_total (λ (d : Duty). d.key) key_total) ds es (rising ds h.rising) (rising es k.rising) (among s flights ds es h k) (among s flights es ds k h)
