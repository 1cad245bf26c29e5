use Rattle.std.proofs.Common.{List, [], ◌∷◌}
use Rattle.std.specs.Cmp.{on_total, then_total}
use Rattle.crew_flights.specs.Codes.{code_cmp_total}
use Rattle.crew_pairing.specs.Keys.{walk_total}
use Rattle.crew_resource.proofs.Rising.{Rising, same-rising}
use Rattle.crew_audit.specs.Partials.{Rise, partial_cmp}
use Rattle.crew_audit.specs.declared.partial.Partial.{Partial}
use Rattle.crew_audit.proofs.laws.partials_are_unique.Goals as goal

rising : (ps : List Partial) → Rise ps → Rising partial_cmp ps
rising [] h = tt
rising (p ∷ ps) h = (h.0, rising ps h.1)

pub returns : goal.returns
returns c = λ s t ps qs h k.
    same-rising partial_cmp (then_total (on_total (λ (p : Partial). p.base) code_cmp_total) (on_total (λ (p : Partial). p.walk) walk_total)) ps qs (rising ps h.rising) (rising qs k.rising)
    (λ p m. k.every p (h.sound p m)) (λ p m. h.every p (k.sound p m))
