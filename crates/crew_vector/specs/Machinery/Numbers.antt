-- A vector's parts in pairs, those of money and those of time, as resources side by side keep them.
use Rattle.std.specs.Prelude.{ℤ}
use Rattle.crew_pairing.specs.declared.vector.PairingVector.{PairingVector}

abbrev pub Numbers : Type 0
Numbers = (ℤ × (ℤ × ℤ)) × ((ℤ × ℤ) × (ℤ × ℤ))

abbrev pub numbers_of : PairingVector → Numbers
numbers_of v = ((v.duty_pay, (v.trip_rig, v.guarantee)), ((v.fdp, v.fly), (v.duties, v.away)))

abbrev pub named : Numbers → PairingVector
named n = record {
  duty_pay = n.0.0;
  trip_rig = n.0.1.0;
  guarantee = n.0.1.1;
  fdp = n.1.0.0;
  fly = n.1.0.1;
  duties = n.1.1.0;
  away = n.1.1.1;
}
