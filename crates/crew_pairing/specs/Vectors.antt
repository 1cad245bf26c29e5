-- What a list of duties costs, and its vector: seven parts, each one sum over the whole list.
-- Resource vectors of labels are those of Irnich and Desaulniers 2005, "Shortest path problems with
-- resource constraints"; the pay is that of Barnhart et al. 2003, "Airline crew scheduling".
use Rattle.std.specs.Prelude.{ℤ, pos, ◌+ℤ◌, ◌-ℤ◌, ◌*ℤ◌, List, length}
use Rattle.std.specs.Int.{int_max}
use Rattle.crew_rules.specs.Pay.{pairing_pay}
use Rattle.crew_rules.specs.declared.settings.Settings.{Settings}
use Rattle.crew_pairing.specs.Legality.{total}
use Rattle.crew_pairing.specs.Pairings.{minutes_away}
use Rattle.crew_pairing.specs.declared.duty.Duty.{Duty}
use Rattle.crew_pairing.specs.declared.vector.PairingVector.{PairingVector}

-- the prices of all flights flown, and the base's
abbrev pub prices : ℤ → List Duty → ℤ
prices base_price duties = total (λ d. d.price) duties +ℤ base_price

-- what the crew is paid
abbrev pub pay_of : Settings → List Duty → ℤ
pay_of s duties = pairing_pay s (total (λ d. d.pay) duties) (minutes_away duties) (length duties)

-- reduced cost: pay less prices
abbrev pub cost_of : Settings → ℤ → List Duty → ℤ
cost_of s base_price duties = pay_of s duties -ℤ prices base_price duties

-- the vector
abbrev pub vector_of : Settings → ℤ → List Duty → PairingVector
vector_of s base_price duties = record {
  duty_pay = total (λ d. d.pay) duties -ℤ prices base_price duties;
  trip_rig = pos s.trip_rig *ℤ minutes_away duties -ℤ prices base_price duties;
  guarantee = pos s.guarantee *ℤ pos (length duties) -ℤ prices base_price duties;
  fdp = total (λ d. d.fdp) duties;
  fly = total (λ d. d.fly) duties;
  duties = pos (length duties);
  away = minutes_away duties;
}

-- the greatest of duty pay, trip rig and guarantee, each less prices
abbrev pub reduced_cost : PairingVector → ℤ
reduced_cost v = int_max (int_max v.duty_pay v.trip_rig) v.guarantee
