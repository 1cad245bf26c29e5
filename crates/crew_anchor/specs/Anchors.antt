-- Vectors as of a common instant: the trip rig and the minutes away, less those from that instant
-- to the vector's own. Labels in time-space networks are those of Irnich and Desaulniers 2005,
-- "Shortest path problems with resource constraints".
use Rattle.std.specs.Prelude.{ℕ, ℤ, pos, ◌+ℤ◌, ◌-ℤ◌, ◌*ℤ◌}
use Rattle.crew_pairing.specs.declared.vector.PairingVector.{PairingVector}

-- of the vector as of a minute, at so many points for each minute
abbrev pub anchored : ℕ → ℤ → PairingVector → PairingVector
anchored rate minute v = record {
  duty_pay = v.duty_pay;
  trip_rig = v.trip_rig -ℤ pos rate *ℤ minute;
  guarantee = v.guarantee;
  fdp = v.fdp;
  fly = v.fly;
  duties = v.duties;
  away = v.away -ℤ minute;
}

-- back to the vector as of a minute
abbrev pub shown : ℕ → ℤ → PairingVector → PairingVector
shown rate minute v = record {
  duty_pay = v.duty_pay;
  trip_rig = v.trip_rig +ℤ pos rate *ℤ minute;
  guarantee = v.guarantee;
  fdp = v.fdp;
  fly = v.fly;
  duties = v.duties;
  away = v.away +ℤ minute;
}
