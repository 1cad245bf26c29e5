-- The stages of anchored vectors. Waiting changes nothing.
use Rattle.std.specs.Prelude.{Bool, ◌&&◌, cond, int_le, ℤ, pos, ◌+ℤ◌, ◌-ℤ◌, ◌*ℤ◌, neg_ℤ, Option, Some, None}
use Rattle.crew_pairing.specs.declared.duty.Duty.{Duty}
use Rattle.crew_rules.specs.Settings.{fdp_most}
use Rattle.crew_rules.specs.declared.settings.Settings.{Settings}
use Rattle.crew_pairing.specs.declared.vector.PairingVector.{PairingVector}
use Rattle.crew_anchor.specs.declared.resource.AnchoredResource.{AnchoredResource}

abbrev pub anchored_resource : Settings → ℤ → AnchoredResource
anchored_resource s base_price = record {
  base_price = base_price;
  trip_rig = s.trip_rig;
  guarantee = s.guarantee;
  fdp_cap = fdp_most s;
  fly_cap = s.fly_cap;
  max_duties = s.max_duties;
  away_cap = s.away_cap;
}

-- before any duty, at a minute
abbrev pub anchored_idle : AnchoredResource → ℤ → PairingVector
anchored_idle r minute = record {
  duty_pay = neg_ℤ r.base_price;
  trip_rig = neg_ℤ r.base_price -ℤ pos r.trip_rig *ℤ minute;
  guarantee = neg_ℤ r.base_price;
  fdp = pos 0;
  fly = pos 0;
  duties = pos 0;
  away = neg_ℤ minute;
}

-- a duty adds the same to each vector
abbrev pub flown : AnchoredResource → PairingVector → Duty → PairingVector
flown r v d = record {
  duty_pay = v.duty_pay +ℤ (d.pay -ℤ d.price);
  trip_rig = v.trip_rig -ℤ d.price;
  guarantee = v.guarantee +ℤ (pos r.guarantee -ℤ d.price);
  fdp = v.fdp +ℤ d.fdp;
  fly = v.fly +ℤ d.fly;
  duties = v.duties +ℤ pos 1;
  away = v.away;
}

-- the caps, at a minute
abbrev pub is_within_caps_at : AnchoredResource → ℤ → PairingVector → Bool
is_within_caps_at r minute v =
    int_le v.fdp (pos r.fdp_cap)
    && (int_le v.fly (pos r.fly_cap) && (int_le v.duties (pos r.max_duties) && int_le
    (v.away +ℤ minute) (pos r.away_cap)))

abbrev pub anchored_board : AnchoredResource → PairingVector → Duty → Option PairingVector
anchored_board r v d = cond (is_within_caps_at r d.release (flown r v d)) (Some (flown r v d)) None
