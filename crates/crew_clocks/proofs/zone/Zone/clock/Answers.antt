use Rattle.std.proofs.Common.{◌≡◌, ◌*ℤ◌, ◌∙◌, ap, arith, pos, of_z, to_z, w32, w64}
use Rattle.jiff.specs.ZoneView.{plain_zone}
use Rattle.jiff_core.specs.Timestamp.{nanos_of_seconds}
use Rattle.jiff_core.proofs.SignedLemmas.{signed_arith}
use Rattle.crew_clocks.specs.Zone.{offset_of, rule_of, rule_or_utc}
use Rattle.crew_clocks.proofs.ZoneFacts.{offset-of_rule}
use Rattle.crew_clocks.proofs.zone.Zone.clock.Goals as goal

pub returns : goal.returns
returns c =
    let zone = plain_zone c.self.inside.rule in
    let rule = rule_or_utc (rule_of zone) in
    let m = c.get-seconds.result in
    let range = c.get-seconds.ensures.range in
    let plain : to_z w64 (of_z w64 m) ≡ m = omega (arith, signed_arith) in
    let fits : to_z w64 (of_z w64 (m *ℤ pos 60)) ≡ m *ℤ pos 60 = omega (arith, signed_arith) in
    let at = rw (plain, fits) at c.in-Ok.ensures.value in
    let e = offset-of_rule zone c.in-Ok.instant.nanosecond c.self.invariant in
    let off : c.seconds.result ≡ offset_of rule (nanos_of_seconds (m *ℤ pos 60)) = c.seconds.ensures ∙ c.to_offset.ensures ∙ e ∙ ap (offset_of rule) at in
    let back : to_z w32 (of_z w32 c.seconds.result) ≡ c.seconds.result = omega (arith, signed_arith) in
    rw (← c.get-seconds.ensures.value, ← c.self.view_is) (c.in-Some.ensures.value ∙ (rw (plain, fits, back, off) at c.of_day.ensures.value))
