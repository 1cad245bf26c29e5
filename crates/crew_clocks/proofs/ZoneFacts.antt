-- The offset of a zone is that of its rule.
use Rattle.std.proofs.Common.{◌≡◌, ℤ, Bool, true, false, Option, Some, None, refl}
use Rattle.std.specs.Prelude.{IsSome, if◌then◌else◌}
use Rattle.jiff_core.specs.declared.Offset.{Offset}
use Rattle.jiff_tz.specs.PosixRule.{dst_at_by, in_window, match_some, rule_nanos, utc_window}
use Rattle.jiff_tz.specs.PosixText.{dst_view}
use Rattle.jiff_tz.specs.Year.{year_of_nanos}
use Rattle.jiff_tz.specs.Zone.{offset_at}
use Rattle.jiff_tz.specs.declared.posix.Dst.{Dst}
use Rattle.jiff_tz.specs.declared.timezone.TimeZone.{TimeZone as PlainZone}
use Rattle.jiff_tz.specs.declared.timezone.TimeZone.TheVariants.{UTC, Unknown, Fixed, Posix, Tzif}
use Rattle.std.specs.Option.{option_map}
use Rattle.crew_clocks.specs.Zone.{dst_offset, moment_of, offset_of, rule_of, rule_or_utc, window_of}

by-window : (b : Bool) (std : Offset) (d : Dst) → (match_some (if b then Some d else None) std (λ x. x.offset)).seconds ≡ (if b then d.offset.seconds else std.seconds)
by-window true std d = refl
by-window false std d = refl

by-dst : (std : Offset) (dst : Option Dst) (n : ℤ) → (match_some (dst_at_by std dst n) std (λ x. x.offset)).seconds ≡ dst_offset std.seconds (option_map dst_view dst) n
unfolding window_of moment_of utc_window rule_nanos
by-dst std None n = refl
by-dst std (Some d) n = by-window (in_window (utc_window d (year_of_nanos n) std) n) std d

-- a zone that is a rule has that rule's offset
pub offset-of_rule : (z : PlainZone) (n : ℤ) → IsSome (rule_of z) → offset_at z n ≡ offset_of (rule_or_utc (rule_of z)) n
unfolding offset_at
offset-of_rule UTC n h = cc
offset-of_rule Unknown n h = cc
offset-of_rule (Fixed offset) n h = cc
offset-of_rule (Tzif table) n h = cc
offset-of_rule (Posix rule) n h = by-dst rule.std_offset rule.dst n
