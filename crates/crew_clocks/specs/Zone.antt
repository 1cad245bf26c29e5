-- What the text of a zone means. A zone is a POSIX TZ rule, as `jiff` reads its text: standard
-- time's offset, and perhaps daylight saving time with its offset and the days and times at which
-- it begins and ends.
use Rattle.std.specs.Prelude.{◌/◌, ◌+ℤ◌, ◌-ℤ◌, ◌*ℤ◌, ◌&&◌, ◌||◌, ◌==◌, ℕ, ℤ, pos, int_lt, Bool, false, List, [], ◌∷◌, Option, Some, None, Result, Ok, Err, if◌then◌else◌, unsigned_abs}
use Rattle.std.specs.Int.{int_rem_euclid}
use Rattle.std.specs.Char.{is_ascii_alphabetic}
use Rattle.jiff_core.specs.Timestamp.{nanos_of_seconds}
use Rattle.jiff_tz.specs.PosixReader.{read_whole}
use Rattle.jiff_tz.specs.PosixRule.{clamp_to, first_nanosecond, in_window, int_same, last_nanosecond, match_some, nanos_per_day, rule_day, saturating_add}
use Rattle.jiff_tz.specs.PosixText.{DstText, TzText, tz_view}
use Rattle.jiff_tz.specs.Year.{year_of_nanos}
use Rattle.jiff_tz.specs.declared.posix.Day.{Day}
use Rattle.jiff_tz.specs.declared.timezone.TimeZone.{TimeZone as PlainZone}
use Rattle.jiff_tz.specs.declared.timezone.TimeZone.TheVariants.{UTC, Unknown, Fixed, Posix, Tzif}
use Rattle.crew_clocks.specs.declared.fault.TimeFault.{TimeFault}
use Rattle.crew_clocks.specs.declared.fault.TimeFault.TheVariants.{BadZone}

-- the text begins with an ASCII letter or `<`
abbrev pub begins_zone : List ℕ → Bool
begins_zone [] = false
begins_zone (b ∷ rest) = is_ascii_alphabetic b || (b == 60)

-- what the text of a zone comes to: the rule that `jiff` reads from the whole of it, else `BadZone`
abbrev pub rule_or_fault : Option TzText → Result TzText TimeFault
rule_or_fault None = Err BadZone
rule_or_fault (Some rule) = Ok rule

abbrev pub text_zone : List ℕ → Result TzText TimeFault
text_zone text = rule_or_fault (read_whole text)

-- the moment of a rule in a year, on a clock at UTC, for a rule's clock `seconds` ahead of UTC
unfoldable pub moment_of : ℤ → Day × ℤ → ℤ → ℤ
moment_of y d seconds = match_some (rule_day y d.0) (last_nanosecond y) (λ day.
    clamp_to (first_nanosecond y) (last_nanosecond y)
    (day *ℤ nanos_per_day +ℤ nanos_of_seconds (d.1 -ℤ seconds)))

-- daylight saving time of a year, in UTC
unfoldable pub window_of : DstText → ℤ → ℤ → ℤ × ℤ
window_of d y std =
    let start : ℤ = moment_of y d.start std in
    let end : ℤ = moment_of y d.finish d.seconds in
    let shifted : ℤ = saturating_add end (nanos_of_seconds std) in
    if int_same start (first_nanosecond y) &&
    (int_lt shifted (first_nanosecond y) || int_lt (last_nanosecond y) shifted)
    then (start, last_nanosecond y)
    else (start, end)

-- the offset that a rule gives at an instant, in seconds
abbrev pub dst_offset : ℤ → Option DstText → ℤ → ℤ
dst_offset std None n = std
dst_offset std (Some d) n = if in_window (window_of d (year_of_nanos n) std) n then d.seconds else
    std

abbrev pub offset_of : TzText → ℤ → ℤ
offset_of tz n = dst_offset tz.std_seconds tz.dst n

-- the rule of a zone that is one
abbrev pub rule_of : PlainZone → Option TzText
rule_of (Posix rule) = Some (tz_view rule)
rule_of UTC = None
rule_of Unknown = None
rule_of (Fixed offset) = None
rule_of (Tzif table) = None

-- the rule, if there is one, else UTC's
abbrev pub rule_or_utc : Option TzText → TzText
rule_or_utc (Some rule) = rule
rule_or_utc None = record { std_name = []; std_seconds = pos 0; dst = None }

-- what a clock under the rule shows at an instant: the minute of the local day, with the seconds
-- cut off
abbrev pub clock_of : TzText → ℤ → ℕ
clock_of tz minute =
    unsigned_abs (int_rem_euclid (minute *ℤ pos 60 +ℤ offset_of tz
    (nanos_of_seconds (minute *ℤ pos 60))) (pos 86_400)) / 60
