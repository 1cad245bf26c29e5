-- What a field of a record means. A field is a list of bytes.
use Rattle.std.specs.Prelude.{◌+◌, ◌-◌, ◌*◌, ◌&&◌, ◌==◌, ℕ, ℤ, pos, neg_ℤ, nat_le, nat_lt, not, slice_index, take, Bool, true, false, List, [], ◌∷◌, Option, Some, None, Result, Ok, Err, length, codes, if◌then◌else◌}
use Rattle.std.specs.Result.{result_map_both}
use Rattle.std.specs.Char.{is_ascii_digit}
use Rattle.std.specs.List.{list_all, slice_split}
use Rattle.std.specs.Str.{bytes_eq}
use Rattle.csv.specs.Records.{field_at}
use Rattle.jiff_tz.specs.PosixText.{TzText}
use Rattle.crew_clocks.specs.Civil.{text_minute}
use Rattle.crew_clocks.specs.Zone.{text_zone}
use Rattle.crew_flights.specs.Codes.{is_airport}
use Rattle.crew_pairing.specs.Legs.{Leg}
use Rattle.crew_records.specs.declared.fault.RecordFault.{RecordFault}
use Rattle.crew_records.specs.declared.fault.RecordFault.TheVariants.{Text, BadField, FieldCount}

-- a record: its fields
abbrev pub Fields : Type 0
Fields = List (List ℕ)

-- one step after another, up to the first that fails
infixl 10 ◌>>=◌
abbrev pub ◌>>=◌ : {A B E : Type 0} → Result A E → (A → Result B E) → Result B E
Ok x >>= f = f x
Err e >>= f = Err e

-- a record's field, where a missing one is empty
abbrev pub field_or : Option (List ℕ) → List ℕ
field_or None = []
field_or (Some f) = f

abbrev pub field_of : Fields → ℕ → List ℕ
field_of fields i = field_or (field_at fields i)

-- so many fields
abbrev pub count_field : Fields → ℕ → Result (Unit {0}) RecordFault
count_field fields n = if length fields == n then Ok tt else Err FieldCount

-- CODE: three bytes of A-Z
abbrev pub code_field : List ℕ → Result (List ℕ) RecordFault
code_field f = if is_airport f then Ok f else Err BadField

-- the number that digits write after a number
abbrev pub read_on : ℕ → List ℕ → ℕ
read_on n [] = n
read_on n (b ∷ bs) = read_on (n * 10 + (b - 48)) bs

-- 1 to so many digits without a leading zero
abbrev pub is_number : ℕ → List ℕ → Bool
is_number most f = nat_lt 0 (length f) &&
    (not (slice_index f 0 == 48) && (list_all is_ascii_digit f && nat_le (length f) most))

abbrev pub number_field : ℕ → List ℕ → Result ℕ RecordFault
number_field most f = if is_number most f then Ok (read_on 0 f) else Err BadField

-- ID: 1 to 6 digits without a leading zero
abbrev pub id_field : List ℕ → Result ℕ RecordFault
id_field f = number_field 6 f

-- LIMIT: 1 to 8 digits without a leading zero, at most so much
abbrev pub limit_field : ℕ → List ℕ → Result ℕ RecordFault
limit_field most f = number_field 8 f >>= (λ n. if nat_le n most then Ok n else Err BadField)

-- SEAT, NUMBER, JOB, READER: `0`, or so many digits at most without a leading zero; at most so much
abbrev pub count_up_to : ℕ → ℕ → List ℕ → Result ℕ RecordFault
count_up_to digits most f = if bytes_eq f (codes "0") then Ok 0
    else (number_field digits f >>= (λ n. if nat_le n most then Ok n else Err BadField))

-- PRICE: `0`, or an optional `-` and 1 to 18 digits without a leading zero
abbrev pub signed_field : List ℕ → Result ℤ RecordFault
signed_field [] = Err BadField
signed_field (b ∷ bs) =
    if b == 45 then result_map_both (λ n. neg_ℤ (pos n)) (λ e. e) (number_field 18 bs)
    else result_map_both pos (λ e. e) (number_field 18 (b ∷ bs))

abbrev pub price_field : List ℕ → Result ℤ RecordFault
price_field f = if bytes_eq f (codes "0") then Ok (pos 0) else signed_field f

-- TIME: the text of an instant
abbrev pub time_field : List ℕ → Result ℤ RecordFault
time_field f = result_map_both (λ m. m) Text (text_minute f)

-- ZONE: the text of a rule
abbrev pub zone_field : List ℕ → Result TzText RecordFault
zone_field f = result_map_both (λ z. z) Text (text_zone f)

-- a leg: an ID, with a `d` after it where the crew rides
abbrev pub leg_with : List ℕ → Bool → Result Leg RecordFault
leg_with f deadhead =
    result_map_both (λ id. record { flight = id; deadhead = deadhead }) (λ e. e) (id_field f)

abbrev pub leg_field : List ℕ → Result Leg RecordFault
leg_field f =
    if slice_index f (length f - 1) == 100 then leg_with (take (length f - 1) f) true
    else leg_with f false

-- a leg for each text
abbrev pub legs_field : List (List ℕ) → Result (List Leg) RecordFault
legs_field [] = Ok []
legs_field (f ∷ fs) = leg_field f >>= (λ leg. legs_field fs >>= (λ legs. Ok (leg ∷ legs)))

-- the byte between two legs
abbrev pub is_dash : ℕ → Bool
is_dash b = b == 45

-- up to eight legs
abbrev pub up_to_8 : List Leg → Result (List Leg) RecordFault
up_to_8 legs = if nat_le (length legs) 8 then Ok legs else Err BadField

-- DUTY: 1 to 8 legs joined by `-`
abbrev pub duty_field : List ℕ → Result (List Leg) RecordFault
duty_field f = legs_field (slice_split is_dash f) >>= up_to_8

-- a duty for each text
abbrev pub keys_field : List (List ℕ) → Result (List (List Leg)) RecordFault
keys_field [] = Ok []
keys_field (f ∷ fs) = duty_field f >>= (λ key. keys_field fs >>= (λ keys. Ok (key ∷ keys)))

-- the byte between two duties
abbrev pub is_space : ℕ → Bool
is_space b = b == 32

-- up to twelve duties
abbrev pub up_to_12 : List (List Leg) → Result (List (List Leg)) RecordFault
up_to_12 keys = if nat_le (length keys) 12 then Ok keys else Err BadField

-- WALK: 1 to 12 duties, each a space from the one before
abbrev pub walk_field : List ℕ → Result (List (List Leg)) RecordFault
walk_field f = keys_field (slice_split is_space f) >>= up_to_12
