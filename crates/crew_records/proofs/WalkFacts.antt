-- The duties of a walk, one after another.
use Rattle.std.proofs.Common.{◌≡◌, ◌≤◌, Bool, true, false, List, [], ◌∷◌, ◌++◌, length, ℕ, Result, Ok, Err, refl, sym, ap, ◌∙◌, arith, append_assoc, if◌then◌else◌, nat_le}
use Rattle.std.specs.List.{slice_split}
use Rattle.std.proofs.lemmas.Bool.Decides.{nat_tests}
use Rattle.std.proofs.lemmas.List.{append-nil, length-append}
use Rattle.crew_pairing.specs.Legs.{Leg}
use Rattle.crew_records.specs.Fields.{◌>>=◌, duty_field, is_dash, keys_field, legs_field, up_to_8, up_to_12}
use Rattle.crew_records.specs.declared.fault.RecordFault.{RecordFault}
use Rattle.crew_records.specs.declared.fault.RecordFault.TheVariants.{BadField}
use Rattle.crew_records.proofs.DutyFacts.{IsBad, bad-bind, bad-if, bad-legs}

bad-duty : (f : List ℕ) → IsBad (duty_field f)
bad-duty f = bad-bind (legs_field (slice_split is_dash f)) up_to_8 (bad-legs (slice_split is_dash f)) (λ legs. bad-if (nat_le (length legs) 8) legs)

bad-keys : (fs : List (List ℕ)) → IsBad (keys_field fs)
bad-keys [] = λ e p. cc p
bad-keys (f ∷ fs) = bad-bind (duty_field f) _ (bad-duty f) (λ key. bad-bind (keys_field fs) _ (bad-keys fs) (λ keys e p. cc p))

-- duties so far, and those of the texts that are left
abbrev pub read_on_keys : List (List Leg) → List (List ℕ) → Result (List (List Leg)) RecordFault
read_on_keys key fs = keys_field fs >>= (λ legs. up_to_12 (key ++ legs))

pub on-more : (key : List (List Leg)) (f : List ℕ) (fs : List (List ℕ)) (leg : List Leg) → duty_field f ≡ Ok leg → read_on_keys key (f ∷ fs) ≡ read_on_keys (key ++ leg ∷ []) fs
on-more key f fs leg e =
    ap (λ (r : Result (List Leg) RecordFault). (r >>= (λ l. keys_field fs >>= (λ legs. Ok (l ∷ legs)))) >>= (λ legs. up_to_12 (key ++ legs))) e ∙ joined (keys_field fs)
  where
    joined : (r : Result (List (List Leg)) RecordFault) → ((r >>= (λ legs. Ok (leg ∷ legs))) >>= (λ legs. up_to_12 (key ++ legs))) ≡ (r >>= (λ legs. up_to_12 ((key ++ leg ∷ []) ++ legs)))
    joined (Ok legs) = ap up_to_12 (sym (append_assoc key (leg ∷ []) legs))
    joined (Err x) = refl

pub on-fails : (key : List (List Leg)) (f : List ℕ) (fs : List (List ℕ)) (e : RecordFault) → duty_field f ≡ Err e → read_on_keys key (f ∷ fs) ≡ Err e
on-fails key f fs e p =
    ap (λ (r : Result (List Leg) RecordFault). (r >>= (λ l. keys_field fs >>= (λ legs. Ok (l ∷ legs)))) >>= (λ legs. up_to_12 (key ++ legs))) p

fits : (key : List (List Leg)) → length key ≤ 12 → up_to_12 key ≡ Ok key
fits key h = let t : nat_le (length key) 12 ≡ true = grind (arith, nat_tests) in ap (λ (b : Bool). if b then Ok key else Err BadField) t

over : (key : List (List Leg)) → 13 ≤ length key → up_to_12 key ≡ Err BadField
over key h = let t : nat_le (length key) 12 ≡ false = grind (arith, nat_tests) in ap (λ (b : Bool). if b then Ok key else Err BadField) t

pub on-done : (key : List (List Leg)) → length key ≤ 12 → read_on_keys key [] ≡ Ok key
on-done key h = ap up_to_12 (append-nil key) ∙ fits key h

pub on-over : (key : List (List Leg)) (f : List ℕ) (fs : List (List ℕ)) → length key ≡ 12 → read_on_keys key (f ∷ fs) ≡ Err BadField
on-over key f fs n = first (duty_field f) (bad-duty f)
  where
    rest : (leg : List Leg) (r : Result (List (List Leg)) RecordFault) → IsBad r → ((r >>= (λ legs. Ok (leg ∷ legs))) >>= (λ legs. up_to_12 (key ++ legs))) ≡ Err BadField
    rest leg (Ok legs) h = over (key ++ leg ∷ legs) (omega (arith, n, length-append key (leg ∷ legs)))
    rest leg (Err x) h = ap Err (h x refl)

    first : (r : Result (List Leg) RecordFault) → IsBad r → ((r >>= (λ l. keys_field fs >>= (λ legs. Ok (l ∷ legs)))) >>= (λ legs. up_to_12 (key ++ legs))) ≡ Err BadField
    first (Ok leg) h = rest leg (keys_field fs) (bad-keys fs)
    first (Err x) h = ap Err (h x refl)
