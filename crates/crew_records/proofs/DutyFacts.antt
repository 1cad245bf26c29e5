-- The legs of a duty, one after another.
use Rattle.std.proofs.Common.{◌≡◌, ◌≤◌, ◌-◌, ◌==◌, ℕ, slice_index, take, Bool, true, false, List, [], ◌∷◌, ◌++◌, length, Result, Ok, Err, refl, sym, ap, ◌∙◌, arith, append_assoc, if◌then◌else◌, nat_le}
use Rattle.std.specs.Result.{result_map_both}
use Rattle.std.proofs.lemmas.Bool.Decides.{nat_tests}
use Rattle.std.proofs.lemmas.List.{append-nil, length-append}
use Rattle.crew_pairing.specs.Legs.{Leg}
use Rattle.crew_records.specs.Fields.{◌>>=◌, id_field, is_number, leg_field, leg_with, legs_field, up_to_8}
use Rattle.crew_records.specs.declared.fault.RecordFault.{RecordFault}
use Rattle.crew_records.specs.declared.fault.RecordFault.TheVariants.{BadField}

-- a field that fails does so by its form
abbrev pub IsBad : {A : Type 0} → Result A RecordFault → Type 0
IsBad r = (e : RecordFault) → r ≡ Err e → e ≡ BadField

pub bad-if : {A : Type 0} (b : Bool) (x : A) → IsBad (if b then Ok x else Err BadField)
bad-if true x = λ e p. cc p
bad-if false x = λ e p. cc p

bad-map : {A B : Type 0} (f : A → B) (r : Result A RecordFault) → IsBad r → IsBad (result_map_both f (λ e. e) r)
bad-map f (Ok x) h = λ e p. cc p
bad-map f (Err x) h = λ e p. let own = h x refl in cc (p, own)

pub bad-bind : {A B : Type 0} (r : Result A RecordFault) (f : A → Result B RecordFault) → IsBad r → ((x : A) → IsBad (f x)) → IsBad (r >>= f)
bad-bind (Ok x) f h k = k x
bad-bind (Err x) f h k = λ e p. let own = h x refl in cc (p, own)

bad-with : (f : List ℕ) (d : Bool) → IsBad (leg_with f d)
bad-with f d = bad-map _ (id_field f) (bad-if (is_number 6 f) _)

bad-branch : {A : Type 0} (b : Bool) (x y : Result A RecordFault) → IsBad x → IsBad y → IsBad (if b then x else y)
bad-branch true x y h k = h
bad-branch false x y h k = k

bad-leg : (f : List ℕ) → IsBad (leg_field f)
bad-leg f = bad-branch (slice_index f (length f - 1) == 100) _ _ (bad-with (take (length f - 1) f) true) (bad-with f false)

pub bad-legs : (fs : List (List ℕ)) → IsBad (legs_field fs)
bad-legs [] = λ e p. cc p
bad-legs (f ∷ fs) = bad-bind (leg_field f) _ (bad-leg f) (λ leg. bad-bind (legs_field fs) _ (bad-legs fs) (λ legs e p. cc p))

-- legs so far, and those of the texts that are left
abbrev pub read_on_legs : List Leg → List (List ℕ) → Result (List Leg) RecordFault
read_on_legs key fs = legs_field fs >>= (λ legs. up_to_8 (key ++ legs))

pub on-more : (key : List Leg) (f : List ℕ) (fs : List (List ℕ)) (leg : Leg) → leg_field f ≡ Ok leg → read_on_legs key (f ∷ fs) ≡ read_on_legs (key ++ leg ∷ []) fs
on-more key f fs leg e =
    ap (λ (r : Result Leg RecordFault). (r >>= (λ l. legs_field fs >>= (λ legs. Ok (l ∷ legs)))) >>= (λ legs. up_to_8 (key ++ legs))) e ∙ joined (legs_field fs)
  where
    joined : (r : Result (List Leg) RecordFault) → ((r >>= (λ legs. Ok (leg ∷ legs))) >>= (λ legs. up_to_8 (key ++ legs))) ≡ (r >>= (λ legs. up_to_8 ((key ++ leg ∷ []) ++ legs)))
    joined (Ok legs) = ap up_to_8 (sym (append_assoc key (leg ∷ []) legs))
    joined (Err x) = refl

pub on-fails : (key : List Leg) (f : List ℕ) (fs : List (List ℕ)) (e : RecordFault) → leg_field f ≡ Err e → read_on_legs key (f ∷ fs) ≡ Err e
on-fails key f fs e p =
    ap (λ (r : Result Leg RecordFault). (r >>= (λ l. legs_field fs >>= (λ legs. Ok (l ∷ legs)))) >>= (λ legs. up_to_8 (key ++ legs))) p

fits : (key : List Leg) → length key ≤ 8 → up_to_8 key ≡ Ok key
fits key h = let t : nat_le (length key) 8 ≡ true = grind (arith, nat_tests) in ap (λ (b : Bool). if b then Ok key else Err BadField) t

over : (key : List Leg) → 9 ≤ length key → up_to_8 key ≡ Err BadField
over key h = let t : nat_le (length key) 8 ≡ false = grind (arith, nat_tests) in ap (λ (b : Bool). if b then Ok key else Err BadField) t

pub on-done : (key : List Leg) → length key ≤ 8 → read_on_legs key [] ≡ Ok key
on-done key h = ap up_to_8 (append-nil key) ∙ fits key h

pub on-over : (key : List Leg) (f : List ℕ) (fs : List (List ℕ)) → length key ≡ 8 → read_on_legs key (f ∷ fs) ≡ Err BadField
on-over key f fs n = first (leg_field f) (bad-leg f)
  where
    rest : (leg : Leg) (r : Result (List Leg) RecordFault) → IsBad r → ((r >>= (λ legs. Ok (leg ∷ legs))) >>= (λ legs. up_to_8 (key ++ legs))) ≡ Err BadField
    rest leg (Ok legs) h = over (key ++ leg ∷ legs) (omega (arith, n, length-append key (leg ∷ legs)))
    rest leg (Err x) h = ap Err (h x refl)

    first : (r : Result Leg RecordFault) → IsBad r → ((r >>= (λ l. legs_field fs >>= (λ legs. Ok (l ∷ legs)))) >>= (λ legs. up_to_8 (key ++ legs))) ≡ Err BadField
    first (Ok leg) h = rest leg (legs_field fs) (bad-legs fs)
    first (Err x) h = ap Err (h x refl)
