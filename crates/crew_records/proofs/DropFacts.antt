-- What a record has from a place on.
use Rattle.std.proofs.Common.{◌≡◌, ◌+◌, ◌-◌, ℕ, zero, suc, List, ◌∷◌, [], length, drop, refl, ap, arith}
use Rattle.std.proofs.lemmas.List.{length-drop}
use Rattle.csv.specs.Records.{field_at}
use Rattle.crew_records.specs.Fields.{field_of, field_or}

field_at-drop : (at i : ℕ) (fs : List (List ℕ)) → field_at (drop at fs) i ≡ field_at fs (at + i)
unfolding field_at
field_at-drop zero i fs = let e : 0 + i ≡ i = omega arith in rw e refl
field_at-drop (suc at) i [] = refl
field_at-drop (suc at) i (f ∷ fs) = let e : suc at + i ≡ suc (at + i) = omega arith in rw e (field_at-drop at i fs)

pub field_of_drop : (at i : ℕ) (fs : List (List ℕ)) → field_of (drop at fs) i ≡ field_of fs (at + i)
field_of_drop at i fs = ap field_or (field_at-drop at i fs)

pub count_of_drop : (at : ℕ) (fs : List (List ℕ)) → length (drop at fs) ≡ length fs - at
count_of_drop at fs = length-drop at fs
