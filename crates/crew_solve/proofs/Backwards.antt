-- Walks from the last duty back.
use Rattle.std.proofs.Common.{◌≡◌, ◌∙◌, ◌<◌, ◌++◌, Some, slice_get, ℕ, zero, suc, List, [], ◌∷◌, refl, ap, arith, get_or, length, map}
use Rattle.std.proofs.lemmas.List.{map-append}
use Rattle.crew_pairing.specs.Legs.{Leg}
use Rattle.crew_pairing.specs.declared.duty.Duty.{Duty}
use Rattle.crew_pool.specs.Ranks.{key_at}
use Rattle.crew_resource.specs.Members.{Each}

-- the last duty has a rank, and so have those before
pub each-before : (n : ℕ) (xs : List ℕ) (x : ℕ) → Each (λ k. k < n) (xs ++ x ∷ []) → Each (λ k. k < n) xs
each-before n [] x h = tt
each-before n (y ∷ xs) x h = (h.0, each-before n xs x h.1)

pub each-last : (n : ℕ) (xs : List ℕ) (x : ℕ) → Each (λ k. k < n) (xs ++ x ∷ []) → x < n
each-last n [] x h = h.0
each-last n (y ∷ xs) x h = each-last n xs x h.1

-- the keys of a walk are those before its last duty, and then that duty's
key-there : (ds : List Duty) (rank : ℕ) (d : Duty) → rank < length ds → key_at ds rank ≡ (get_or ds rank d).key
key-there [] rank d h = absurd (omega (arith, h))
key-there (x ∷ ds) zero d h = refl
key-there (x ∷ ds) (suc rank) d h = key-there ds rank d (omega (arith, h))

pub key-got : (ds : List Duty) (rank : ℕ) (d : Duty) → slice_get ds rank ≡ Some d → key_at ds rank ≡ d.key
key-got [] rank d h = absurd (let q : ⊥ = (cc) in q)
key-got (x ∷ ds) zero d h = let same : x ≡ d = (cc) in ap (λ (z : Duty). z.key) same
key-got (x ∷ ds) (suc rank) d h = key-got ds rank d h

pub keys-last : (ds : List Duty) (walk before : List ℕ) (rank : ℕ) (d : Duty) → walk ≡ before ++ rank ∷ [] → rank < length ds → map (key_at ds) walk ≡ map (key_at ds) before ++ (get_or ds rank d).key ∷ []
keys-last ds walk before rank d is h =
    ap (map (key_at ds)) is ∙ (map-append (key_at ds) before (rank ∷ []) ∙ ap (λ (k : List Leg). map (key_at ds) before ++ k ∷ []) (key-there ds rank d h))
