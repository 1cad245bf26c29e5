-- What passes a test, where that is one stretch of a list.
use Rattle.std.proofs.Common.{◌≡◌, ◌≤◌, ◌<◌, ℕ, zero, suc, List, [], ◌∷◌, Bool, true, false, length, refl, sym, ap, arith, take, drop, get_or, filter}

-- what passes a test, where that is what stands from one place up to another
none-pass : {X : Type 0} (p : X → Bool) (xs : List X) → ((k : ℕ) (d : X) → k < length xs → p (get_or xs k d) ≡ false) → filter p xs ≡ []
none-pass p [] h = refl
none-pass p (x ∷ xs) h = rw (h 0 x (omega arith)) (none-pass p xs (λ k d m. h (suc k) d (omega arith)))

front : {X : Type 0} (p : X → Bool) (xs : List X) (n : ℕ) → n ≤ length xs → ((k : ℕ) (d : X) → k < n → p (get_or xs k d) ≡ true) → ((k : ℕ) (d : X) → n ≤ k → k < length xs → p (get_or xs k d) ≡ false)
    → take n xs ≡ filter p xs
front p [] zero a f g = refl
front p [] (suc n) a f g = absurd (omega (arith, a))
front p (x ∷ xs) zero a f g = sym (none-pass p (x ∷ xs) (λ k d m. g k d (omega arith) m))
front {X} p (x ∷ xs) (suc n) a f g =
    rw (f 0 x (omega arith)) (ap (λ (l : List X). x ∷ l) (front p xs n (omega (arith, a)) (λ k d m. f (suc k) d (omega arith)) (λ k d m o. g (suc k) d (omega arith) (omega arith))))

pub window : {X : Type 0} (p : X → Bool) (xs : List X) (i n : ℕ) → n ≤ length (drop i xs)
    → ((k : ℕ) (d : X) → k < i → k < length xs → p (get_or xs k d) ≡ false)
    → ((k : ℕ) (d : X) → k < n → p (get_or (drop i xs) k d) ≡ true)
    → ((k : ℕ) (d : X) → n ≤ k → k < length (drop i xs) → p (get_or (drop i xs) k d) ≡ false)
    → take n (drop i xs) ≡ filter p xs
window p xs zero n a f g h = front p xs n a g h
window p [] (suc i) zero a f g h = refl
window p [] (suc i) (suc n) a f g h = absurd (omega (arith, a))
window p (x ∷ xs) (suc i) n a f g h = rw (f 0 x (omega arith) (omega arith)) (window p xs i n a (λ k d m o. f (suc k) d (omega arith) (omega arith)) g h)
