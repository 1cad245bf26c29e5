use Rattle.std.proofs.Common.{rules, ◌≡◌, ℕ, zero, suc, ◌-◌, ◌<◌, List, [], ◌∷◌, ℤ, pos, take, get_or, length, w32, ◌∙◌, ap, refl, arith}
use Rattle.std.proofs.lemmas.Int.{to_z-of_z}
use Rattle.crew_history.specs.Histories.{last_end}
use Rattle.crew_history.proofs.history.History.end.Goals as goal

-- the last of the first so many ends them
last_taken : (xs : List (ℤ × ℤ)) (n : ℕ) (e : ℤ) → n < length xs
    → (get_or xs n (pos 0, pos 0)).1 ≡ last_end e (take (suc n) xs)
last_taken [] n e h = absurd (let q : ⊥ = omega (arith, h) in q)
last_taken (x ∷ xs) zero e h = refl
last_taken (x ∷ xs) (suc n) e h = last_taken xs n x.1 (omega (arith, h))

pub returns-else-self-eq0 : goal.returns-else-self-eq0
returns-else-self-eq0 c =
    let xs = c.args.self.now.periods in
    let n = c.args.self.now.len - 1 in
    let most = c.args.self.now.kept.0 in
    let long = c.args.self.now.kept.1 in
    let some = c.if-self-eq0.false in
    let inside : n < length xs = omega (arith, most, long, some) in
    let more : suc n ≡ c.args.self.now.len = omega (arith, some) in
    to_z-of_z w32 _ (search rules) ∙ (last_taken xs n (pos 0) inside ∙ ap (λ m. last_end (pos 0) (take m xs)) more)
