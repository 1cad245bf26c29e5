-- Numbers in a window.
use Rattle.std.proofs.Common.{◌≡◌, ◌≤◌, ◌<◌, ◌+◌, ◌-◌, ◌∙◌, ℕ, List, All, Contains, ap, arith, drop, get_or, length, length-drop, subst, sym, take}
use Rattle.std.proofs.lemmas.Grind.{get_or_default_zero}
use Rattle.std.proofs.lemmas.List.{get_or-drop, get_or-take, length-take-le}
use Rattle.std.proofs.lemmas.List.Elements.{All-get_or}
use Rattle.crew_net.specs.Machinery.Raised.{StandsIn}
use Rattle.crew_net.specs.declared.window.Window.{Window}

module _ (numbers : List ℕ) (w : Window) (ordered : w.from ≤ w.end) (within : w.end ≤ length numbers) where
  abbrev part : List ℕ
  part = take (w.end - w.from) (drop w.from numbers)

  long : length part ≡ w.end - w.from
  long = let l = length-drop w.from numbers in length-take-le (w.end - w.from) (drop w.from numbers) (omega (arith, l, within))

  part-at : (i : ℕ) → i < w.end - w.from → get_or part i 0 ≡ get_or numbers (w.from + i) 0
  part-at i h = get_or-take (w.end - w.from) (drop w.from numbers) i 0 h ∙ get_or-drop w.from numbers i 0

  pub all-in-window : (P : ℕ → Type 0) → All P part → (k : ℕ) → w.from ≤ k → k < w.end → P (get_or numbers k 0)
  all-in-window P all k a b =
      let inside : k - w.from < w.end - w.from = omega (arith, a, b) in
      let place : w.from + (k - w.from) ≡ k = omega (arith, a) in
      subst P (part-at (k - w.from) inside ∙ ap (λ (n : ℕ). get_or numbers n 0) place) (All-get_or P part (k - w.from) 0 (let l = long in omega (arith, l, inside)) all)

  pub stands-in-window : (n : ℕ) → Contains part n → StandsIn numbers w n
  stands-in-window n there =
      let h = there.1 in
      let l = long in
      let inside : there.0 < w.end - w.from = omega (arith, h, l) in
      (w.from + there.0, omega arith, omega (arith, inside, ordered), sym (part-at there.0 inside) ∙ (sym (get_or_default_zero part there.0 n h) ∙ there.2))
