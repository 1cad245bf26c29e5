use Rattle.std.proofs.Common.{◌≡◌, ◌≤◌, ◌-◌, ◌⊎◌, All, Contains, drop, inl, inr, rules, take, ℕ, ⊎_elim}
use Rattle.crew_net.specs.Machinery.Raised.{StandsIn}
use Rattle.crew_net.proofs.InWindow.{all-in-window, stands-in-window}
use Rattle.crew_net.proofs.layers.greatest.Goals as goal

pub returns-clause-most : goal.returns-clause-most
returns-clause-most c =
    let numbers = c.args.numbers.now in
    let w = c.args.window in
    let all : All (λ n. n ≤ c.unwrap_or.result) (take (w.end - w.from) (drop w.from numbers)) = search rules in
    all-in-window numbers w c.requires.ordered c.requires.within (λ (n : ℕ). n ≤ c.unwrap_or.result) all

pub returns-clause-tied : goal.returns-clause-tied
returns-clause-tied c =
    let numbers = c.args.numbers.now in
    let w = c.args.window in
    let n = c.unwrap_or.result in
    let some : (n ≡ 0) ⊎ Contains (take (w.end - w.from) (drop w.from numbers)) n = search rules in
    ⊎_elim {C = (n ≡ 0) ⊎ StandsIn numbers w n} (λ e. inl e) (λ h. inr (stands-in-window numbers w c.requires.ordered c.requires.within n h)) some
