-- Walks that were there stay where they are.
use Rattle.std.specs.Prelude.{◌≡◌, ◌<◌, ◌≤◌, ℕ, List, length}
use Rattle.crew_pool.specs.Arena.{walk_at}

pub record HasGrown (before after : List (List ℕ)) : Type 0 where
  pub longer : length before ≤ length after
  pub same : (place : ℕ) → place < length before → walk_at after place ≡ walk_at before place
