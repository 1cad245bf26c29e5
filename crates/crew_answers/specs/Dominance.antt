-- Dominance among vectors of pairings of up to 240 hours (Irnich and Desaulniers 2005).
use Rattle.std.specs.Prelude.{◌≡◌, ◌≤ℤ◌, Bool, true, ◌&&◌, int_le}
use Rattle.crew_vector.specs.Dominance as Sums
use Rattle.crew_history.specs.Histories.{IsNoMore, is_no_more}
use Rattle.crew_answers.specs.LongVectors.{LongVector}

-- one is at most another: no sum is greater, its last long rest ended no longer ago, and after every
-- instant its history has no more duty minutes
pub record IsAtMost (a b : LongVector) : Type 0 where
  pub sums : Sums.is_at_most a.sums b.sums ≡ true
  pub since_rest : a.since_rest ≤ℤ b.since_rest
  pub history : IsNoMore a.history b.history

-- the test of it, which compares histories at the starts of the first: of vectors of duties in order
-- it holds exactly where the one is at most the other
abbrev pub is_at_most : LongVector → LongVector → Bool
is_at_most a b = Sums.is_at_most a.sums b.sums
    && (int_le a.since_rest b.since_rest && is_no_more a.history b.history)
