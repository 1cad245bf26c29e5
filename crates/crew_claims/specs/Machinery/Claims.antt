-- What calls of a function give, at indices that threads take in an order that nobody knows.
use Rattle.std.specs.Prelude.{◌<◌, ℕ, List, Option, IfSome, length, slice_index_or}
use Rattle.std.specs.Fn.{FnReturns}
use denote.Param.Members.{Shared}

module _ {F X : Type 0} (g : Shared F (ℕ × Unit {0}) X) (f : F) where
  -- an index below the count, with what a call of f with it may give
  pub record IsMade (count : ℕ) (made : ℕ × X) : Type 0 where
    pub below : made.0 < count
    pub call : FnReturns g f (made.0, tt) made.1

  -- what stands at a place, if anything, is what a call of f with that place may give
  abbrev pub ArePlaced : List (Option X) → Type 0
  ArePlaced places = (index : ℕ) (d : Option X) → index < length places
      → IfSome (slice_index_or places index d) (λ x. FnReturns g f (index, tt) x)
