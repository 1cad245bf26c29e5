-- The marks of nodes, with what is counted of them.
use Rattle.std.specs.Prelude.{◌≡◌, ℕ, ◌<◌, Bool, true, false, not, List, Some, filter, get_or, length, map, slice_get}
use Rattle.crew_round.specs.Marks.{is_done, is_out}
use Rattle.crew_round.specs.declared.mark.Mark.{Mark}
use Rattle.crew_round.specs.declared.mark.Mark.TheVariants.{Done, Waiting}

abbrev pub is_undone : Mark → Bool
is_undone mark = not (is_done mark)

-- the set has the places of what isn't done, and the numbers are those of what is done, and out
pub record AreTallied (marks : List Mark) (undone : List Bool) (done out : ℕ) : Type 0 where
  pub set : undone ≡ map is_undone marks
  pub done_count : done ≡ length (filter is_done marks)
  pub out_count : out ≡ length (filter is_out marks)

-- one where it is told
abbrev pub one_if : Bool → ℕ
one_if true = 1
one_if false = 0

-- the mark of a node as a round begins
abbrev pub mark_of : Bool → Mark
mark_of true = Done
mark_of false = Waiting

-- the marks of nodes where the flagged ones are done, and the others wait
pub record AreMarksOf (flags : List Bool) (marks : List Mark) : Type 0 where
  pub long : length marks ≡ length flags
  pub right : (k : ℕ) → k < length flags → slice_get marks k ≡ Some (mark_of (get_or flags k false))
