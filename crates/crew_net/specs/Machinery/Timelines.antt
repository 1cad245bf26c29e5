-- What a timeline holds.
use Rattle.std.specs.Prelude.{◌≡◌, ◌≤◌, ◌<◌, ◌+◌, ◌↔◌, ℕ, ℤ, ◌≤ℤ◌, List, length, map, get_or}
use Rattle.crew_net.specs.Machinery.Moments.{AreInOrder, AreMoments, AreStarts}
use Rattle.crew_net.specs.Machinery.Moments.{Slot}
use Rattle.crew_net.specs.declared.timeline.Timeline.{Timeline}
use Rattle.crew_net.specs.declared.window.Window.{Window}

-- a timeline of what happens at these moments, one for each place
pub record IsTimeline (ats : List ℤ) (t : Timeline) : Type 0 where
  pub slots : List Slot
  pub in_order : AreInOrder ats slots
  pub are_moments : AreMoments slots t.moments.items
  pub are_starts : AreStarts slots t.moments.items t.starts.items
  pub are_places : t.places.items ≡ map (λ s. s.place) slots

-- its starts are places that do not fall
pub record IsShape (t : Timeline) : Type 0 where
  pub long : length t.starts.items ≡ length t.moments.items + 1
  pub rising : (i j d : ℕ) → i ≤ j → j < length t.starts.items
      → get_or t.starts.items i d ≤ get_or t.starts.items j d
  pub within : (k d : ℕ) → k < length t.starts.items
      → get_or t.starts.items k d ≤ length t.places.items

-- exactly the moments from one to another, both included
pub record IsWithin (moments : List ℤ) (earliest latest : ℤ) (w : Window) : Type 0 where
  pub ordered : w.from ≤ w.end
  pub bound : w.end ≤ length moments
  pub exact : (k : ℕ) (e : ℤ) → k < length moments
      → ((earliest ≤ℤ get_or moments k e) × (get_or moments k e ≤ℤ latest))
      ↔ ((w.from ≤ k) × (k < w.end))
