-- What the fronts of a base keep, and what they show.
use Rattle.std.specs.Prelude.{◌≡◌, ◌<◌, ℕ, ℤ, false, List, Option, Some, None, [], get_or, length, map, slice_get}
use Rattle.std.specs.List.{range_with_len}
use Rattle.crew_answers.specs.LongVectors.{is_long}
use Rattle.crew_answers.specs.Schedules.{IsDated}
use Rattle.crew_answers.specs.ShortPairings.{with_no_pasts}
use Rattle.crew_answers.specs.Shown.{long_resource, shown_entries}
use Rattle.crew_answers.specs.declared.resource.LongResource.{LongResource}
use Rattle.crew_answers.specs.declared.value.LongValue.{LongValue}
use Rattle.crew_answers.proofs.LongListed.{value_cmp}
use Rattle.crew_flights.specs.Timetable.{IsBasePrice, IsSound, Timetable}
use Rattle.crew_fronts.specs.Fronts.{BaseFronts, Entries, ShowsFronts, is_plain}
use Rattle.crew_fronts.specs.Machinery.Listed.{listed}
use Rattle.crew_fronts.specs.Machinery.Values.{IsValue}
use Rattle.crew_label.specs.Pools.{AreRising}
use Rattle.crew_label.specs.Tables.{trail_in}
use Rattle.crew_label.specs.Walks.{walk_of}
use Rattle.crew_label.specs.declared.label.Label.{Label}
use Rattle.crew_net.specs.Nets.{Net}
use Rattle.crew_pairing.specs.Duties.{AreDuties}
use Rattle.crew_pairing.specs.Events as Events
use Rattle.crew_pairing.specs.declared.duty.Duty.{Duty}
use Rattle.crew_pass.specs.Passes.{BasePass, Passed, keyed_entries}
use Rattle.crew_resource.specs.Members.{Member}
use Rattle.crew_rules.specs.Settings.{IsChecked}
use Rattle.crew_solve.specs.crew_sweep.Sweeps as Sweeps
use Rattle.crew_solve.specs.crew_sweep.Sweeps.{BaseSweep}

-- the front that a sweep shows at a duty
abbrev pub swept_front : BaseSweep → Duty → Entries
swept_front b d = with_no_pasts (listed (Sweeps.front_at b d))

abbrev pub fronts_of_sweep : BaseSweep → BaseFronts
fronts_of_sweep b = record {
  net = b.net;
  base = b.base;
  price = b.price;
  fronts = map (swept_front b) b.net.duties;
}

-- the front that a pass leaves of the duty of a rank
abbrev pub passed_front : BasePass LongValue → ℕ → Option Duty → Entries
passed_front p rank None = []
passed_front p rank (Some d) = shown_entries p.net.settings d (keyed_entries p rank)

abbrev pub fronts_of_pass : List ℕ → ℤ → BasePass LongValue → BaseFronts
fronts_of_pass base price p = record {
  net = p.net;
  base = base;
  price = price;
  fronts = map (λ rank. passed_front p rank (slice_get p.net.duties rank))
      (range_with_len 0 (length p.net.duties));
}

-- a network to be passed over at a base's price: its settings need more than the seven sums
pub record IsGround (net : Net) (price : ℤ) : Type 0 where
  pub checked : IsChecked net.settings
  pub long : is_plain net.settings ≡ false
  pub priced : IsBasePrice price
  pub sound : (d : Duty) → Member net.duties d → Events.IsSound d

-- its labels have values of their walks
abbrev pub AreValued : BasePass LongValue → Type 0
AreValued p = (rank : ℕ) (l : Label LongValue) → rank < length p.net.duties
    → Member (get_or p.fronts rank []) l → IsValue (is_long p.net.settings) l.value
    (length (walk_of (trail_in p.leaves p.pools) l.before))

-- they are listed by value
abbrev pub AreListed : BasePass LongValue → Type 0
AreListed p = (rank : ℕ) → rank < length p.net.duties
    → AreRising value_cmp (get_or p.fronts rank [])

-- a pass of settings that need more than the seven sums, right in each timetable whose legal duties
-- its network has
pub record IsPassed (base : List ℕ) (price : ℤ) (p : BasePass LongValue) : Type 0 where
  pub long : is_plain p.net.settings ≡ false
  pub sound : (d : Duty) → Member p.net.duties d → Events.IsSound d
  pub valued : AreValued p
  pub listed : AreListed p
  pub right : (t : Timetable) → IsSound t → IsDated t
      → AreDuties p.net.settings t p.net.duties → ShowsFronts t (fronts_of_pass base price p)

-- so by a resource of these settings and that price
pub record IsPassedBy (base : List ℕ) (price : ℤ) (p : Passed LongResource LongValue) : Type 0 where
  pub passed : IsPassed base price p.pass
  pub resource : p.resource ≡ long_resource p.pass.net.settings price
