-- The labels of a pass's fronts as they are lent.
use Rattle.std.specs.Prelude.{◌≡◌, ◌<◌, ℕ, pos, List, length, map}
use Rattle.crew_answers.specs.Shown.{shown_entries}
use Rattle.crew_answers.specs.declared.value.LongValue.{LongValue}
use Rattle.crew_fronts.specs.Fronts.{Entries}
use Rattle.crew_fronts.specs.Machinery.Values.{IsReal}
use Rattle.crew_label.specs.Tables.{Tabled, leads_in, trail_in}
use Rattle.crew_label.specs.Walks.{Leads, shown, walk_of}
use Rattle.crew_label.specs.declared.label.Label.{Label}
use Rattle.crew_pairing.specs.Legs.{Leg}
use Rattle.crew_pairing.specs.declared.duty.Duty.{Duty}
use Rattle.crew_pass.specs.crew_pool.Ranks.{by_key, key_at}
use Rattle.crew_resource.specs.Members.{Each, Member}
use Rattle.crew_rules.specs.declared.settings.Settings.{Settings}

-- a label's walk by rank, and by key
abbrev pub ranked_walk : Tabled LongValue → Label LongValue → List ℕ
ranked_walk t l = walk_of (trail_in t.leaves t.pools) l.before

abbrev pub keyed_walk : Tabled LongValue → List Duty → Label LongValue → List (List Leg)
keyed_walk t duties l = map (key_at duties) (ranked_walk t l)

-- the entries that labels show of the front of a duty
abbrev pub label_entries : Tabled LongValue → List Duty → Settings → Duty → List (Label LongValue)
    → Entries
label_entries t duties s d labels =
    shown_entries s d (by_key duties (map (shown (trail_in t.leaves t.pools)) labels))

-- its link leads to a label, its walk is of duties that have ranks, as many as its value counts,
-- and its last rest ended at a report
pub record IsRead (t : Tabled LongValue) (duties : List Duty) (l : Label LongValue) : Type 0 where
  pub leading : Leads (leads_in t.leaves t.pools) l.before
  pub ranked : Each (λ rank. rank < length duties) (ranked_walk t l)
  pub counts : l.value.sums.duties ≡ pos (length (ranked_walk t l))
  pub real : IsReal l.value.rest_end.minute

abbrev pub AreRead : Tabled LongValue → List Duty → List (Label LongValue) → Type 0
AreRead t duties labels = (l : Label LongValue) → Member labels l → IsRead t duties l
