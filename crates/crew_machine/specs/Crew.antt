-- The machine's world of crew pairing, under some settings: a node is a crew base and a legal duty,
-- its front is that of its partial pairings, and the best is the best pairing of all bases.
use Rattle.std.specs.Prelude.{◌≡◌, ℕ, true, ℤ, pos, ◌+ℤ◌, ◌-ℤ◌, ◌*ℤ◌, List, [], ◌∷◌, Option, Some, None, map}
use Rattle.std.specs.FinMap as fin
use Rattle.std.specs.Ordering.{then_cmp}
use Rattle.std.specs.declared.cmp.Ordering.{Ordering}
use Rattle.std.specs.declared.cmp.Ordering.TheVariants.{Less}
use Rattle.crew_answers.specs.Bests.{IsBest, IsScratch}
use Rattle.crew_answers.specs.Fronts.{IsFrontAt, RiseByVector}
use Rattle.crew_answers.specs.Locals.{Feed, IsLocalAt}
use Rattle.crew_answers.specs.LongVectors.{LongVector}
use Rattle.crew_flights.specs.Codes.{code_cmp}
use Rattle.crew_flights.specs.Fold.{fold_of}
use Rattle.crew_flights.specs.Timetable.{Timetable}
use Rattle.crew_flights.specs.declared.entries.Entry.{Entry}
use Rattle.crew_machine.specs.Rounds as Rounds
use Rattle.crew_machine.specs.Steps as Steps
use Rattle.crew_machine.specs.Worlds.{AreNodes, Work, World}
use Rattle.crew_pairing.specs.Duties.{HasFew, HasTooMany, flights_of}
use Rattle.crew_pairing.specs.Keys.{key_cmp}
use Rattle.crew_pairing.specs.Legs.{Leg}
use Rattle.crew_pairing.specs.Pairings.{IsDuty, may_stand_after}
use Rattle.crew_pairing.specs.Vectors.{reduced_cost}
use Rattle.crew_pairing.specs.declared.duty.Duty.{Duty}
use Rattle.crew_resource.specs.Members.{Each, Member}
use Rattle.crew_rules.specs.declared.settings.Settings.{Settings}
use Rattle.crew_answers.specs.crew_vector.Bests.{NoDearer}
use Rattle.crew_answers.specs.crew_vector.declared.priced.PricedPairing.{PricedPairing}

-- a crew base, and a duty with all its facts
pub record DutyNode : Type 0 where
  pub base : List ℕ
  pub duty : Duty

-- by base, then by the key of the duty
abbrev pub node_cmp : DutyNode → DutyNode → Ordering
node_cmp = then_cmp (λ a b. code_cmp a.base b.base) (λ a b. key_cmp a.duty.key b.duty.key)

-- each stands before all later ones
abbrev pub RiseByNode : List DutyNode → Type 0
RiseByNode [] = Unit {0}
RiseByNode (n ∷ ns) = Each (λ m. node_cmp n m ≡ Less) ns × RiseByNode ns

-- the settings, and the price of the base, where it is one
pub record Inputs : Type 0 where
  pub settings : Settings
  pub price : Option ℤ

-- the entries of a front: vectors, each with its walk
abbrev pub Entries : Type 0
Entries = List (LongVector × List (List Leg))

abbrev pub DutyWork : Type 0
DutyWork = Work DutyNode Inputs Entries

-- the timetable that the entries of a log come to
abbrev pub timetable_of : List Entry → Timetable
timetable_of entries = (fold_of entries).0

-- a base of the timetable, with its price, and a legal duty of it
pub record IsNodeOf (s : Settings) (t : Timetable) (n : DutyNode) : Type 0 where
  pub price : ℤ
  pub based : fin.get t.bases n.base ≡ Some price
  pub legal : IsDuty s (flights_of t) n.duty

-- a node of the same base, after whose duty the other's may stand
pub record MayPrecede (s : Settings) (before n : DutyNode) : Type 0 where
  pub base : before.base ≡ n.base
  pub rested : may_stand_after s before.duty n.duty ≡ true

-- the front of a node, in order of vector
pub record IsFrontOf (s : Settings) (t : Timetable) (n : DutyNode) (entries : Entries) : Type
    0 where
  pub price : ℤ
  pub based : fin.get t.bases n.base ≡ Some price
  pub front : IsFrontAt s t n.base price n.duty entries
  pub rises : RiseByVector entries

-- the duties of nodes, each with the node's front
abbrev pub feed_of : List (DutyNode × Entries) → Feed
feed_of before = map (λ b. (b.0.duty, b.1)) before

-- what the duty alone, and each entry before it with the duty after, leave, in order of vector
pub record IsLocalOf (job : DutyWork) (entries : Entries) : Type 0 where
  pub price : ℤ
  pub based : job.input.price ≡ Some price
  pub local : IsLocalAt job.input.settings job.node.base price
      job.node.duty (feed_of job.before) entries
  pub rises : RiseByVector entries

-- an entry of a node whose duty arrives at its base
pub record ComesHome (fronts : List (DutyNode × Entries)) (base : List ℕ) (v : LongVector)
    (w : List (List Leg)) : Type 0 where
  pub duty : Duty
  pub entries : Entries
  pub node : Member fronts (record { base = base; duty = duty }, entries)
  pub home : duty.to ≡ base
  pub held : Member entries (v, w)

-- the pairing of an entry that comes home
abbrev pub pairing_of : Settings → List ℕ → LongVector → List (List Leg) → PricedPairing
pairing_of s base v w = record {
  base = base;
  walk = w;
  cost = reduced_cost v.sums;
  pay = reduced_cost v.sums +ℤ (pos s.trip_rig *ℤ v.sums.away -ℤ v.sums.trip_rig);
  away = v.sums.away;
}

-- the least, by cost and walk, of the entries that come home; none where none does
abbrev pub IsLeastOf : Settings → List (DutyNode × Entries) → Option PricedPairing → Type 0
IsLeastOf s fronts None = (base : List ℕ) (v : LongVector) (w : List (List Leg))
    → ComesHome fronts base v w → ⊥
IsLeastOf s fronts (Some p) = ((base : List ℕ) × (v : LongVector) × (w : List (List Leg))
    × ComesHome fronts base v w × (p ≡ pairing_of s base v w))
    × ((base : List ℕ) (v : LongVector) (w : List (List Leg)) → ComesHome fronts base v w
    → NoDearer p.cost p.walk (reduced_cost v.sums) w)

abbrev pub crew : Settings → World Entry Timetable DutyNode Inputs Entries PricedPairing
crew s = record {
  fold = timetable_of;
  IsSmall = HasFew s;
  IsTooLarge = HasTooMany s;
  IsNode = IsNodeOf s;
  Rise = RiseByNode;
  Precedes = MayPrecede s;
  input = λ t n. record { settings = s; price = fin.get t.bases n.base };
  IsFront = IsFrontOf s;
  IsLocal = IsLocalOf;
  IsLeast = IsLeastOf s;
  IsBest = IsBest s;
}

abbrev pub CrewVersion : Type 0
CrewVersion = Rounds.Version Entry DutyNode Entries PricedPairing

abbrev pub CrewRound : Type 0
CrewRound = Rounds.Round Entry DutyNode Entries

abbrev pub CrewBoard : Type 0
CrewBoard = Rounds.Board Entry DutyNode Entries PricedPairing

abbrev pub CrewAct : Type 0
CrewAct = Steps.Act Entry

abbrev pub CrewReply : Type 0
CrewReply = Steps.Reply Entry DutyNode Inputs Entries PricedPairing

abbrev pub CrewState : Type 0
CrewState = Steps.State Entry DutyNode Inputs Entries PricedPairing

-- a version is from scratch: of the timetable that its entries come to it lists exactly the nodes, in
-- node order, each with its front, in order of vector; and it has the best
pub record IsFromScratch (s : Settings) (v : CrewVersion) : Type 0 where
  pub front : List ℕ → Duty → Entries
  pub scratch : IsScratch s (timetable_of v.entries) front v.best
  pub nodes : AreNodes (crew s) (timetable_of v.entries) (map (λ e. e.0) v.fronts)
  pub fronts : (n : DutyNode) (entries : Entries) → Member v.fronts (n, entries)
      → (entries ≡ front n.base n.duty) × RiseByVector entries
  pub few : HasFew s (timetable_of v.entries)
