-- Fronts that are lent: their entries in order of vector.
use Rattle.std.specs.Prelude.{◌≡◌, ◌<◌, ℕ, ℤ, Bool, true, ◌&&◌, cond, List, [], ◌∷◌, Option, Some, None, filter, length, map}
use Rattle.std.specs.Ordering.{is_lt}
use Rattle.crew_anchor.specs.Anchors.{shown}
use Rattle.crew_anchor.specs.Machinery.Bounds.{fits_in, is_ready, may_board}
use Rattle.crew_anchor.specs.Stages.{anchored_board}
use Rattle.crew_pairing.specs.Legs.{Leg}
use Rattle.crew_pairing.specs.declared.duty.Duty.{Duty}
use Rattle.crew_pairing.specs.declared.vector.PairingVector.{PairingVector}
use Rattle.crew_pool.specs.Apart.{AreApart}
use Rattle.crew_pool.specs.Counted.{boarded_labels}
use Rattle.crew_pool.specs.LabelWalks.{walk_of_label}
use Rattle.crew_pool.specs.Machinery.Meets.{vectors_of}
use Rattle.crew_pool.specs.declared.label_walk.LabelWalk.{LabelWalk}
use Rattle.crew_resource.specs.Entries.{placed}
use Rattle.crew_resource.specs.Machinery.Sum.{LiesWithin}
use Rattle.crew_resource.specs.Machinery.Uses.{HasRoom}
use Rattle.crew_resource.specs.Members.{Each, Member}
use Rattle.crew_solve.specs.Machinery.Homes.{resource_of, walk_by_key}
use Rattle.crew_sweep.specs.Sweeps.{BaseSweep}
use Rattle.crew_vector.specs.Dominance.{is_at_most}
use Rattle.crew_vector.specs.Fronts.{vector_cmp}

-- an entry before the first of those with a greater vector
abbrev pub put : List (PairingVector × List (List Leg)) → PairingVector × List (List Leg)
    → List (PairingVector × List (List Leg))
put entries e = placed (λ x. is_lt (vector_cmp e.0 x.0)) e entries

-- entries put among others one by one
abbrev pub put_all : List (PairingVector × List (List Leg)) → List (PairingVector × List (List Leg))
    → List (PairingVector × List (List Leg))
put_all so_far [] = so_far
put_all so_far (e ∷ es) = put_all (put so_far e) es

-- entries in order of vector
abbrev pub by_vector : List (PairingVector × List (List Leg))
    → List (PairingVector × List (List Leg))
by_vector entries = put_all [] entries

-- a vector comes after one, if there is one
abbrev pub is_after : Option PairingVector → PairingVector → Bool
is_after None v = true
is_after (Some last) v = is_lt (vector_cmp last v)

-- the entries after a vector, if there is one
abbrev pub after : Option PairingVector → List (PairingVector × List (List Leg))
    → List (PairingVector × List (List Leg))
after last entries = filter (λ e. is_after last e.0) entries

-- an entry comes after a vector, if there is one, and before the least such entry so far
abbrev pub is_next : Option PairingVector → Option (PairingVector × List (List Leg)) → PairingVector
    → Bool
is_next last None v = is_after last v
is_next last (Some least) v = is_after last v && is_lt (vector_cmp v least.0)

abbrev pub next_of : Option PairingVector → Option (PairingVector × List (List Leg))
    → PairingVector × List (List Leg) → Option (PairingVector × List (List Leg))
next_of last least e = cond (is_next last least e.0) (Some e) least

-- a label's entry as of a minute
abbrev pub entry_of : BaseSweep → ℤ → PairingVector × LabelWalk → PairingVector × List (List Leg)
entry_of b minute l = (shown b.net.settings.trip_rig minute l.0, walk_by_key b l.1)

-- labels that can be shown at a duty's release, whose walks are there, of duties that have ranks; and
-- no vector of theirs is at most another
pub record AreLent (b : BaseSweep) (d : Duty) (labels : List (PairingVector × LabelWalk)) : Type
    0 where
  pub room : LiesWithin 2_147_483_648 d.release → (l : PairingVector × LabelWalk)
      → Member labels l → HasRoom (fits_in (resource_of b)) (is_ready (resource_of b)) l.0
  pub walks : (l : PairingVector × LabelWalk) → Member labels l → (l.1.walk < length b.walks)
      × Each (λ rank. rank < length b.net.duties) (walk_of_label b.walks l.1)
  pub apart : AreApart is_at_most (vectors_of labels)

-- the labels that board a duty of a rank, after it, and the entries that they show there
abbrev pub boarding_at : BaseSweep → Duty → ℕ → List (PairingVector × LabelWalk)
    → List (PairingVector × LabelWalk)
boarding_at b d rank labels = boarded_labels (λ v. anchored_board (resource_of b) v d) rank labels

abbrev pub shown_at : BaseSweep → Duty → ℕ → List (PairingVector × LabelWalk)
    → List (PairingVector × List (List Leg))
shown_at b d rank labels = map (entry_of b d.release) (boarding_at b d rank labels)

-- labels that may board a duty of a rank, of which those that do can be shown there
pub record MayBeShown (b : BaseSweep) (d : Duty) (rank : ℕ)
    (labels : List (PairingVector × LabelWalk)) : Type 0 where
  pub boards : (l : PairingVector × LabelWalk) → Member labels l → may_board l.0 d
  pub room : LiesWithin 2_147_483_648 d.release → (l : PairingVector × LabelWalk)
      → Member (boarding_at b d rank labels) l
      → HasRoom (fits_in (resource_of b)) (is_ready (resource_of b)) l.0
  pub walks : (l : PairingVector × LabelWalk) → Member (boarding_at b d rank labels) l
      → (l.1.walk < length b.walks)
      × Each (λ k. k < length b.net.duties) (walk_of_label b.walks l.1)

-- what a view shows of labels that may board can be lent
pub record IsLent (b : BaseSweep) (d : Duty) (rank : ℕ)
    (labels view : List (PairingVector × LabelWalk)) : Type 0 where
  pub lent : AreLent b d view
  pub boards : (l : PairingVector × LabelWalk) → Member labels l → may_board l.0 d
  pub same : view ≡ boarding_at b d rank labels
