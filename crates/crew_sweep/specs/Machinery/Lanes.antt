-- What threads do beside one another: lanes that go on to windows, and pools of arrivals.
use Rattle.std.specs.Prelude.{◌<◌, ℕ, Bool, IfOk, List, Result, Vec, length}
use Rattle.std.specs.Global.{Global}
use Rattle.std.specs.declared.alloc.AllocError.{AllocError}
use Rattle.crew_net.specs.Nets.{Net}
use Rattle.crew_pairing.specs.declared.vector.PairingVector.{PairingVector}
use Rattle.crew_pool.specs.declared.label_walk.LabelWalk.{LabelWalk}
use Rattle.crew_resource.specs.Members.{Member}
use Rattle.crew_sweep.specs.Machinery.Ahead.{IsAhead}
use Rattle.crew_sweep.specs.Machinery.Grounds.{IsPoolAt}
use Rattle.crew_sweep.specs.Machinery.Passing.{IsSealed}
use Rattle.crew_sweep.specs.Machinery.Slides.{IsOver}
use Rattle.crew_sweep.specs.declared.ahead.Done.{Done}
use Rattle.crew_sweep.specs.declared.ahead.Made.{Made}
use Rattle.crew_sweep.specs.declared.ground.Ground.{Ground}
use Rattle.crew_sweep.specs.declared.lanes.Lane.{Lane}
use Rattle.crew_sweep.specs.declared.passed.Passed.{Passed}
use Rattle.crew_sweep.specs.declared.passing.Passing.{Passing}
use Rattle.crew_sweep.specs.declared.windows.Waiting.{Waiting}

module _ (net : Net) (walks : List (List ℕ)) (made : List Bool)
    (held : List (List (PairingVector × LabelWalk))) where
  -- a slide over what is made, positions of departures, and what stands in windows
  pub record IsLane (l : Lane) : Type 0 where
    pub over : IsOver walks made held l.slide
    pub within : (position : ℕ) → Member l.positions.items position
        → position < length net.by_report
    pub ahead : (w : Waiting) → Member l.waiting.items w → IsAhead net walks made held w

  abbrev pub AreLanes : List Lane → Type 0
  AreLanes lanes = (lane : Lane) → Member lanes lane → IsLane lane

  abbrev pub AreGrouped : List (Vec Lane Global) → Type 0
  AreGrouped groups = (group : Vec Lane Global) → Member groups group → AreLanes group.items

-- the pool is that of the arrival at its place, which nothing more will reach
pub record IsMadeAt (g : Ground) (p : Passed) (m : Made) : Type 0 where
  pub within : m.place < length g.net.now.arrivals
  pub is_sealed : IsSealed g.net.now (length p.pools) m.place
  pub pool : IsPoolAt g p m.place m.pool

abbrev pub AreMadeAt : Ground → Passed → List Made → Type 0
AreMadeAt g p made = (m : Made) → Member made m → IsMadeAt g p m

abbrev pub AllMadeAt : Ground → Passed → List (Vec Made Global) → Type 0
AllMadeAt g p all = (made : Vec Made Global) → Member all made → AreMadeAt g p made.items

-- what a thread has done of a pass
pub record IsDone (g : Ground) (p : Passing) (d : Done) : Type 0 where
  pub lanes : AreLanes g.net.now p.passed.walks p.arrivals.made.items p.arrivals.pools.items
      d.lanes.items
  pub pools : AreMadeAt g p.passed d.pools.items

abbrev pub AreDone : Ground → Passing → List (Result Done AllocError) → Type 0
AreDone g p all = (done : Result Done AllocError) → Member all done → IfOk done (IsDone g p)
