-- Where the slides of all airports stand.
use Rattle.std.specs.Prelude.{◌≡◌, ◌<◌, ℕ, Bool, List, length}
use Rattle.crew_net.specs.Nets.{Net}
use Rattle.crew_pairing.specs.declared.vector.PairingVector.{PairingVector}
use Rattle.crew_pool.specs.declared.label_walk.LabelWalk.{LabelWalk}
use Rattle.crew_resource.specs.Members.{Member}
use Rattle.crew_sweep.specs.Machinery.Passing.{IsMade}
use Rattle.crew_sweep.specs.Machinery.Sliding.{Covers, IsSliding}
use Rattle.crew_sweep.specs.declared.slide.Slide.{Slide}
use Rattle.crew_sweep.specs.declared.slides.Slides.{Slides}

pub record AreSliding (walks : List (List ℕ)) (held : List (List (PairingVector × LabelWalk)))
    (s : Slides) : Type 0 where
  pub numbers : (n : ℕ) → Member s.airports.items n → n < length s.slides.items
  pub each : (slide : Slide) → Member s.slides.items slide → IsSliding walks held slide

-- a slide over what is made
pub record IsOver (walks : List (List ℕ)) (made : List Bool)
    (held : List (List (PairingVector × LabelWalk))) (s : Slide) : Type 0 where
  pub sliding : IsSliding walks held s
  pub covered : (place : ℕ) → Covers s place → IsMade made place

-- slides that have merged nothing yet
abbrev pub AreIdle : List Slide → Type 0
AreIdle slides = (slide : Slide) → Member slides slide
    → ((walks : List (List ℕ)) (held : List (List (PairingVector × LabelWalk)))
    → IsSliding walks held slide) × ((place : ℕ) → Covers slide place → ⊥)

-- some slide has merged the pool of the place
abbrev pub CoverAny : Slides → ℕ → Type 0
CoverAny s place = (slide : Slide) × Member s.slides.items slide × Covers slide place

-- the slides over what is made, after so many departures
pub record AreUnderWay (net : Net) (walks : List (List ℕ)) (made : List Bool)
    (held : List (List (PairingVector × LabelWalk))) (s : Slides) : Type 0 where
  pub long : length s.airports.items ≡ length net.departures
  pub sliding : AreSliding walks held s
  pub covered : (place : ℕ) → CoverAny s place → IsMade made place
