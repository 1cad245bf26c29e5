-- Pools of an earlier sweep whose walks stand at their own places.
use Rattle.std.proofs.Common.{◌≡◌, ◌∙◌, ℕ, List, [], Option, Some, true, ap, get_or}
use Rattle.std.specs.Prelude.{slice_get}
use Rattle.crew_carry.specs.Carried.{IsCarried}
use Rattle.crew_carry.specs.Spans.{AreWithin, StandsWithin}
use Rattle.crew_carry.specs.Twins.{AreRankTwins}
use Rattle.crew_carry.specs.declared.span.Span.{Span}
use Rattle.crew_carry.proofs.CarriedLabels.{labels-counted, labels-in-place, labels-keys, labels-ranked}
use Rattle.crew_net.specs.Nets.{Net}
use Rattle.crew_pairing.specs.declared.vector.PairingVector.{PairingVector}
use Rattle.crew_pool.specs.Counted.{AreCounted}
use Rattle.crew_pool.specs.declared.label_walk.LabelWalk.{LabelWalk}
use Rattle.crew_sweep.specs.Machinery.Renewing.{IsPositionPool}
use Rattle.crew_sweep.specs.Sweeps.{BaseSweep, keyed}

module _ (old : BaseSweep) (net : Net) (ranks : List (Option ℕ)) (twins : AreRankTwins old.net.duties net.duties ranks) (walks : List (List ℕ)) (places : List (Option ℕ)) (carried : IsCarried ranks old.walks walks places) where
  pub standing : (position : ℕ) (pool : List (PairingVector × LabelWalk)) → pool ≡ get_or old.pools position [] → AreCounted (λ (v : PairingVector). v.duties) old.walks true pool
      → (span : Span) → AreWithin span pool → ((walk : ℕ) → StandsWithin span walk → slice_get places walk ≡ Some (Some walk)) → IsPositionPool old net walks position pool
  standing position pool is counts span within stands =
      let own = labels-in-place ranks old.walks walks places carried pool (λ l m. stands l.1.walk (within l m)) (λ l m. (counts l m).stands) in
      record {
        labels = labels-keys ranks old.walks walks old.net.duties net.duties twins pool pool own ∙ ap (keyed old.net old.walks) is;
        counts = labels-counted ranks old.walks walks pool pool own (λ (v : PairingVector). v.duties) counts;
        ranked = labels-ranked ranks old.walks walks old.net.duties net.duties twins pool pool own;
      }
