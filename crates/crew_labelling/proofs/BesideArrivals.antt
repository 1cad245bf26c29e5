-- The pool of an arrival in two labellings, and what a rest after it goes by.
use Rattle.std.proofs.Common.{◌≡◌, ℕ, List, [], Some, map, get_or, sym}
use Rattle.std.specs.Prelude.{slice_get}
use Rattle.crew_label.specs.Boarding.{waited_label}
use Rattle.crew_label.specs.Tables.{Leaving}
use Rattle.crew_label.specs.declared.label.Label.{Label}
use Rattle.crew_net.specs.Events.{arrives_at}
use Rattle.crew_net.specs.Nets.{Net}
use Rattle.crew_net.specs.Ranks.{ranks_where}
use Rattle.crew_pairing.specs.declared.events.Arrival.{Arrival}
use Rattle.crew_labelling.specs.Beside.{AllBoardAlike, AreSame}
use Rattle.crew_labelling.specs.Labellings.{arrival_pool, arriving_labels, front_of, fronts_of, labelling_of, pool_among, rested_pool}
use Rattle.crew_labelling.specs.Terms.{Terms}
use Rattle.crew_labelling.proofs.BesideFronts.{fronts-shared}
use Rattle.crew_labelling.proofs.BesideLabels.{ArePaired, AreShared, beside, held-ranked, same-from-shared, shared-as, shared-flat, shared-from-same, shared-pool, shared-waited}
use Rattle.crew_labelling.proofs.Right.{arrival-is, arrivals-held, rested-of}
use Rattle.crew_labelling.proofs.Stages.{front-at}

module _ {V : Type 0} (w : Terms V) (other : Net) (others : List ℕ) (leaving : Leaving) (pair : ArePaired w (beside w other others leaving)) where
  abbrev z : Terms V
  z = beside w other others leaving

  abbrev pools : List (List (Label V))
  pools = (labelling_of w).departures

  abbrev pools-there : List (List (Label V))
  pools-there = (labelling_of z).departures

  -- the pool of labels that both have
  abbrev pub Pooled : (List (Label V)) → List (Label V) → Type 0
  Pooled ls ms = AreShared w z (pool_among w (labelling_of w).departures ls) (pool_among z (labelling_of z).departures ms)

  pub pooled : (ls ms : List (Label V)) → AreShared w z ls ms → Pooled ls ms
  pooled ls ms h = shared-pool w z pair.here.passable.rise pair.there.passable.rise w.below w.same w.cmp ls ms h

  module _ (place there : ℕ) (x : Arrival) (at : slice_get w.net.arrivals place ≡ Some x) (at-there : slice_get z.net.arrivals there ≡ Some x) where
    -- where all duties that arrive board from pools that are alike
    arriving-shared : AllBoardAlike w z (ranks_where (arrives_at x) w.net.duties) (ranks_where (arrives_at x) z.net.duties)
        → AreShared w z (arriving_labels w (fronts_of w pools) x) (arriving_labels z (fronts_of z pools-there) x)
    arriving-shared all =
        shared-flat w z (λ rank. get_or (fronts_of w pools) rank []) (λ rank. get_or (fronts_of z pools-there) rank []) (ranks_where (arrives_at x) w.net.duties) (ranks_where (arrives_at x) z.net.duties) all.long
        (λ k rank twin p q.
        let alike = all.each k rank twin p q in
        shared-as w z (front_of w pools rank alike.duty) (front_of z pools-there twin alike.duty) (get_or (fronts_of w pools) rank []) (get_or (fronts_of z pools-there) twin [])
        (front-at w pools rank alike.duty alike.here) (front-at z pools-there twin alike.duty alike.there) (fronts-shared w other others leaving pair rank twin alike))

    pub arrivals-same : AllBoardAlike w z (ranks_where (arrives_at x) w.net.duties) (ranks_where (arrives_at x) z.net.duties)
        → AreSame w z (get_or (labelling_of w).arrivals place []) (get_or (labelling_of z).arrivals there [])
    arrivals-same all =
        same-from-shared w z (get_or (labelling_of w).arrivals place []) (get_or (labelling_of z).arrivals there [])
        (shared-as w z (arrival_pool w pools x) (arrival_pool z pools-there x) (get_or (labelling_of w).arrivals place []) (get_or (labelling_of z).arrivals there [])
        (arrival-is w pair.here place x at) (arrival-is z pair.there there x at-there)
        (pooled (arriving_labels w (fronts_of w pools) x) (arriving_labels z (fronts_of z pools-there) x) (arriving-shared all)))

    -- where the pools are the same
    pub arrivals-shared : AreSame w z (get_or (labelling_of w).arrivals place []) (get_or (labelling_of z).arrivals there []) → AreShared w z (arrival_pool w pools x) (arrival_pool z pools-there x)
    arrivals-shared same =
        let own = get_or (labelling_of w).arrivals place [] in
        let theirs = get_or (labelling_of z).arrivals there [] in
        shared-as w z own theirs (arrival_pool w pools x) (arrival_pool z pools-there x) (sym (arrival-is w pair.here place x at)) (sym (arrival-is z pair.there there x at-there))
        (shared-from-same w z own theirs (held-ranked w w.arrived own (arrivals-held w pair.here pair.lawful place)) (held-ranked z z.arrived theirs (arrivals-held z pair.there pair.lawful_there there)) same)

    pub rested-same : AreSame w z (get_or (labelling_of w).arrivals place []) (get_or (labelling_of z).arrivals there [])
        → AreSame w z (get_or (labelling_of w).rested place []) (get_or (labelling_of z).rested there [])
    rested-same same =
        same-from-shared w z (get_or (labelling_of w).rested place []) (get_or (labelling_of z).rested there [])
        (shared-as w z (rested_pool w pools x) (rested_pool z pools-there x) (get_or (labelling_of w).rested place []) (get_or (labelling_of z).rested there [])
        (rested-of w pair.here place x at) (rested-of z pair.there there x at-there)
        (pooled (map (waited_label w.rest) (arrival_pool w pools x)) (map (waited_label z.rest) (arrival_pool z pools-there x))
        (shared-waited w z w.rest (arrival_pool w pools x) (arrival_pool z pools-there x) (arrivals-shared same))))
