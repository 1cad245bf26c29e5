-- The pools of departures, one after another: each is made of those before it, and so of all of them.
use Rattle.std.proofs.Common.{◌≡◌, ◌∙◌, ◌<◌, ◌++◌, ℕ, zero, suc, true, [], ◌∷◌, Some, ℤ, pos, length, get_or, refl, sym, ap, ⊎_elim, arith, length-append}
use Rattle.std.specs.Prelude.{slice_get, ◌≤ℤ◌, ◌-ℤ◌}
use Rattle.std.proofs.lemmas.Bool.Decides.{eqb_tells}
use Rattle.std.proofs.lemmas.Int.{ints}
use Rattle.std.proofs.lemmas.List.{get_or_append_left}
use Rattle.std.proofs.Math.Seq.{get_or-append_seam}
use Rattle.crew_net.specs.Positions.{departure_at, in_order}
use Rattle.crew_net.proofs.Orders.{in-order-at, later}
use Rattle.crew_net.proofs.Slices.{get-at, member-got}
use Rattle.crew_pairing.specs.Events.{arrival_of, departure_of, may_wait}
use Rattle.crew_pairing.specs.declared.duty.Duty.{Duty}
use Rattle.crew_pairing.specs.declared.events.Arrival.{Arrival}
use Rattle.crew_pairing.specs.declared.events.Departure.{Departure}
use Rattle.crew_labelling.specs.Labellings.{departure_pool, pools_upto}
use Rattle.crew_labelling.specs.Terms.{AreLawful, AreTerms, Terms}
use Rattle.crew_labelling.proofs.After.{departure-stays}
use Rattle.crew_labelling.proofs.Sound.{AreSound, none-sound, sound-more}
use Rattle.crew_labelling.proofs.Stages.{departure-ready, departure-rises}
use Rattle.crew_labelling.proofs.Waiting.{follows}

-- a departure that reports no later than a duty doesn't wait on that duty's arrival
too-late : (waits report release arrives : ℤ) → waits ≤ℤ report → pos 600 ≤ℤ (waits -ℤ arrives) → pos 0 ≤ℤ (release -ℤ report) → release ≡ arrives → ⊥
too-late waits report release arrives h rest elapsed e = grind (arith, ints)

module _ {V : Type 0} (w : Terms V) (terms : AreTerms w) where
  -- duties that arrive where a departure may wait leave before it
  pub leaves-before : (i : ℕ) (g : Departure) → slice_get (in_order w.net) i ≡ Some g → (x : Arrival) → may_wait w.net.settings x g ≡ true
      → (rank : ℕ) (d : Duty) → slice_get w.net.duties rank ≡ Some d → arrival_of d ≡ x → get_or w.leaves.positions rank 0 < i
  leaves-before i g at x waits rank d known is = later (get_or w.leaves.positions rank 0) i (λ h.
      let p = terms.passable in
      let position = get_or w.leaves.positions rank 0 in
      let a = in-order-at w.net p.departs p.ordered i g at in
      let b = in-order-at w.net p.departs p.ordered position (departure_of d) (p.are_positions.exact rank d known) in
      too-late g.report d.report d.release x.release
      (p.ordered.rising i position a.0 b.0 g (departure_of d) h a.1 b.1 a.2 b.2)
      (follows w.net.settings x g p.rests waits).rest
      (p.sound d (member-got w.net.duties rank d known)).elapsed
      (ap (λ (z : Arrival). z.release) is))

  pub next-is : (n : ℕ) (g : Departure) → slice_get (in_order w.net) n ≡ Some g → departure_at w.net.departures (get_or w.net.by_report n 0) ≡ g
  next-is n g at =
      let a = in-order-at w.net terms.passable.departs terms.passable.ordered n g at in
      ap (departure_at w.net.departures) (get-at w.net.by_report n a.0 0 a.1) ∙ get-at w.net.departures a.0 g (record { airport = []; report = pos 0 }) a.2

  pub upto-long : (n : ℕ) → length (pools_upto w n) ≡ n
  upto-long zero = refl
  upto-long (suc n) =
      let rest = upto-long n in
      let pools = pools_upto w n in
      let more = length-append pools (departure_pool w pools (departure_at w.net.departures (get_or w.net.by_report n 0)) ∷ []) in
      omega (arith, rest, more)

  module _ (lawful : AreLawful w) where
    pub upto-sound : (n : ℕ) → AreSound w (pools_upto w n)
    upto-sound zero = none-sound w
    upto-sound (suc n) =
        let pools = pools_upto w n in
        let sound = upto-sound n in
        let g = departure_at w.net.departures (get_or w.net.by_report n 0) in
        sound-more w pools (departure_pool w pools g) sound (departure-ready w terms lawful pools sound g) (departure-rises w terms lawful pools sound g)

    -- the pool at a position is what all pools make of its departure
    pub upto-at : (n i : ℕ) (g : Departure) → i < n → slice_get (in_order w.net) i ≡ Some g → get_or (pools_upto w n) i [] ≡ departure_pool w (pools_upto w n) g
    upto-at zero i g h at = absurd (omega (arith, h))
    upto-at (suc n) i g h at =
        let pools = pools_upto w n in
        let long = upto-long n in
        let next = departure_at w.net.departures (get_or w.net.by_report n 0) in
        let pool = departure_pool w pools next in
        let stays = departure-stays w terms lawful pools (pool ∷ []) (upto-sound n) g (λ x waits rank d known is. let before = leaves-before i g at x waits rank d known is in omega (arith, before, h, long)) in
        ⊎_elim {C = get_or (pools ++ pool ∷ []) i [] ≡ departure_pool w (pools ++ pool ∷ []) g}
        (λ s.
        let last : i ≡ n = s.1 in
        let seam : i ≡ length pools = omega (arith, last, long) in
        ap (λ (k : ℕ). get_or (pools ++ pool ∷ []) k []) seam
        ∙ (get_or-append_seam pools pool [] []
        ∙ (ap (departure_pool w pools) (next-is n g (ap (slice_get (in_order w.net)) (sym last) ∙ at)) ∙ sym stays)))
        (λ ne.
        let k = ne.1 in
        let less : i < n = omega (arith, h, k) in
        get_or_append_left pools (pool ∷ []) [] i (omega (arith, less, long)) ∙ (upto-at n i g less at ∙ sym stays))
        (eqb_tells i n)
