use Rattle.std.proofs.Common.{◌≡◌, ◌∙◌, ◌<◌, ◌≤◌, ◌+◌, ℕ, ap, false, subst, sym, ⊎_elim}
use Rattle.std.proofs.lemmas.Bool.{false≢true}
use Rattle.crew_sweep.specs.Machinery.Grounds.{Stands}
use Rattle.crew_sweep.specs.Machinery.Mending.{is_unchanged}
use Rattle.crew_sweep.specs.Machinery.Passing.{IsMade}
use Rattle.crew_sweep.specs.declared.passing.Passing.{Passing}
use Rattle.crew_sweep.proofs.Gathering.{before-or-at}
use Rattle.crew_sweep.proofs.passing.Passing.make_changed.Goals.{then-not-is_unchanged+in_ok-make_arrival, else-not-is_unchanged}
use Rattle.crew_sweep.proofs.passing.Passing.make_changed.Goals as goal

pub loop-place-preserved : goal.loop-place-preserved
loop-place-preserved c =
    let g = c.args.ground.now in
    let t = c.args.twins.now in
    let changed = c.args.changed.now in
    let from = c.args.window.from in
    let place = c.loop-place.place in
    let was = c.loop-place.self in
    let inv = c.loop-place.invariant in
    let Goal = λ (p : Passing). Stands g p × (p.passed ≡ c.args.self.now.passed) × ((place' : ℕ) → from ≤ place' → place' < place + 1 → is_unchanged t changed place' ≡ false → IsMade p.arrivals.made.items place') in
    elim c.if-not-is_unchanged.branch [
      | then-not-is_unchanged+in_ok-make_arrival w ↦
          let now = w.make_arrival.new.self.arrivals in
          let is = w.in_ok-make_arrival.ensures in
          subst Goal (sym w.self-is) (
            is.stands,
            w.make_arrival.ensures.passed ∙ inv.1,
            λ p first last un. ⊎_elim {C = IsMade now.made.items p} (λ l. (is.stay p (inv.2 p first l un)).0) (λ e. subst (IsMade now.made.items) (sym e) is.made) (before-or-at p place last),
          )
      | else-not-is_unchanged w ↦
          let still = sym c.is_unchanged.ensures ∙ w.if-not-is_unchanged.false in
          subst Goal (sym w.self-is) (
            inv.0,
            inv.1,
            λ p first last un. ⊎_elim {C = IsMade was.arrivals.made.items p} (λ l. inv.2 p first l un) (λ e. absurd (false≢true (sym un ∙ (ap (is_unchanged t changed) e ∙ still)))) (before-or-at p place last),
          )
    ]
