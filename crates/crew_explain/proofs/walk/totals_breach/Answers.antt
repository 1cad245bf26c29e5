use Rattle.std.proofs.Common.{◌≡◌, ◌∙◌, ◌∷◌, [], arith, length, of_z, pos, to_z, w64}
use Rattle.std.proofs.lemmas.Int.{ints}
use Rattle.crew_pairing.specs.Legality.{total}
use Rattle.crew_pairing.specs.Pairings.{minutes_away}
use Rattle.crew_pairing.specs.declared.duty.Duty.{Duty}
use Rattle.crew_explain.specs.Rules.{first_of}
use Rattle.crew_explain.specs.declared.breach.Rule.TheVariants as The
use Rattle.crew_explain.proofs.Added.{fits-self}
use Rattle.crew_explain.proofs.Asking.{asked}
use Rattle.crew_explain.proofs.walk.totals_breach.Goals as goal

pub returns : goal.returns
returns c =
    let s = c.args.settings.now in
    let ds = c.args.duties.now in
    let sums = c.add_up-sums.ensures in
    let m = c.minutes_away-away.ensures in
    let k = c.requires.checked in
    let fdp : to_z w64 (of_z w64 c.add_up-sums.result.fdp) ≡ total (λ (d : Duty). d.fdp) ds = fits-self _ sums.bound_fdp.0 sums.bound_fdp.1 ∙ sums.fdp in
    let fly : to_z w64 (of_z w64 c.add_up-sums.result.fly) ≡ total (λ (d : Duty). d.fly) ds = fits-self _ sums.bound_fly.0 sums.bound_fly.1 ∙ sums.fly in
    let away : to_z w64 (of_z w64 c.minutes_away-away.result) ≡ minutes_away ds = fits-self _ (omega (arith, ints, m.bound)) (omega (arith, ints, m.bound)) ∙ m.value in
    let one = c.at_most.ensures ∙ asked The.FdpTotal 0 0 _ _ (total (λ (d : Duty). d.fdp) ds) (pos s.fdp_total) fdp (omega (arith, ints, c.from.ensures, k.fdp_total_most)) in
    let two = c.at_most-2.ensures ∙ asked The.FlyCap 0 0 _ _ (total (λ (d : Duty). d.fly) ds) (pos s.fly_cap) fly (omega (arith, ints, c.from-2.ensures, k.fly_cap_most)) in
    let three = c.at_most-3.ensures ∙ asked The.MaxDuties 0 0 _ _ (pos (length ds)) (pos s.max_duties) (omega (arith, ints, c.requires.few)) (omega (arith, ints, c.from-3.ensures, k.max_duties_most)) in
    let four = c.at_most-4.ensures ∙ asked The.AwayCap 0 0 _ _ (minutes_away ds) (pos s.away_cap) away (omega (arith, ints, c.from-4.ensures, k.away_cap_most)) in
    c.first_broken.ensures ∙ (λ i. first_of (one i ∷ two i ∷ three i ∷ four i ∷ []))
