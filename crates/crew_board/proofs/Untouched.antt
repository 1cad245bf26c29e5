-- What the flags of a network tell of the machine's nodes.
use Rattle.std.proofs.Common.{◌≡◌, ◌/◌, ◌%◌, ◌∙◌, ℕ, ℤ, true, List, Option, length, refl, sym, ap, subst}
use Rattle.std.specs.Prelude.{◌↔◌}
use Rattle.std.specs.FinMap as fin
use Rattle.std.proofs.lemmas.Nat.{div-mul-add, mod-mul-add}
use Rattle.std.proofs.lemmas.Option.{slice_get_within}
use Rattle.crew_job.proofs.crew_dirty_lemmas.Priced.{has-price, is-base}
use Rattle.crew_job.specs.crew_dirty.Dirty.{IsNetOver, IsSameBase, IsSameDuty, IsUntouched}
use Rattle.crew_flights.specs.Timetable.{Timetable}
use Rattle.crew_machine.specs.Crew.{DutyNode, Inputs, IsNodeOf, MayPrecede, crew}
use Rattle.crew_machine.specs.Worlds as Worlds
use Rattle.crew_net.specs.Nets.{Net}
use Rattle.crew_pairing.specs.Duties.{flights_of}
use Rattle.crew_pairing.specs.Pairings.{IsDuty, may_stand_after}
use Rattle.crew_pairing.specs.declared.duty.Duty.{Duty}
use Rattle.crew_resource.specs.Members.{Member}
use Rattle.crew_round.specs.Marks.{StandsAt}
use Rattle.crew_rules.specs.declared.settings.Settings.{Settings}

-- the legal duties of a timetable are those of its network
pub duty-in : (s : Settings) (t : Timetable) (net : Net) → net.settings ≡ s → IsNetOver t net → (d : Duty) → IsDuty s (flights_of t) d → Member net.duties d
duty-in s t net same over d legal =
    let here : IsDuty net.settings (flights_of t) d = subst (λ (z : Settings). IsDuty z (flights_of t) d) (sym same) legal in
    subst (Member net.duties) (sym here.3) (over.duties.every here.0 here.1 here.2)

pub duty-out : (s : Settings) (t : Timetable) (net : Net) → net.settings ≡ s → IsNetOver t net → (d : Duty) → Member net.duties d → IsDuty s (flights_of t) d
duty-out s t net same over d m = subst (λ (z : Settings). IsDuty z (flights_of t) d) same (over.duties.sound d m)

module _ (s : Settings) (t u : Timetable) (old new : Net) (olds : old.settings ≡ s) (news : new.settings ≡ s) (before : IsNetOver t old) (now : IsNetOver u new) where
  price-kept : (n : DutyNode) → Worlds.IsUntouched (crew s) t u n → fin.get t.bases n.base ≡ fin.get u.bases n.base
  price-kept n k = ap (λ (i : Inputs). i.price) k.input

  world-in : (n : DutyNode) → IsUntouched old new (fin.get t.bases n.base) (fin.get u.bases n.base) n.base n.duty → Worlds.IsUntouched (crew s) t u n
  world-in n k =
      let base = k.0 in
      let duty = k.1 in
      let price = has-price t n.base (subst (λ (bs : List (List ℕ)). Member bs n.base) before.bases base.there) in
      record {
        there = record { price = price.0; based = price.1; legal = duty-out s t old olds before n.duty duty.there };
        input = ap (λ (z : Option ℤ). let i : Inputs = record { settings = s; price = z } in i) base.price;
        before = λ p a.
            (let rested : may_stand_after new.settings p.duty n.duty ≡ true = ap (λ (z : Settings). may_stand_after z p.duty n.duty) news ∙ a.rested in
            let both = duty.before p.duty rested in
            let prices : fin.get t.bases p.base ≡ fin.get u.bases p.base = ap (fin.get t.bases) a.base ∙ (base.price ∙ ap (fin.get u.bases) (sym a.base)) in (
              λ h. record { price = h.price; based = sym prices ∙ h.based; legal = duty-out s u new news now p.duty (both.0 (duty-in s t old olds before p.duty h.legal)) },
              λ h. record { price = h.price; based = prices ∙ h.based; legal = duty-out s t old olds before p.duty (both.1 (duty-in s u new news now p.duty h.legal)) },
            ));
      }

  world-out : (n : DutyNode) → IsNodeOf s u n → Worlds.IsUntouched (crew s) t u n → IsUntouched old new (fin.get t.bases n.base) (fin.get u.bases n.base) n.base n.duty
  world-out n is k =
      let base : IsSameBase old (fin.get t.bases n.base) (fin.get u.bases n.base) n.base = record {
        there = subst (λ (bs : List (List ℕ)). Member bs n.base) (sym before.bases) (is-base t n.base k.there.price k.there.based);
        price = price-kept n k;
      } in
      let duty : IsSameDuty old new n.duty = record {
        there = duty-in s t old olds before n.duty k.there.legal;
        before = λ e rested.
            (let m : DutyNode = record { base = n.base; duty = e } in
            let a : MayPrecede s m n = record { base = refl; rested = sym (ap (λ (z : Settings). may_stand_after z e n.duty) news) ∙ rested } in
            let both = k.before m a in
            let was : IsDuty s (flights_of t) e → IsNodeOf s t m = λ h. record { price = k.there.price; based = k.there.based; legal = h } in
            let is-now : IsDuty s (flights_of u) e → IsNodeOf s u m = λ h. record { price = is.price; based = is.based; legal = h } in (
              λ h. duty-in s u new news now e (both.0 (was (duty-out s t old olds before e h))).legal,
              λ h. duty-in s t old olds before e (both.1 (is-now (duty-out s u new news now e h))).legal,
            ));
      } in
      (base, duty)

  pub untouched-world : (n : DutyNode) → IsNodeOf s u n → IsUntouched old new (fin.get t.bases n.base) (fin.get u.bases n.base) n.base n.duty ↔ Worlds.IsUntouched (crew s) t u n
  untouched-world n is = (world-in n, world-out n is)

-- ---- by place

pub row-of : (net : Net) (place base rank : ℕ) (d : Duty) → StandsAt net place base rank d → place / length net.duties ≡ base
row-of net place base rank d at = ap (λ k. k / length net.duties) at.is ∙ div-mul-add base (length net.duties) rank (slice_get_within net.duties rank d at.duty)

pub rank-of : (net : Net) (place base rank : ℕ) (d : Duty) → StandsAt net place base rank d → place % length net.duties ≡ rank
rank-of net place base rank d at = ap (λ k. k % length net.duties) at.is ∙ mod-mul-add base (length net.duties) rank (slice_get_within net.duties rank d at.duty)
