-- Vectors part by part, and what at most says of those of lists.
use Rattle.std.proofs.Common.{◌≡◌, Bool, true, false, ◌&&◌, cond, List, [], ◌∷◌, map, ℤ, pos, ◌-ℤ◌, int_le, ◌∙◌, ap, arith}
use Rattle.std.specs.Prelude.{◌≤ℤ◌}
use Rattle.std.proofs.lemmas.Bool.{and_from, and_parts}
use Rattle.std.proofs.lemmas.Int.{ints}
use Rattle.crew_rules.specs.declared.settings.Settings.{Settings}
use Rattle.crew_pairing.specs.Pairings.{last_duty}
use Rattle.crew_pairing.specs.Vectors.{reduced_cost}
use Rattle.crew_pairing.specs.declared.duty.Duty.{Duty}
use Rattle.crew_pairing.specs.declared.vector.PairingVector.{PairingVector}
use Rattle.crew_vector.specs.Dominance as Plain
use Rattle.crew_history.specs.Histories.{IsHistory, IsNoMore, is_no_more}
use Rattle.crew_history.specs.Limits.{AreInOrder, arrival, history_of, period_of}
use Rattle.crew_history.proofs.Histories.{cut_history, is_no_more_decides}
use Rattle.crew_history.proofs.OfDuties.{is_history}
use Rattle.crew_answers.specs.Dominance.{is_at_most}
use Rattle.crew_answers.specs.LongVectors.{LongVector, is_long, long_vector_of}

pub same-vector : (a b : PairingVector) (r u : ℤ) (h k : List (ℤ × ℤ)) → a ≡ b → r ≡ u → h ≡ k
    → ◌≡◌ {A = LongVector} (record { sums = a; since_rest = r; history = h }) (record { sums = b; since_rest = u; history = k })
same-vector a b r u h k e f g =
    ap (λ z. let v : LongVector = record { sums = z; since_rest = r; history = h } in v) e
    ∙ (ap (λ z. let v : LongVector = record { sums = b; since_rest = z; history = h } in v) f
    ∙ ap (λ z. let v : LongVector = record { sums = b; since_rest = u; history = z } in v) g)

pub sums-at-most : (a b : LongVector) → is_at_most a b ≡ true → Plain.is_at_most a.sums b.sums ≡ true
sums-at-most a b h = (and_parts (Plain.is_at_most a.sums b.sums) (int_le a.since_rest b.since_rest && is_no_more a.history b.history) h).0

pub costs-no-more : (a b : LongVector) → is_at_most a b ≡ true → reduced_cost a.sums ≤ℤ reduced_cost b.sums
costs-no-more a b h = Plain.cost_respects a.sums b.sums (sums-at-most a b h)

history-kept : (on : Bool) (h : List (ℤ × ℤ)) → IsHistory h → IsHistory (cond on h [])
history-kept true h i = i
history-kept false h i = tt

le-is : (a b : ℤ) → int_le a b ≡ true → a ≤ℤ b
le-is a b h = grind (arith, ints)

le-yes : (a b : ℤ) → a ≤ℤ b → int_le a b ≡ true
le-yes a b h = grind (arith, ints)

module _ (s : Settings) (price : ℤ) (first : Duty) (others : List Duty) (other_first : Duty) (other_others : List Duty)
    (order : AreInOrder first others) (other_order : AreInOrder other_first other_others) where
  abbrev a : LongVector
  a = long_vector_of s price first others

  abbrev b : LongVector
  b = long_vector_of s price other_first other_others

  decides : (is_no_more a.history b.history ≡ true → IsNoMore a.history b.history) × (IsNoMore a.history b.history → is_no_more a.history b.history ≡ true)
  decides = is_no_more_decides a.history b.history
      (history-kept (is_long s) (history_of first others) (cut_history (arrival (last_duty first others) -ℤ pos 10_080) (map period_of (first ∷ others)) (is_history first others order)))
      (history-kept (is_long s) (history_of other_first other_others) (cut_history (arrival (last_duty other_first other_others) -ℤ pos 10_080) (map period_of (other_first ∷ other_others)) (is_history other_first other_others other_order)))

  pub at-most-is : is_at_most a b ≡ true → (Plain.is_at_most a.sums b.sums ≡ true) × (a.since_rest ≤ℤ b.since_rest) × IsNoMore a.history b.history
  at-most-is h =
      let k = and_parts (Plain.is_at_most a.sums b.sums) (int_le a.since_rest b.since_rest && is_no_more a.history b.history) h in
      let l = and_parts (int_le a.since_rest b.since_rest) (is_no_more a.history b.history) k.1 in
      (k.0, le-is a.since_rest b.since_rest l.0, decides.0 l.1)

  pub at-most-from : Plain.is_at_most a.sums b.sums ≡ true → a.since_rest ≤ℤ b.since_rest → IsNoMore a.history b.history → is_at_most a b ≡ true
  at-most-from p q r =
      and_from (Plain.is_at_most a.sums b.sums) (int_le a.since_rest b.since_rest && is_no_more a.history b.history) p
      (and_from (int_le a.since_rest b.since_rest) (is_no_more a.history b.history) (le-yes a.since_rest b.since_rest q) (decides.1 r))
