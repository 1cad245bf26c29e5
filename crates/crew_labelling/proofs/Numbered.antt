-- Numbers of duties: each tells its duty's rank, and two of one rank are one.
use Rattle.std.proofs.Common.{◌≡◌, ◌∙◌, ◌<◌, ℕ, true, Some, length, get_or, sym, ap, arith}
use Rattle.std.specs.Prelude.{slice_get, nat_lt}
use Rattle.std.proofs.lemmas.Bool.{and_parts}
use Rattle.std.proofs.lemmas.Bool.Decides.{nat_tests}
use Rattle.crew_label.specs.Tables.{departure_of, is_known, rank_of}
use Rattle.crew_net.proofs.Numbers.{get-within}
use Rattle.crew_net.proofs.Slices.{at-within, some-same}
use Rattle.crew_pairing.specs.declared.duty.Duty.{Duty}
use Rattle.crew_labelling.specs.Terms.{AreTerms, Terms, number_of}

lt-from : (a b : ℕ) → nat_lt a b ≡ true → a < b
lt-from a b e = grind (arith, nat_tests)

module _ {V : Type 0} (w : Terms V) (terms : AreTerms w) where
  -- a duty's number tells its rank
  pub number-told : (rank : ℕ) (d : Duty) → slice_get w.net.duties rank ≡ Some d → slice_get w.leaves.ranks (number_of w rank) ≡ Some rank
  number-told rank d known =
      let long = terms.numbered.long in
      let within = get-within w.net.duties rank d known in
      terms.numbered.told rank (number_of w rank) (at-within w.numbers rank 0 (omega (arith, long, within)))

  pub rank-told : (rank : ℕ) (d : Duty) → slice_get w.net.duties rank ≡ Some d → rank_of w.leaves (number_of w rank) ≡ rank
  rank-told rank d known =
      let told = number-told rank d known in
      some-same (slice_get w.leaves.ranks (number_of w rank)) (rank_of w.leaves (number_of w rank)) rank (at-within w.leaves.ranks (number_of w rank) 0 (get-within w.leaves.ranks (number_of w rank) rank told)) told

  -- and its departure
  pub departure-told : (rank : ℕ) (d : Duty) → slice_get w.net.duties rank ≡ Some d → departure_of w.leaves (number_of w rank) ≡ get_or w.leaves.positions rank 0
  departure-told rank d known = ap (λ (k : ℕ). get_or w.leaves.positions k 0) (rank-told rank d known)

  -- a number that is known is that of its rank
  pub known-number : (duty : ℕ) → is_known w.leaves duty ≡ true → slice_get w.numbers (rank_of w.leaves duty) ≡ Some duty
  known-number duty h =
      let k = and_parts (nat_lt duty (length w.leaves.ranks)) (nat_lt (rank_of w.leaves duty) (length w.leaves.positions)) h in
      let long = terms.passable.are_positions.long in
      let within = lt-from (rank_of w.leaves duty) (length w.leaves.positions) k.1 in
      terms.numbered.own (rank_of w.leaves duty) duty (omega (arith, long, within)) (at-within w.leaves.ranks duty 0 (lt-from duty (length w.leaves.ranks) k.0))

  -- so two known ones of one rank are one
  pub one-number : (duty other : ℕ) → is_known w.leaves duty ≡ true → is_known w.leaves other ≡ true → rank_of w.leaves duty ≡ rank_of w.leaves other → duty ≡ other
  one-number duty other h k e =
      some-same (slice_get w.numbers (rank_of w.leaves other)) duty other (ap (slice_get w.numbers) (sym e) ∙ known-number duty h) (known-number other k)
