-- Of a list that has the pairings that are shown, and no others, the first by cost and walk.
use Rattle.std.proofs.Common.{◌≡◌, ℕ, List, [], sym, subst, take}
use Rattle.std.specs.declared.cmp.Ordering.TheVariants.{Equal}
use Rattle.crew_fronts.proofs.crew_solve_lemmas.Keeping.{firsts-among, firsts-few, firsts-least, firsts-rise, in-order-among, in-order-each, in-order-rise, kept-first, sorted}
use Rattle.crew_fronts.specs.crew_solve.Machinery.Keeps.{keep_all, nothing}
use Rattle.crew_plan.proofs.Shorter.{rise-too}
use Rattle.crew_plan.specs.Apart.{AreAll, AreTaken, taken_from}
use Rattle.crew_plan.specs.Cheapest.{AreFirst, pairing_cmp}
use Rattle.crew_resource.specs.Members.{Member}
use Rattle.crew_fronts.specs.crew_solve.crew_vector.declared.priced.PricedPairing.{PricedPairing}

module _ (Shown : PricedPairing → Type 0) (all : List PricedPairing) (out : (p : PricedPairing) → Member all p → Shown p) (back : (p : PricedPairing) → Shown p → Member all p)
    (same : (p q : PricedPairing) → Member all p → Member all q → pairing_cmp p q ≡ Equal → p ≡ q) where
  are-all : AreAll Shown (sorted [] all)
  are-all = record {
    rise = rise-too (sorted [] all) (in-order-rise all same 0);
    shown = λ p m. out p (in-order-among all same 0 p m);
    each = λ p h. in-order-each all same 0 p (back p h);
  }

  pub are-taken : (limit share : ℕ) (ps : List PricedPairing) → ps ≡ take limit (taken_from share [] (sorted [] all)) → AreTaken Shown limit share ps
  are-taken limit share ps e = record { all = sorted [] all; are = are-all; first = e }

  pub are-first : (n : ℕ) → AreFirst Shown n (keep_all (nothing n) all).pairings
  are-first n = subst (AreFirst Shown n) (sym (kept-first n all)) (record {
    rise = rise-too (take n (sorted [] all)) (firsts-rise all same n);
    few = firsts-few all same n;
    shown = λ p m. out p (firsts-among all same n p m);
    least = λ q h. firsts-least all same n q (back q h);
  })
