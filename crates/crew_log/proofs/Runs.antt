-- A run of receipts, and one more.
use Rattle.std.proofs.Common.{◌≡◌, ℕ, suc, ◌+◌, List, [], ◌∷◌, ◌++◌, length, arith}
use Rattle.boxcar.specs.Table.{Where}
use Rattle.crew_flights.specs.declared.entries.Entry.{Entry}
use Rattle.crew_log.specs.Logs.{IsRun}

pub run_push : (from : ℕ) (rs : List (Where Entry)) (r : Where Entry)
    → IsRun from rs → r.index ≡ from + length rs → IsRun from (rs ++ r ∷ [])
run_push from [] r h e = (omega (arith, e), tt)
run_push from (q ∷ qs) r h e = (h.0, run_push (suc from) qs r h.1 (omega (arith, e)))
