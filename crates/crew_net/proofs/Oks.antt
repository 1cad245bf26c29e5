-- What holds where a call came to its result.
use Rattle.std.proofs.Common.{Ok, Err}
use Rattle.std.specs.Prelude.{Result, IfOk}

pub IfOk-from : {T E : Type 0} (P Q : T → Type 0) (r : Result T E) → ((x : T) → P x → Q x) → IfOk r P → IfOk r Q
IfOk-from P Q (Ok x) f h = f x h
IfOk-from P Q (Err e) f h = tt
