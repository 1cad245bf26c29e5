-- What holds of a result where a call went well.
use Rattle.std.proofs.Common.{Err, IfOk, Ok, Result}
use Rattle.std.specs.Prelude.{OnOk}

module _ {X E : Type 0} where
  pub on-ok : (r : Result X E) (P Q : Type 0) → (P → Q) → OnOk r P → OnOk r Q
  on-ok (Ok x) P Q f h = f h
  on-ok (Err e) P Q f h = tt

  pub ok-both : (r : Result X E) (P Q R : X → Type 0) → ((x : X) → P x → Q x → R x) → IfOk r P → IfOk r Q → IfOk r R
  ok-both (Ok x) P Q R f h k = f x h k
  ok-both (Err e) P Q R f h k = tt
