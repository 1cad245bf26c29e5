-- Which parts of a value are sums: all of it, or nothing of it.
use Rattle.std.proofs.Common.{◌≡◌, Bool, true, Option, Some, refl, ◌∙◌, ap, subst}
use Rattle.std.proofs.lemmas.Bool.{and_parts, and_from}
use Rattle.crew_resource.specs.Events.{WaitLaws, BoardLaws}
use Rattle.crew_resource.proofs.Order.{IsOrder}
use Rattle.crew_forgetful.specs.Forgetful.{Forgetful}
pub use Rattle.crew_forgetful.specs.Machinery.Sums.{is_same, both_forgetful}

-- stages that keep values apart forget nothing: the same sums are the same value
pub all_are_sums : {N V G X : Type 0} (le : V → V → Bool) (wait : V → X → G → V) (board : V → N → Option V)
    → IsOrder le → WaitLaws le wait → BoardLaws le board → Forgetful le (is_same le) wait board
all_are_sums le wait board order waits boards = record {
  same_itself = λ a. and_from (le a a) (le a a) (order.reflexive a) (order.reflexive a);
  same_between = λ a b c h k e.
      let f = and_parts (le a c) (le c a) e in (
        and_from (le a b) (le b a) h (order.transitive b c a k f.1),
        and_from (le b c) (le c b) k (order.transitive c a b f.1 h),
      );
  wait_monotone = waits.monotone;
  wait_keeps = λ a b x g h e.
      let f = and_parts (le (wait a x g) (wait b x g)) (le (wait b x g) (wait a x g)) e in
      let equal : a ≡ b = waits.strict a b x g h (order.antisymmetric (wait a x g) (wait b x g) f.0 f.1) in
      and_from (le a b) (le b a) h (subst (λ z. le z a ≡ true) equal (order.reflexive a));
  board_monotone = boards.monotone;
  board_keeps = λ a b y z d h p q e.
      let f = and_parts (le y z) (le z y) e in
      let equal : a ≡ b = boards.strict a b z d h (p ∙ ap (λ v. Some v) (order.antisymmetric y z f.0 f.1)) q in
      and_from (le a b) (le b a) h (subst (λ z. le z a ≡ true) equal (order.reflexive a));
}

-- stages that keep the order alone may forget all: any two values have the same sums, none
pub none_are_sums : {N V G X : Type 0} (le : V → V → Bool) (wait : V → X → G → V) (board : V → N → Option V)
    → ((a b : V) (x : X) (g : G) → le a b ≡ true → le (wait a x g) (wait b x g) ≡ true)
    → ((a b c : V) (d : N) → le a b ≡ true → board b d ≡ Some c → (z : V) × (board a d ≡ Some z) × (le z c ≡ true))
    → Forgetful le (λ a b. true) wait board
none_are_sums le wait board waits boards = record {
  same_itself = λ a. refl;
  same_between = λ a b c h k e. (refl, refl);
  wait_monotone = waits;
  wait_keeps = λ a b x g h e. refl;
  board_monotone = boards;
  board_keeps = λ a b y z d h p q e. refl;
}
