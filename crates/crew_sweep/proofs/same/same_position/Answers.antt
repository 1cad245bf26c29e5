use Rattle.std.proofs.Common.{◌≡◌, ◌∙◌, Option, None, Some, subst, sym}
use Rattle.std.specs.Prelude.{IfSome}
use Rattle.crew_net.specs.declared.window.Window.{Window}
use Rattle.crew_sweep.specs.Machinery.Same.{WaitsOn}
use Rattle.crew_sweep.proofs.same.same_position.Goals as goal

some-weaker : {A : Type 0} (o : Option A) (P Q : A → Type 0) → ((a : A) → P a → Q a) → IfSome o P → IfSome o Q
some-weaker None P Q f p = tt
some-weaker (Some a) P Q f p = f a p

pub returns : goal.returns
returns c =
    let net = c.args.ground.now.net.now in
    let base = c.args.ground.now.base in
    let r = c.args.ground.now.resource in
    let now = c.in_ok-window.ensures in
    let before = c.in_ok-was.ensures in
    let from = c.if-window-was.false in
    let end = c.if-window-was-2.false in
    let one : c.in_ok-window.window ≡ c.in_ok-was.was' = λ i. record { from = from i; end = end i } in
    some-weaker c.position_of.result _ _ (λ position at. record {
      window = c.in_ok-window.window;
      event = now.0;
      at = now.1;
      waits = now.2;
      before = before.0;
      before_at = at ∙ before.1;
      before_waits = subst (λ (w : Window). WaitsOn net base r before.0 w) (sym one) before.2;
    }) c.position_of.ensures
