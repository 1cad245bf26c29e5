use Rattle.std.proofs.Common.{◌∙◌, ◌++◌, ◌∷◌, [], List, ap, sym}
use Rattle.crew_pairing.specs.Legs.{Leg}
use Rattle.crew_plan.proofs.Among.{key-more}
use Rattle.crew_plan.proofs.homes.push_key.Goals as goal

pub returns : goal.returns
returns c = λ h.
    let keys = c.args.keys.now.items in
    let key = c.in-Some.key.now in
    c.in_ok-push.ensures.items
    ∙ (ap (λ (k : List Leg). keys ++ k ∷ []) c.copy.ensures
    ∙ (ap (λ (l : List (List Leg)). l ++ key ∷ []) h ∙ sym (key-more c.args.walk.now c.args.place key (sym c.in-Some.ensures))))
