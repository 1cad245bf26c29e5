use Rattle.std.proofs.Common.{◌≡◌, ◌++◌, ◌∷◌, ◌∙◌, [], List, ap}
use Rattle.crew_pairing.specs.declared.key.Key.{Key}
use Rattle.crew_step.proofs.Offered.{offered-is}
use Rattle.crew_step.proofs.offers.offer_opening.Goals as goal

one-key : (none now walk : List Key) (copied k : Key) → none ≡ [] → now ≡ none ++ copied ∷ [] → copied ≡ k → walk ≡ now → walk ≡ k ∷ []
one-key none now walk copied k e n s is = is ∙ (n ∙ (ap (λ ks. ks ++ copied ∷ []) e ∙ ap (λ z. z ∷ []) s))

pub returns : goal.returns
returns g c candidates local =
    let duty = c.args.duty.now in
    let alone = g.R.Resource.opens c.args.resource.now duty in
    let keys = one-key c.new-keys.result.items c.push.new.self.items c.new.result c.copy.result duty.key c.new-keys.ensures.items c.in_ok-push.ensures.items c.copy.ensures c.new.ensures in
    let h = c.in_ok-offer.ensures.local candidates local in
    offered-is g.R.Resource.below candidates c.offer.new.self alone c.in-Some.value (duty.key ∷ []) c.new.result c.in-Some.ensures.value keys h
