use Rattle.std.proofs.Common.{◌≡◌, ◌+◌, ◌++◌, ◌∷◌, ◌∙◌, [], List, Some, ap, sym, take, ℕ}
use Rattle.std.specs.Prelude.{slice_get}
use Rattle.std.proofs.lemmas.List.{take_all}
use Rattle.crew_pairing.specs.declared.key.Key.{Key}
use Rattle.crew_step.proofs.Loops.{item-at, take-grown}
use Rattle.crew_step.proofs.offers.longer.Goals as goal

pushed-is : (ks now was : List Key) (k copied : Key) → ks ≡ was → copied ≡ k → now ≡ ks ++ copied ∷ [] → now ≡ was ++ k ∷ []
pushed-is ks now was k copied e s n = n ∙ (ap (λ z. z ++ copied ∷ []) e ∙ ap (λ z. was ++ z ∷ []) s)

pushed-more : (ks now keys : List Key) (i : ℕ) (k copied : Key) → slice_get keys i ≡ Some k → ks ≡ take i keys → copied ≡ k → now ≡ ks ++ copied ∷ [] → now ≡ take (i + 1) keys
pushed-more ks now keys i k copied at e s n = pushed-is ks now (take i keys) k copied e s n ∙ sym (take-grown keys i k at)

all-keys : (ks keys walk : List Key) (i : ℕ) → ks ≡ take i keys → take i keys ≡ keys → keys ≡ walk → ks ≡ walk
all-keys ks keys walk i e f s = e ∙ (f ∙ s)

pub loop-known-init : goal.loop-known-init
loop-known-init c = c.new-keys.ensures.items

pub loop-known-preserved : goal.loop-known-preserved
loop-known-preserved c =
    let keys = c.keys-known-items.result.now in
    let i = c.loop-known.known-index in
    let k = c.known-item.result in
    pushed-more c.loop-known.keys.items c.push.new.self.items keys i k c.copy.result (item-at keys i k c.loop-known-test.true c.known-item.is) c.loop-known.invariant c.copy.ensures c.in_ok-push.ensures.items

pub returns : goal.returns
returns c =
    let keys = c.keys-known-items.result.now in
    let i = c.loop-known.known-index in
    let whole = all-keys c.loop-known.keys.items keys c.args.walk.now i c.loop-known.invariant (take_all i keys c.loop-known-test.false) c.keys-known-items.ensures in
    pushed-is c.loop-known.keys.items c.new.result c.args.walk.now c.args.key.now c.copy-2.result whole c.copy-2.ensures (c.new.ensures ∙ c.in_ok-push-2.ensures.items)
