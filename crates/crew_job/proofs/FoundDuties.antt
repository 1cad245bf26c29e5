-- Duties that are looked for among others.
use Rattle.std.proofs.Common.{◌≡◌, ◌<◌, ◌+◌, ◌∙◌, ℕ, get_or, Bool, List, Option, Some, None, length, sym, ap, subst, true≢false}
use Rattle.std.specs.Prelude.{◌↔◌, IsTrue, MatchOption, is_some, slice_get}
use Rattle.std.proofs.lemmas.Option.{get_or_from_slice_get, slice_get_within}
use borrow.Author.Count.{below_more}
use Rattle.crew_dirty.proofs.Nodes.{one-duty}
use Rattle.crew_machine.proofs.Reuse.{place-of-member}
use Rattle.crew_net.specs.Nets.{IsRankOfKey}
use Rattle.crew_pairing.specs.Duties.{RiseByKey}
use Rattle.crew_pairing.specs.declared.duty.Duty.{Duty}
use Rattle.crew_resource.proofs.Members.{Member-at}
use Rattle.crew_resource.specs.Members.{Member}

-- a duty stands at the rank of its key
pub at-key : (ds : List Duty) → RiseByKey ds → (d : Duty) (rank : ℕ) (found : Option ℕ) → found ≡ Some rank → IsRankOfKey ds d.key found → Member ds d → slice_get ds rank ≡ Some d
at-key ds rise d rank found e is m =
    let f = subst (IsRankOfKey ds d.key) e is in
    f.1 ∙ ap Some (one-duty ds rise f.0 d (Member-at ds rank f.0 f.1) m f.2)

-- a place is found exactly where the item is there
pub found-there : {X : Type 0} (ds : List X) (d : X) (found : Option ℕ) (b : Bool) → b ≡ is_some found → MatchOption found (Member ds d → ⊥) (λ rank. slice_get ds rank ≡ Some d) → IsTrue b ↔ Member ds d
found-there ds d None b e h = (λ t. absurd (true≢false (sym t ∙ e)), λ m. absurd (h m))
found-there ds d (Some rank) b e h = (λ _. Member-at ds rank d h, λ _. e)

-- what holds at each place holds of each
pub each-place : {X : Type 0} (P : X → Type 0) (xs : List X) → ((k : ℕ) (x : X) → k < length xs → slice_get xs k ≡ Some x → P x) → (x : X) → Member xs x → P x
each-place P xs h x m = let at = place-of-member xs x m in h at.0 x (slice_get_within xs at.0 x at.1) at.1

-- .. and one place more
pub places-more-hold : {X : Type 0} (P : X → Type 0) (xs : List X) (n : ℕ) (x : X) → x ≡ get_or xs n x → ((k : ℕ) (y : X) → k < n → slice_get xs k ≡ Some y → P y) → P x → (k : ℕ) (y : X) → k < n + 1 → slice_get xs k ≡ Some y → P y
places-more-hold {X} P xs n x is h p k y l at =
    below_more (λ (i : ℕ). (z : X) → slice_get xs i ≡ Some z → P z) n (λ i m z. h i z m) (λ z e. subst P (is ∙ get_or_from_slice_get xs n z x e) p) k l y at
