-- Laws of chains and of beginnings.
use Rattle.std.proofs.Common.{◌≡◌, ℕ, ◌+◌, ◌<◌, ◌≤◌, List, [], ◌∷◌, ◌++◌, length, nat_eq, true, take, drop, refl, ap, sym, ◌∙◌, subst, inl, inr, ⊎_elim, false, arith, append_assoc}
use mathlib.Core.List.{IsPrefix}
use Rattle.std.specs.List.{starts_with}
use lib.Pointwise.{pointwise}
use Rattle.std.proofs.lemmas.Bool.{and_parts}
use Rattle.std.proofs.lemmas.Bool.Decides.{nat_tests}
use Rattle.std.proofs.lemmas.List.{take-append-drop}
use Rattle.crew_version.specs.Versions.{Snapshot}
use Rattle.crew_publish.specs.Views.{IsMet, IsViewOf, Watching}
use Rattle.crew_publish.specs.Chain.{Follows, IsSame, Extends, last_or, Ends}
use Rattle.crew_resource.specs.Chains.{ChainFrom, IsChain}
use Rattle.crew_publish.specs.Machinery.Rule.{AllBegin, seen_by}

pub prefix_self : {A : Type 0} (xs : List A) → IsPrefix xs xs
prefix_self [] = ([], refl)
prefix_self (x ∷ xs) = let r = prefix_self xs in (r.0, ap (λ ys. x ∷ ys) r.1)

pub prefix_longer : {A : Type 0} (xs ys : List A) (z : A) → IsPrefix xs ys → IsPrefix xs (ys ++ z ∷ [])
prefix_longer xs ys z p = (p.0 ++ z ∷ [], sym (append_assoc xs p.0 (z ∷ [])) ∙ ap (λ w. w ++ z ∷ []) p.1)

pub all_longer : (ls : List (List Snapshot)) (whole : List Snapshot) (z : Snapshot) → AllBegin ls whole → AllBegin ls (whole ++ z ∷ [])
all_longer [] whole z h = tt
all_longer (l ∷ ls) whole z h = (prefix_longer l whole z h.0, all_longer ls whole z h.1)

rises : (v : Snapshot) (vs : List Snapshot) → ChainFrom Follows v vs → v.number + length vs ≤ (last_or v vs).number
rises v [] h = omega arith
rises v (w ∷ ws) h = let r = rises w ws h.1 in let s : v.number < w.number = h.0.rises in omega arith

chain_from_push : (v : Snapshot) (vs : List Snapshot) (z : Snapshot) → ChainFrom Follows v vs → Follows (last_or v vs) z → ChainFrom Follows v (vs ++ z ∷ [])
chain_from_push v [] z h f = (f, tt)
chain_from_push v (w ∷ ws) z h f = (h.0, chain_from_push w ws z h.1 f)

last_or_push : (v : Snapshot) (vs : List Snapshot) (z : Snapshot) → last_or v (vs ++ z ∷ []) ≡ z
last_or_push v [] z = refl
last_or_push v (w ∷ ws) z = last_or_push w ws z

pub chain_push : (vs : List Snapshot) (last z : Snapshot) → IsChain Follows vs → Ends vs last → Follows last z → IsChain Follows (vs ++ z ∷ [])
chain_push [] last z h e f = tt
chain_push (v ∷ vs) last z h e f = chain_from_push v vs z h (subst (λ (u : Snapshot). Follows u z) (sym e) f)

pub ends_push : (vs : List Snapshot) (z : Snapshot) → Ends (vs ++ z ∷ []) z
ends_push [] z = refl
ends_push (v ∷ vs) z = last_or_push v vs z

-- what follows the last of a chain is the last of the longer one
pub view_push : (vs l : List Snapshot) (last z : Snapshot) → l ≡ vs ++ z ∷ [] → IsChain Follows vs → Ends vs last → Follows last z → IsViewOf l z
view_push vs l last z is h e f = (subst (λ (l : List Snapshot). IsChain Follows l) (sym is) (chain_push vs last z h e f), subst (λ (m : List Snapshot). Ends m z) (sym is) (ends_push vs z))

-- where a beginning ends as the whole does, nothing is left
nothing_left : (v : Snapshot) (vs rest : List Snapshot) → ChainFrom Follows v (vs ++ rest) → last_or v vs ≡ last_or v (vs ++ rest) → rest ≡ []
nothing_left v [] [] h e = refl
nothing_left v [] (r ∷ rs) h e =
    let s = rises v (r ∷ rs) h in
    let n : v.number ≡ (last_or v (r ∷ rs)).number = ap (λ (u : Snapshot). u.number) e in
    absurd (omega arith)
nothing_left v (w ∷ ws) rest h e = nothing_left w ws rest h.1 e

pub append-nil' : {A : Type 0} (xs : List A) → xs ++ [] ≡ xs
append-nil' [] = refl
append-nil' (x ∷ xs) = ap (λ ys. x ∷ ys) (append-nil' xs)

pub same_end : (vs whole : List Snapshot) (last : Snapshot) → IsPrefix vs whole → IsChain Follows whole → Ends vs last → Ends whole last → vs ≡ whole
same_end [] whole last p h e f = absurd e
same_end (v ∷ vs) whole last p h e f =
    let h' : ChainFrom Follows v (vs ++ p.0) = subst (λ (l : List Snapshot). IsChain Follows l) (sym p.1) h in
    let f' : last_or v (vs ++ p.0) ≡ last = subst (λ (l : List Snapshot). Ends l last) (sym p.1) f in
    let none : p.0 ≡ [] = nothing_left v vs p.0 h' (e ∙ sym f') in
    sym (append-nil' (v ∷ vs)) ∙ (ap (λ (r : List Snapshot). (v ∷ vs) ++ r) (sym none) ∙ p.1)

same_points : (xs ys : List ℕ) → pointwise nat_eq xs ys ≡ true → xs ≡ ys
same_points [] [] h = refl
same_points [] (y ∷ ys) h = absurd cc
same_points (x ∷ xs) [] h = absurd cc
same_points (x ∷ xs) (y ∷ ys) h =
    let p = and_parts (nat_eq x y) (pointwise nat_eq xs ys) h in
    let q : nat_eq x y ≡ true = p.0 in
    let same : x ≡ y = grind (arith, nat_tests) in
    cc (same, same_points xs ys p.1)

-- what std's test of a beginning says
pub starts_prefix : (later earlier : List ℕ) → starts_with nat_eq later earlier ≡ true → IsPrefix earlier later
starts_prefix later earlier h = (drop (length earlier) later, ap (λ w. w ++ drop (length earlier) later) (same_points earlier (take (length earlier) later) h) ∙ take-append-drop (length earlier) later)

pub all_rest : (more ls : List (List Snapshot)) (whole : List Snapshot) → AllBegin (more ++ ls) whole → AllBegin ls whole
all_rest [] ls whole h = h
all_rest (m ∷ ms) ls whole h = all_rest ms ls whole h.1

-- the list that was seen last begins what all lists begin
pub first_begins : (ls : List (List Snapshot)) (whole : List Snapshot) → AllBegin ls whole → IsPrefix (seen_by ls) whole
first_begins [] whole h = (whole, refl)
first_begins (l ∷ ls) whole h = h.0

pub prefix_trans : {A : Type 0} (xs ys zs : List A) → IsPrefix xs ys → IsPrefix ys zs → IsPrefix xs zs
prefix_trans xs ys zs p q = (p.0 ++ q.0, sym (append_assoc xs p.0 q.0) ∙ ap (λ w. w ++ q.0) p.1 ∙ q.1)

abbrev head_or : {A : Type 0} → A → List A → A
head_or d [] = d
head_or d (x ∷ xs) = x

abbrev tail : {A : Type 0} → List A → List A
tail [] = []
tail (x ∷ xs) = xs

-- a beginning that is as long as the whole is the whole
pub prefix_whole : {A : Type 0} (xs ys : List A) → IsPrefix xs ys → length xs ≡ length ys → xs ≡ ys
prefix_whole [] [] p n = refl
prefix_whole [] (y ∷ ys) p n = absurd (omega (arith, n))
prefix_whole (x ∷ xs) [] p n = absurd (omega (arith, n))
prefix_whole (x ∷ xs) (y ∷ ys) p n =
    let rest : xs ++ p.0 ≡ ys = ap tail p.1 in
    let head : x ≡ y = ap (head_or x) p.1 in
    ap (λ t. x ∷ t) (prefix_whole xs ys (p.0, rest) (omega (arith, n))) ∙ ap (λ h. h ∷ ys) head

same_follows : (v s w : Snapshot) → IsSame v s → Follows s w → Follows v w
same_follows v s w same f =
    let n : v.number ≡ s.number = same.0 in
    let r : s.number < w.number = f.rises in
    record { rises = omega arith; begins = subst (λ e. IsPrefix e w.entries) (sym same.1) f.begins }

follows_same : (v s w : Snapshot) → Follows v s → IsSame s w → Follows v w
follows_same v s w f same =
    let n : s.number ≡ w.number = same.0 in
    let r : v.number < s.number = f.rises in
    record { rises = omega arith; begins = subst (λ e. IsPrefix v.entries e) same.1 f.begins }

follows_trans : (v s w : Snapshot) → Follows v s → Follows s w → Follows v w
follows_trans v s w f g =
    let a : v.number < s.number = f.rises in
    let b : s.number < w.number = g.rises in
    record { rises = omega arith; begins = prefix_trans v.entries s.entries w.entries f.begins g.begins }

pub extends_trans : (v s w : Snapshot) → Extends v s → Extends s w → Extends v w
extends_trans v s w h k =
    ⊎_elim
    (λ (one : IsSame v s). ⊎_elim (λ (two : IsSame s w). inl (one.0 ∙ two.0, one.1 ∙ two.1)) (λ (two : Follows s w). inr (same_follows v s w one two)) k)
    (λ (one : Follows v s). ⊎_elim (λ (two : IsSame s w). inr (follows_same v s w one two)) (λ (two : Follows s w). inr (follows_trans v s w one two)) k)
    h

extends_last : (v : Snapshot) (vs : List Snapshot) → ChainFrom Follows v vs → Extends v (last_or v vs)
extends_last v [] h = inl (refl, refl)
extends_last v (w ∷ ws) h = extends_trans v w (last_or w ws) (inr h.0) (extends_last w ws h.1)

extends_from : (v : Snapshot) (vs rest : List Snapshot) → ChainFrom Follows v (vs ++ rest) → Extends (last_or v vs) (last_or v (vs ++ rest))
extends_from v [] rest h = extends_last v rest h
extends_from v (w ∷ ws) rest h = extends_from w ws rest h.1

-- the last of a chain extends the last of each beginning of it
pub extends_beginning : (vs whole : List Snapshot) (last end : Snapshot) → IsPrefix vs whole → Ends vs last → IsViewOf whole end → Extends last end
extends_beginning [] whole last end p e of = absurd e
extends_beginning (v ∷ vs) whole last end p e of =
    let chain : ChainFrom Follows v (vs ++ p.0) = subst (λ (l : List Snapshot). IsChain Follows l) (sym p.1) of.0 in
    let ends : last_or v (vs ++ p.0) ≡ end = subst (λ (l : List Snapshot). Ends l end) (sym p.1) of.1 in
    subst (λ (w : Snapshot). Extends last w) ends (subst (λ (w : Snapshot). Extends w (last_or v (vs ++ p.0))) e (extends_from v vs p.0 chain))

-- what a viewer was told of is extended by the end of each chain that begins with what it saw last
pub extends_told : (viewer : Watching) (told : Snapshot) (list : List Snapshot) (end : Snapshot) → IsMet viewer told → IsPrefix viewer.seen list → IsViewOf list end → Extends told end
extends_told viewer told list end m p of = extends_trans told m.0 end m.2 (extends_beginning viewer.seen list m.0 end p m.1 of)

-- more lists before those before
pub longer : (new old taken more rest : List (List Snapshot)) → new ≡ more ++ old → old ≡ rest ++ taken → new ≡ (more ++ rest) ++ taken
longer new old taken more rest a b = a ∙ (ap (λ w. more ++ w) b ∙ sym (append_assoc more rest taken))

-- a list that begins with all that a seat knows begins with what it knew before, and saw last then
pub begins_seen : (ls taken more : List (List Snapshot)) (list seen : List Snapshot) → ls ≡ more ++ taken → seen_by taken ≡ seen → AllBegin ls list → IsPrefix seen list
begins_seen ls taken more list seen is last h =
    subst (λ (l : List Snapshot). IsPrefix l list) last (first_begins taken list (all_rest more taken list (subst (λ (w : List (List Snapshot)). AllBegin w list) is h)))
