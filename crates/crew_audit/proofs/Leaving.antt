-- Lists in which no flight is missed that a test asks for.
use Rattle.std.proofs.Common.{◌≡◌, ℕ, List, [], ◌∷◌, ◌++◌, ◌&&◌, ◌≤ℤ◌, int_le, arith, Bool, true, false, cond, refl, sym, ap, subst, ◌∙◌, filter, inl, inr}
use Rattle.std.specs.List.{flat_map}
use Rattle.std.specs.Ordering.{eq_by_cmp}
use Rattle.std.specs.Cmp.{eq_by_cmp_equiv}
use Rattle.std.proofs.lemmas.Int.{ints}
use Rattle.crew_flights.specs.Codes.{code_cmp, code_cmp_total}
use Rattle.crew_flights.specs.declared.flight.Flight.{Flight}
use Rattle.crew_resource.specs.Members.{Member}
use Rattle.crew_pairing.proofs.InList.{Member-either, filter-Member}
use Rattle.crew_audit.specs.Machinery.Leaving.{AreAmong, AreBlocks, AreGroups, IsGroup, departs_within, leaves, leaves_within}
use Rattle.crew_audit.specs.declared.flight_list.Block.{Block}
use Rattle.crew_audit.specs.declared.flight_list.Leaving.{Leaving}
use Rattle.crew_audit.specs.declared.flight_list.Span.{Span}

-- what gives nothing may be left out
kept : {X Y : Type 0} (F : X → List Y) (x : X) (ys : List X) (zs : List Y) (b : Bool) → (b ≡ false → F x ≡ []) → flat_map F ys ≡ zs → flat_map F (cond b (x ∷ ys) ys) ≡ F x ++ zs
kept F x ys zs true none e = ap (λ t. F x ++ t) e
kept F x ys zs false none e = rw (none refl) e

flat-kept : {X Y : Type 0} (F : X → List Y) (p : X → Bool) (xs : List X) → ((x : X) → Member xs x → p x ≡ false → F x ≡ []) → flat_map F (filter p xs) ≡ flat_map F xs
flat-kept F p [] h = refl
flat-kept F p (x ∷ xs) h = kept F x (filter p xs) (flat_map F xs) (p x) (h x (inl refl)) (flat-kept F p xs (λ y m. h y (inr m)))

-- what isn't asked for doesn't add to these
pub flat-among : {Y : Type 0} (asked : Flight → Bool) (F : Flight → List Y) (flights found : List Flight) → AreAmong asked flights found
    → ((f : Flight) → Member flights f → asked f ≡ false → F f ≡ []) → flat_map F found ≡ flat_map F flights
flat-among asked F flights found i none =
    sym (flat-kept F asked found (λ f m. none f (i.known f m)))
    ∙ (ap (flat_map F) i.same ∙ flat-kept F asked flights none)

-- a test that asks for less finds the same after one that asks for more
narrower-by : {X : Type 0} (p q : X → Bool) (x : X) (xs : List X) (b : Bool) → p x ≡ b → (q x ≡ true → p x ≡ true) → filter q (filter p xs) ≡ filter q xs → filter q (cond b (x ∷ filter p xs) (filter p xs)) ≡ filter q (x ∷ xs)
narrower-by p q x xs true e h same = ap (λ t. cond (q x) (x ∷ t) t) same
narrower-by p q x xs false e h same = same ∙ skipped (q x) refl
  where
    skipped : (b : Bool) → q x ≡ b → filter q xs ≡ cond b (x ∷ filter q xs) (filter q xs)
    skipped true t = cc (h t, e)
    skipped false t = refl

narrower : {X : Type 0} (p q : X → Bool) (xs : List X) → ((x : X) → q x ≡ true → p x ≡ true) → filter q (filter p xs) ≡ filter q xs
narrower p q [] h = refl
narrower p q (x ∷ xs) h = narrower-by p q x xs (p x) refl (h x) (narrower p q xs h)

pub among-all : (asked : Flight → Bool) (flights : List Flight) → AreAmong asked flights flights
among-all asked flights = record { same = refl; known = λ f m. m }

pub among-fewer : (p q : Flight → Bool) (flights found : List Flight) → ((f : Flight) → q f ≡ true → p f ≡ true) → AreAmong p flights found → AreAmong q flights found
among-fewer p q flights found h i = record {
  same = sym (narrower p q found h) ∙ ap (filter q) i.same ∙ narrower p q flights h;
  known = i.known;
}

-- those that were picked out
pub among-made : (asked : Flight → Bool) (flights found : List Flight) → found ≡ filter asked flights → AreAmong asked flights found
among-made asked flights found e = record {
  same = ap (filter asked) e ∙ narrower asked asked flights (λ f t. t);
  known = λ f m. (filter-Member asked flights f (subst (λ (fs : List Flight). Member fs f) e m)).1;
}

-- among those that were found by one test, those that were found by another
pub among-both : (p q r : Flight → Bool) (flights found more : List Flight) → ((f : Flight) → r f ≡ true → p f ≡ true) → ((f : Flight) → r f ≡ true → q f ≡ true)
    → AreAmong p flights found → AreAmong q found more → AreAmong r flights more
among-both p q r flights found more h k i j =
    let first = among-fewer p r flights found h i in
    let second = among-fewer q r found more k j in
    record {
      same = second.same ∙ first.same;
      known = λ f m. first.known f (second.known f m);
    }

and-first : (a b : Bool) → a && b ≡ true → a ≡ true
and-first true b e = refl
and-first false b e = e

and-second : (a b : Bool) → a && b ≡ true → b ≡ true
and-second true b e = e
and-second false b e = cc

-- of a group, by its blocks or not
pub among-group : (airport : List ℕ) (span : Span) (flights found : List Flight) (g : Leaving) → IsGroup flights g → ((f : Flight) → leaves g.airport f ≡ leaves airport f)
    → AreAmong (departs_within span) g.flights.items found → AreAmong (leaves_within airport span) flights found
among-group airport span flights found g is same i =
    among-both (leaves g.airport) (departs_within span) (leaves_within airport span) flights g.flights.items found
    (λ f t. same f ∙ and-first (leaves airport f) (departs_within span f) t)
    (λ f t. and-second (leaves airport f) (departs_within span f) t) is.all i

pub among-whole : (airport : List ℕ) (flights : List Flight) (g : Leaving) → IsGroup flights g → ((f : Flight) → leaves g.airport f ≡ leaves airport f) → AreAmong (leaves airport) flights g.flights.items
among-whole airport flights g is same = among-fewer (leaves g.airport) (leaves airport) flights g.flights.items (λ f t. same f ∙ t) is.all

-- airports that are the same have the same flights
pub leaves-same : (a b : List ℕ) (f : Flight) → eq_by_cmp code_cmp a b ≡ true → leaves a f ≡ leaves b f
leaves-same a b f e = (eq_by_cmp_equiv code_cmp_total).congr a b f.from e

-- a flight within a span is within a wider one
pub within-wider : (span wide : Span) (f : Flight) → wide.from ≤ℤ span.from → span.end ≤ℤ wide.end → departs_within span f ≡ true → departs_within wide f ≡ true
within-wider span wide f a b t =
    both (int_le wide.from f.dep) (int_le f.dep wide.end) (early (and-first (int_le span.from f.dep) (int_le f.dep span.end) t)) (late (and-second (int_le span.from f.dep) (int_le f.dep span.end) t))
  where
    early : int_le span.from f.dep ≡ true → int_le wide.from f.dep ≡ true
    early h = grind (arith, ints, a)

    late : int_le f.dep span.end ≡ true → int_le f.dep wide.end ≡ true
    late h = grind (arith, ints, b)

    both : (p q : Bool) → p ≡ true → q ≡ true → p && q ≡ true
    both true q e g = g
    both false q e g = cc

-- one block more
pub blocks-more : (flights : List Flight) (blocks : List Block) (new : Block) → AreBlocks flights blocks → AreAmong (departs_within new.span) flights new.flights.items → AreBlocks flights (blocks ++ new ∷ [])
blocks-more flights blocks new are i b m =
    elim (Member-either blocks (new ∷ []) b m) [
      | inl h ↦ are b h
      | inr (inl e) ↦ subst (λ (x : Block). AreAmong (departs_within x.span) flights x.flights.items) e i
      | inr (inr h) ↦ absurd h
    ]

-- one airport more
pub groups-more : (flights : List Flight) (groups : List Leaving) (new : Leaving) → AreGroups flights groups → IsGroup flights new → AreGroups flights (groups ++ new ∷ [])
groups-more flights groups new are i g m =
    elim (Member-either groups (new ∷ []) g m) [
      | inl h ↦ are g h
      | inr (inl e) ↦ subst (IsGroup flights) e i
      | inr (inr h) ↦ absurd h
    ]

pub first-off : (a b : Bool) → a ≡ false → a && b ≡ false
first-off true b e = cc
first-off false b e = refl
