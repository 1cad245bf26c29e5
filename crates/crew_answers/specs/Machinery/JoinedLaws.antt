-- Laws of values in pairs are laws of the same values by name.
use Rattle.std.specs.Prelude.{◌≡◌, ℕ, Bool, true, ◌&&◌, List, ◌∷◌, [], ◌++◌, Option, Some, None, ℤ}
use Rattle.std.specs.Option.{option_and_then, option_map}
use Rattle.std.proofs.Common.{refl, ◌∙◌, ap}
use Rattle.std.proofs.lemmas.Bool.{and_from, and_parts}
use Rattle.std.specs.declared.cmp.Ordering.{Ordering}
use Rattle.crew_forgetful.specs.Forgetful.{Forgetful}
use Rattle.crew_resource.specs.Resource.{OrderLaws, StepLaws}
use Rattle.crew_resource.specs.Stages.{BoundLaws, CountingLaws, ShiftLaws, StagedLaws}
use Rattle.crew_resource.specs.Machinery.Both.{both_board, both_wait}
use Rattle.crew_resource.specs.Machinery.BothLaws.{both_parts}
use Rattle.crew_long.specs.declared.recent.Recent.{Recent}
use Rattle.crew_long.specs.declared.rest_end.RestEnd.{RestEnd}
use Rattle.crew_pairing.specs.declared.vector.PairingVector.{PairingVector}
use Rattle.crew_answers.specs.Machinery.Joined.{Parts, joined, parts_of}
use Rattle.crew_answers.specs.declared.value.LongValue.{LongValue}

pub unjoined : (o : Option Parts) (v : LongValue) → option_map joined o ≡ Some v → o ≡ Some (parts_of v)
unjoined None v e = absurd (let q : ⊥ = (cc) in q)
unjoined (Some p) v e = let q : joined p ≡ v = (cc) in ap (λ z. Some (parts_of z)) q

joined-then : (f : Parts → Option Parts) (o : Option Parts)
    → option_map joined (option_and_then f o)
    ≡ option_and_then (λ v. option_map joined (f (parts_of v))) (option_map joined o)
joined-then f None = refl
joined-then f (Some p) = refl

module _ (below : Parts → Parts → Bool) where
  abbrev pub below_by_name : LongValue → LongValue → Bool
  below_by_name a b = below (parts_of a) (parts_of b)

  pub joined_order : (cmp : Parts → Parts → Ordering) → OrderLaws cmp below
      → OrderLaws (λ a b. cmp (parts_of a) (parts_of b)) below_by_name
  joined_order cmp p = record {
    exact = λ a b e. ap joined (p.exact (parts_of a) (parts_of b) e);
    reflexive = λ a. p.reflexive (parts_of a);
    transitive = λ a b c h k. p.transitive (parts_of a) (parts_of b) (parts_of c) h k;
    antisymmetric = λ a b h k. ap joined (p.antisymmetric (parts_of a) (parts_of b) h k);
  }

  pub joined_steps : {I : Type 0} (opens : I → Option Parts) (extends : Parts → I → I → Option Parts)
      (value_of : List I → Option Parts) → StepLaws opens extends below value_of
      → StepLaws (λ i. option_map joined (opens i))
      (λ v last next. option_map joined (extends (parts_of v) last next)) below_by_name
      (λ is. option_map joined (value_of is))
  joined_steps opens extends value_of p = record {
    monotone = λ a b c last next h e.
        let s = p.monotone (parts_of a) (parts_of b) (parts_of c) last next h
        (unjoined (extends (parts_of b) last next) c e) in
        (joined s.0, ap (option_map joined) s.1, s.2);
    opening = λ i. ap (option_map joined) (p.opening i);
    extension = λ before last next. ap (option_map joined) (p.extension before last next) ∙
        joined-then (λ v. extends v last next) (value_of (before ++ last ∷ []));
  }

  pub joined_staged : {I X G : Type 0} (opens : I → Option Parts)
      (extends : Parts → I → I → Option Parts) (arrives : I → X) (leaves : I → G)
      (idle : G → Parts) (wait : Parts → X → G → Parts) (board : Parts → I → Option Parts)
      → StagedLaws opens extends below arrives leaves idle wait board
      → StagedLaws (λ i. option_map joined (opens i))
      (λ v last next. option_map joined (extends (parts_of v) last next)) below_by_name arrives
      leaves (λ g. joined (idle g)) (λ v x g. joined (wait (parts_of v) x g))
      (λ v i. option_map joined (board (parts_of v) i))
  joined_staged opens extends arrives leaves idle wait board p = record {
    opening = λ i. ap (option_map joined) (p.opening i);
    extension = λ v last next. ap (option_map joined) (p.extension (parts_of v) last next);
    wait_monotone = λ a b x g h. p.wait_monotone (parts_of a) (parts_of b) x g h;
    board_monotone = λ a b c i h e.
        let s = p.board_monotone (parts_of a) (parts_of b) (parts_of c) i h
        (unjoined (board (parts_of b) i) c e) in
        (joined s.0, ap (option_map joined) s.1, s.2);
  }

  pub joined_shifts : {I X G : Type 0} (cmp : Parts → Parts → Ordering) (wait : Parts → X → G → Parts)
      (board : Parts → I → Option Parts) → ShiftLaws cmp below wait board
      → ShiftLaws (λ a b. cmp (parts_of a) (parts_of b)) below_by_name (λ v x g. joined (wait (parts_of v) x g))
      (λ v i. option_map joined (board (parts_of v) i))
  joined_shifts cmp wait board p = record {
    wait_strict = λ a b x g e. ap joined
        (p.wait_strict (parts_of a) (parts_of b) x g (ap parts_of e));
    wait_reflects = λ a b x g h. p.wait_reflects (parts_of a) (parts_of b) x g h;
    wait_listed = λ a b x g. p.wait_listed (parts_of a) (parts_of b) x g;
    board_reflects = λ a b y z i d e h. p.board_reflects (parts_of a) (parts_of b) (parts_of y)
        (parts_of z) i (unjoined (board (parts_of a) i) y d)
        (unjoined (board (parts_of b) i) z e) h;
    board_listed = λ a b y z i d e. p.board_listed (parts_of a) (parts_of b) (parts_of y)
        (parts_of z) i (unjoined (board (parts_of a) i) y d)
        (unjoined (board (parts_of b) i) z e);
  }

  -- the sums alone are never forgotten
  pub joined_forgetful : {I X G : Type 0} (same : PairingVector → PairingVector → Bool)
      (wait : Parts → X → G → Parts) (board : Parts → I → Option Parts)
      → Forgetful below (λ a b. same a.0 b.0 && true) wait board
      → Forgetful below_by_name (λ a b. same a.sums b.sums)
      (λ v x g. joined (wait (parts_of v) x g))
      (λ v i. option_map joined (board (parts_of v) i))
  joined_forgetful same wait board p = record {
    same_itself = λ a. left a.sums a.sums (p.same_itself (parts_of a));
    same_between = λ a b c h k e.
        let r = p.same_between (parts_of a) (parts_of b) (parts_of c) h k
        (both_ways a.sums c.sums e) in
        (left a.sums b.sums r.0, left b.sums c.sums r.1);
    wait_monotone = λ a b x g h. p.wait_monotone (parts_of a) (parts_of b) x g h;
    wait_keeps = λ a b x g h e. left a.sums b.sums
        (p.wait_keeps (parts_of a) (parts_of b) x g h
        (both_ways (wait (parts_of a) x g).0 (wait (parts_of b) x g).0 e));
    board_monotone = λ a b c d h e.
        let s = p.board_monotone (parts_of a) (parts_of b) (parts_of c) d h
        (unjoined (board (parts_of b) d) c e) in
        (joined s.0, ap (option_map joined) s.1, s.2);
    board_keeps = λ a b y z d h k l e. left a.sums b.sums
        (p.board_keeps (parts_of a) (parts_of b) (parts_of y) (parts_of z) d h
        (unjoined (board (parts_of a) d) y k) (unjoined (board (parts_of b) d) z l)
        (both_ways y.sums z.sums e));
  }
    where
      left : (a b : PairingVector) → (same a b && true) ≡ true → same a b ≡ true
      left a b h = (and_parts (same a b) true h).0

      both_ways : (a b : PairingVector) → same a b ≡ true → (same a b && true) ≡ true
      both_ways a b h = and_from (same a b) true h refl

-- the sums count
pub joined_counting : {I X G : Type 0} (count : PairingVector → ℤ) (most : ℕ)
    (idle : G → PairingVector) (wait : PairingVector → X → G → PairingVector)
    (board : PairingVector → I → Option PairingVector)
    (past_idle : G → RestEnd × Recent) (past_wait : RestEnd × Recent → X → G → RestEnd × Recent)
    (past_board : RestEnd × Recent → I → Option (RestEnd × Recent))
    → CountingLaws count most idle wait board
    → CountingLaws (λ v. count v.sums) most (λ g. joined (idle g, past_idle g))
    (λ v x g. joined (both_wait wait past_wait (parts_of v) x g))
    (λ v i. option_map joined (both_board board past_board (parts_of v) i))
joined_counting {I} count most idle wait board past_idle past_wait past_board p = record {
  none_yet = λ g. p.none_yet g;
  none_more = λ v x g. p.none_more v.sums x g;
  one_more = λ v z i e. p.one_more v.sums z.sums i (sums_board v z i e);
  ends = λ v z i e. p.ends v.sums z.sums i (sums_board v z i e);
}
  where
    sums_board : (v z : LongValue) (i : I)
        → option_map joined (both_board board past_board (parts_of v) i) ≡ Some z
        → board v.sums i ≡ Some z.sums
    sums_board v z i e = (both_parts (board v.sums i) (past_board (v.rest_end, v.recent) i)
        (parts_of z) (unjoined (both_board board past_board (parts_of v) i) z e)).0

pub joined_bounds : {I X G : Type 0} (is_sound : I → Type 0) (may_begin : G → Type 0)
    (may_follow : X → G → Type 0) (arrives : I → X) (leaves : I → G)
    (idle : G → Parts) (wait : Parts → X → G → Parts) (board : Parts → I → Option Parts)
    (can_start : I → Type 0) (can_extend : Parts → I → I → Type 0) (can_idle : G → Type 0)
    (can_wait : Parts → X → G → Type 0) (can_board : Parts → I → Type 0)
    (fits : ℕ → Type 0) (ready arrived : ℕ → Parts → Type 0)
    → BoundLaws is_sound may_begin may_follow arrives leaves idle wait board can_start can_extend
    can_idle can_wait can_board fits ready arrived
    → BoundLaws is_sound may_begin may_follow arrives leaves (λ g. joined (idle g))
    (λ v x g. joined (wait (parts_of v) x g))
    (λ v i. option_map joined (board (parts_of v) i))
    can_start (λ v. can_extend (parts_of v)) can_idle (λ v. can_wait (parts_of v))
    (λ v. can_board (parts_of v)) fits (λ n v. ready n (parts_of v))
    (λ n v. arrived n (parts_of v))
joined_bounds is_sound may_begin may_follow arrives leaves idle wait board can_start can_extend
    can_idle can_wait can_board fits ready arrived p = record {
      idle_ready = p.idle_ready;
      wait_ready = λ n v x g f a. p.wait_ready n (parts_of v) x g f a;
      board_arrived = λ n v z i s r e. p.board_arrived n (parts_of v) (parts_of z) i s r
          (unjoined (board (parts_of v) i) z e);
      fewer = p.fewer;
      starts = p.starts;
      extends = λ n v last i s t f h a. p.extends n (parts_of v) last i s t f h a;
      idles = p.idles;
      waits = λ n v x g f h a. p.waits n (parts_of v) x g f h a;
      boards = λ n v i s h r. p.boards n (parts_of v) i s h r;
    }
