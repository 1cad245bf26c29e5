-- Laws of values in pairs are laws of the same values by name.
use Rattle.std.specs.Prelude.{◌≡◌, ℕ, List, ◌∷◌, [], ◌++◌, Option, Some, None}
use Rattle.std.specs.Option.{option_and_then, option_map}
use Rattle.std.specs.Ordering.{int_cmp, ordering_then}
use Rattle.std.proofs.Common.{refl, sym, ◌∙◌, ap}
use Rattle.std.specs.declared.cmp.Ordering.{Ordering}
use Rattle.std.specs.declared.cmp.Ordering.TheVariants.{Less, Equal, Greater}
use Rattle.crew_resource.specs.Resource.{OrderLaws, StepLaws}
use Rattle.crew_resource.specs.Stages.{BoundLaws, ShiftLaws, StagedLaws}
use Rattle.crew_vector.specs.Dominance.{is_at_most}
use Rattle.crew_vector.specs.Fronts.{vector_cmp}
use Rattle.crew_vector.specs.Machinery.Numbers.{Numbers, named, numbers_of}
use Rattle.crew_vector.specs.Machinery.SidesLaws.{sides_at_most, sides_cmp, sides_order}
use Rattle.crew_pairing.specs.declared.vector.PairingVector.{PairingVector}

then-assoc : (x y z : Ordering)
    → ordering_then x (ordering_then y z) ≡ ordering_then (ordering_then x y) z
then-assoc Less y z = refl
then-assoc Equal y z = refl
then-assoc Greater y z = refl

grouped : (a b c d e f g : Ordering)
    → ordering_then a (ordering_then b
    (ordering_then c (ordering_then d (ordering_then e (ordering_then f g)))))
    ≡ ordering_then (ordering_then a (ordering_then b c))
    (ordering_then (ordering_then d e) (ordering_then f g))
grouped a b c d e f g =
    ap (λ z. ordering_then a (ordering_then b (ordering_then c z)))
    (then-assoc d e (ordering_then f g))
    ∙ (ap (ordering_then a) (then-assoc b c (ordering_then (ordering_then d e) (ordering_then f g)))
    ∙ then-assoc a (ordering_then b c) (ordering_then (ordering_then d e) (ordering_then f g)))

pub same-cmp : (a b : PairingVector) → vector_cmp a b ≡ sides_cmp (numbers_of a) (numbers_of b)
same-cmp a b = grouped (int_cmp a.duty_pay b.duty_pay) (int_cmp a.trip_rig b.trip_rig)
    (int_cmp a.guarantee b.guarantee) (int_cmp a.fdp b.fdp) (int_cmp a.fly b.fly)
    (int_cmp a.duties b.duties) (int_cmp a.away b.away)

pub unnamed : (o : Option Numbers) (v : PairingVector) → option_map named o ≡ Some v
    → o ≡ Some (numbers_of v)
unnamed None v e = absurd (let q : ⊥ = (cc) in q)
unnamed (Some n) v e = let q : named n ≡ v = (cc) in ap (λ z. Some (numbers_of z)) q

named-then : (f : Numbers → Option Numbers) (o : Option Numbers)
    → option_map named (option_and_then f o)
    ≡ option_and_then (λ v. option_map named (f (numbers_of v))) (option_map named o)
named-then f None = refl
named-then f (Some n) = refl

pub named_order : OrderLaws vector_cmp is_at_most
named_order = record {
  exact = λ a b e. ap named (sides_order.exact (numbers_of a) (numbers_of b)
      (sym (same-cmp a b) ∙ e));
  reflexive = λ a. sides_order.reflexive (numbers_of a);
  transitive = λ a b c h k. sides_order.transitive (numbers_of a) (numbers_of b) (numbers_of c) h k;
  antisymmetric = λ a b h k. ap named (sides_order.antisymmetric (numbers_of a) (numbers_of b) h k);
}

pub named_steps : {I : Type 0} (opens : I → Option Numbers)
    (extends : Numbers → I → I → Option Numbers) (value_of : List I → Option Numbers)
    → StepLaws opens extends sides_at_most value_of
    → StepLaws (λ i. option_map named (opens i))
    (λ v last next. option_map named (extends (numbers_of v) last next)) is_at_most
    (λ is. option_map named (value_of is))
named_steps opens extends value_of p = record {
  monotone = λ a b c last next h e.
      let s = p.monotone (numbers_of a) (numbers_of b) (numbers_of c) last next h
      (unnamed (extends (numbers_of b) last next) c e) in
      (named s.0, ap (option_map named) s.1, s.2);
  opening = λ i. ap (option_map named) (p.opening i);
  extension = λ before last next. ap (option_map named) (p.extension before last next) ∙
      named-then (λ v. extends v last next) (value_of (before ++ last ∷ []));
}

pub named_staged : {I X G : Type 0} (opens : I → Option Numbers)
    (extends : Numbers → I → I → Option Numbers) (arrives : I → X) (leaves : I → G)
    (idle : G → Numbers) (wait : Numbers → X → G → Numbers) (board : Numbers → I → Option Numbers)
    → StagedLaws opens extends sides_at_most arrives leaves idle wait board
    → StagedLaws (λ i. option_map named (opens i))
    (λ v last next. option_map named (extends (numbers_of v) last next)) is_at_most arrives
    leaves (λ g. named (idle g)) (λ v x g. named (wait (numbers_of v) x g))
    (λ v i. option_map named (board (numbers_of v) i))
named_staged opens extends arrives leaves idle wait board p = record {
  opening = λ i. ap (option_map named) (p.opening i);
  extension = λ v last next. ap (option_map named) (p.extension (numbers_of v) last next);
  wait_monotone = λ a b x g h. p.wait_monotone (numbers_of a) (numbers_of b) x g h;
  board_monotone = λ a b c i h e.
      let s = p.board_monotone (numbers_of a) (numbers_of b) (numbers_of c) i h
      (unnamed (board (numbers_of b) i) c e) in
      (named s.0, ap (option_map named) s.1, s.2);
}

pub named_shifts : {I X G : Type 0} (wait : Numbers → X → G → Numbers)
    (board : Numbers → I → Option Numbers)
    → ShiftLaws sides_cmp sides_at_most wait board
    → ShiftLaws vector_cmp is_at_most (λ v x g. named (wait (numbers_of v) x g))
    (λ v i. option_map named (board (numbers_of v) i))
named_shifts wait board p = record {
  wait_strict = λ a b x g e. ap named
      (p.wait_strict (numbers_of a) (numbers_of b) x g (ap numbers_of e));
  wait_reflects = λ a b x g h. p.wait_reflects (numbers_of a) (numbers_of b) x g h;
  wait_listed = λ a b x g. same-cmp (named (wait (numbers_of a) x g))
      (named (wait (numbers_of b) x g)) ∙
      (p.wait_listed (numbers_of a) (numbers_of b) x g ∙ sym (same-cmp a b));
  board_reflects = λ a b y z i d e h. p.board_reflects (numbers_of a) (numbers_of b)
      (numbers_of y) (numbers_of z) i (unnamed (board (numbers_of a) i) y d)
      (unnamed (board (numbers_of b) i) z e) h;
  board_listed = λ a b y z i d e.
      same-cmp y z
      ∙ (p.board_listed (numbers_of a) (numbers_of b) (numbers_of y) (numbers_of z) i
      (unnamed (board (numbers_of a) i) y d) (unnamed (board (numbers_of b) i) z e) ∙ sym
      (same-cmp a b));
}

pub named_bounds : {I X G : Type 0} (is_sound : I → Type 0) (may_begin : G → Type 0)
    (may_follow : X → G → Type 0) (arrives : I → X) (leaves : I → G)
    (idle : G → Numbers) (wait : Numbers → X → G → Numbers) (board : Numbers → I → Option Numbers)
    (can_start : I → Type 0) (can_extend : Numbers → I → I → Type 0) (can_idle : G → Type 0)
    (can_wait : Numbers → X → G → Type 0) (can_board : Numbers → I → Type 0)
    (fits : ℕ → Type 0) (ready arrived : ℕ → Numbers → Type 0)
    → BoundLaws is_sound may_begin may_follow arrives leaves idle wait board can_start can_extend
    can_idle can_wait can_board fits ready arrived
    → BoundLaws is_sound may_begin may_follow arrives leaves (λ g. named (idle g))
    (λ v x g. named (wait (numbers_of v) x g))
    (λ v i. option_map named (board (numbers_of v) i))
    can_start (λ v. can_extend (numbers_of v)) can_idle (λ v. can_wait (numbers_of v))
    (λ v. can_board (numbers_of v)) fits (λ n v. ready n (numbers_of v))
    (λ n v. arrived n (numbers_of v))
named_bounds is_sound may_begin may_follow arrives leaves idle wait board can_start can_extend
    can_idle can_wait can_board fits ready arrived p = record {
      idle_ready = p.idle_ready;
      wait_ready = λ n v x g f a. p.wait_ready n (numbers_of v) x g f a;
      board_arrived = λ n v z i s r e. p.board_arrived n (numbers_of v) (numbers_of z) i s r
          (unnamed (board (numbers_of v) i) z e);
      fewer = p.fewer;
      starts = p.starts;
      extends = λ n v last i s t f h a. p.extends n (numbers_of v) last i s t f h a;
      idles = p.idles;
      waits = λ n v x g f h a. p.waits n (numbers_of v) x g f h a;
      boards = λ n v i s h r. p.boards n (numbers_of v) i s h r;
    }
