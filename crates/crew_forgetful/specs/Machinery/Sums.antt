-- Which parts of a value are sums: all of it, nothing of it, or those of two sides.
use Rattle.std.specs.Prelude.{Bool, true, ◌&&◌, Option, Some}
use Rattle.std.proofs.Common.{refl, ◌∙◌, ap}
use Rattle.std.proofs.lemmas.Bool.{and_parts, and_from}
use Rattle.std.specs.declared.cmp.Ordering.{Ordering}
use Rattle.crew_resource.specs.Resource.{OrderLaws}
use Rattle.crew_resource.specs.Stages.{StagedLaws, ShiftLaws}
use Rattle.crew_resource.specs.Machinery.Both.{both, both_wait, both_board}
use Rattle.crew_resource.specs.Machinery.BothLaws.{both_parts}
use Rattle.crew_forgetful.specs.Forgetful.{Forgetful}

-- at most both ways
abbrev pub is_same : {V : Type 0} → (V → V → Bool) → V → V → Bool
is_same le a b = le a b && le b a

-- stages that shift values forget nothing: the same sums are the same value
pub shifts_forgetful : {V I X G : Type 0} (opens : I → Option V) (extends : V → I → I → Option V) (cmp : V → V → Ordering) (le : V → V → Bool) (arrives : I → X) (leaves : I → G) (idle : G → V) (wait : V → X → G → V) (board : V → I → Option V)
    → OrderLaws cmp le → StagedLaws opens extends le arrives leaves idle wait board → ShiftLaws cmp le wait board → Forgetful le (is_same le) wait board
shifts_forgetful opens extends cmp le arrives leaves idle wait board order staged shifts = record {
  same_itself = λ a. and_from (le a a) (le a a) (order.reflexive a) (order.reflexive a);
  same_between = λ a b c h k e.
      let f = and_parts (le a c) (le c a) e in (
        and_from (le a b) (le b a) h (order.transitive b c a k f.1),
        and_from (le b c) (le c b) k (order.transitive c a b f.1 h),
      );
  wait_monotone = staged.wait_monotone;
  wait_keeps = λ a b x g h e.
      let f = and_parts (le (wait a x g) (wait b x g)) (le (wait b x g) (wait a x g)) e in
      and_from (le a b) (le b a) h (shifts.wait_reflects b a x g f.1);
  board_monotone = staged.board_monotone;
  board_keeps = λ a b y z d h p q e.
      let f = and_parts (le y z) (le z y) e in
      and_from (le a b) (le b a) h (shifts.board_reflects b a z y d q p f.1);
}

-- stages that keep the order alone may forget all: any two values have the same sums, none
pub staged_forgetful : {V I X G : Type 0} (opens : I → Option V) (extends : V → I → I → Option V) (le : V → V → Bool) (arrives : I → X) (leaves : I → G) (idle : G → V) (wait : V → X → G → V) (board : V → I → Option V)
    → StagedLaws opens extends le arrives leaves idle wait board → Forgetful le (λ a b. true) wait board
staged_forgetful opens extends le arrives leaves idle wait board staged = record {
  same_itself = λ a. refl;
  same_between = λ a b c h k e. (refl, refl);
  wait_monotone = staged.wait_monotone;
  wait_keeps = λ a b x g h e. refl;
  board_monotone = staged.board_monotone;
  board_keeps = λ a b y z d h p q e. refl;
}

-- side by side
pub both_forgetful : {N A B G X : Type 0} (la sa : A → A → Bool) (wa : A → X → G → A) (oa : A → N → Option A)
    (lb sb : B → B → Bool) (wb : B → X → G → B) (ob : B → N → Option B)
    → Forgetful la sa wa oa → Forgetful lb sb wb ob
    → Forgetful {V = A × B} (λ x y. la x.0 y.0 && lb x.1 y.1) (λ x y. sa x.0 y.0 && sb x.1 y.1) (both_wait wa wb) (both_board oa ob)
both_forgetful la sa wa oa lb sb wb ob p q = record {
  same_itself = λ a. and_from (sa a.0 a.0) (sb a.1 a.1) (p.same_itself a.0) (q.same_itself a.1);
  same_between = λ a b c h k e.
      let f = and_parts (la a.0 b.0) (lb a.1 b.1) h in
      let g = and_parts (la b.0 c.0) (lb b.1 c.1) k in
      let s = and_parts (sa a.0 c.0) (sb a.1 c.1) e in
      let l = p.same_between a.0 b.0 c.0 f.0 g.0 s.0 in
      let r = q.same_between a.1 b.1 c.1 f.1 g.1 s.1 in
      (and_from (sa a.0 b.0) (sb a.1 b.1) l.0 r.0, and_from (sa b.0 c.0) (sb b.1 c.1) l.1 r.1);
  wait_monotone = λ a b x g h.
      let f = and_parts (la a.0 b.0) (lb a.1 b.1) h in
      and_from (la (wa a.0 x g) (wa b.0 x g)) (lb (wb a.1 x g) (wb b.1 x g)) (p.wait_monotone a.0 b.0 x g f.0) (q.wait_monotone a.1 b.1 x g f.1);
  wait_keeps = λ a b x g h e.
      let f = and_parts (la a.0 b.0) (lb a.1 b.1) h in
      let s = and_parts (sa (wa a.0 x g) (wa b.0 x g)) (sb (wb a.1 x g) (wb b.1 x g)) e in
      and_from (sa a.0 b.0) (sb a.1 b.1) (p.wait_keeps a.0 b.0 x g f.0 s.0) (q.wait_keeps a.1 b.1 x g f.1 s.1);
  board_monotone = λ a b c d h e.
      let f = and_parts (la a.0 b.0) (lb a.1 b.1) h in
      let k = both_parts (oa b.0 d) (ob b.1 d) c e in
      let s = p.board_monotone a.0 b.0 c.0 d f.0 k.0 in
      let t = q.board_monotone a.1 b.1 c.1 d f.1 k.1 in
      ((s.0, t.0), ap (λ z. both z (ob a.1 d)) s.1 ∙ ap (both (Some s.0)) t.1, and_from (la s.0 c.0) (lb t.0 c.1) s.2 t.2);
  board_keeps = λ a b y z d h k l e.
      let f = and_parts (la a.0 b.0) (lb a.1 b.1) h in
      let i = both_parts (oa a.0 d) (ob a.1 d) y k in
      let j = both_parts (oa b.0 d) (ob b.1 d) z l in
      let s = and_parts (sa y.0 z.0) (sb y.1 z.1) e in
      and_from (sa a.0 b.0) (sb a.1 b.1) (p.board_keeps a.0 b.0 y.0 z.0 d f.0 i.0 j.0 s.0) (q.board_keeps a.1 b.1 y.1 z.1 d f.1 i.1 j.1 s.1);
}
