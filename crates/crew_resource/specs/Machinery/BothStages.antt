-- The stages of two resources side by side.
use Rattle.std.specs.Prelude.{◌≡◌, ℕ, Bool, ◌&&◌, Option, Some, None, ℤ}
use Rattle.std.specs.Ordering.{ordering_then}
use Rattle.std.proofs.Common.{◌∙◌, ap}
use Rattle.std.proofs.lemmas.Bool.{and_parts, and_from}
use Rattle.std.specs.declared.cmp.Ordering.{Ordering}
use Rattle.crew_resource.specs.Machinery.Both.{both, both_wait, both_board, either_side, side_of}
use Rattle.crew_resource.specs.Machinery.BothLaws.{both_parts}
use Rattle.crew_resource.specs.Stages.{StagedLaws, ShiftLaws, CountingLaws, BoundLaws}

pub both_staged : {A B I X G : Type 0} (oa : I → Option A) (ea : A → I → I → Option A)
    (la : A → A → Bool) (ob : I → Option B) (eb : B → I → I → Option B) (lb : B → B → Bool)
    (arrives : I → X) (leaves : I → G)
    (ia : G → A) (ib : G → B) (wa : A → X → G → A) (wb : B → X → G → B) (ba : A → I → Option A)
    (bb : B → I → Option B)
    → StagedLaws oa ea la arrives leaves ia wa ba → StagedLaws ob eb lb arrives leaves ib wb bb
    → StagedLaws {V = A × B} (λ i. both (oa i) (ob i))
    (λ v last i. both (ea v.0 last i) (eb v.1 last i)) (λ x y. la x.0 y.0 && lb x.1 y.1)
    arrives leaves (λ g. (ia g, ib g)) (both_wait wa wb) (both_board ba bb)
both_staged oa ea la ob eb lb arrives leaves ia ib wa wb ba bb p q = record {
  opening = λ i. ap (λ z. both z (ob i)) (p.opening i) ∙ ap (both (ba (ia (leaves i)) i))
      (q.opening i);
  extension = λ v last i. ap (λ z. both z (eb v.1 last i)) (p.extension v.0 last i) ∙ ap
      (both (ba (wa v.0 (arrives last) (leaves i)) i)) (q.extension v.1 last i);
  wait_monotone = λ a b x g h.
      let f = and_parts (la a.0 b.0) (lb a.1 b.1) h in
      and_from (la (wa a.0 x g) (wa b.0 x g)) (lb (wb a.1 x g) (wb b.1 x g))
      (p.wait_monotone a.0 b.0 x g f.0) (q.wait_monotone a.1 b.1 x g f.1);
  board_monotone = λ a b c i h e.
      let f = and_parts (la a.0 b.0) (lb a.1 b.1) h in
      let k = both_parts (ba b.0 i) (bb b.1 i) c e in
      let s = p.board_monotone a.0 b.0 c.0 i f.0 k.0 in
      let t = q.board_monotone a.1 b.1 c.1 i f.1 k.1 in (
        (s.0, t.0),
        ap (λ z. both z (bb a.1 i)) s.1 ∙ ap (both (Some s.0)) t.1,
        and_from
            (la s.0 c.0) (lb t.0 c.1) s.2 t.2,
      );
}

pub both_shifts : {A B I X G : Type 0} (R : A → A → Ordering) (S : B → B → Ordering)
    (la : A → A → Bool) (lb : B → B → Bool)
    (wa : A → X → G → A) (wb : B → X → G → B) (ba : A → I → Option A) (bb : B → I → Option B)
    → ShiftLaws R la wa ba → ShiftLaws S lb wb bb
    → ShiftLaws {V = A × B} (λ x y. ordering_then (R x.0 y.0) (S x.1 y.1))
    (λ x y. la x.0 y.0 && lb x.1 y.1) (both_wait wa wb) (both_board ba bb)
both_shifts R S la lb wa wb ba bb p q = record {
  wait_strict = λ a b x g e.
      ap (λ z. (z, a.1)) (p.wait_strict a.0 b.0 x g (ap (λ z. z.0) e)) ∙ ap (λ z. (b.0, z))
      (q.wait_strict a.1 b.1 x g (ap (λ z. z.1) e));
  wait_reflects = λ a b x g h.
      let f = and_parts (la (wa a.0 x g) (wa b.0 x g)) (lb (wb a.1 x g) (wb b.1 x g)) h in
      and_from (la a.0 b.0) (lb a.1 b.1) (p.wait_reflects a.0 b.0 x g f.0)
      (q.wait_reflects a.1 b.1 x g f.1);
  wait_listed = λ a b x g.
      ap (λ o. ordering_then o (S (wb a.1 x g) (wb b.1 x g))) (p.wait_listed a.0 b.0 x g) ∙ ap
      (ordering_then (R a.0 b.0)) (q.wait_listed a.1 b.1 x g);
  board_reflects = λ a b y z i d e h.
      let f = and_parts (la y.0 z.0) (lb y.1 z.1) h in
      let j = both_parts (ba a.0 i) (bb a.1 i) y d in
      let k = both_parts (ba b.0 i) (bb b.1 i) z e in
      and_from (la a.0 b.0) (lb a.1 b.1) (p.board_reflects a.0 b.0 y.0 z.0 i j.0 k.0 f.0)
      (q.board_reflects a.1 b.1 y.1 z.1 i j.1 k.1 f.1);
  board_listed = λ a b y z i d e.
      let j = both_parts (ba a.0 i) (bb a.1 i) y d in
      let k = both_parts (ba b.0 i) (bb b.1 i) z e in
      ap (λ o. ordering_then o (S y.1 z.1)) (p.board_listed a.0 b.0 y.0 z.0 i j.0 k.0) ∙ ap
      (ordering_then (R a.0 b.0)) (q.board_listed a.1 b.1 y.1 z.1 i j.1 k.1);
}

-- the pair counts as that side does which counts
pub both_counting : {A B I X G : Type 0} (ma mb : Option ℕ) (ca : A → ℤ) (cb : B → ℤ)
    (ia : G → A) (ib : G → B) (wa : A → X → G → A) (wb : B → X → G → B) (ba : A → I → Option A)
    (bb : B → I → Option B)
    → ((m : ℕ) → ma ≡ Some m → CountingLaws ca m ia wa ba)
    → ((m : ℕ) → mb ≡ Some m → CountingLaws cb m ib wb bb)
    → (m : ℕ) → either_side ma mb ≡ Some m
    → CountingLaws {V = A × B} (λ v. side_of ma (ca v.0) (cb v.1)) m (λ g. (ia g, ib g))
    (both_wait wa wb) (both_board ba bb)
both_counting None mb ca cb ia ib wa wb ba bb p q m e =
    let k = q m e in record {
      none_yet = λ g. k.none_yet g;
      none_more = λ v x g. k.none_more v.1 x g;
      one_more = λ v z i d. k.one_more v.1 z.1 i (both_parts (ba v.0 i) (bb v.1 i) z d).1;
      ends = λ v z i d. k.ends v.1 z.1 i (both_parts (ba v.0 i) (bb v.1 i) z d).1;
    }
both_counting (Some n) mb ca cb ia ib wa wb ba bb p q m e =
    let k = p m e in record {
      none_yet = λ g. k.none_yet g;
      none_more = λ v x g. k.none_more v.0 x g;
      one_more = λ v z i d. k.one_more v.0 z.0 i (both_parts (ba v.0 i) (bb v.1 i) z d).0;
      ends = λ v z i d. k.ends v.0 z.0 i (both_parts (ba v.0 i) (bb v.1 i) z d).0;
    }

pub both_bounds : {A B I X G : Type 0} (is_sound : I → Type 0) (may_begin : G → Type 0)
    (may_follow : X → G → Type 0) (arrives : I → X) (leaves : I → G)
    (ia : G → A) (wa : A → X → G → A) (ba : A → I → Option A) (sa : I → Type 0)
    (ea : A → I → I → Type 0) (da : G → Type 0) (va : A → X → G → Type 0)
    (oa : A → I → Type 0) (fa : ℕ → Type 0) (ra aa : ℕ → A → Type 0)
    (ib : G → B) (wb : B → X → G → B) (bb : B → I → Option B) (sb : I → Type 0)
    (eb : B → I → I → Type 0) (db : G → Type 0) (vb : B → X → G → Type 0)
    (ob : B → I → Type 0) (fb : ℕ → Type 0) (rb ab : ℕ → B → Type 0)
    → BoundLaws is_sound may_begin may_follow arrives leaves ia wa ba sa ea da va oa fa ra aa
    → BoundLaws is_sound may_begin may_follow arrives leaves ib wb bb sb eb db vb ob fb rb ab
    → BoundLaws {V = A × B} is_sound may_begin may_follow arrives leaves (λ g. (ia g, ib g))
    (both_wait wa wb) (both_board ba bb)
    (λ i. sa i × sb i) (λ v last i. ea v.0 last i × eb v.1 last i) (λ g. da g × db g)
    (λ v x g. va v.0 x g × vb v.1 x g) (λ v i. oa v.0 i × ob v.1 i)
    (λ n. fa n × fb n) (λ n v. ra n v.0 × rb n v.1) (λ n v. aa n v.0 × ab n v.1)
both_bounds is_sound may_begin may_follow arrives leaves ia wa ba sa ea da va oa fa ra aa ib wb bb
    sb eb db vb ob fb rb ab p q = record {
      idle_ready = λ g h. (p.idle_ready g h, q.idle_ready g h);
      wait_ready = λ n v x g f a. (p.wait_ready n v.0 x g f a.0, q.wait_ready n v.1 x g f a.1);
      board_arrived = λ n v z i s r e.
          let k = both_parts (ba v.0 i) (bb v.1 i) z e in
          (p.board_arrived n v.0 z.0 i s r.0 k.0, q.board_arrived n v.1 z.1 i s r.1 k.1);
      fewer = λ n k h f. (p.fewer n k h f.0, q.fewer n k h f.1);
      starts = λ i s b f. (p.starts i s b f.0, q.starts i s b f.1);
      extends = λ n v last i s t f h a.
          (p.extends n v.0 last i s t f h.0 a.0, q.extends n v.1 last i s t f h.1 a.1);
      idles = λ g b f. (p.idles g b f.0, q.idles g b f.1);
      waits = λ n v x g f h a. (p.waits n v.0 x g f h.0 a.0, q.waits n v.1 x g f h.1 a.1);
      boards = λ n v i s h r. (p.boards n v.0 i s h.0 r.0, q.boards n v.1 i s h.1 r.1);
    }
