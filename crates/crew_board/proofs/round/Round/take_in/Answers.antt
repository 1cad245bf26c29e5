use Rattle.std.proofs.Common.{◌∙◌, refl, sym, subst}
use Rattle.crew_board.specs.Machinery.Held.{Marked}
use Rattle.crew_board.specs.Machinery.Turns.{IsNowhere, IsOwnPlace, StoresAt}
use Rattle.crew_job.specs.Grounds.{IsGround}
use Rattle.crew_job.specs.Jobs.{IsPlaced, Job}
use Rattle.crew_round.specs.Marks.{IsMarked, IsUndone}
use Rattle.crew_round.specs.declared.mark.Mark.TheVariants.{Done}
use Rattle.crew_board.proofs.round.Round.take_in.Goals as goal

pub returns-in_default : goal.returns-in_default
returns-in_default c =
    record {
      ground = subst (λ (j : Job). IsGround j.ground) c.job.ensures c.own_place.ensures.ground;
      placed = subst IsPlaced c.job.ensures c.own_place.ensures.placed;
      turn = (subst (λ (j : Job). IsNowhere c.args.self.now j) c.job.ensures c.in_default.ensures.own, refl);
    }

pub returns-then-was_done : goal.returns-then-was_done
returns-then-was_done c =
    let place = c.in-Some.place in
    let marked = sym c.mark.ensures ∙ c.is_done-was_done.ensures.0 c.if-was_done.true in
    record {
      ground = subst (λ (j : Job). IsGround j.ground) c.job.ensures c.own_place.ensures.ground;
      placed = subst IsPlaced c.job.ensures c.own_place.ensures.placed;
      turn = (
        place,
        subst (λ (j : Job). IsOwnPlace c.args.self.now j place) c.job.ensures c.in-Some.ensures.own,
        subst (λ (z : Marked). IsMarked z.marks place Done) c.self.view_is marked,
        refl,
      );
    }

pub store-requires-clause-undone : goal.store-requires-clause-undone
store-requires-clause-undone c = (
  c.in-Some.ensures.low,
  λ d. (
      let marked = subst (λ (z : Marked). IsMarked z.marks c.in-Some.place Done) (sym c.self.view_is) d in
      let on = c.is_done-was_done.ensures.1 (c.mark.ensures ∙ marked) in
      let off = c.if-was_done.false in
      let clash = sym off ∙ on in
      let q : ⊥ = (cc) in q),
)

pub returns : goal.returns
returns c =
    let place = c.in-Some.place in
    let undone : IsUndone c.args.self.now.marks place = (
      c.in-Some.ensures.low,
      λ d. (
          let marked = subst (λ (z : Marked). IsMarked z.marks place Done) (sym c.self.view_is) d in
          let on = c.is_done-was_done.ensures.1 (c.mark.ensures ∙ marked) in
          let off = c.if-was_done.false in
          let clash = sym off ∙ on in
          let q : ⊥ = (cc) in q),
    ) in
    let here : StoresAt c.args.self.now c.job.result.now c.store.new.self = record {
      place = place;
      own = c.in-Some.ensures.own;
      undone = undone;
      same = c.is_kept-same.result;
      told = c.is_kept-same.ensures;
      marks = c.store.ensures.marks;
      stores = c.store.ensures.stores;
      after = c.store.ensures.after;
    } in
    record {
      ground = subst (λ (j : Job). IsGround j.ground) c.job.ensures c.own_place.ensures.ground;
      placed = subst IsPlaced c.job.ensures c.own_place.ensures.placed;
      turn = subst (λ (j : Job). StoresAt c.args.self.now j c.store.new.self) c.job.ensures here;
    }
