use Rattle.std.proofs.Common.{[], arith, get_or, List, ℕ, refl, subst}
use Rattle.crew_resource.proofs.Members.{Member-get}
use Rattle.crew_round.proofs.Due.{rank-more}
use Rattle.crew_round.proofs.Grown.{grows-none, stays-same, stays-then}
use Rattle.crew_round.specs.Machinery.Lines.{Grows, IsOpenAmong, Stays}
use Rattle.crew_round.specs.declared.line.Line.{Line}
use Rattle.std.proofs.lemmas.List.{take_all}
use Rattle.crew_round.proofs.line.Line.put_ranks.Goals as goal

pub loop-rank-init : goal.loop-rank-init
loop-rank-init c = record {
  stays = stays-same c.args.self.now;
  grows = grows-none (IsOpenAmong [] c.args.cells.now c.args.carried.now c.args.self.now.any c.args.base c.args.offset) (IsOpenAmong [] c.args.cells.now c.args.carried.now c.args.self.now.any c.args.base c.args.offset) c.args.self.now.set (λ k x. x.among);
}

pub put_in-requires : goal.put_in-requires
put_in-requires c =
    let h = c.requires.ranks (get_or c.args.ranks.now c.loop-rank.rank-index 0) (Member-get c.args.ranks.now c.loop-rank.rank-index 0 c.loop-rank-test.true) in
    let long = c.loop-rank.invariant.stays.long in
    omega (arith, h, long)

pub loop-rank-preserved : goal.loop-rank-preserved
loop-rank-preserved c =
    let old = c.loop-rank.self in
    let new : Line = record { counts = old.counts; set = c.put_in.new.set; any = old.any } in
    let step : Stays old new = record { counts = refl; any = refl; long = c.put_in.ensures.long; kept = c.put_in.ensures.kept } in
    record {
      stays = stays-then c.args.self.now old new c.loop-rank.invariant.stays step;
      grows = rank-more c.args.ranks.now c.args.cells.now c.args.carried.now c.args.self.now.any c.args.base c.args.offset c.loop-rank.rank-index c.is_open-told.result c.args.self.now.set old.set c.put_in.new.set c.loop-rank-test.true c.loop-rank.invariant.grows c.is_open-told.ensures c.put_in.ensures.there c.put_in.ensures.kept c.put_in.ensures.only;
    }

pub returns : goal.returns
returns c = record {
  stays = c.loop-rank.invariant.stays;
  grows = subst (λ (z : List ℕ). Grows (IsOpenAmong z c.args.cells.now c.args.carried.now c.args.self.now.any c.args.base c.args.offset) (IsOpenAmong z c.args.cells.now c.args.carried.now c.args.self.now.any c.args.base c.args.offset) c.args.self.now.set c.loop-rank.self.set)
      (take_all c.loop-rank.rank-index c.args.ranks.now c.loop-rank-test.false) c.loop-rank.invariant.grows;
}
