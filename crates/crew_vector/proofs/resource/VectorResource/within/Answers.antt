use Rattle.std.proofs.Common.{◌≡◌, true, false, ◌&&◌, cond, int_le, Some, None, pos, ap, sym, rules}
use Rattle.crew_vector.proofs.resource.VectorResource.within.Goals as goal

pub returns-then-minutes-span : goal.returns-then-minutes-span
returns-then-minutes-span c =
    let r = c.args.self.now in
    let v = c.args.vector in
    let fits : ((int_le v.fdp (pos r.fdp_cap) && int_le v.fly (pos r.fly_cap)) && (int_le v.duties (pos r.max_duties) && int_le v.away (pos r.away_cap))) ≡ true = search rules in
    ap (λ b. cond b (Some v) None) (sym fits)

pub returns-else-minutes-span : goal.returns-else-minutes-span
returns-else-minutes-span c =
    let r = c.args.self.now in
    let v = c.args.vector in
    let passes : ((int_le v.fdp (pos r.fdp_cap) && int_le v.fly (pos r.fly_cap)) && (int_le v.duties (pos r.max_duties) && int_le v.away (pos r.away_cap))) ≡ false = search rules in
    ap (λ b. cond b (Some v) None) (sym passes)
