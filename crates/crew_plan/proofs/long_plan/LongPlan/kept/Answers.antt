use Rattle.std.proofs.Common.{◌≡◌, ◌<◌, ℕ, ℤ, IfSome, List, None, Option, Some, arith, length, map, of_z, refl, subst, sym, to_z, w64}
use Rattle.std.proofs.lemmas.Int.{ints}
use Rattle.std.specs.Arc.{arc_value}
use Rattle.crew_fronts.specs.Fronts.{BaseFronts}
use Rattle.crew_net.specs.Nets.{Net}
use Rattle.crew_pairing.proofs.Tree.{Each-member}
use Rattle.crew_pairing.specs.Duties.{AreDuties}
use Rattle.crew_plan.specs.Machinery.Kept.{AreAt}
use Rattle.crew_plan.specs.Plans.{AreFrontsIn, AreMade, Plan}
use Rattle.crew_resource.specs.Members.{Each}
use Rattle.crew_fronts.proofs.crew_solve_lemmas.Departing.{read-at}
use Rattle.crew_fronts.proofs.crew_solve_lemmas.Swept.{price-at}
use Rattle.crew_plan.proofs.long_plan.LongPlan.kept.Goals as goal

-- earlier fronts over a network are those of the base
are-made : (net : Net) (past : List BaseFronts) (base : List ℕ × ℤ) (b : BaseFronts) → Each (λ (x : BaseFronts). x.net ≡ net) past → AreAt past base b → AreMade net base b
are-made net past base b nets h =
    let same = Each-member (λ (x : BaseFronts). x.net ≡ net) past b nets h.among in
    record {
      own = h.own;
      same = same;
      fronts = λ t sound dated duties. h.right t sound dated (subst (λ (n : Net). AreDuties n.settings t n.duties) (sym same) duties);
    }

weaker : {X : Type 0} (P Q : X → Type 0) → ((x : X) → P x → Q x) → (o : Option X) → IfSome o P → IfSome o Q
weaker P Q f None h = tt
weaker P Q f (Some x) h = f x h

pub returns : goal.returns
returns c =
    let k = c.self.invariant in
    let net = c.self.inside.course.value in
    let bases = c.self.inside.bases.items in
    let past = map (arc_value {X = BaseFronts}) c.self.inside.past.items in
    let e = c.index.result.now in
    let h : c.args.place < length bases = subst (λ (p : Plan). c.args.place < length p.prices) (sym c.self.view_is) c.requires in
    let at = read-at bases bases c.args.place e refl h c.index.ensures in
    let fits = k.0.over.sound.bases e.0 e.1 (price-at k.0.timetable bases c.args.place e k.0.priced at) in
    let whole : to_z w64 (of_z w64 e.1) ≡ e.1 = omega (arith, ints, fits.least, fits.most) in
    weaker _ (λ found. AreFrontsIn c.args.self.now c.args.place (arc_value {X = BaseFronts} found.now)) (λ found are.
    subst (λ (p : Plan). AreFrontsIn p c.args.place (arc_value {X = BaseFronts} found.now)) c.self.view_is (
      e,
      at,
      are-made net past e (arc_value found.now) k.1
          (subst (λ z. AreAt past (e.0, z) (arc_value found.now)) whole (subst (λ l. AreAt (map (arc_value {X = BaseFronts}) l) (e.0, to_z w64 (of_z w64 e.1)) (arc_value found.now)) c.deref.ensures.value are)),
    )) c.fronts_at.result c.fronts_at.ensures
