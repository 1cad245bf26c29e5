use Rattle.std.proofs.Common.{◌∙◌, List, ℕ, ap, sym, subst}
use Rattle.crew_labelling.specs.Terms.{AreNumbers, IsPassable}
use Rattle.crew_net.specs.Nets.{Net}
use Rattle.crew_net.specs.Positions.{ArePositions}
use Rattle.crew_pass.proofs.passing.ground_over.Goals as goal

pub returns-clause-may : goal.returns-clause-may
returns-clause-may g c =
    let charted = c.net.ensures.charted in
    let net = sym (c.deref.ensures ∙ c.net.ensures.net) in
    let numbers = c.as_slice.ensures.value ∙ ap (λ v. v.items) c.deref-2.ensures in
    let ranks = c.as_slice-2.ensures.value ∙ ap (λ v. v.items) c.deref-3.ensures in
    let positions = c.as_slice-3.ensures.value ∙ ap (λ v. v.items) c.deref-4.ensures in
    let own : IsPassable c.args.course.now c.as_slice-3.result.now = record {
      departs = charted.departs;
      arrives = charted.arrives;
      ordered = charted.ordered;
      rise = charted.rise;
      few = charted.few;
      sound = c.requires.sound;
      rests = charted.rests;
      are_positions = subst (λ (ps : List ℕ). ArePositions c.args.course.now ps) (sym positions) c.requires.places.are_positions;
    } in
    let numbered = subst (λ (ns : List ℕ). AreNumbers c.args.course.now ns c.as_slice-2.result.now) (sym numbers)
    (subst (λ (rs : List ℕ). AreNumbers c.args.course.now c.args.places.now.numbers.value.items rs) (sym ranks) c.requires.places.numbered) in
    record {
      terms = record {
        passable = subst (λ (n : Net). IsPassable n c.as_slice-3.result.now) net own;
        numbered = subst (λ (n : Net). AreNumbers n c.as_slice.result.now c.as_slice-2.result.now) net numbered;
        counts = c.requires.counts;
      };
      lawful = c.resources_are_lawful.ensures c.args.resource.now c.deref.result.now c.args.base c.as_slice.result.now (record { ranks = c.as_slice-2.result.now; positions = c.as_slice-3.result.now });
    }

pub returns-clause-places : goal.returns-clause-places
returns-clause-places g c = record {
  numbers = sym (c.as_slice.ensures.value ∙ ap (λ v. v.items) c.deref-2.ensures);
  ranks = sym (c.as_slice-2.ensures.value ∙ ap (λ v. v.items) c.deref-3.ensures);
  positions = sym (c.as_slice-3.ensures.value ∙ ap (λ v. v.items) c.deref-4.ensures);
}
