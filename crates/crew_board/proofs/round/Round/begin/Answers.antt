use Rattle.std.proofs.Common.{◌∙◌, ◌*◌, length, map, sym, ap, subst}
use Rattle.std.specs.Option.{option_map}
use Rattle.std.proofs.lemmas.List.{length-map}
use Rattle.crew_board.proofs.Keeping.{held-begun}
use Rattle.crew_board.proofs.Nothing.{none-mapped, none-noted}
use Rattle.crew_board.specs.Machinery.Held.{IsBegun, Marked}
use Rattle.crew_job.specs.crew_dirty.Carried.{IsCarriedOver}
use Rattle.crew_job.specs.Grounds.{Ground, data_of, sealed_data_of}
use Rattle.crew_net.specs.Nets.{Net}
use Rattle.crew_board.proofs.round.Round.begin.Goals as goal

pub begin-requires : goal.begin-requires
begin-requires c =
    let g = c.args.ground in
    let e = c.in_ok-carried.ensures in
    (sealed_data_of g, data_of g, e.0, subst (λ (n : Net). IsCarriedOver (sealed_data_of g) (data_of g) e.0 n c.in_ok-carried.carried) (sym c.in_ok-net.ensures) e.3)

pub returns-clause-begun : goal.returns-clause-begun
returns-clause-begun c =
    let g = c.args.ground in
    let m = c.in_ok-marks.marks in
    let e = c.in_ok-carried.ensures in
    let net = c.in_ok-marks.ensures.net ∙ c.in_ok-net.ensures in
    let over = subst (λ (n : Net). IsCarriedOver (sealed_data_of g) (data_of g) e.0 n c.in_ok-carried.carried) (sym net) e.3 in
    let here : IsBegun (let z : Marked = record { ground = g; marks = m } in z) = record {
      ground = c.base_count.ensures.ground;
      net = net;
      old = e.0;
      old_settings = e.1;
      old_net = e.2;
      carried = subst (IsCarriedOver (sealed_data_of g) (data_of g) e.0 m.net) (sym c.in_ok-marks.ensures.carried) over;
      marks = c.in_ok-marks.ensures.marks;
    } in
    let begun = subst (λ (x : Ground). IsBegun (let z : Marked = record { ground = x; marks = m } in z)) (sym c.in_ok-ground.ensures) here in
    begun

pub invariant_of-result : goal.invariant_of-result
invariant_of-result c =
    let g = c.args.ground in
    let m = c.in_ok-marks.marks in
    let e = c.in_ok-carried.ensures in
    let net = c.in_ok-marks.ensures.net ∙ c.in_ok-net.ensures in
    let over = subst (λ (n : Net). IsCarriedOver (sealed_data_of g) (data_of g) e.0 n c.in_ok-carried.carried) (sym net) e.3 in
    let here : IsBegun (let z : Marked = record { ground = g; marks = m } in z) = record {
      ground = c.base_count.ensures.ground;
      net = net;
      old = e.0;
      old_settings = e.1;
      old_net = e.2;
      carried = subst (IsCarriedOver (sealed_data_of g) (data_of g) e.0 m.net) (sym c.in_ok-marks.ensures.carried) over;
      marks = c.in_ok-marks.ensures.marks;
    } in
    let begun = subst (λ (x : Ground). IsBegun (let z : Marked = record { ground = x; marks = m } in z)) (sym c.in_ok-ground.ensures) here in
    let r : Marked = record { ground = c.in_ok-ground.ground.value; marks = m } in
    let items = c.in_ok-shown.shown.items in
    let count = c.in_ok-shown.ensures.long ∙ (c.len.ensures ∙ ap (λ (n : Net). length n.bases * length n.duties) (c.deref.ensures ∙ sym c.in_ok-marks.ensures.net)) in
    let long = length-map items (option_map (λ a. a.value)) ∙ (count ∙ sym c.in_ok-marks.ensures.marks.long) in
    let bases = c.base_count.ensures.count ∙ ap (λ (x : Ground). length x.plan.prices) (sym c.in_ok-ground.ensures) in
    held-begun r begun (map (option_map (λ a. a.value)) items) c.in_ok-swept.swept.items long (none-mapped (λ a. a.value) items c.in_ok-shown.ensures.none)
    (c.in_ok-swept.ensures.long ∙ bases)
    (none-noted c.in_ok-swept.swept.items c.in_ok-swept.ensures.none)
