use Rattle.std.proofs.Common.{◌≡◌, ◌≤◌, ◌+◌, ◌++◌, ◌∙◌, ℕ, List, ap, arith, drop, length, map, sum, take, All}
use Rattle.std.specs.List.{flat_map, range_with_len}
use Rattle.std.proofs.Math.Seq.{take-append_seam}
use Rattle.std.proofs.lemmas.List.{length-map}
use Rattle.rayon.proofs.ListFacts.{IfOk-then}
use Rattle.crew_pairing.specs.Machinery.Listing.{from_place}
use Rattle.crew_duty.specs.Machinery.Held.{held}
use Rattle.crew_duty.specs.declared.rooms.Room.{Room}
use Rattle.crew_duty.specs.Machinery.Rooms.{IsRoom}
use Rattle.crew_duty.proofs.Counts.{all-listed, counts-few}
use Rattle.crew_duty.proofs.InRooms.{all-filled, are-rooms}
use Rattle.crew_duty.proofs.pieces.list_all.Goals as goal

pub fill_in-requires-clause-rooms : goal.fill_in-requires-clause-rooms
fill_in-requires-clause-rooms g c κs within =
    let s = c.args.plan.now.settings.now in
    let flights = held c.args.plan.now in
    let counts = c.args.counts.now in
    let few : sum counts ≤ 200_000 = omega (arith, c.requires.total, c.requires.few) in
    let long : 0 + length counts ≤ length flights.list = omega (arith, c.requires.counts.all) in
    let are : All (IsRoom s flights) c.in_ok-rooms.rooms.items = are-rooms s flights 0 counts c.in_ok-rooms.rooms.items c.in_ok-rooms.ensures.places c.in_ok-rooms.ensures.counts (c.requires.counts.exact few) long few in
    rw c.deref_mut.ensures.value are

pub join_rooms-requires : goal.join_rooms-requires
join_rooms-requires g c =
    let s = c.args.plan.now.settings.now in
    let flights = held c.args.plan.now in
    let F = from_place s flights in
    let D = λ (r : Room). r.duties.items in
    let G = λ (r : Room). F r.place in
    let counts = c.args.counts.now in
    let rooms = c.in_ok-rooms.rooms in
    let filled = c.fill_in.new.rooms in
    let rest = drop (length filled) rooms.items in
    let done = c.in_ok-fill_in.ensures ∙ ap (map G) c.deref_mut.ensures.value in
    let long : rooms.len ≡ length filled = omega (arith, ap length done, length-map filled D, length-map rooms.items G, rooms.ok.0) in
    let whole : take rooms.len (filled ++ rest) ≡ filled = ap (λ (n : ℕ). take n (filled ++ rest)) long ∙ take-append_seam filled rest in
    let each = all-filled F (length counts) rooms.items filled c.in_ok-rooms.ensures.places done in
    let all = ap (λ (n : ℕ). flat_map F (range_with_len 0 n)) c.requires.counts.all ∙ all-listed s flights in
    let few = counts-few s flights counts c.requires.counts (omega (arith, c.requires.total, c.requires.few)) in
    record { few = omega (arith, ap (λ (l : List Room). length (flat_map D l)) whole, ap length each, ap length all, few, c.requires.total, c.requires.few) }

pub returns : goal.returns
returns g c =
    let s = c.args.plan.now.settings.now in
    let flights = held c.args.plan.now in
    let F = from_place s flights in
    let D = λ (r : Room). r.duties.items in
    let G = λ (r : Room). F r.place in
    let counts = c.args.counts.now in
    let rooms = c.in_ok-rooms.rooms in
    let filled = c.fill_in.new.rooms in
    let rest = drop (length filled) rooms.items in
    let done = c.in_ok-fill_in.ensures ∙ ap (map G) c.deref_mut.ensures.value in
    let long : rooms.len ≡ length filled = omega (arith, ap length done, length-map filled D, length-map rooms.items G, rooms.ok.0) in
    let whole : take rooms.len (filled ++ rest) ≡ filled = ap (λ (n : ℕ). take n (filled ++ rest)) long ∙ take-append_seam filled rest in
    let each = all-filled F (length counts) rooms.items filled c.in_ok-rooms.ensures.places done in
    let all = ap (λ (n : ℕ). flat_map F (range_with_len 0 n)) c.requires.counts.all ∙ all-listed s flights in
    IfOk-then c.join_rooms.result _ _ c.join_rooms.ensures (λ found e. e ∙ (ap (flat_map D) whole ∙ (each ∙ all)))
