-- A viewer may cross threads, as what it may be shown. Found type by type from below: a search over
-- all of it at once comes to no end.
use denote.RattleType.{RattleType}
use denote.Builtin.{RawPtr}
use denote.Param.Send.{Frees, IsSend, IsSync, owning_send, part_keyless, struct_send, sendable}
use denote.Struct.Owning.{fields, shape, to}
use denote.Struct.Struct.{Struct, exits_of}
use mathlib.Core.List.{[], ◌∷◌}
use Rattle.std.proofs.Crossing.{crosses}
use Rattle.std.specs.contracts.collections.LinkedList as List
use Rattle.std.specs.contracts.alloc.Global as Heap
use Rattle.std.specs.contracts.impls.GlobalAllocator.TheImpl.{ghosts as heap}
use Rattle.left_right.specs.contracts.part.Part as Part
use Rattle.atomic_table.specs.contracts.send_lease.SendLease as Lease
use Rattle.atomic_table.specs.contracts.shared.Seat as Place
use Rattle.atomic_table.specs.contracts.shared.Shared as Table
use Rattle.atomic_table.specs.declared.shared.TableRule.{Ghosts}
use Rattle.atomic_table.proofs.Rights.{right_send}
use Rattle.atomic_table.proofs.Sent.{owns_keyless, seat_keyless, shares_keyless}
use Rattle.core.specs.declared.alloc.Allocator.{Ghosts as HeapGhosts}
use Rattle.std_alloc.proofs.SendSync.{quiet, seen}
use Rattle.std.proofs.MapsCrossing.{crosses as maps_cross}
use Rattle.std.specs.declared.cmp.Ord.{Ghosts as OrdGhosts}
use Rattle.std.specs.declared.cmp.PartialEq.{Ghosts as EqGhosts}
use Rattle.std.specs.declared.cmp.PartialOrd.{Ghosts as PartialOrdGhosts}
use Rattle.crew_flights.specs.contracts.edit.Edit as Edit
use Rattle.crew_flights.specs.contracts.entries.Entry as Entry
use Rattle.crew_flights.specs.contracts.entries.Folding as Folding
use Rattle.crew_flights.specs.contracts.timetable.Timetable as Timetable
use Rattle.crew_publish.specs.contracts.shown.Shown as Shown
use Rattle.crew_publish.specs.contracts.viewer.Viewer as Viewer
use Rattle.crew_publish.specs.contracts.viewer.Viewer.TheInside as Inside
use Rattle.crew_version.specs.crew_fronts.contracts.base_fronts.BaseFronts as BaseFronts
use Rattle.crew_version.specs.crew_fronts.contracts.passed_fronts.PassedFronts as PassedFronts
use Rattle.crew_label.specs.contracts.label.Label as Label
use Rattle.crew_label.specs.contracts.pool.Pool as Pool
use Rattle.crew_label.specs.contracts.table.Table as Labels
use Rattle.crew_net.specs.contracts.net.Net as Net
use Rattle.crew_version.specs.crew_pass.contracts.base_fronts.BaseFronts as Passed
use Rattle.crew_version.specs.crew_pass.contracts.passed.Passed as Ended
use Rattle.crew_version.specs.crew_pass.contracts.course.Course as Course
use Rattle.crew_version.specs.crew_pass.contracts.places.Places as Places
use Rattle.crew_version.specs.crew_pass.contracts.shelf.Shelf as Shelf
use Rattle.crew_version.specs.crew_plan.contracts.solution.Solution as Solution
use Rattle.crew_pool.specs.contracts.pool.Pool as SweptPool
use Rattle.crew_resource.specs.declared.resource.Resource.{Ghosts as ResourceGhosts}
use Rattle.crew_version.specs.crew_solve.contracts.base_fronts.BaseFronts as SweptFronts
use Rattle.crew_version.specs.crew_solve.contracts.solution.Solution as SweptSolution
use Rattle.crew_version.specs.crew_step.contracts.pools.Pools as SweptPools
use Rattle.crew_version.specs.contracts.draft.Draft as Draft
use Rattle.crew_version.specs.contracts.version.Version as Version

ruleset parts = (sendable, crosses, maps_cross)

-- ---- what a version holds

net-send : IsSend Net.the_row
net-send = search parts depth 40 fits 30000

net-sync : IsSync Net.the_row
net-sync = search parts depth 40 fits 30000

swept-pool-send : (R V F : RattleType) (g : ResourceGhosts R.Denot V.Denot F.Denot) (o : OrdGhosts V.Denot) (e : EqGhosts V.Denot) (p : PartialOrdGhosts V.Denot) → IsSend V → IsSend (SweptPool.the_row R V F g o e p)
swept-pool-send R V F g o e p s = search parts depth 40 fits 30000

swept-pool-sync : (R V F : RattleType) (g : ResourceGhosts R.Denot V.Denot F.Denot) (o : OrdGhosts V.Denot) (e : EqGhosts V.Denot) (p : PartialOrdGhosts V.Denot) → IsSync V → IsSync (SweptPool.the_row R V F g o e p)
swept-pool-sync R V F g o e p s = search parts depth 40 fits 30000

ruleset with_swept_pool = (parts, swept-pool-send, swept-pool-sync)

swept-pools-send : (R V F : RattleType) (g : ResourceGhosts R.Denot V.Denot F.Denot) (o : OrdGhosts V.Denot) (e : EqGhosts V.Denot) (p : PartialOrdGhosts V.Denot) → IsSend V → IsSync V → IsSend (SweptPools.the_row R V F g o e p)
swept-pools-send R V F g o e p s y = search with_swept_pool depth 40 fits 30000

swept-pools-sync : (R V F : RattleType) (g : ResourceGhosts R.Denot V.Denot F.Denot) (o : OrdGhosts V.Denot) (e : EqGhosts V.Denot) (p : PartialOrdGhosts V.Denot) → IsSend V → IsSync V → IsSync (SweptPools.the_row R V F g o e p)
swept-pools-sync R V F g o e p s y = search with_swept_pool depth 40 fits 30000

ruleset with_swept_pools = (parts, net-send, net-sync, swept-pools-send, swept-pools-sync)

swept-fronts-send : IsSend SweptFronts.the_row
swept-fronts-send = search with_swept_pools depth 40 fits 30000

swept-fronts-sync : IsSync SweptFronts.the_row
swept-fronts-sync = search with_swept_pools depth 40 fits 30000

ruleset with_swept = (parts, swept-fronts-send, swept-fronts-sync)

swept-send : IsSend SweptSolution.the_row
swept-send = search with_swept depth 40 fits 30000

swept-sync : IsSync SweptSolution.the_row
swept-sync = search with_swept depth 40 fits 30000

-- what passes leave, of any resource

label-send : (V : RattleType) → IsSend V → IsSend (Label.the_row V)
label-send V s = search parts depth 40 fits 30000

label-sync : (V : RattleType) → IsSync V → IsSync (Label.the_row V)
label-sync V s = search parts depth 40 fits 30000

ruleset with_label = (parts, label-send, label-sync)

pool-send : (R V F : RattleType) (g : ResourceGhosts R.Denot V.Denot F.Denot) (o : OrdGhosts V.Denot) (e : EqGhosts V.Denot) (p : PartialOrdGhosts V.Denot) → IsSend V → IsSend (Pool.the_row R V F g o e p)
pool-send R V F g o e p s = search with_label depth 40 fits 30000

pool-sync : (R V F : RattleType) (g : ResourceGhosts R.Denot V.Denot F.Denot) (o : OrdGhosts V.Denot) (e : EqGhosts V.Denot) (p : PartialOrdGhosts V.Denot) → IsSync V → IsSync (Pool.the_row R V F g o e p)
pool-sync R V F g o e p s = search with_label depth 40 fits 30000

ruleset with_pool = (parts, pool-send, pool-sync)

labels-send : (R V F : RattleType) (g : ResourceGhosts R.Denot V.Denot F.Denot) (o : OrdGhosts V.Denot) (e : EqGhosts V.Denot) (p : PartialOrdGhosts V.Denot) → IsSend V → IsSync V → IsSend (Labels.the_row R V F g o e p)
labels-send R V F g o e p s y = search with_pool depth 40 fits 30000

labels-sync : (R V F : RattleType) (g : ResourceGhosts R.Denot V.Denot F.Denot) (o : OrdGhosts V.Denot) (e : EqGhosts V.Denot) (p : PartialOrdGhosts V.Denot) → IsSend V → IsSync V → IsSync (Labels.the_row R V F g o e p)
labels-sync R V F g o e p s y = search with_pool depth 40 fits 30000

ruleset with_labels = (parts, pool-send, pool-sync, labels-send, labels-sync)

ruleset with_pool_too = (parts, pool-send, pool-sync)

pass-send : (R V F : RattleType) (g : ResourceGhosts R.Denot V.Denot F.Denot) (o : OrdGhosts V.Denot) (e : EqGhosts V.Denot) (p : PartialOrdGhosts V.Denot) → IsSend V → IsSync V → IsSend (Passed.the_row R V F g o e p)
pass-send R V F g o e p s y = search with_labels depth 40 fits 30000

pass-sync : (R V F : RattleType) (g : ResourceGhosts R.Denot V.Denot F.Denot) (o : OrdGhosts V.Denot) (e : EqGhosts V.Denot) (p : PartialOrdGhosts V.Denot) → IsSend V → IsSync V → IsSync (Passed.the_row R V F g o e p)
pass-sync R V F g o e p s y = search with_labels depth 40 fits 30000

ruleset with_pass = (parts, net-send, net-sync, pass-send, pass-sync)

course-send : IsSend Course.the_row
course-send = search with_pass depth 40 fits 30000

course-sync : IsSync Course.the_row
course-sync = search with_pass depth 40 fits 30000

places-send : IsSend Places.the_row
places-send = search parts depth 40 fits 30000

places-sync : IsSync Places.the_row
places-sync = search parts depth 40 fits 30000

shelf-send : (R V F : RattleType) (g : ResourceGhosts R.Denot V.Denot F.Denot) (o : OrdGhosts V.Denot) (e : EqGhosts V.Denot) (p : PartialOrdGhosts V.Denot) → IsSend V → IsSync V → IsSend (Shelf.the_row R V F g o e p)
shelf-send R V F g o e p s y = search with_pool_too depth 40 fits 30000

shelf-sync : (R V F : RattleType) (g : ResourceGhosts R.Denot V.Denot F.Denot) (o : OrdGhosts V.Denot) (e : EqGhosts V.Denot) (p : PartialOrdGhosts V.Denot) → IsSend V → IsSync V → IsSync (Shelf.the_row R V F g o e p)
shelf-sync R V F g o e p s y = search with_pool_too depth 40 fits 30000

ruleset with_ended = (parts, course-send, course-sync, places-send, places-sync, shelf-send, shelf-sync, pass-send, pass-sync)

ended-send : (R V : RattleType) (l : _) (m : _) (f : _) (s : _) (g : _) (o : _) (e : _) (p : _) → IsSend R → IsSync R → IsSend V → IsSync V → IsSend (Ended.the_row R V l m f s g o e p)
ended-send R V l m f s g o e p rs ry vs vy = search with_ended depth 40 fits 30000

ended-sync : (R V : RattleType) (l : _) (m : _) (f : _) (s : _) (g : _) (o : _) (e : _) (p : _) → IsSend R → IsSync R → IsSend V → IsSync V → IsSync (Ended.the_row R V l m f s g o e p)
ended-sync R V l m f s g o e p rs ry vs vy = search with_ended depth 40 fits 30000

ruleset with_long = (parts, ended-send, ended-sync)

passed-send : IsSend PassedFronts.the_row
passed-send = search with_long depth 40 fits 30000

passed-sync : IsSync PassedFronts.the_row
passed-sync = search with_long depth 40 fits 30000

ruleset with_passed = (parts, swept-fronts-send, swept-fronts-sync, passed-send, passed-sync)

fronts-send : IsSend BaseFronts.the_row
fronts-send = search with_passed depth 40 fits 30000

fronts-sync : IsSync BaseFronts.the_row
fronts-sync = search with_passed depth 40 fits 30000

ruleset with_fronts = (parts, net-send, net-sync, fronts-send, fronts-sync, swept-send, swept-sync)

solution-send : IsSend Solution.the_row
solution-send = search with_fronts depth 40 fits 30000

solution-sync : IsSync Solution.the_row
solution-sync = search with_fronts depth 40 fits 30000

timetable-send : IsSend Timetable.the_row
timetable-send = search parts depth 40 fits 30000

timetable-sync : IsSync Timetable.the_row
timetable-sync = search parts depth 40 fits 30000

ruleset with_timetable = (parts, timetable-send, timetable-sync)

folding-send : IsSend Folding.the_row
folding-send = search with_timetable depth 40 fits 30000

folding-sync : IsSync Folding.the_row
folding-sync = search with_timetable depth 40 fits 30000

edit-send : IsSend Edit.the_row
edit-send = search parts depth 40 fits 30000

edit-sync : IsSync Edit.the_row
edit-sync = search parts depth 40 fits 30000

ruleset with_edit = (parts, edit-send, edit-sync)

entry-send : IsSend Entry.the_row
entry-send = search with_edit depth 40 fits 30000

entry-sync : IsSync Entry.the_row
entry-sync = search with_edit depth 40 fits 30000

ruleset with_folding = (parts, entry-send, entry-sync, folding-send, folding-sync)

draft-send : IsSend Draft.the_row
draft-send = search with_folding depth 40 fits 30000

draft-sync : IsSync Draft.the_row
draft-sync = search with_folding depth 40 fits 30000

ruleset with_draft = (parts, draft-send, draft-sync, solution-send, solution-sync)

version-send : IsSend Version.the_row
version-send = search with_draft depth 40 fits 30000

version-sync : IsSync Version.the_row
version-sync = search with_draft depth 40 fits 30000

-- ---- what a viewer is shown

ruleset with_version = (parts, version-send, version-sync)

shown-send : IsSend Shown.the_row
shown-send = search with_version depth 40 fits 30000

shown-sync : IsSync Shown.the_row
shown-sync = search with_version depth 40 fits 30000

ruleset with_shown = (parts, shown-send, shown-sync)

abbrev Known : RattleType
Known = List.the_row (List.the_row Version.the_row Heap.the_row heap) Heap.the_row heap

-- ---- the seat of a viewer, as its own crates show it

part-send : (T : RattleType) → IsSync T → IsSend (Part.the_row T)
part-send T y = let O = Part.the_type T in let ps : IsSend RawPtr = search sendable in owning_send O (ps, tt) (λ d. ((λ e c. tt), seen T y d.ptr d.value (d.round ∷ [])))
    (λ k. quiet (to O) (exits_of k (fields O)) ((struct_send (shape O) (ps, tt)).leaving k))

place-send : (S V : RattleType) → IsSend S → IsSend (Place.the_row S V)
place-send S V s = record { owned = λ d vs. ((λ vss. (tt, ((λ uss. (tt, tt)), tt))), seat_keyless S s V.coded.code d.table_id d.id d.me); leaving = λ k f vs. tt }

table-send : (S V K P : RattleType) (g : Ghosts P.Denot S.Denot V.Denot K.Denot) → IsSend S → IsSend (Table.the_row S V K P g)
table-send S V K P g s = record { owned = λ d vs. ((λ vss. (tt, (tt, (tt, ((λ uss. (tt, tt)), tt))))), owns_keyless S s V.coded.code d.table_id (g.holds d.key) d.words d.slots); leaving = λ k f vs. tt }

table-sync : (S V K P : RattleType) (g : Ghosts P.Denot S.Denot V.Denot K.Denot) → IsSend S → IsSync (Table.the_row S V K P g)
table-sync S V K P g s = let inside : IsSync (Struct (shape (Table.the_type S V K P g))) = search sendable depth 20 in
    record { shared = λ d b o ν. (inside.shared (d.words, (d.slots, (tt, tt))) b o ν, shares_keyless S s V.coded.code d.table_id (g.holds d.key) d.words d.slots ν) }

lease-send : (T A : RattleType) (g : HeapGhosts A.Denot) → IsSend A → Frees g g.dealloc_token → IsSend (Lease.the_row T A g)
lease-send T A g s f = right_send T A g f

lease-sync : (T A : RattleType) (g : HeapGhosts A.Denot) → IsSend A → Frees g g.dealloc_token → IsSync (Lease.the_row T A g)
lease-sync T A g s f = record { shared = λ d b o ν q. part_keyless (Lease.the_row T A g) (right_send T A g f) q d b o }

ruleset with_table = (with_shown, part-send, place-send, table-send, table-sync, lease-send, lease-sync)

inside-send : IsSend Inside.the_row
inside-send = search with_table depth 60 fits 120000

pub viewer_send : IsSend Viewer.the_row
viewer_send = search (parts, inside-send) depth 40 fits 30000

-- for the threads that a caller starts: with it the goal is closed that a closure which has a viewer
-- may go to another thread
pub ruleset with_viewers = (sendable, crosses, maps_cross, viewer_send)
