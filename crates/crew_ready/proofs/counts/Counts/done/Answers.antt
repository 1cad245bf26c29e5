use Rattle.std.proofs.Common.{◌≡◌, ℕ, ◌-◌, ◌++◌, true, List, drop, get_or, length, take, slice_set, sym, ◌∙◌, ap, subst, arith}
use Rattle.std.proofs.Math.Seq.{take-append_seam}
use Rattle.std.proofs.lemmas.List.{length-set}
use Rattle.crew_net.proofs.InTime.{item-at}
use Rattle.crew_pairing.specs.Events.{arrival_of}
use Rattle.crew_ready.proofs.Lowered.{kept-counts, last-counts}
use Rattle.crew_ready.specs.Counts.{AreCounts, Counts}
use Rattle.crew_ready.proofs.counts.Counts.done.Goals as goal

pub lower_all-requires-clause-ordered : goal.lower_all-requires-clause-ordered
lower_all-requires-clause-ordered c =
    let x = item-at c.args.net.now.arrivals c.args.arrival c.requires.arrival in
    (c.followers.ensures x.0 x.1).ordered

pub lower_all-requires-clause-within : goal.lower_all-requires-clause-within
lower_all-requires-clause-within c =
    let x = item-at c.args.net.now.arrivals c.args.arrival c.requires.arrival in
    let within = (c.followers.ensures x.0 x.1).within in
    let value = ap length c.deref_mut-then-last.ensures.value in
    let view = ap (λ v. length v.blocked) c.self.view_is in
    let long = c.requires.long_blocked in
    omega (arith, within, value, view, long)

-- what a vector holds after all of it was lent
whole : (n : ℕ) (now was : List ℕ) → n ≡ length now → take n (now ++ drop (length now) was) ≡ now
whole n now was e = ap (λ (k : ℕ). take k (now ++ drop (length now) was)) e ∙ take-append_seam now (drop (length now) was)

pub returns-then-last-clause-counts : goal.returns-then-last-clause-counts
returns-then-last-clause-counts c = λ done rank d counts events at arrived known undone.
    let net = c.args.net.now in
    let own = c.args.self.now in
    let a = c.args.arrival in
    let x = c.lower.new.counts in
    let y = c.lower_all.new.counts in
    let was : c.deref_mut.result.now ≡ own.undone = c.deref_mut.ensures.value ∙ ap (λ v. v.undone) c.self.view_is in
    let blocked-was : c.deref_mut-then-last.result.now ≡ own.blocked = c.deref_mut-then-last.ensures.value ∙ ap (λ v. v.blocked) c.self.view_is in
    let fewer : List ℕ = slice_set own.undone a (get_or own.undone a 0 - 1) in
    let lowered : x ≡ fewer = c.lower.ensures ∙ ap (λ (z : List ℕ). slice_set z a (get_or z a 0 - 1)) was in
    let x-long : c.self.inside.undone.len ≡ length x = sym (ap length c.lower.ensures ∙ (length-set c.deref_mut.result.now a (get_or c.deref_mut.result.now a 0 - 1) ∙ c.deref_mut.ensures.len)) in
    let y-long : c.self.inside.blocked.len ≡ length y = sym (c.lower_all.ensures.long ∙ c.deref_mut-then-last.ensures.len) in
    let undone-now : take c.self.inside.undone.len (x ++ drop (length x) c.self.inside.undone.items) ≡ fewer = whole c.self.inside.undone.len x c.self.inside.undone.items x-long ∙ lowered in
    let blocked-now : take c.self.inside.blocked.len (y ++ drop (length y) c.self.inside.blocked.items) ≡ y = whole c.self.inside.blocked.len y c.self.inside.blocked.items y-long in
    let none : get_or fewer a 0 ≡ 0 = sym (c.count_at-last.ensures ∙ ap (λ (z : List ℕ). get_or z a 0) (c.deref.ensures.value ∙ undone-now)) ∙ c.if-last.true in
    let right = last-counts net done own rank a d counts events at arrived known undone c.requires.arrival y c.followers.result none (c.followers.ensures (arrival_of d) arrived) (c.lower_all.ensures.long ∙ ap length blocked-was)
    (λ k l h. c.lower_all.ensures.lowered k l h ∙ ap (λ (z : List ℕ). get_or z k 0 - 1) blocked-was)
    (λ k h. c.lower_all.ensures.elsewhere k h ∙ ap (λ (z : List ℕ). get_or z k 0) blocked-was) in
    subst (λ (z : List ℕ). AreCounts net (slice_set done rank true) (let r : Counts = record { undone = z; blocked = take c.self.inside.blocked.len (y ++ drop (length y) c.self.inside.blocked.items) } in r)) (sym undone-now)
    (subst (λ (z : List ℕ). AreCounts net (slice_set done rank true) (let r : Counts = record { undone = fewer; blocked = z } in r)) (sym blocked-now) right)

pub returns-else-last-clause-counts : goal.returns-else-last-clause-counts
returns-else-last-clause-counts c = λ done rank d counts events at arrived known undone.
    let net = c.args.net.now in
    let own = c.args.self.now in
    let a = c.args.arrival in
    let x = c.lower.new.counts in
    let was : c.deref_mut.result.now ≡ own.undone = c.deref_mut.ensures.value ∙ ap (λ v. v.undone) c.self.view_is in
    let fewer : List ℕ = slice_set own.undone a (get_or own.undone a 0 - 1) in
    let lowered : x ≡ fewer = c.lower.ensures ∙ ap (λ (z : List ℕ). slice_set z a (get_or z a 0 - 1)) was in
    let x-long : c.self.inside.undone.len ≡ length x = sym (ap length c.lower.ensures ∙ (length-set c.deref_mut.result.now a (get_or c.deref_mut.result.now a 0 - 1) ∙ c.deref_mut.ensures.len)) in
    let undone-now : take c.self.inside.undone.len (x ++ drop (length x) c.self.inside.undone.items) ≡ fewer = whole c.self.inside.undone.len x c.self.inside.undone.items x-long ∙ lowered in
    let count : c.count_at-last.result ≡ get_or fewer a 0 = c.count_at-last.ensures ∙ ap (λ (z : List ℕ). get_or z a 0) (c.deref.ensures.value ∙ undone-now) in
    let some = c.if-last.false in
    let right = kept-counts net done own rank a d counts events at arrived known undone c.requires.arrival (λ e. some (count ∙ e)) in
    subst (λ (z : List ℕ). AreCounts net (slice_set done rank true) (let r : Counts = record { undone = z; blocked = c.self.inside.blocked.items } in r)) (sym undone-now)
    (subst (λ (z : List ℕ). AreCounts net (slice_set done rank true) (let r : Counts = record { undone = fewer; blocked = z } in r)) (sym (ap (λ v. v.blocked) c.self.view_is)) right)
