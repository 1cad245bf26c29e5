use Rattle.std.proofs.Common.{subst}
use Rattle.crew_net.specs.Nets.{Net}
use Rattle.crew_numbers.specs.Machinery.Kept.{AlikeIn, StayIn}
use Rattle.crew_numbers.specs.Numbers.{AreAlike, Numbers, Stay}
use Rattle.crew_numbers.proofs.Keeping.{keys_of}
use Rattle.crew_numbers.proofs.Shown.{are-alike, shown, stays}
use Rattle.crew_numbers.proofs.numbers.Numbers.next.Goals as goal

pub returns-clause-stay : goal.returns-clause-stay
returns-clause-stay c =
    let s = c.self.inside in
    let new = c.args.net.value in
    let numbers = s.taken.numbers.value.items in
    let next = c.in_ok-taken.taken.numbers.value.items in
    let stay = subst (λ (m : Net). StayIn (keys_of m.duties) (keys_of new.duties) numbers next) c.deref.ensures
    (subst (λ (m : Net). StayIn (keys_of c.deref.result.now.duties) (keys_of m.duties) numbers next) c.deref-2.ensures c.in_ok-taken.ensures.stay) in
    subst (λ (all : Numbers). Stay all (shown new next c.in_ok-taken.taken.ranks.value.items)) c.self.view_is
    (stays (shown s.net.value numbers s.taken.ranks.value.items) (shown new next c.in_ok-taken.taken.ranks.value.items) stay)

pub returns-clause-alike : goal.returns-clause-alike
returns-clause-alike c =
    let s = c.self.inside in
    let new = c.args.net.value in
    let numbers = s.taken.numbers.value.items in
    let next = c.in_ok-taken.taken.numbers.value.items in
    let alike = subst (λ (m : Net). AlikeIn (keys_of m.duties) (keys_of new.duties) numbers next) c.deref.ensures
    (subst (λ (m : Net). AlikeIn (keys_of c.deref.result.now.duties) (keys_of m.duties) numbers next) c.deref-2.ensures c.in_ok-taken.ensures.alike) in
    subst (λ (all : Numbers). AreAlike all (shown new next c.in_ok-taken.taken.ranks.value.items)) c.self.view_is
    (are-alike (shown s.net.value numbers s.taken.ranks.value.items) (shown new next c.in_ok-taken.taken.ranks.value.items) alike)
