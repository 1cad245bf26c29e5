use Rattle.std.proofs.Common.{◌≡◌, Err, Ok, Result, ap, sym, subst, true≢false}
use Rattle.std.specs.Prelude.{OnOk, is_ok}
use Rattle.crew_flights.specs.Timetable.{Timetable}
use Rattle.crew_pairing.specs.Duties.{HasFew}
use Rattle.crew_rules.specs.declared.settings.Settings.{Settings}
use Rattle.crew_version.proofs.version.Version.followed.Goals as goal

on-ok : {A F : Type 0} (r : Result A F) (x : A) (P : Type 0) → r ≡ Ok x → OnOk r P → P
on-ok (Ok y) x P e h = h
on-ok (Err f) x P e h = absurd (true≢false (sym (ap is_ok e)))

few-of : (s s2 : Settings) (t t2 : Timetable) → s ≡ s2 → t ≡ t2 → HasFew s t → HasFew s2 t2
few-of s s2 t t2 same alike few = subst (λ x. HasFew x t2) same (subst (HasFew s) alike few)

pub of-requires-clause-few : goal.of-requires-clause-few
of-requires-clause-few g c =
    few-of _ _ _ _ c.settings-settings.ensures.value c.timetable-timetable.ensures
    (on-ok c.find_solution.result c.in_ok-solution.solution _ c.in_ok-solution.was c.find_solution.ensures.few)
