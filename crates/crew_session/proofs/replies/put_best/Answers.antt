use Rattle.std.proofs.Common.{◌≡◌, ◌∙◌, ◌++◌, Result, Ok, Err, List, ℕ, ap, sym, if◌then◌else◌}
use Rattle.std.specs.Option.{option_copied}
use Rattle.std.specs.Prelude.{OnOk}
use Rattle.std.specs.Result.{is_ok}
use Rattle.crew_session.specs.Lines.{best_line}
use Rattle.crew_session.proofs.replies.put_best.Goals as goal

grown : {F : Type 0} (r : Result (Unit {0}) F) (old new added text : List ℕ) → added ≡ text → new ≡ (if is_ok r then old ++ added else old) → OnOk r (new ≡ old ++ text)
grown (Ok u) old new added text e h = h ∙ ap (λ (t : List ℕ). old ++ t) e
grown (Err x) old new added text e h = tt

pub returns-in_ok-pairing_line-in-Some : goal.returns-in_ok-pairing_line-in-Some
returns-in_ok-pairing_line-in-Some c =
    let best = ap best_line (sym (ap option_copied c.in-Some.is) ∙ c.best.ensures.value) in
    let text = c.deref.ensures.value ∙ c.in_ok-pairing_line-in-Some.ensures ∙ best in
    grown c.extend_from_slice-in-Some.result _ _ _ _ text c.extend_from_slice-in-Some.ensures.items
