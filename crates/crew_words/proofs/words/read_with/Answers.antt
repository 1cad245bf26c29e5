use Rattle.std.proofs.Common.{◌≡◌, ◌∙◌, [], List, true, map, ap, refl, sym, subst, Ok, Err, Result}
use Rattle.std.specs.Result.{IsErrAnd}
use Rattle.clap.specs.Faults.{fault_of, is_simple_and_free}
use Rattle.clap.specs.Kinds.{HasKind, Kinds}
use Rattle.clap.specs.Words.{App, FailsBy, Text, is_simple, subcommand_of}
use Rattle.clap.specs.declared.error.Error.{Error}
use Rattle.clap.proofs.OnLiterals.{clap_on_literals}
use Rattle.crew_words.specs.declared.task.Task.{Task}
use Rattle.crew_words.specs.Words.{faults_in, number_rule, program, run_command, serve_command, sub_up_to, task_by, task_of}
use Rattle.crew_words.proofs.words.read_with.Goals as goal

simple : is_simple program ≡ true
unfolding program run_command serve_command sub_up_to number_rule clap_on_literals
simple = refl

free : is_simple_and_free program ≡ true
unfolding program run_command serve_command sub_up_to number_rule clap_on_literals
free = refl

-- an error that is handed on is of the same kinds
handed : (kinds : Kinds) (r : Result Task Error) (e : Error) → IsErrAnd r (λ x. x ≡ e) → HasKind kinds e → FailsBy kinds r
handed kinds (Ok s) e is has = absurd is
handed kinds (Err x) e is has = subst (HasKind kinds) (sym is) has

-- what the parser says of a command that is `program`
kinds-at : (a : App) (words : List Text) (e : Error) → a ≡ program → (is_simple_and_free a ≡ true → HasKind (fault_of a words) e) → HasKind (faults_in words) e
unfolding faults_in
kinds-at a words e is has = subst (λ (b : App). HasKind (fault_of b words) e) is (has (ap is_simple_and_free is ∙ free))

none-at : (a : App) (words : List Text) → a ≡ program → (is_simple_and_free a ≡ true → fault_of a words ≡ []) → faults_in words ≡ []
unfolding faults_in
none-at a words is has = sym (ap (λ (b : App). fault_of b words) is) ∙ has (ap is_simple_and_free is ∙ free)

task-at : (a : App) (words : List Text) → a ≡ program → task_by (subcommand_of a words) ≡ task_of words
unfolding task_of
task-at a words is = ap (λ (b : App). task_by (subcommand_of b words)) is

pub returns-in_err-matches-clause-fails : goal.returns-in_err-matches-clause-fails
returns-in_err-matches-clause-fails g c = handed _ c.from_residual-in_err-matches.result c.in_err-matches.field-0.0 c.from_residual-in_err-matches.ensures.1
    (kinds-at _ (map g.S.AsStr.text c.args.words.now) c.in_err-matches.field-0.0 c.in_ok-program_with.ensures.shape c.in_err-matches.ensures.kinds)

pub returns-clause-task : goal.returns-clause-task
returns-clause-task g c =
    let words = map g.S.AsStr.text c.args.words.now in
    let is = c.in_ok-program_with.ensures.shape in
    let sub = (c.in_ok-matches.ensures.matches (ap is_simple is ∙ simple)).1 in
    c.task_found.ensures ∙ ap task_by sub ∙ task-at _ words is

pub returns-clause-fails : goal.returns-clause-fails
returns-clause-fails g c = none-at _ (map g.S.AsStr.text c.args.words.now) c.in_ok-program_with.ensures.shape c.in_ok-matches.ensures.kinds
