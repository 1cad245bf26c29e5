use Rattle.std.proofs.Common.{◌∙◌, ◌+◌, ◌<◌, ap, arith, drop, length, length-drop, option_map, rules, sym, take_all}
use Rattle.crew_lines.specs.Names.{bytes_of_name, parts_of}
use Rattle.crew_lines.proofs.NameFacts.{split-none, split-some}
use Rattle.crew_lines.proofs.parts.split.Goals as goal

pub returns-in_err-name : goal.returns-in_err-name
returns-in_err-name c =
    let none = sym (ap (option_map bytes_of_name) c.in_err-name.was) ∙ c.read.ensures in
    ap (option_map parts_of) c.from_residual.ensures ∙ split-none c.args.line.now c.count_before-end.result c.count_before-end.ensures.value none

pub returns : goal.returns
returns c =
    let there : c.count_before-end.result < length c.args.line.now = search rules in
    let n = c.count_before-end.result in
    let behind = length-drop (n + 1) c.args.line.now in
    split-some c.args.line.now n _ _ c.count_before-end.ensures.value there (search rules) (take_all _ (drop (n + 1) c.args.line.now) (omega (arith, behind)))
