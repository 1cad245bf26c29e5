use Rattle.std.proofs.Common.{◌∙◌, ap, rules, sym}
use Rattle.std.specs.Prelude.{◌&&◌, ◌==◌}
use Rattle.std.specs.List.{list_all}
use Rattle.std.proofs.lemmas.Iterator.{YieldsList-from_slice}
use Rattle.std.proofs.lemmas.Iterator.Search.{all_from_yields_List}
use Rattle.crew_flights.specs.Codes.{is_letter}
use Rattle.crew_flights.proofs.flight.are_letters.Goals as goal

pub returns : goal.returns
returns c =
    let letters = all_from_yields_List is_letter _ _ _ c.all.ensures.ran (YieldsList-from_slice c.args.bytes.now c.iter.ensures.rest) (λ x b q k. search rules) in
    letters ∙ sym (ap (λ n. (n == 3) && list_all is_letter c.args.bytes.now) c.told-bytes)
