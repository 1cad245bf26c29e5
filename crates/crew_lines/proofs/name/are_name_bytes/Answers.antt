use Rattle.std.proofs.Common.{rules}
use Rattle.std.proofs.lemmas.Iterator.{YieldsList-from_slice}
use Rattle.std.proofs.lemmas.Iterator.Search.{all_from_yields_List}
use Rattle.crew_lines.specs.NameBytes.{is_name_byte}
use Rattle.crew_lines.proofs.name.are_name_bytes.Goals as goal

pub returns : goal.returns
returns c = all_from_yields_List is_name_byte _ _ _ c.all.ensures.ran (YieldsList-from_slice c.args.bytes.now c.iter.ensures.rest) (λ x b q k. search rules)
