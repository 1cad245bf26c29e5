use Rattle.std.proofs.Common.{◌≡◌, ◌/◌, get_or, length, slice_set, ◌∙◌, ap, arith}
use Rattle.std.specs.Int.{bit_at}
use Rattle.std.proofs.lemmas.Grind.{get_or_default_zero}
use Rattle.crew_ready.proofs.Rows.{above-set, in-row, long-used, write}
use Rattle.crew_ready.specs.Machinery.Words.{IsRow, flags_of}
use Rattle.crew_ready.proofs.level.Level.set.Goals as goal

pub index-requires : goal.index-requires
index-requires c =
    let within = (in-row c.self.inside.count c.self.inside.words.items c.args.self.now c.args.place c.self.invariant.0 c.self.view_is c.requires).1 in
    let ok = c.self.inside.words.ok in
    omega (arith, within, ok)

pub index_mut-requires : goal.index_mut-requires
index_mut-requires c =
    let within = (in-row c.self.inside.count c.self.inside.words.items c.args.self.now c.args.place c.self.invariant.0 c.self.view_is c.requires).1 in
    let ok = c.self.inside.words.ok in
    omega (arith, within, ok)

pub set-requires : goal.set-requires
set-requires c =
    let words = c.self.inside.words.items in
    let within = (in-row c.self.inside.count words c.args.self.now c.args.place c.self.invariant.0 c.self.view_is c.requires).1 in
    let upper = ap length c.self.invariant.1 in
    let long = long-used words in
    omega (arith, within, upper, long)

written : (c : goal.After-set) → (flags_of c.self.inside.count (slice_set c.self.inside.words.items (c.args.place / 64) c.with_bit-word.result) ≡ slice_set (flags_of c.self.inside.count c.self.inside.words.items) c.args.place c.args.member) × IsRow c.self.inside.count (slice_set c.self.inside.words.items (c.args.place / 64) c.with_bit-word.result)
written c =
    let n = c.self.inside.count in
    let words = c.self.inside.words.items in
    let place = c.args.place in
    let within = in-row n words c.args.self.now place c.self.invariant.0 c.self.view_is c.requires in
    let read : c.index.result.now ≡ get_or words (place / 64) 0 = c.index.ensures ∙ get_or_default_zero words (place / 64) c.index.result.now within.1 in
    write n words place c.with_bit-word.result c.args.member c.self.invariant.0 within.0 c.with_bit-word.ensures.here
    (λ k low other. c.with_bit-word.ensures.elsewhere k low other ∙ ap (λ z. bit_at z k) read)

pub invariant_of-self : goal.invariant_of-self
invariant_of-self c = ((written c).1, c.set.ensures ∙ above-set c.self.inside.words.items c.self.inside.above (c.args.place / 64) c.with_bit-word.result c.self.invariant.1)

pub returns : goal.returns
returns c = (written c).0 ∙ ap (λ z. slice_set z c.args.place c.args.member) c.self.view_is
