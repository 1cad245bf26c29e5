use Rattle.std.proofs.Common.{◌≡◌, ◌∙◌, ◌<◌, ◌≤◌, ◌+◌, ◌-◌, get_or, Vec, Some, sym, ap, drop, map, subst}
use Rattle.std.specs.Arc.{arc_value}
use Rattle.std.specs.Global.{Global}
use Rattle.std.specs.Prelude.{slice_get, vec_len}
use Rattle.std.proofs.lemmas.List.{drop_more}
use Rattle.std.proofs.lemmas.Option.{slice_get-get_or}
use Rattle.crew_version.specs.Machinery.Chunks.{all_of}
use Rattle.crew_version.proofs.Chunked.{ahead, behind}
use Rattle.crew_version.proofs.chunks.item_at.Goals as goal

pub returns-then-left-len : goal.returns-then-left-len
returns-then-left-len g c =
    let chunks = c.args.chunks.now in
    let i = c.loop-chunk.chunk-index in
    let item = arc_value c.chunk-item.result in
    let cut = ap (map arc_value) (rw (← c.chunk-item.is) at (drop_more chunks i c.chunk-item.result c.loop-chunk-test.true)) in
    let long = c.len.ensures ∙ ap (λ (v : Vec g.row.T.Denot Global). vec_len v) c.deref.ensures ∙ item.ok.0 in
    let less = subst (λ n. c.loop-chunk.left < n) long c.if-left-len.true in
    let found = ahead (map arc_value (drop i chunks)) (map arc_value (drop (i + 1) chunks)) item (all_of (map arc_value chunks)) c.loop-chunk.left c.args.place cut c.loop-chunk.invariant less in
    let read = c.index.ensures ∙ ap (λ (v : Vec g.row.T.Denot Global). get_or v.items c.loop-chunk.left c.index.result.now) c.deref-then-left-len.ensures in
    ap Some read ∙ sym (slice_get-get_or item.items c.loop-chunk.left c.index.result.now less) ∙ found

pub loop-chunk-preserved : goal.loop-chunk-preserved
loop-chunk-preserved g c =
    let chunks = c.args.chunks.now in
    let i = c.loop-chunk.chunk-index in
    let item = arc_value c.chunk-item.result in
    let cut = ap (map arc_value) (rw (← c.chunk-item.is) at (drop_more chunks i c.chunk-item.result c.loop-chunk-test.true)) in
    let long = c.len.ensures ∙ ap (λ (v : Vec g.row.T.Denot Global). vec_len v) c.deref.ensures ∙ item.ok.0 in
    let least = subst (λ n. n ≤ c.loop-chunk.left) long c.if-left-len.false in
    let found = behind (map arc_value (drop i chunks)) (map arc_value (drop (i + 1) chunks)) item (all_of (map arc_value chunks)) c.loop-chunk.left c.args.place cut c.loop-chunk.invariant least in
    let off = c.len-left.ensures ∙ ap (λ (v : Vec g.row.T.Denot Global). vec_len v) c.deref-in-loop-chunk.ensures ∙ item.ok.0 in
    subst (λ n. slice_get (all_of (map arc_value (drop (i + 1) chunks))) (c.loop-chunk.left - n) ≡ slice_get (all_of (map arc_value chunks)) c.args.place) (sym off) found
