use Rattle.std.proofs.Common.{◌≡◌, ◌∙◌, ◌+◌, Some, arith, length, subst, sym}
use Rattle.std.specs.Prelude.{slice_get}
use Rattle.std.proofs.lemmas.List.{length-map}
use Rattle.crew_pairing.specs.declared.duty.Duty.{Duty}
use Rattle.crew_numbers.specs.Machinery.Kept.{IsFoundAt}
use Rattle.crew_numbers.proofs.Keeping.{AreKeptSo, found-within, get-mapped, kept-all, kept-more, kept-none, keys_of}
use Rattle.crew_numbers.proofs.kept.kept_numbers.Goals as goal

pub loop-rank-preserved : goal.loop-rank-preserved
loop-rank-preserved c =
    let olds = keys_of c.args.old.now.duties in
    let news = keys_of c.args.new.now.duties in
    let numbers = c.args.numbers.now in
    let i = c.loop-rank.rank in
    let d = c.duty.result.now in
    let key : slice_get news i ≡ Some d.key = get-mapped (λ (x : Duty). x.key) c.args.new.now.duties i d c.duty.ensures in
    let long : length numbers ≡ length olds = c.requires ∙ sym (length-map c.args.old.now.duties (λ (x : Duty). x.key)) in
    let found : IsFoundAt olds d.key c.rank_near-found.result = c.rank_near-found.ensures.found in
    subst (AreKeptSo olds news numbers (i + 1)) (sym c.in_ok-push.ensures.items)
    (kept-more olds news numbers i c.loop-rank.kept.items d.key c.rank_near-found.result c.at_rank.result long key found c.at_rank.ensures c.loop-rank.invariant)

pub loop-rank-init : goal.loop-rank-init
loop-rank-init c =
    let olds = keys_of c.args.old.now.duties in
    let news = keys_of c.args.new.now.duties in
    let numbers = c.args.numbers.now in
    subst (AreKeptSo olds news numbers 0) (sym c.in_ok-kept.ensures.items) (kept-none olds news numbers)

pub at_rank-requires : goal.at_rank-requires
at_rank-requires c =
    let olds = keys_of c.args.old.now.duties in
    let long = c.requires ∙ sym (length-map c.args.old.now.duties (λ (x : Duty). x.key)) in
    found-within olds c.args.numbers.now c.duty.result.now.key c.rank_near-found.result long c.rank_near-found.ensures.found

pub next_near-near-requires : goal.next_near-near-requires
next_near-near-requires c = c.rank_near-found.ensures.few

pub returns-clause-kept : goal.returns-clause-kept
returns-clause-kept c =
    let olds = keys_of c.args.old.now.duties in
    let news = keys_of c.args.new.now.duties in
    let count = c.duty_count-rank-end.ensures.count in
    let long = length-map c.args.new.now.duties (λ (x : Duty). x.key) in
    kept-all olds news c.args.numbers.now c.loop-rank.rank c.loop-rank.kept.items (omega (arith, count, long, c.loop-rank-test.false)) c.loop-rank.invariant

pub returns-clause-long : goal.returns-clause-long
returns-clause-long c =
    let count = c.duty_count-rank-end.ensures.count in
    let long = c.loop-rank.invariant.long in
    omega (arith, count, long, c.loop-rank-test.false)
