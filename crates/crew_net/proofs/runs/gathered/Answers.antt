use Rattle.std.proofs.Common.{rules, ◌≡◌, ◌<◌, ◌++◌, ◌∙◌, IsPermutation, List, ap, get_or, length, subst, sym, ℕ}
use Rattle.std.specs.Prelude.{flat_map}
use Rattle.std.proofs.lemmas.List.Sorted.{length_permutation}
use Rattle.crew_net.specs.Machinery.Runs.{IsRunOf, run_keys}
use Rattle.crew_net.specs.declared.runs.Run.{Run}
use Rattle.crew_net.proofs.Gathered.{parts-shuffled, parts-so-far, run-within, take-whole}
use Rattle.crew_net.proofs.runs.gathered.Goals as goal

pub slice_bounds-extend_from_slice-count : goal.slice_bounds-extend_from_slice-count
slice_bounds-extend_from_slice-count c =
    let runs = c.sort_unstable.new.self.items in
    let k = c.loop-run.run-index in
    let zero : Run = record { first = 0; from = 0; end = 0 } in
    let is : IsRunOf (length c.args.keys.now) (get_or c.deref-run-items.result.now k zero) =
    subst (λ (l : List Run). k < length l → IsRunOf (length c.args.keys.now) (get_or l k zero)) (sym c.deref-run-items.ensures.value) (run-within (length c.args.keys.now) c.in_ok-runs.runs.items runs k zero c.in_ok-runs.ensures.within c.sort_unstable.ensures.permutation) c.loop-run-test.true in
    let h = is.ordered in let w = is.within in search (rules, h, w)

pub slice_bounds-extend_from_slice-start : goal.slice_bounds-extend_from_slice-start
slice_bounds-extend_from_slice-start c =
    let runs = c.sort_unstable.new.self.items in
    let k = c.loop-run.run-index in
    let zero : Run = record { first = 0; from = 0; end = 0 } in
    let is : IsRunOf (length c.args.keys.now) (get_or c.deref-run-items.result.now k zero) =
    subst (λ (l : List Run). k < length l → IsRunOf (length c.args.keys.now) (get_or l k zero)) (sym c.deref-run-items.ensures.value) (run-within (length c.args.keys.now) c.in_ok-runs.runs.items runs k zero c.in_ok-runs.ensures.within c.sort_unstable.ensures.permutation) c.loop-run-test.true in
    let h = is.ordered in let w = is.within in search (rules, h, w)

pub slice_bounds-extend_from_slice-end : goal.slice_bounds-extend_from_slice-end
slice_bounds-extend_from_slice-end c =
    let runs = c.sort_unstable.new.self.items in
    let k = c.loop-run.run-index in
    let zero : Run = record { first = 0; from = 0; end = 0 } in
    let is : IsRunOf (length c.args.keys.now) (get_or c.deref-run-items.result.now k zero) =
    subst (λ (l : List Run). k < length l → IsRunOf (length c.args.keys.now) (get_or l k zero)) (sym c.deref-run-items.ensures.value) (run-within (length c.args.keys.now) c.in_ok-runs.runs.items runs k zero c.in_ok-runs.ensures.within c.sort_unstable.ensures.permutation) c.loop-run-test.true in
    let h = is.ordered in let w = is.within in search (rules, h, w)

pub loop-run-preserved : goal.loop-run-preserved
loop-run-preserved c =
    let keys = c.args.keys.now in
    let items = c.deref-run-items.result.now in
    let k = c.loop-run.run-index in
    c.in_ok-extend_from_slice.ensures.items
    ∙ (ap (λ (l : List ℕ). l ++ run_keys keys (get_or items k (record { first = 0; from = 0; end = 0 }))) c.loop-run.invariant
    ∙ sym (parts-so-far (run_keys keys) items k (record { first = 0; from = 0; end = 0 }) c.loop-run-test.true))

shuffled : goal.returns-clause-same
shuffled c =
    let keys = c.args.keys.now in
    let runs = c.sort_unstable.new.self.items in
    let all : c.loop-run.gathered.items ≡ flat_map (run_keys keys) runs =
    c.loop-run.invariant ∙ ap (flat_map (run_keys keys)) (take-whole c.loop-run.run-index c.deref-run-items.result.now c.loop-run-test.false ∙ c.deref-run-items.ensures.value) in
    subst (λ (l : List ℕ). IsPermutation l c.loop-run.gathered.items) c.in_ok-runs.ensures.whole
    (subst (IsPermutation (flat_map (run_keys keys) c.in_ok-runs.runs.items)) (sym all) (parts-shuffled (run_keys keys) c.in_ok-runs.runs.items runs c.sort_unstable.ensures.permutation))

pub returns-clause-same : goal.returns-clause-same
returns-clause-same c = shuffled c

pub returns-clause-long : goal.returns-clause-long
returns-clause-long c = length_permutation c.args.keys.now c.loop-run.gathered.items (shuffled c)
