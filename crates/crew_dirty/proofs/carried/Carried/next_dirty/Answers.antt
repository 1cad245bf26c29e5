use Rattle.std.proofs.Common.{◌≡◌, ◌∙◌, ◌&&◌, ◌/◌, ◌%◌, ℕ, true, false, get_or, length, subst, arith}
use Rattle.crew_dirty.proofs.Nodes.{kept-at-place, node-found, node-within}
use Rattle.crew_dirty.proofs.Sames.{not-both}
use Rattle.crew_dirty.proofs.carried.Carried.next_dirty.Goals as goal

pub returns-then-not-kept : goal.returns-then-not-kept
returns-then-not-kept c = λ t u old over.
    let net = c.args.net.now in
    let own = c.args.self.now in
    let place = c.loop-place.place in
    let count = c.duty_count-count.ensures.count in
    let below = c.loop-place-test.true in
    let long = c.len-place-end.ensures in
    let node = node-within net.bases net.duties place (omega (arith, below, long)) in
    let flags : c.is_kept_at-kept.result ≡ (get_or own.bases (place / length net.duties) false && get_or own.unreached (place % length net.duties) false) =
    subst (λ (n : ℕ). c.is_kept_at-kept.result ≡ (get_or own.bases (place / n) false && get_or own.unreached (place % n) false)) count c.is_kept_at-kept.ensures.flags in
    record {
      not_before = c.loop-place.auto.place;
      node = node.0;
      at = node.1;
      dirty = λ k. not-both c.is_kept_at-kept.result (flags ∙ (kept-at-place t u old net own over place node.0 node.1).1 k) c.if-not-kept.true;
      kept = λ k n low high at. (kept-at-place t u old net own over k n at).0
          (subst (λ (n : ℕ). (get_or own.bases (k / n) false && get_or own.unreached (k % n) false) ≡ true) count (c.loop-place.invariant k low high));
    }

pub returns : goal.returns
returns c = λ t u old over place node low at.
    let net = c.args.net.now in
    let own = c.args.self.now in
    let count = c.duty_count-count.ensures.count in
    let all = c.loop-place-test.false in
    let long = c.len-place-end.ensures in
    let below = (node-found net.bases net.duties place node at).below in
    (kept-at-place t u old net own over place node at).0
    (subst (λ (n : ℕ). (get_or own.bases (place / n) false && get_or own.unreached (place % n) false) ≡ true) count (c.loop-place.invariant place low (omega (arith, all, long, below))))
