-- What numbers show of what they keep.
use Rattle.std.proofs.Common.{◌≡◌, ◌∙◌, ℕ, List, Some, length, ap, sym, arith}
use Rattle.std.specs.Prelude.{slice_get}
use Rattle.crew_net.specs.Nets.{Net}
use Rattle.crew_pairing.specs.Duties.{RiseByKey}
use Rattle.crew_pairing.specs.declared.duty.Duty.{Duty}
use Rattle.crew_resource.specs.Members.{Member}
use Rattle.crew_numbers.specs.Machinery.Kept.{AlikeIn, StayIn}
use Rattle.crew_numbers.specs.Numbers.{AreAlike, AreNumbers, IsNumber, Numbers, Stay}
use Rattle.crew_numbers.proofs.Gets.{one-value, there, within}
use Rattle.crew_numbers.proofs.Keeping.{get-mapped, keys-distinct, keys_of, member-at}

abbrev pub shown : Net → List ℕ → List ℕ → Numbers
shown net numbers ranks = record { net = net; numbers = numbers; ranks = ranks }

key-at : (ds : List Duty) (rank : ℕ) (d : Duty) → slice_get ds rank ≡ Some d → slice_get (keys_of ds) rank ≡ Some d.key
key-at ds rank d e = get-mapped (λ (x : Duty). x.key) ds rank d e

module _ (before after : Numbers) where
  pub stays : StayIn (keys_of before.net.duties) (keys_of after.net.duties) before.numbers after.numbers → Stay before after
  stays stay d e number is m same =
      let r = member-at after.net.duties e m in
      record {
        rank = r.0;
        is_rank = r.1;
        is_number = stay is.rank r.0 number d.key (key-at before.net.duties is.rank d is.is_rank) (key-at after.net.duties r.0 e r.1 ∙ ap (λ z. Some z) (sym same)) is.is_number;
      }

  pub are-alike : AlikeIn (keys_of before.net.duties) (keys_of after.net.duties) before.numbers after.numbers → AreAlike before after
  are-alike alike d e number is now =
      alike is.rank now.rank number d.key e.key (key-at before.net.duties is.rank d is.is_rank) (key-at after.net.duties now.rank e now.is_rank) is.is_number now.is_number

module _ (all : Numbers) where
  pub one-duty : (d e : Duty) (number : ℕ) → AreNumbers all.numbers all.ranks (length all.net.duties) → IsNumber all d number → IsNumber all e number → d ≡ e
  one-duty d e number are p q =
      let rank = one-value (slice_get all.ranks number) p.rank q.rank (are.told p.rank number p.is_number) (are.told q.rank number q.is_number) in
      one-value (slice_get all.net.duties q.rank) d e (ap (slice_get all.net.duties) (sym rank) ∙ p.is_rank) q.is_rank

  pub a-number : (d : Duty) → AreNumbers all.numbers all.ranks (length all.net.duties) → Member all.net.duties d → (number : ℕ) × IsNumber all d number
  a-number d are m =
      let r = member-at all.net.duties d m in
      let w = within all.net.duties r.0 d r.1 in
      let long = are.long in
      let n = there all.numbers r.0 (omega (arith, w, long)) in
      (n.0, record { rank = r.0; is_rank = r.1; is_number = n.1 })

  pub one-number : (d : Duty) (m n : ℕ) → RiseByKey all.net.duties → IsNumber all d m → IsNumber all d n → m ≡ n
  one-number d m n rising p q =
      let rank = keys-distinct all.net.duties rising p.rank q.rank d.key (key-at all.net.duties p.rank d p.is_rank) (key-at all.net.duties q.rank d q.is_rank) in
      one-value (slice_get all.numbers q.rank) m n (ap (slice_get all.numbers) (sym rank) ∙ p.is_number) q.is_number
