-- Seven sums are plain.
use Rattle.std.specs.Prelude.{false}
use Rattle.std.proofs.Common.{refl}
use Rattle.crew_forgetful.specs.Machinery.Sums.{is_same}
use Rattle.crew_pairing.specs.declared.vector.PairingVector.{PairingVector}
use Rattle.crew_pass.specs.Plain.{IsPlain}
use Rattle.crew_vector.specs.Dominance.{is_at_most}
use Rattle.crew_vector.specs.Machinery.Named.{named_order}
use Rattle.crew_sums.specs.Machinery.Shifting.{one_value}

pub sums_plain : {X G N : Type 0} → IsPlain {V = PairingVector} {X = X} {G = G} {N = N} is_at_most
    (is_same is_at_most) (λ v x g. v) (λ v d. false) (Unit {0})
sums_plain = record {
  shifts = tt;
  sums_alone = λ a b h k. one_value _ is_at_most named_order a b k;
  still = λ v x g. refl;
  stays = λ v d. refl;
}
