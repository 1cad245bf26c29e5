-- What a client sees, one version after another.
use Rattle.std.specs.Prelude.{IfOk}
use Rattle.std.proofs.Common.{Result, Ok, Err, ◌≡◌, ◌<◌, ◌∙◌, ℕ, List, refl, sym, ap, subst, arith, inl, inr}
use Rattle.crew_publish.proofs.Chains.{extends_trans}
use Rattle.crew_publish.specs.Chain.{Ends, Extends, Follows}
use Rattle.crew_publish.specs.Views.{IsMet, IsViewOf, Watching}
use Rattle.crew_rules.specs.declared.settings.Settings.{Settings}
use Rattle.crew_serve.specs.Clients.{IsSettledBy, IsSight}
use Rattle.crew_serve.specs.Machinery.Clerks.{Clerking, IsJudged, IsLeft, IsNotSettled, IsPast, IsUnseen}
use Rattle.crew_serve.specs.declared.client_fault.ClientFault.{ClientFault}
use Rattle.crew_serve.specs.declared.client_fault.ClientFault.TheVariants.{TooManyDuties, LastVersion, NoSeat, SeatFull, Unsettled, OtherSettings, NoView, Memory}
use Rattle.crew_serve.specs.declared.waiting.Waiting.{Waiting}
use Rattle.crew_version.specs.Versions.{IsRight, Snapshot}

pub extends-self : (v : Snapshot) → Extends v v
extends-self v = inl (refl, refl)

pub sight-self : (v : Snapshot) → IsRight v → IsSight v v
sight-self v right = record { extends = extends-self v; right = right; settings = refl }

pub sight-over : (u v w : Snapshot) → IsSight u v → IsSight v w → IsSight u w
sight-over u v w a b = record {
  extends = extends_trans u v w a.extends b.extends;
  right = b.right;
  settings = b.settings ∙ a.settings;
}

-- what extends a version, and has a greater number, follows it
later : (u v : Snapshot) → Extends u v → u.number < v.number → Follows u v
later u v (inl same) rises = absurd (omega (arith, same.0, rises))
later u v (inr follows) rises = follows

-- what is past a version's number settles edits
pub past-settles : (u v : Snapshot) (number : ℕ) (waiting : List Waiting) → IsSight u v → number ≡ u.number → IsPast number waiting v → IsSettledBy u waiting v
past-settles u v number waiting sight is past = record { follows = later u v sight.extends (omega (arith, is, past.past)); has = past.has }

settles-past : (u v : Snapshot) (number : ℕ) (waiting : List Waiting) → number ≡ u.number → IsSettledBy u waiting v → IsPast number waiting v
settles-past u v number waiting is settled = record { past = omega (arith, is, settled.follows.rises); has = settled.has }

-- what is unseen after a version is so after one before it
unseen-before : (u v : Snapshot) → IsSight u v → IsUnseen v OtherSettings → IsUnseen u OtherSettings
unseen-before u v sight h = (h.0, extends_trans u v h.0 sight.extends h.1, λ same. h.2 (same ∙ sym sight.settings))

-- why edits aren't settled past a version's number, is why they aren't settled
pub left-unsettled : (u v w : Snapshot) (number : ℕ) (waiting : List Waiting) (fault : ClientFault) → IsSight u v → number ≡ u.number → IsLeft v number waiting w fault → IsNotSettled u waiting w fault
left-unsettled u v w number waiting TooManyDuties sight is h = h
left-unsettled u v w number waiting LastVersion sight is h = h
left-unsettled u v w number waiting Unsettled sight is h = λ settled. h (settles-past u w number waiting is settled)
left-unsettled u v w number waiting OtherSettings sight is h = unseen-before u v sight h
left-unsettled u v w number waiting NoView sight is h = h
left-unsettled u v w number waiting Memory sight is h = h
left-unsettled u v w number waiting SeatFull sight is h = h
left-unsettled u v w number waiting NoSeat sight is h = h

-- what isn't seen leaves edits unsettled
pub unseen-left : (u v : Snapshot) (number : ℕ) (waiting : List Waiting) (fault : ClientFault) → IsUnseen u fault → IsLeft u number waiting v fault
unseen-left u v number waiting OtherSettings h = h
unseen-left u v number waiting NoView h = h
unseen-left u v number waiting Memory h = h
unseen-left u v number waiting SeatFull h = h
unseen-left u v number waiting NoSeat h = h
unseen-left u v number waiting TooManyDuties h = absurd h
unseen-left u v number waiting LastVersion h = absurd h
unseen-left u v number waiting Unsettled h = absurd h

-- .. and so does what is judged, where a version isn't past the number
pub judged-left : (u v : Snapshot) (number : ℕ) (waiting : List Waiting) (fault : ClientFault) → ¬ (IsPast number waiting v) → IsJudged waiting v fault → IsLeft u number waiting v fault
judged-left u v number waiting TooManyDuties not h = h
judged-left u v number waiting LastVersion not h = h
judged-left u v number waiting Unsettled not h = not
judged-left u v number waiting Memory not h = h
judged-left u v number waiting OtherSettings not h = absurd h
judged-left u v number waiting NoView not h = absurd h
judged-left u v number waiting SeatFull not h = absurd h
judged-left u v number waiting NoSeat not h = absurd h

-- ---- what a viewer is shown

pub met-after : (after : Watching) (told v : Snapshot) (list : List Snapshot) → after.seen ≡ list → IsViewOf list v → Extends told v → IsMet after told
met-after after told v list is view extends = (v, subst (λ (l : List Snapshot). Ends l v) (sym is) view.1, extends)

pub seen-sight : (u v w : Snapshot) (s : Settings) → Extends u v → w ≡ v → IsRight w → w.settings ≡ s → u.settings ≡ s → IsSight u v
seen-sight u v w s extends is right under before = record {
  extends = extends;
  right = subst IsRight is right;
  settings = ap (λ (x : Snapshot). x.settings) (sym is) ∙ under ∙ sym before;
}

-- ---- several tries

pub seen-over : (a b c : Clerking) → b ≡ record a { version = b.version } → c ≡ record b { version = c.version } → c ≡ record a { version = c.version }
seen-over a b c e f = f ∙ ap (λ (k : Clerking). record k { version = c.version }) e

pub left-before : (u v w : Snapshot) (number : ℕ) (waiting : List Waiting) (fault : ClientFault) → IsSight u v → IsLeft v number waiting w fault → IsLeft u number waiting w fault
left-before u v w number waiting OtherSettings sight h = unseen-before u v sight h
left-before u v w number waiting TooManyDuties sight h = h
left-before u v w number waiting LastVersion sight h = h
left-before u v w number waiting Unsettled sight h = h
left-before u v w number waiting NoView sight h = h
left-before u v w number waiting Memory sight h = h
left-before u v w number waiting SeatFull sight h = h
left-before u v w number waiting NoSeat sight h = h

pub ok-weaker : {T E : Type 0} (r : Result T E) (P Q : T → Type 0) → ((x : T) → P x → Q x) → IfOk r P → IfOk r Q
ok-weaker (Ok x) P Q f h = f x h
ok-weaker (Err y) P Q f h = tt
