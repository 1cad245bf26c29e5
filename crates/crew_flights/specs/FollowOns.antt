-- Follow-ons: which flight follows which. Two maps mirror each other.
use Rattle.std.specs.Prelude.{ℕ, Option, Some, None, refl}
use Rattle.std.specs.Ordering.{nat_cmp}
use Rattle.std.specs.Coded.{Coded, code_by, coded×, coded_ℕ}
use Rattle.std.specs.FinMap as map

-- of a flight, by number, another one
abbrev pub Links : Type 0
Links = map.FinMap nat_cmp ℕ

-- links are stored as their entries
abbrev pub links_code : Coded Links
links_code = map.code coded_ℕ coded_ℕ

-- of a flight, the one that follows it; and of that one, the flight that it follows
pub record FollowOns : Type 0 where
  pub follows : Links
  pub leads : Links

-- they are stored as the two maps
abbrev pub follow_ons_code : Coded FollowOns
follow_ons_code = code_by (Links × Links) (coded× links_code links_code)
    (λ f. (f.follows, f.leads)) (λ p. record { follows = p.0; leads = p.1 }) (λ _. refl)

abbrev pub no_follow_ons : FollowOns
no_follow_ons = record { follows = map.empty; leads = map.empty }

-- the link of a flight, if one is named, goes
abbrev pub without_link : Links → Option ℕ → Links
without_link links None = links
without_link links (Some number) = map.remove links number

abbrev pub linked : FollowOns → ℕ → ℕ → FollowOns
linked f before after = record {
  follows = map.insert f.follows before after;
  leads = map.insert f.leads after before;
}

-- what follows a flight follows it no more
abbrev pub unlinked : FollowOns → ℕ → FollowOns
unlinked f before = record {
  follows = map.remove f.follows before;
  leads = without_link f.leads (map.get f.follows before);
}

-- a flight follows none, and none follows it
abbrev pub without_number : FollowOns → ℕ → FollowOns
without_number f number = record {
  follows = without_link (map.remove f.follows number) (map.get f.leads number);
  leads = without_link (map.remove f.leads number) (map.get f.follows number);
}
