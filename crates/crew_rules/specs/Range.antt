-- A range of numbers.
use Rattle.std.specs.Prelude.{ℕ, Bool, ◌&&◌, nat_le}

-- a value lies between its least and its greatest, which it may reach
abbrev pub is_in_range : ℕ × ℕ × ℕ → Bool
is_in_range r = nat_le r.1 r.0 && nat_le r.0 r.2
