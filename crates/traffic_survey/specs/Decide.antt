-- Nearly all: so many of all frames are nearly all of them (this project's profile).
use Rattle.std.specs.Prelude.{ℕ, ◌-◌, ◌/◌, Bool, ◌&&◌, nat_lt, nat_le}

-- nine in ten; of no frame none are
abbrev pub is_nearly_all : ℕ → ℕ → Bool
is_nearly_all count frames = nat_lt 0 frames && nat_le (frames - count) (frames / 10)
