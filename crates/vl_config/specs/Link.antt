-- A virtual link of the table, and the ranges of its parameters (this project's profile).
use Rattle.std.specs.Prelude.{ℕ, ◌*◌, ◌≤◌, ◌==◌, Bool, ◌&&◌, ◌||◌, IsTrue, true, List, [], ◌∷◌, Option, length, nat_le}
use Rattle.std.specs.List.{list_any, list_all}
use Rattle.std.specs.Option.{option_map_or}
use Rattle.afdx_frame.specs.declared.key.VlId.{VlId}

-- times are in nanoseconds, sizes in bytes
pub record VirtualLink : Type 0 where
  pub id : VlId
  pub name : List ℕ
  pub bag : ℕ
  pub jitter : ℕ
  pub smax : ℕ
  pub integrity : Bool
  pub redundancy : Bool
  pub skew : ℕ
  pub group : Option (List ℕ)

-- the bandwidth allocation gaps in milliseconds: the powers of 2 up to 128 (ARINC 664 Part 7)
abbrev pub bags_ms : List ℕ
bags_ms = 1 ∷ 2 ∷ 4 ∷ 8 ∷ 16 ∷ 32 ∷ 64 ∷ 128 ∷ []

-- an ASCII letter or digit, '_' or '-'
abbrev pub is_name_byte : ℕ → Bool
is_name_byte byte =
    (nat_le 97 byte && nat_le byte 122) || (nat_le 65 byte && nat_le byte 90) || (nat_le 48 byte && nat_le byte 57)
    || (byte == 95) || (byte == 45)

abbrev pub is_name : List ℕ → Bool
is_name bytes = nat_le 1 (length bytes) && nat_le (length bytes) 32 && list_all is_name_byte bytes

-- the ranges
pub record IsLink (link : VirtualLink) : Type 0 where
  pub name : IsTrue (is_name link.name)
  pub bag : IsTrue (list_any (λ ms. ms * 1000000 == link.bag) bags_ms)
  pub jitter : link.jitter ≤ 100000000
  pub smallest : 64 ≤ link.smax
  pub largest : link.smax ≤ 1518
  pub skew : link.skew ≤ 1000000000
  pub group : IsTrue (option_map_or is_name link.group true)
