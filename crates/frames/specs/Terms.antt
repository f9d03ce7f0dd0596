-- The terms of a link: what both ends are set to.
use Rattle.std.specs.Prelude.{◌≡◌, ℕ, ◌+◌, ◌≤◌, Bool, true, false, cond, not, ◌&&◌, ◌||◌, ◌==◌, nat_le, nat_lt}
use Rattle.octets.specs.Bits.{bit}

-- `served` is the sum of 1 for IPv4, 2 for IPv6 and 4 for MAC; `longest` is the most information octets of a frame;
-- `width` counts the check octets
pub record Terms : Type 0 where
  pub served : ℕ
  pub longest : ℕ
  pub width : ℕ

abbrev pub ipv4_sapi : ℕ
ipv4_sapi = 0x0021

abbrev pub ipv6_sapi : ℕ
ipv6_sapi = 0x0057

abbrev pub mac_sapi : ℕ
mac_sapi = 0xfe01

-- whether a service access point is served
abbrev pub serves : ℕ → ℕ → Bool
serves served sapi =
    cond (sapi == ipv4_sapi) (bit served 0 == 1)
    (cond (sapi == ipv6_sapi) (bit served 1 == 1) (cond (sapi == mac_sapi) (bit served 2 == 1) false))

-- the terms that an end can be made with; `width` is also the check's own
pub record Valid (σ : Terms) : Type 0 where
  pub some_served : 1 ≤ σ.served
  pub all_served : σ.served ≤ 7
  pub some_longest : 1 ≤ σ.longest
  pub most_longest : σ.longest ≤ 2048
  pub mac_longest : serves σ.served mac_sapi ≡ true → 1600 ≤ σ.longest
  pub two_or_four : (σ.width == 2 || σ.width == 4) ≡ true

-- the same as a test
abbrev pub valid : Terms → Bool
valid σ =
    nat_lt 0 σ.served && nat_lt σ.served 8 && nat_lt 0 σ.longest && nat_le σ.longest 2048
    && (not (serves σ.served mac_sapi) || nat_le 1600 σ.longest) && (σ.width == 2 || σ.width == 4)

-- address, control and SAPI
abbrev pub header_length : ℕ
header_length = 4

-- the most octets that lie between the flags of a good frame, before octet stuffing
abbrev pub limit : Terms → ℕ
limit σ = header_length + σ.longest + σ.width

-- the sum of what is served
abbrev pub services : Bool → Bool → Bool → ℕ
services ipv4 ipv6 mac = cond ipv4 1 0 + cond ipv6 2 0 + cond mac 4 0
