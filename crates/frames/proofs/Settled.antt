-- What every value of the settings keeps.
use Rattle.std.proofs.Common.{◌≡◌, ℕ, ◌≤◌, Bool, true, false, ◌||◌, eqb, ◌⊎◌, refl, inl, inr, ⊎_elim, arith}
use Rattle.std.proofs.lemmas.Bool.{eqb-true, or_cases}
use Rattle.frames.specs.declared.settings.Settings.{Settings}
use Rattle.frames.specs.Terms.{Valid, services, serves, mac_sapi, limit}
use Rattle.frames.specs.Of.{terms}

pub two_or_four : (w : ℕ) → (eqb w 2 || eqb w 4) ≡ true → (w ≡ 2) ⊎ (w ≡ 4)
two_or_four w h = ⊎_elim (λ t. inl (eqb-true w 2 t)) (λ t. inr (eqb-true w 4 t)) (or_cases (eqb w 2) (eqb w 4) h)

all_services : (a b c : Bool) → services a b c ≤ 7
all_services true true true = omega arith
all_services true true false = omega arith
all_services true false true = omega arith
all_services true false false = omega arith
all_services false true true = omega arith
all_services false true false = omega arith
all_services false false true = omega arith
all_services false false false = omega arith

mac_served : (a b c : Bool) → serves (services a b c) mac_sapi ≡ true → c ≡ true
mac_served true true c h = go c h
  where
    go : (c : Bool) → serves (services true true c) mac_sapi ≡ true → c ≡ true
    go true h = refl
    go false h = h
mac_served true false c h = go c h
  where
    go : (c : Bool) → serves (services true false c) mac_sapi ≡ true → c ≡ true
    go true h = refl
    go false h = h
mac_served false true c h = go c h
  where
    go : (c : Bool) → serves (services false true c) mac_sapi ≡ true → c ≡ true
    go true h = refl
    go false h = h
mac_served false false c h = go c h
  where
    go : (c : Bool) → serves (services false false c) mac_sapi ≡ true → c ≡ true
    go true h = refl
    go false h = h

pub settings_valid : (s : Settings) → Valid (terms s)
settings_valid s = record {
  some_served = s.served;
  all_served = all_services s.ipv4 s.ipv6 s.mac;
  some_longest = s.some;
  most_longest = s.most;
  mac_longest = λ h. s.room (mac_served s.ipv4 s.ipv6 s.mac h);
  two_or_four = s.check;
}

-- the most octets that any good frame has between its flags
pub limit_most : (s : Settings) → limit (terms s) ≤ 2056
limit_most s = ⊎_elim (λ e. omega (arith, s.most)) (λ e. omega (arith, s.most)) (two_or_four s.width s.check)
