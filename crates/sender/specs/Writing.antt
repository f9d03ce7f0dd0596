-- What it is to put octets through a line code into the front of a stretch. `before` and `left` are what the stretch
-- holds before and after.
use Rattle.std.specs.Prelude.{◌≡◌, ℕ, List, ◌++◌, length, drop, replicate}
use Rattle.std.specs.List.{flat_map}
use Rattle.codes.specs.Rules.{after, Alike}

-- the octets are sent; what stands behind them is as it was
pub record Put (onward onward' : List ℕ → List ℕ) (os before left : List ℕ) : Type 0 where
  pub stretch : left ≡ onward os ++ drop (length os) before
  pub line : Alike onward' (after onward os)

-- a turn of octets again and again
abbrev pub repeated : List ℕ → ℕ → List ℕ
repeated turn k = flat_map (λ os. os) (replicate k turn)
