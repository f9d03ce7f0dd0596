-- Octet stuffing, an octet at a time.
use Rattle.std.specs.Prelude.{ℕ, cond, List, ◌++◌, Some, None, Option, ◌==◌}
use Rattle.std.specs.Option.{option_to_list}
use Rattle.frames.specs.Layout.{flag, escape, stuff}
use Rattle.sender.specs.declared.stuffed.Stuffed.{Stuffed}

-- what follows the escape that goes out in an octet's place
abbrev pub escaped : ℕ → Option ℕ
escaped o = cond (o == flag) (Some 0x5e) (cond (o == escape) (Some 0x5d) None)

-- what is still to go out
abbrev pub outgoing : Stuffed → List ℕ
outgoing s = option_to_list s.second ++ stuff s.octets.now
