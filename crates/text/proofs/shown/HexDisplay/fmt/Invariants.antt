use Rattle.std.proofs.Common.{take}
use Rattle.std.specs.Fmt.{HasWritten, IsPlainFormatter}
use Rattle.std.specs.List.{flat_map}
use Rattle.text.specs.Hex.{octet_digits}
use Rattle.text.proofs.shown.HexDisplay.fmt.Given as goal

-- the digits of the octets that are past
abbrev pub invariant-loop-octet : goal.invariant-loop-octet
invariant-loop-octet g l =
    IsPlainFormatter l.initial.f → HasWritten g.W.Write.write_str_gives l.initial.f (flat_map octet_digits (take l.octet-index l.octet-items)) l.f
