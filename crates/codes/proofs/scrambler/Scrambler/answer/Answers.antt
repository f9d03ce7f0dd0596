use Rattle.std.proofs.Common.{◌≡◌, sym, ap}
use lib.Bits.{bit_xor}
use Rattle.codes.specs.Registers.{answer, scrambled_step, descrambled_step}
use Rattle.codes.proofs.scrambler.Scrambler.answer.Goals as goal

pub returns : goal.returns
returns c =
    let r = c.args.self.now.register in
    let o = c.args.octet in
    let tapped : answer r o ≡ bit_xor o c.tap.result = ap (bit_xor o) (sym c.tap.ensures) in
    record { sent = rw (← tapped) (scrambled_step r o c.ranges.octet.fits); received = rw (← tapped) (descrambled_step r o c.ranges.octet.fits) }
