use Rattle.std.proofs.Common.{refl}
use Rattle.codes.specs.Bitline.{scrambled, descrambled, scrambled_bits, descrambled_bits, bits_of, octets_of, low_bits}
use Rattle.codes.proofs.examples.worked_examples.Goals as goal

pub returns-clause-sent : goal.returns-clause-sent
unfolding scrambled descrambled scrambled_bits descrambled_bits bits_of octets_of low_bits
returns-clause-sent c = refl

pub returns-clause-received : goal.returns-clause-received
unfolding scrambled descrambled scrambled_bits descrambled_bits bits_of octets_of low_bits
returns-clause-received c = refl
