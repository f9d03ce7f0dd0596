use Rattle.std.proofs.Common.{◌≡◌, suc, ◌+◌, ◌-◌, ◌^◌, ◌<◌, [], ◌∷◌, sym, ap, ◌∙◌, subst, arith}
use lib.Bits.{bit_xor}
use Rattle.checks.specs.Shifts.{shifts, octet_at_once, octets_below}
use Rattle.checks.specs.Fcs.{bits_taken}
use Rattle.octets.specs.Bits.{low_first}
use Rattle.checks.proofs.fcs.octet_taken.Goals as goal

pub loop-preserved : goal.loop-preserved
loop-preserved c =
    let e : suc (8 - (c.loop.counter + 1)) ≡ 8 - c.loop.counter = omega arith in
    ap (shifts c.args.constant (8 - (c.loop.counter + 1))) c.shift-moved.ensures
    ∙ ap (λ n. shifts c.args.constant n c.loop.moved) e
    ∙ c.loop.invariant

taken : (c : goal.After-loop) → c.loop.moved ≡ bits_taken c.args.constant c.args.register (low_first c.args.octet)
taken c =
    let e : 0 ≡ 8 - c.loop.counter = omega arith in
    let h : c.args.octet < 256 = omega arith in
    ap (λ n. shifts c.args.constant n c.loop.moved) e
    ∙ c.loop.invariant
    ∙ ap (λ o. shifts c.args.constant 8 (bit_xor c.args.register o)) c.from.ensures
    ∙ sym (octet_at_once c.args.constant c.args.register c.args.octet h)

pub returns : goal.returns
returns c =
    record {
      taken = taken c;
      narrow = λ k wide below r.
          let h : c.args.octet < 256 = omega arith in
          subst (λ n. n < 2 ^ k) (sym (taken c))
          (octets_below c.args.constant k below wide c.args.register (c.args.octet ∷ []) (h, tt) r);
    }
