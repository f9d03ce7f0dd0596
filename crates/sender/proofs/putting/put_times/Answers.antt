use Rattle.std.proofs.Common.{◌≡◌, ◌+◌, ◌*◌, ◌++◌, length, sym, ap, ◌∙◌, subst, arith}
use Rattle.octets.specs.Octets.{Octets}
use Rattle.octets.proofs.Joined.{octets_append}
use Rattle.sender.specs.Writing.{Put, repeated}
use Rattle.sender.proofs.Puts.{put_none, repeated_long, repeated_more, turns_within}
use Rattle.sender.proofs.putting.put_times.Goals as goal

pub loop-turn-init : goal.loop-turn-init
loop-turn-init g c = (omega arith, tt, put_none (g.L.LineCode.onward c.args.line.now) (g.met.L.LineCode.sends c.args.line.now) c.args.stretch.now)

pub put_turn-next-requires : goal.put_turn-next-requires
put_turn-next-requires g c =
    let turn = c.args.turn.now in
    omega (arith, turns_within (length turn) c.loop-turn._turn c.args.times c.loop-turn-test.true, c.loop-turn.invariant.0, c.loop-turn.auto.stretch, repeated_long turn c.args.times, c.requires)

pub loop-turn-preserved : goal.loop-turn-preserved
loop-turn-preserved g c =
    let l = c.loop-turn in
    let v = l.invariant in
    let k = l._turn in
    let turn = c.args.turn.now in
    let before = c.args.stretch.now in
    let f = g.L.LineCode.onward c.args.line.now in
    let put = c.put_turn-next.ensures in
    let more : repeated turn k ++ turn ≡ repeated turn (k + 1) = repeated_more turn k in
    let long : length (repeated turn k) ≡ l.next = repeated_long turn k ∙ sym v.0 in
    let next : length turn * (k + 1) ≡ length turn * k + length turn = omega arith in
    let same : length before ≡ length l.stretch = omega (arith, l.auto.stretch) in (
      omega (arith, put.place, v.0, next),
      subst Octets more (octets_append (repeated turn k) turn v.1 put.octets),
      subst (λ os. Put f (g.L.LineCode.onward c.put_turn-next.new.line) os before c.put_turn-next.new.stretch) more
          (put.puts f (repeated turn k) before (g.met.L.LineCode.sends c.args.line.now) v.1 long same v.2),
    )

pub returns-clause-count : goal.returns-clause-count
returns-clause-count g c =
    let l = c.loop-turn in
    let turn = c.args.turn.now in
    let ended : l._turn ≡ c.args.times = omega (arith, l.auto._turn-end, c.loop-turn-test.false) in
    l.invariant.0 ∙ ap (λ n. length turn * n) ended ∙ sym (repeated_long turn c.args.times)

pub returns-clause-put : goal.returns-clause-put
returns-clause-put g c =
    let l = c.loop-turn in
    let ended : l._turn ≡ c.args.times = omega (arith, l.auto._turn-end, c.loop-turn-test.false) in
    subst (λ k. Put (g.L.LineCode.onward c.args.line.now) (g.L.LineCode.onward l.line) (repeated c.args.turn.now k) c.args.stretch.now l.stretch) ended l.invariant.2
