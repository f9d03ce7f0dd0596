use Rattle.std.proofs.Common.{◌≡◌, ◌+◌, ◌<◌, ◌≤◌, [], ◌∷◌, ◌++◌, length, get_or, take, slice_set, sym, ap, ◌∙◌, subst, append_assoc, arith, length-append}
use Rattle.std.proofs.lemmas.List.{append-nil, take_more, take_all, length-take-le}
use Rattle.octets.specs.Octets.{Octets}
use Rattle.octets.proofs.Joined.{octets_append}
use Rattle.sender.specs.Writing.{Put}
use Rattle.sender.proofs.Puts.{put_more}
use Rattle.sender.proofs.putting.put_turn.Goals as goal

pub loop-octet-init : goal.loop-octet-init
loop-octet-init g c =
    (omega arith, tt, λ f os before rule o len lb p. subst (λ xs. Put f (g.L.LineCode.onward c.args.line.now) xs before c.args.stretch.now) (sym (append-nil os)) p)

pub bounds-stretch-next : goal.bounds-stretch-next
bounds-stretch-next g c = omega (arith, c.loop-octet.invariant.0, c.loop-octet.auto.stretch, c.loop-octet-test.true, c.requires)

pub overflow_add-next : goal.overflow_add-next
overflow_add-next g c = omega (arith, c.loop-octet.invariant.0, c.loop-octet.auto.stretch, c.loop-octet-test.true, c.requires)

pub loop-octet-preserved : goal.loop-octet-preserved
loop-octet-preserved g c =
    let l = c.loop-octet in
    let v = l.invariant in
    let i = l.octet-index in
    let turn = c.args.turn.now in
    let x = get_or turn i 0 in
    let code = g.L.LineCode.onward in
    let more : take (i + 1) turn ≡ take i turn ++ x ∷ [] = take_more turn i 0 c.loop-octet-test.true in
    let small : x < 256 = omega (arith, c.type_inv.turn i) in
    let within : i ≤ length turn = omega (arith, c.loop-octet-test.true) in (
      omega (arith, v.0),
      subst Octets (sym more) (octets_append (take i turn) (x ∷ []) v.1 (small, tt)),
      λ f os before rule o len lb p.
          let all = os ++ take i turn in
          let place : length all ≡ l.next = omega (arith, length-append os (take i turn), length-take-le i turn within, len, v.0) in
          let room : length all < length before = omega (arith, place, v.0, lb, c.loop-octet-test.true, c.requires) in
          let put : Put f (code c.send.new.self) (all ++ x ∷ []) before (slice_set l.stretch (length all) c.send.result) =
          put_more f (code l.line) (code c.send.new.self) rule (g.met.L.LineCode.sends c.send.new.self) all x c.send.result before l.stretch
          (octets_append os (take i turn) o v.1) small room (v.2 f os before rule o len lb p) c.send.ensures in
          let joined : all ++ x ∷ [] ≡ os ++ take (i + 1) turn = append_assoc os (take i turn) (x ∷ []) ∙ ap (λ l. os ++ l) (sym more) in
          subst (λ xs. Put f (code c.send.new.self) xs before (slice_set l.stretch l.next c.send.result)) joined
          (subst (λ n. Put f (code c.send.new.self) (all ++ x ∷ []) before (slice_set l.stretch n c.send.result)) place put),
    )

pub returns-clause-place : goal.returns-clause-place
returns-clause-place g c = omega (arith, c.loop-octet.invariant.0, c.loop-octet.auto.octet-index-end, c.loop-octet-test.false)

pub returns-clause-puts : goal.returns-clause-puts
returns-clause-puts g c =
    let l = c.loop-octet in
    let turn = c.args.turn.now in
    let ended : length turn ≤ l.octet-index = omega (arith, c.loop-octet-test.false) in
    λ f os before rule o len lb p.
    subst (λ xs. Put f (g.L.LineCode.onward l.line) (os ++ xs) before l.stretch) (take_all l.octet-index turn ended) (l.invariant.2 f os before rule o len lb p)

pub returns-clause-octets : goal.returns-clause-octets
returns-clause-octets g c =
    let l = c.loop-octet in
    let ended : length c.args.turn.now ≤ l.octet-index = omega (arith, c.loop-octet-test.false) in
    subst Octets (take_all l.octet-index c.args.turn.now ended) l.invariant.1
