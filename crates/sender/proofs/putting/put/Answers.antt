use Rattle.std.proofs.Common.{◌+◌, ◌<◌, ◌≤◌, [], ◌∷◌, ◌++◌, length, slice_set, sym, refl, ap, ◌∙◌, subst, arith}
use Rattle.std.proofs.iter.Next.{Yields-more}
use Rattle.std.proofs.lemmas.List.{set-get_or, length_push}
use Rattle.octets.proofs.Joined.{octets_append}
use Rattle.sender.specs.Writing.{Put}
use Rattle.sender.proofs.Puts.{put_none, put_more, yielded_all, yielded_at_end}
use Rattle.sender.proofs.putting.put.Goals as goal
use Rattle.sender.proofs.putting.put.Goals.{else-loop-slot-test, then-loop-slot-test+in-None}

pub loop-slot-init : goal.loop-slot-init
loop-slot-init g c =
    (c.requires.can, [], refl, refl, tt, put_none (g.L.LineCode.onward c.args.line.now) (g.met.L.LineCode.sends c.args.line.now) c.args.stretch.now)

pub loop-slot-preserved : goal.loop-slot-preserved
loop-slot-preserved g c =
    let l = c.loop-slot in
    let i = l.invariant in
    let x = c.in-Some.octet in
    let code = g.L.LineCode.onward in
    let room : length i.1 < length c.args.stretch.now = omega (arith, i.3) in
    let small : x < 256 = omega arith in (
      c.in-Some.ensures.goes.keeps,
      i.1 ++ x ∷ [],
      Yields-more g.I.Iterator.next_gives c.args.octets i.1 l.octets x c.next.new.self i.2 c.in-Some.ensures.steps,
      length_push i.1 x ∙ ap (λ n. n + 1) i.3,
      octets_append i.1 (x ∷ []) i.4 (small, tt),
      subst (λ n. Put (code c.args.line.now) (code c.send.new.self) (i.1 ++ x ∷ []) c.args.stretch.now (slice_set l.stretch n c.send.result)) i.3
          (put_more (code c.args.line.now) (code l.line) (code c.send.new.self) (g.met.L.LineCode.sends c.args.line.now) (g.met.L.LineCode.sends c.send.new.self) i.1 x c.send.result c.args.stretch.now l.stretch i.4 small room i.5 c.send.ensures),
    )

pub returns : goal.returns
returns g c =
    let l = c.loop-slot in
    let i = l.invariant in
    let steps = g.I.Iterator.next_gives in
    let f = g.L.LineCode.onward c.args.line.now in
    let f' = g.L.LineCode.onward l.line in
    λ os all h. elim c.loop-slot-test.branch [
      | else-loop-slot-test w ↦
          let long : length os ≤ length i.1 = omega (arith, w.loop-slot-test.false, i.3) in
          subst (λ xs. Put f f' xs c.args.stretch.now c.loop-slot-test.stretch) (yielded_all steps c.args.octets os i.1 l.octets all i.2 long)
          (subst (λ left. Put f f' i.1 c.args.stretch.now left) (sym w.stretch-is) i.5)
      | then-loop-slot-test+in-None w ↦
          subst (λ xs. Put f f' xs c.args.stretch.now c.loop-slot-test.stretch) (yielded_at_end steps c.args.octets os i.1 l.octets w.next.new.self all i.2 w.in-None.ensures.steps)
          (subst (λ left. Put f f' i.1 c.args.stretch.now left) (sym (w.stretch-is ∙ set-get_or l.stretch l.slot-index 0)) i.5)
    ]
