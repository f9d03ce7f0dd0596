use Rattle.std.proofs.Common.{◌≡◌, ◌≤◌, length, ap, ◌∙◌, subst, arith, rules}
use Rattle.frames.specs.Layout.{filling_octets}
use Rattle.sender.specs.Writing.{Put}
use Rattle.sender.proofs.Puts.{filling_repeated}
use Rattle.sender.proofs.idle.Idle.fill.Goals as goal

pub returns-then-turns_length-stretch : goal.returns-then-turns_length-stretch
returns-then-turns_length-stretch g c =
    let long : c.turns_length.result ≡ length (filling_octets c.args.k) = c.turns_length.ensures ∙ ap length (filling_repeated c.args.k) in
    search rules

pub returns : goal.returns
returns g c =
    let os = filling_octets c.args.k in
    let same = filling_repeated c.args.k in
    let long : c.turns_length.result ≡ length os = c.turns_length.ensures ∙ ap length same in
    let count : c.put_times.result ≡ length os = c.put_times.ensures.count ∙ ap length same in
    let room : length os ≤ length c.args.stretch.now = omega (arith, long) in
    let p : Put (g.L.LineCode.onward c.args.self.now.line) (g.L.LineCode.onward c.put_times.new.line) os c.args.stretch.now c.put_times.new.stretch =
    subst (λ xs. Put (g.L.LineCode.onward c.args.self.now.line) (g.L.LineCode.onward c.put_times.new.line) xs c.args.stretch.now c.put_times.new.stretch) same c.put_times.ensures.put in
    search rules
