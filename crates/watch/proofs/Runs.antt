-- The law of runs, proved of the definitions of the single calls.
use Rattle.std.proofs.Common.{◌≡◌, ℕ, suc, ◌+◌, ◌-◌, ◌*◌, ◌%◌, ◌<◌, ◌≤◌, true, false, ◌&&◌, eqb, [], ◌∷◌, sym, refl, ap, ◌∙◌, inl, inr, add-zero, mul_assoc, mul_comm, add-mul, mul-pos, one-mul, zero-mul, arith}
use lib.Arith.{digits_lt, digits_mod}
use Rattle.std.proofs.lemmas.Bool.{cases_lt, eq-eqb, ne_eqb}
use Rattle.watch.specs.declared.watch.Indication.{Indication}
use Rattle.watch.specs.declared.watch.LinkWatch.{LinkWatch}
use Rattle.watch.specs.Runs.{tick, heard, test_begins, test_ends, History, ticks_since, testing, indicated, after, untested, ByLaw, MutesPass}
use Rattle.watch.specs.Watch.{Standing, standing, ticked, says, runs_out, last_try}

-- e ticks are q whole rounds of N tries, u tries of the next, and l ticks of the next try
pub record Count (t n e left tries_left : ℕ) : Type 0 where
  pub q : ℕ
  pub u : ℕ
  pub l : ℕ
  pub left_is : left + l ≡ t
  pub left_in : 1 ≤ left
  pub tries_is : tries_left + u ≡ n
  pub tries_in : 1 ≤ tries_left
  pub ticks : e ≡ (q * n + u) * t + l

start : (t n : ℕ) → 1 ≤ t → 1 ≤ n → Count t n 0 t n
start t n a b = record { q = 0; u = 0; l = 0; left_is = omega arith; left_in = a; tries_is = omega arith; tries_in = b; ticks = omega (arith, zero-mul n, zero-mul t) }

-- one more tick ends a try
try_over : (a b t l e : ℕ) → e ≡ a * t + l → l + 1 ≡ t → b ≡ a + 1 → suc e ≡ b * t + 0
try_over a b t l e p h k =
    let m : (a + 1) * t ≡ a * t + t = add-mul a 1 t ∙ ap (λ x. a * t + x) (one-mul t) in
    let k' : b * t ≡ (a + 1) * t = ap (λ x. x * t) k in
    omega arith

next_round : (q n : ℕ) → (q + 1) * n ≡ q * n + n
next_round q n = add-mul q 1 n ∙ ap (λ x. q * n + x) (one-mul n)

-- whole rounds, and what is over
rounds : (q n u t : ℕ) → (q * n + u) * t ≡ q * (t * n) + u * t
rounds q n u t = add-mul (q * n) u t ∙ ap (λ x. x + u * t) (mul_assoc q n t ∙ ap (λ x. q * x) (mul_comm n t))

inside : (q r p k : ℕ) → 0 < r → r < p → k ≡ q * p + r → eqb (k % p) 0 ≡ false
inside q r p k a b e = ne_eqb (k % p) 0 (λ z. let m : (q * p + r) % p ≡ r = digits_mod q b in let m' : k % p ≡ (q * p + r) % p = ap (λ x. x % p) e in omega arith)

full : (q p k : ℕ) → 0 < p → k ≡ q * p → eqb (k % p) 0 ≡ true
full q p k a e = eq-eqb (k % p) 0 (let m : (q * p + 0) % p ≡ 0 = digits_mod q a in let m' : k % p ≡ (q * p + 0) % p = ap (λ x. x % p) (e ∙ sym (add-zero (q * p))) in omega arith)

module _ (t n e : ℕ) (s : Standing) (timer_is : s.timer ≡ t) (tries-is' : s.tries ≡ n) (c : Count t n e s.left s.tries_left) where
  step : Count t n (suc e) (ticked s).left (ticked s).tries_left
  step =
      elim (cases_lt 1 s.left) as (λ _. Count t n (suc e) (ticked s).left (ticked s).tries_left) [
        | inl a ↦ let r : runs_out s ≡ false = ne_eqb (s.left - 1) 0 (λ z. omega arith) in
            simp r (record { q = c.q; u = c.u; l = c.l + 1; left_is = omega arith; left_in = omega arith; tries_is = c.tries_is; tries_in = c.tries_in; ticks = omega arith })
        | inr a ↦ let r : runs_out s ≡ true = eq-eqb (s.left - 1) 0 (omega arith) in
            elim (cases_lt 1 s.tries_left) as (λ _. Count t n (suc e) (ticked s).left (ticked s).tries_left) [
              | inl b ↦ let k : last_try s ≡ false = ne_eqb (s.tries_left - 1) 0 (λ z. omega arith) in
                  simp (r, k) (record { q = c.q; u = c.u + 1; l = 0; left_is = omega arith; left_in = omega arith; tries_is = omega arith; tries_in = omega arith; ticks = try_over (c.q * n + c.u) _ t c.l e c.ticks (omega arith) (omega arith) })
              | inr b ↦ let k : last_try s ≡ true = eq-eqb (s.tries_left - 1) 0 (omega arith) in
                  simp (r, k) (record { q = c.q + 1; u = 0; l = 0; left_is = omega arith; left_in = omega arith; tries_is = omega arith; tries_in = omega arith; ticks = try_over (c.q * n + c.u) _ t c.l e c.ticks (omega arith) (omega (arith, next_round c.q n)) })
            ]
      ]

  round_end : s.tries_left ≤ 1 → c.u + 1 ≡ n
  round_end b = omega arith

  fires : eqb (suc e % (t * n)) 0 ≡ (runs_out s && last_try s)
  fires =
      let w : (c.q * n + c.u) * t ≡ c.q * (t * n) + c.u * t = rounds c.q n c.u t in
      let pos : 0 < t * n = mul-pos (omega arith) (omega arith) in
      elim (cases_lt 1 s.left) as (λ _. eqb (suc e % (t * n)) 0 ≡ (runs_out s && last_try s)) [
        | inl a ↦ let r : runs_out s ≡ false = ne_eqb (s.left - 1) 0 (λ z. omega arith) in
            let u : c.u < n = omega arith in
            let l : c.l + 1 < t = omega arith in
            let d : c.u * t + (c.l + 1) < n * t = digits_lt u l in
            simp r (inside c.q (c.u * t + (c.l + 1)) (t * n) (suc e) (omega arith) (omega (arith, mul_comm n t)) (omega arith))
        | inr a ↦ let r : runs_out s ≡ true = eq-eqb (s.left - 1) 0 (omega arith) in
            elim (cases_lt 1 s.tries_left) as (λ _. eqb (suc e % (t * n)) 0 ≡ (runs_out s && last_try s)) [
              | inl b ↦ let k : last_try s ≡ false = ne_eqb (s.tries_left - 1) 0 (λ z. omega arith) in
                  let u : c.u + 1 < n = omega arith in
                  let l : 0 < t = omega arith in
                  let d : (c.u + 1) * t + 0 < n * t = digits_lt u l in
                  simp (r, k) (inside c.q ((c.u + 1) * t) (t * n) (suc e) (omega (arith, next_round c.u t)) (omega (arith, mul_comm n t)) (omega (arith, next_round c.u t)))
              | inr b ↦ let k : last_try s ≡ true = eq-eqb (s.tries_left - 1) 0 (omega arith) in
                  simp (r, k) (full (c.q + 1) (t * n) (suc e) pos (let v : (c.u + 1) * t ≡ n * t = ap (λ x. x * t) (round_end b) in omega (arith, next_round c.u t, mul_comm n t, next_round c.q (t * n))))
            ]
      ]

-- where any history leaves a watch
record Kept (t n : ℕ) (h : History) (s : Standing) : Type 0 where
  timer_is : s.timer ≡ t
  tries_is : s.tries ≡ n
  muted_is : s.muted ≡ testing h
  count : Count t n (ticks_since h) s.left s.tries_left

module _ (t n : ℕ) (t-in : 1 ≤ t) (n-in : 1 ≤ n) where
  kept : (h : History) → Kept t n h (after t n h)
  kept [] = record { timer_is = refl; tries_is = refl; muted_is = refl; count = start t n t-in n-in }
  kept (tick ∷ h) = let k = kept h in
      record { timer_is = k.timer_is; tries_is = k.tries_is; muted_is = k.muted_is; count = step t n (ticks_since h) (after t n h) k.timer_is k.tries_is k.count }
  kept (heard ∷ h) = let k = kept h in
      record { timer_is = k.timer_is; tries_is = k.tries_is; muted_is = k.muted_is; count = simp (k.timer_is, k.tries_is) (start t n t-in n-in) }
  kept (test_begins ∷ h) = let k = kept h in record { timer_is = k.timer_is; tries_is = k.tries_is; muted_is = refl; count = k.count }
  kept (test_ends ∷ h) = let k = kept h in record { timer_is = k.timer_is; tries_is = k.tries_is; muted_is = refl; count = k.count }

  pub runs : (h : History) → says (after t n h) ≡ indicated t n h
  runs h = let k = kept h in
      let f = fires t n (ticks_since h) (after t n h) k.timer_is k.tries_is k.count in
      simp (f, k.muted_is)

  untested_since : (h : History) → ticks_since (untested h) ≡ ticks_since h
  untested_since [] = refl
  untested_since (tick ∷ h) = ap suc (untested_since h)
  untested_since (heard ∷ h) = refl
  untested_since (test_begins ∷ h) = untested_since h
  untested_since (test_ends ∷ h) = untested_since h

  untested_quiet : (h : History) → testing (untested h) ≡ false
  untested_quiet [] = refl
  untested_quiet (tick ∷ h) = untested_quiet h
  untested_quiet (heard ∷ h) = untested_quiet h
  untested_quiet (test_begins ∷ h) = untested_quiet h
  untested_quiet (test_ends ∷ h) = untested_quiet h

  -- outside a line test the law does not see the line tests before
  pub mutes : (h : History) → (after t n h).muted ≡ false → says (after t n h) ≡ says (after t n (untested h))
  mutes h q = let e : testing h ≡ false = sym (kept h).muted_is ∙ q in
      let same : indicated t n h ≡ indicated t n (untested h) = simp (e, untested_since h, untested_quiet h) in
      runs h ∙ same ∙ sym (runs (untested h))

-- the same of what a tick said at a standing that some history led to
module _ (s : Standing) (r : Indication) (t-in : 1 ≤ s.timer) (n-in : 1 ≤ s.tries) (said : r ≡ says s) where
  pub by_law : ByLaw s r
  by_law h e = said ∙ ap says e ∙ runs s.timer s.tries t-in n-in h

  pub mutes_pass : MutesPass s r
  mutes_pass h e q = said ∙ ap says e ∙ mutes s.timer s.tries t-in n-in h (sym (ap (λ x. x.muted) e) ∙ q)

-- and of a watch, whose counts begin at one or more
module _ (w : LinkWatch) (r : Indication) (said : r ≡ says (standing w)) where
  timer_from : 1 ≤ w.timer.from
  timer_from = let a = w.timer.left_in in omega arith

  tries_from : 1 ≤ w.tries.from
  tries_from = let a = w.tries.left_in in omega arith

  pub watch_by_law : ByLaw (standing w) r
  watch_by_law = by_law (standing w) r timer_from tries_from said

  pub watch_mutes_pass : MutesPass (standing w) r
  watch_mutes_pass = mutes_pass (standing w) r timer_from tries_from said
