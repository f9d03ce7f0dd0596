-- A receiver never gathers more than a good frame has, so a delivery buffer of `longest` octets always has room.
use Rattle.std.proofs.Common.{◌≡◌, ℕ, ◌≤◌, Bool, false, eqb, ltb, List, [], length, refl, arith, length-drop, length-take}
use Rattle.std.proofs.lemmas.List.{length_push}
use Rattle.std.proofs.lemmas.Bool.{ltb-true, le-ltb, cond_both}
use Rattle.frames.specs.declared.standing.Standing.{Standing}
use Rattle.frames.specs.declared.standing.Standing.TheVariants.{Hunting, Gathering, AfterEscape, Skipping}
use Rattle.frames.specs.Terms.{Terms, limit}
use Rattle.frames.specs.Layout.{flag, escape}
use Rattle.frames.specs.Receiving.{Ear, gather, after_escape, Reading, stands_for, adaptation, nothing_known, read_escape, on_octet, moved, verdict, raised, judgement, information_of}
use Rattle.frames.specs.Hearing.{Within}

module _ (σ : Terms) where
  within_gather : (e : Ear) (x : ℕ) → Within σ e → Within σ (gather σ e x)
  within_gather e x h =
      cond_both (ltb (length e.gathered) (limit σ)) _ _ (Within σ)
      (λ t. rw length_push (omega (arith, ltb-true (length e.gathered) (limit σ) t)))
      (λ t. h)

  within_after_escape : (e : Ear) (r : Reading) → Within σ e → Within σ (after_escape σ e r)
  within_after_escape e (stands_for x) h = within_gather e x h
  within_after_escape e adaptation h = h
  within_after_escape e nothing_known h = h

  within_on_octet : (e : Ear) (s : Standing) (o : ℕ) → Within σ e → Within σ (on_octet σ e s o)
  within_on_octet e Hunting o h = h
  within_on_octet e (Skipping c) o h = h
  within_on_octet e Gathering o h = cond_both (eqb o escape) _ _ (Within σ) (λ t. h) (λ t. within_gather e o h)
  within_on_octet e AfterEscape o h = within_after_escape e (read_escape o) h

  pub within_moved : (good : List ℕ → Bool) (e : Ear) (o : ℕ) → Within σ e → Within σ (moved σ good e o)
  within_moved good e o h =
      cond_both (eqb o flag) _ _ (Within σ) (λ t. omega arith) (λ t. within_on_octet e e.standing o h)

  information_short : (g : List ℕ) → length g ≤ limit σ → length (information_of σ g) ≤ σ.longest
  information_short g h = simp (length-take, length-drop) (omega arith)

  module _ (room : ℕ) (enough : σ.longest ≤ room) where
    judgement_room : (good? : Bool) (g : List ℕ) → length g ≤ limit σ → judgement σ room good? g ≡ judgement σ σ.longest good? g
    judgement_room good? g h =
        let i = information_short g h in
        let a : ltb room (length (information_of σ g)) ≡ false = le-ltb room (length (information_of σ g)) (omega arith) in
        let b : ltb σ.longest (length (information_of σ g)) ≡ false = le-ltb σ.longest (length (information_of σ g)) i in
        rw (a, b)

    verdict_room : (e : Ear) (s : Standing) → Within σ e → verdict σ room e s ≡ verdict σ σ.longest e s
    verdict_room e Hunting h = refl
    verdict_room e Gathering h = rw (judgement_room (e.good_with []) e.gathered h)
    verdict_room e AfterEscape h = refl
    verdict_room e (Skipping c) h = refl

    pub raised_room : (e : Ear) (o : ℕ) → Within σ e → raised σ room e o ≡ raised σ σ.longest e o
    raised_room e o h = rw (verdict_room e e.standing h)
