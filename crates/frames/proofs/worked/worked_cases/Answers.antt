use Rattle.std.proofs.Common.{ℕ, zero, suc, Bool, List, [], ◌∷◌, ◌++◌, replicate, Some, sym, refl, arith}
use lib.ListN.{length-replicate}
use Rattle.std.proofs.lemmas.List.{append-nil}
use Rattle.frames.specs.declared.answers.Fault.TheVariants as fault
use Rattle.frames.specs.Layout.{flag, adaptations}
use Rattle.frames.specs.Calls.{faulty}
use Rattle.frames.specs.Receiving.{ear_after}
use Rattle.frames.specs.Hearing.{reports_from}
use Rattle.frames.specs.Pieces.{Reads, empty, plain, overlong, unfinished, ended, History, begun_at}
use Rattle.frames.specs.Worked.{usual}
use Rattle.frames.proofs.Grammar.{reports_are_said}
use Rattle.frames.proofs.Readings.{reads_no_flag}
use Rattle.frames.proofs.worked.worked_cases.Goals as goal

zeros : (n : ℕ) → Reads (replicate n 0) (replicate n 0)
zeros zero = empty
zeros (suc n) = plain 0 (omega arith) (omega arith) (zeros n)

too_many : (good : List ℕ → Bool) → History usual good 1600 (flag ∷ replicate 1609 0 ++ flag ∷ []) (faulty fault.Overlong 1608 ∷ [])
too_many good =
    begun_at [] (replicate 1609 0 ++ flag ∷ []) tt
    (ended (replicate 1609 0) [] (Some (faulty fault.Overlong 1608)) (reads_no_flag (zeros 1609))
    (overlong (replicate 1609 0) (replicate 1609 0) [] (zeros 1609) (length-replicate {A = ℕ} 1609 0) (sym (append-nil (replicate 1609 0))))
    (unfinished tt) refl)
    refl

pub returns : goal.returns
unfolding adaptations reports_from ear_after
returns c = record {
  stuffed_information = refl;
  no_adaptation = refl;
  aborted = λ good. refl;
  unreadable = λ good. refl;
  adapted_alone = λ good. refl;
  seven_short = λ good. refl;
  one_too_many = λ good. sym ((reports_are_said usual good (flag ∷ replicate 1609 0 ++ flag ∷ [])).1 (faulty fault.Overlong 1608 ∷ []) (too_many good));
  mac_too_small = refl;
  mac_enough = refl;
}
