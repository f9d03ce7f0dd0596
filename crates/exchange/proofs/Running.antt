-- From what each half of a run promises to the whole.
use Rattle.std.proofs.Common.{◌≡◌, ℕ, Bool, List, [], map, vec_items, sym, refl, ap, ◌∙◌, subst, ap₂, inl}
use Rattle.octets.specs.Octets.{Octets}
use Rattle.codes.specs.Rules.{Rule, Undoes, Alike}
use Rattle.checks.specs.Law.{Width, Owes, Tells}
use Rattle.frames.specs.Terms.{Terms}
use Rattle.frames.specs.Of.{terms}
use Rattle.frames.specs.Calls.{idle, Lent, line, ledger}
use Rattle.frames.specs.Receiving.{hunting}
use Rattle.frames.specs.Hearing.{reports_from, entries}
use Rattle.frames.proofs.Lines.{line_octets}
use Rattle.exchange.proofs.Allowed.{allowed_permitted, allowed_typed}
use Rattle.frames.proofs.Sent.{sent}
use Rattle.sender.specs.declared.idle.Idle.{Idle}
use Rattle.receiver.specs.declared.receiver.Receiver.{Receiver}
use Rattle.receiver.proofs.Ears.{same_ear}
use Rattle.link.specs.declared.calling.Sender.TheVariants as sender
use Rattle.hearing.specs.Hears.{placed_of, reports_of}
use Rattle.exchange.specs.declared.run.Run.{Run}
use Rattle.exchange.specs.Sending.{allowed, answers, SendsAll}
use Rattle.exchange.specs.Running.{RunsNew}

module _ {L D K : Type 0} (onward back : L → List ℕ → List ℕ) (onward' back' : D → List ℕ → List ℕ) (owes : K → List ℕ → List ℕ) (owed : List ℕ → List ℕ) (passes : K → List ℕ → Bool) (good : List ℕ → Bool) (width : ℕ)
    (sends : (l : L) → Rule (onward l)) (undoes : (l : L) → Undoes (back l) (onward l)) (wide : Width width) (owing : Owes width owed) (tells : Tells width owed good) where
  pub runs : (s : Idle L K) (r : Receiver D K) (κs : List Lent) (run : Run) → SendsAll onward owes owed κs (sender.Idle s) [] [] (vec_items run.line) (vec_items run.answers)
      → map placed_of (vec_items run.reports) ≡ reports_of back' passes good r (vec_items run.line) → RunsNew onward back onward' back' owed passes good width s r κs run
  runs s r κs run all listened set near far w ss sl rl rs new =
      record { check_width = w; answered = answered; written = written; heard = heard; reported = reported }
    where
      so : (vec_items run.answers ≡ answers (terms s.settings) owed idle κs) × (vec_items run.line ≡ onward s.line (line (terms s.settings) owed idle (allowed (terms s.settings) owed idle κs)))
      so = all.1 (onward s.line) (sends s.line) (terms s.settings) idle [] tt tt (refl, λ xs ox. refl)

      σ : Terms
      σ = terms set

      κs' : List Lent
      κs' = allowed σ owed idle κs

      answered : vec_items run.answers ≡ answers σ owed idle κs
      answered = so.0 ∙ ap (λ x. answers (terms x) owed idle κs) ss

      written : vec_items run.line ≡ onward near (line σ owed idle κs')
      written = so.1 ∙ ap₂ (λ l x. onward l (line (terms x) owed idle (allowed (terms x) owed idle κs))) sl ss

      heard : map placed_of (vec_items run.reports) ≡ reports_from σ good (hunting good) 0 (back' far (vec_items run.line))
      heard =
          listened
          ∙ ap₂ (λ x e. reports_from (terms x) good e 0 (back' r.line (vec_items run.line))) rs (same_ear _ _ new)
          ∙ ap (λ l. reports_from σ good (hunting good) 0 (back' l (vec_items run.line))) rl

      reported : Alike (onward near) (onward' far) → Alike (back near) (back' far) → entries (map placed_of (vec_items run.reports)) ≡ ledger σ owed idle κs'
      reported same same' =
          let os = line σ owed idle κs' in
          let typed = allowed_typed σ owed κs idle all.0 in
          let fits : Octets os = line_octets owed owing.octets σ κs' idle tt typed in
          let again : back' far (vec_items run.line) ≡ os = ap (back' far) written ∙ sym (same' (onward near os) ((sends near).octets os fits)) ∙ undoes near os fits in
          ap entries (heard ∙ ap (reports_from σ good (hunting good) 0) again)
          ∙ sent σ owed good (subst (λ k. Owes k owed) (sym w) owing) (subst (λ k. Tells k owed good) (sym w) tells) (subst Width (sym w) wide) κs' idle (hunting good) 0 (inl refl) typed (allowed_permitted σ owed κs idle)
