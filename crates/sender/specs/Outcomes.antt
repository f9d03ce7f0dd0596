-- What a sender's calls answer and leave, for any line code and any check. `before` and `left` are what the stretch
-- holds before and after the call.
use Rattle.std.specs.Prelude.{◌≡◌, ℕ, ◌+◌, cond, List, ◌++◌, length, drop, Some, None, Ok, Err, Option, Result, ◌≢◌, nat_lt}
use Rattle.codes.specs.Rules.{after, Alike}
use Rattle.frames.specs.declared.answers.Refusal.{Refusal}
use Rattle.frames.specs.declared.answers.Refusal.TheVariants as refusal
use Rattle.frames.specs.declared.answers.Refused.{Refused as TurnedDown}
use Rattle.frames.specs.declared.settings.Settings.{Settings}
use Rattle.frames.specs.Terms.{Terms, serves}
use Rattle.frames.specs.Of.{terms}
use Rattle.frames.specs.Layout.{header, opening_octets, adding_octets, adapting_octets, filling_octets}
use Rattle.frames.specs.Calls.{stretch_refusal}
use Rattle.sender.specs.declared.idle.Idle.{Idle}
use Rattle.sender.specs.declared.open.Open.{Open}

-- A call that writes `os` is taken: no ground to refuse it; the octets stand at the stretch's front as the line code
-- sends them, and the rest is as it was; the line code goes on from there.
pub record Taken (ground : Option Refusal) (onward onward' : List ℕ → List ℕ) (os before left : List ℕ) (count : ℕ) : Type 0 where
  pub unrefused : ground ≡ None
  pub counted : count ≡ length os
  pub stretch : left ≡ onward os ++ drop (length os) before
  pub line : Alike onward' (after onward os)

-- A call is turned down on a ground: nothing is written, and the sender is the same.
pub record Refused {S : Type 0} (ground : Option Refusal) (r : Refusal) (s s' : S) (before left : List ℕ) : Type 0 where
  pub refused : ground ≡ Some r
  pub stretch : left ≡ before
  pub same : s' ≡ s

-- an unserved SAPI or too much information comes before too short a stretch
abbrev pub opening_refusal : Terms → ℕ → ℕ → Option Refusal
opening_refusal σ sapi room = cond (serves σ.served sapi) (stretch_refusal (opening_octets sapi) room) (Some refusal.Unserved)

abbrev pub adding_refusal : Terms → ℕ → List ℕ → ℕ → Option Refusal
adding_refusal σ count information room =
    cond (nat_lt σ.longest (count + length information)) (Some refusal.Overfull) (stretch_refusal (adding_octets information) room)

-- making a sender: refused where the check is of another width than the settings say
abbrev pub Making : {L K : Type 0} → ℕ → Settings → L → Result (Idle L K) (TurnedDown L) → Type 0
Making width settings line (Ok s) = ((terms settings).width ≡ width) × (s.settings ≡ settings) × (s.line ≡ line)
Making width settings line (Err e) = ((terms settings).width ≢ width) × (e.given ≡ line) × (e.refusal ≡ refusal.Settings)

abbrev pub Opening : {L K : Type 0} → (L → List ℕ → List ℕ) → (List ℕ → List ℕ) → (K → List ℕ → List ℕ) → ℕ → Idle L K → List ℕ → List ℕ → Result (Open L K × ℕ) (TurnedDown (Idle L K)) → Type 0
Opening onward owed owes sapi s before left (Ok (s', n)) =
    Taken (opening_refusal (terms s.settings) sapi (length before)) (onward s.line) (onward s'.line) (opening_octets sapi) before left n
    × (s'.settings ≡ s.settings) × (s'.count ≡ 0)
    × ((further : List ℕ) → owes s'.check further ≡ owed (header sapi ++ further))
Opening onward owed owes sapi s before left (Err e) =
    Refused (opening_refusal (terms s.settings) sapi (length before)) e.refusal s e.given before left

abbrev pub Filling : {L K : Type 0} → (L → List ℕ → List ℕ) → ℕ → Idle L K → Idle L K → List ℕ → List ℕ → Result ℕ Refusal → Type 0
Filling onward k s s' before left (Ok n) =
    Taken (stretch_refusal (filling_octets k) (length before)) (onward s.line) (onward s'.line) (filling_octets k) before left n
    × (s'.settings ≡ s.settings)
Filling onward k s s' before left (Err r) = Refused (stretch_refusal (filling_octets k) (length before)) r s s' before left

abbrev pub Adding : {L K : Type 0} → (L → List ℕ → List ℕ) → (K → List ℕ → List ℕ) → List ℕ → Open L K → Open L K → List ℕ → List ℕ → Result ℕ Refusal → Type 0
Adding onward owes information s s' before left (Ok n) =
    Taken (adding_refusal (terms s.settings) s.count information (length before)) (onward s.line) (onward s'.line) (adding_octets information) before left n
    × (s'.settings ≡ s.settings) × (s'.count ≡ s.count + length information)
    × ((further : List ℕ) → owes s'.check further ≡ owes s.check (information ++ further))
Adding onward owes information s s' before left (Err r) =
    Refused (adding_refusal (terms s.settings) s.count information (length before)) r s s' before left

abbrev pub Adapting : {L K : Type 0} → (L → List ℕ → List ℕ) → ℕ → Open L K → Open L K → List ℕ → List ℕ → Result ℕ Refusal → Type 0
Adapting onward k s s' before left (Ok n) =
    Taken (stretch_refusal (adapting_octets k) (length before)) (onward s.line) (onward s'.line) (adapting_octets k) before left n
    × (s'.settings ≡ s.settings) × (s'.count ≡ s.count) × (s'.check ≡ s.check)
Adapting onward k s s' before left (Err r) = Refused (stretch_refusal (adapting_octets k) (length before)) r s s' before left

-- closing, spoiling and aborting, by the octets that they write
abbrev pub Ending : {L K : Type 0} → (L → List ℕ → List ℕ) → List ℕ → Open L K → List ℕ → List ℕ → Result (Idle L K × ℕ) (TurnedDown (Open L K)) → Type 0
Ending onward os s before left (Ok (s', n)) =
    Taken (stretch_refusal os (length before)) (onward s.line) (onward s'.line) os before left n × (s'.settings ≡ s.settings)
Ending onward os s before left (Err e) = Refused (stretch_refusal os (length before)) e.refusal s e.given before left
