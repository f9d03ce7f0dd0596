-- Lists of calls: what each writes, when it is turned down, and the ledger of what was ended.
use Rattle.std.specs.Prelude.{◌≡◌, ℕ, ◌+◌, ◌<◌, Bool, true, false, cond, List, [], ◌∷◌, ◌++◌, length, Some, None, Option, nat_lt}
use Rattle.octets.specs.Octets.{Octets}
use Rattle.frames.specs.declared.answers.Fault.{Fault}
use Rattle.frames.specs.declared.answers.Fault.TheVariants as fault
use Rattle.frames.specs.declared.answers.Refusal.{Refusal}
use Rattle.frames.specs.declared.answers.Refusal.TheVariants as refusal
use Rattle.frames.specs.Terms.{Terms, serves, header_length}
use Rattle.frames.specs.Layout.{header, opening_octets, adding_octets, adapting_octets, filling_octets, closing_octets, spoiling_octets, aborting_octets}

-- a sender's calls with their arguments
pub data Call : Type 0 where
  opening : ℕ → Call
  adding : List ℕ → Call
  adapting : ℕ → Call
  filling : ℕ → Call
  closing : Call
  aborting : Call
  spoiling : Call

-- the frame that a sender has open: none, or its SAPI and information so far
pub data Frame : Type 0 where
  idle : Frame
  opened : ℕ → List ℕ → Frame

-- without a frame open a sender allows open and fill, with one open all others
abbrev pub allows : Frame → Call → Bool
allows idle (opening s) = true
allows idle (adding j) = false
allows idle (adapting k) = false
allows idle (filling k) = true
allows idle closing = false
allows idle aborting = false
allows idle spoiling = false
allows (opened s i) (opening s') = false
allows (opened s i) (adding j) = true
allows (opened s i) (adapting k) = true
allows (opened s i) (filling k) = false
allows (opened s i) closing = true
allows (opened s i) aborting = true
allows (opened s i) spoiling = true

-- the octets from the address on, which the check covers
abbrev pub covered : Frame → List ℕ
covered idle = []
covered (opened s i) = header s ++ i

abbrev pub information : Frame → List ℕ
information idle = []
information (opened s i) = i

-- what a call writes before line coding; `owed` gives the check octets of a list
abbrev pub octets : (List ℕ → List ℕ) → Frame → Call → List ℕ
octets owed φ (opening s) = opening_octets s
octets owed φ (adding j) = adding_octets j
octets owed φ (adapting k) = adapting_octets k
octets owed φ (filling k) = filling_octets k
octets owed φ closing = closing_octets (owed (covered φ))
octets owed φ aborting = aborting_octets
octets owed φ spoiling = spoiling_octets (owed (covered φ))

-- the frame after a call that was taken
abbrev pub next : Frame → Call → Frame
next φ (opening s) = opened s []
next idle (adding j) = idle
next (opened s i) (adding j) = opened s (i ++ j)
next φ (adapting k) = φ
next φ (filling k) = φ
next φ closing = idle
next φ aborting = idle
next φ spoiling = idle

-- whether a call is turned down, and as what: an unserved SAPI or too much information first, then a stretch of fewer
-- octets than the call writes
abbrev pub stretch_refusal : List ℕ → ℕ → Option Refusal
stretch_refusal os room = cond (nat_lt room (length os)) (Some refusal.Stretch) None

abbrev pub refused : Terms → (List ℕ → List ℕ) → Frame → Call → ℕ → Option Refusal
refused σ owed φ (opening s) room =
    cond (serves σ.served s) (stretch_refusal (octets owed φ (opening s)) room) (Some refusal.Unserved)
refused σ owed φ (adding j) room =
    cond (nat_lt σ.longest (length (information φ) + length j)) (Some refusal.Overfull) (stretch_refusal (octets owed φ (adding j)) room)
refused σ owed φ (adapting k) room = stretch_refusal (octets owed φ (adapting k)) room
refused σ owed φ (filling k) room = stretch_refusal (octets owed φ (filling k)) room
refused σ owed φ closing room = stretch_refusal (octets owed φ closing) room
refused σ owed φ aborting room = stretch_refusal (octets owed φ aborting) room
refused σ owed φ spoiling room = stretch_refusal (octets owed φ spoiling) room

-- what the far end is to report of a frame: its SAPI and information, or a fault and a count
pub data Entry : Type 0 where
  handed_over : ℕ → List ℕ → Entry
  faulty : Fault → ℕ → Entry

-- the ledger's entry for a call that was taken: one for each ending of the frame that is open
abbrev pub entered : Terms → Frame → Call → List Entry
entered σ idle κ = []
entered σ (opened s i) (opening s') = []
entered σ (opened s i) (adding j) = []
entered σ (opened s i) (adapting k) = []
entered σ (opened s i) (filling k) = []
entered σ (opened s i) closing = handed_over s i ∷ []
entered σ (opened s i) aborting = faulty fault.Abort (header_length + length i) ∷ []
entered σ (opened s i) spoiling = faulty fault.Check (header_length + length i + σ.width) ∷ []

-- a call with the length of the stretch it was lent
pub record Lent : Type 0 where
  pub call : Call
  pub room : ℕ

-- a call that is turned down alters nothing, writes nothing and enters nothing
abbrev pub if_taken : {X : Type 0} → Option Refusal → X → X → X
if_taken None taken otherwise = taken
if_taken (Some r) taken otherwise = otherwise

abbrev pub frame_after : Terms → (List ℕ → List ℕ) → Frame → Lent → Frame
frame_after σ owed φ κ = if_taken (refused σ owed φ κ.call κ.room) (next φ κ.call) φ

abbrev pub written : Terms → (List ℕ → List ℕ) → Frame → Lent → List ℕ
written σ owed φ κ = if_taken (refused σ owed φ κ.call κ.room) (octets owed φ κ.call) []

abbrev pub noted : Terms → (List ℕ → List ℕ) → Frame → Lent → List Entry
noted σ owed φ κ = if_taken (refused σ owed φ κ.call κ.room) (entered σ φ κ.call) []

-- lists of calls, each on the sender that the last one gave back
unfoldable pub Permitted : Terms → (List ℕ → List ℕ) → Frame → List Lent → Type 0
Permitted σ owed φ [] = Unit {0}
Permitted σ owed φ (κ ∷ κs) = (allows φ κ.call ≡ true) × Permitted σ owed (frame_after σ owed φ κ) κs

unfoldable pub line : Terms → (List ℕ → List ℕ) → Frame → List Lent → List ℕ
line σ owed φ [] = []
line σ owed φ (κ ∷ κs) = written σ owed φ κ ++ line σ owed (frame_after σ owed φ κ) κs

unfoldable pub ledger : Terms → (List ℕ → List ℕ) → Frame → List Lent → List Entry
ledger σ owed φ [] = []
ledger σ owed φ (κ ∷ κs) = noted σ owed φ κ ++ ledger σ owed (frame_after σ owed φ κ) κs

-- a host's arguments are numbers of their types: a 16-bit SAPI, octets
abbrev pub Typed : Call → Type 0
Typed (opening s) = s < 65536
Typed (adding j) = Octets j
Typed (adapting k) = Unit {0}
Typed (filling k) = Unit {0}
Typed closing = Unit {0}
Typed aborting = Unit {0}
Typed spoiling = Unit {0}

-- a frame that such arguments made
abbrev pub Known : Frame → Type 0
Known idle = Unit {0}
Known (opened s i) = (s < 65536) × Octets i
