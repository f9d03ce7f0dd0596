-- Values of the code as the definitions take them.
use Rattle.std.specs.Prelude.{◌≡◌, ℕ, true, false, List, Ok, Err, Vec, vec_items, Result}
use Rattle.std.specs.Borrow.{Bor}
use Rattle.std.specs.declared.alloc.Global.{Global}
use Rattle.frames.specs.declared.answers.Refusal.{Refusal}
use Rattle.frames.specs.declared.answers.Refusal.TheVariants as refusal
use Rattle.frames.specs.declared.settings.Settings.{Settings}
use Rattle.frames.specs.declared.request.Request.{Request}
use Rattle.frames.specs.declared.request.Request.TheVariants as request
use Rattle.frames.specs.Calls.{Call, opening, adding, adapting, filling, closing, aborting, spoiling}
use Rattle.frames.specs.Terms.{Terms, services, valid}

abbrev pub terms : Settings → Terms
terms s = record { served = services s.ipv4 s.ipv6 s.mac; longest = s.longest; width = s.width }

-- the making of settings from a host's numbers: these very terms where they are valid, else refused
abbrev pub Made : Terms → Result Settings Refusal → Type 0
Made σ (Ok s) = (valid σ ≡ true) × (terms s ≡ σ)
Made σ (Err r) = (valid σ ≡ false) × (r ≡ refusal.Settings)

-- the call that a request stands for; `octets` gives those of its information
abbrev pub call_by : {I : Type 0} → (I → List ℕ) → Request I → Call
call_by octets (request.Open sapi) = opening sapi
call_by octets (request.Add information) = adding (octets information)
call_by octets (request.Adapt k) = adapting k
call_by octets (request.Fill k) = filling k
call_by octets request.Close = closing
call_by octets request.Abort = aborting
call_by octets request.Spoil = spoiling

-- with its information lent, and with it owned
abbrev pub lent_call : Request (Bor (List ℕ)) → Call
lent_call = call_by (λ information. information.now)

abbrev pub owned_call : Request (Vec ℕ Global) → Call
owned_call = call_by vec_items
