-- Two ears alike, field by field, are one.
use Rattle.std.proofs.Common.{◌≡◌, ap}
use Rattle.frames.specs.Receiving.{Ear}
use Rattle.receiver.specs.Models.{AlikeEars}

pub same_ear : (e e' : Ear) → AlikeEars e e' → e ≡ e'
same_ear e e' h = λ i. record { standing = h.standing i; gathered = h.gathered i; good_with = λ os. h.good_with os i }

pub alike_ears : {e e' : Ear} → e ≡ e' → AlikeEars e e'
alike_ears h = record { standing = ap (λ x. x.standing) h; gathered = ap (λ x. x.gathered) h; good_with = λ os. ap (λ x. x.good_with os) h }
