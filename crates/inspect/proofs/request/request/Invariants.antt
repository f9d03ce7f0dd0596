use Rattle.std.proofs.Common.{◌≡◌, drop}
use Rattle.inspect.specs.Listing.{request}
use Rattle.inspect.proofs.Asked.{first_asked}
use Rattle.inspect.proofs.request.request.Given as goal

-- the codes before gave nothing
abbrev pub invariant-loop-code : goal.invariant-loop-code
invariant-loop-code l = request l.line ≡ first_asked l.line (drop l.code-index l.code-items)
