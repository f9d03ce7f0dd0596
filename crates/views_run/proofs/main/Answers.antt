use Rattle.std.proofs.Common.{◌≤◌, [], rules}
use Rattle.std.proofs.lemmas.List.Elements.{All-from_recursion}
use Rattle.views_run.proofs.main.Goals as goal
use Rattle.views_run.specs.declared.TheConstants.{MAC_CASES}

-- every length is one that `mac_case` takes
pub mac_case-requires : goal.mac_case-requires
mac_case-requires c =
    All-from_recursion (λ x. (4 ≤ x.0) × (x.0 ≤ 1519)) MAC_CASES (search rules) c.loop-length.length-index (0, []) c.loop-length-test.true
