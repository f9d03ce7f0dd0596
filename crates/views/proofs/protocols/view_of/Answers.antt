use Rattle.std.proofs.Common.{rules}
use Rattle.views.proofs.Tiles.{viewed_tiled}
use Rattle.views.proofs.protocols.view_of.Goals as goal

pub returns-in-65025-clause-tiled : goal.returns-in-65025-clause-tiled
returns-in-65025-clause-tiled c = viewed_tiled c.args.sapi c.args.information.now _ (search rules)

pub returns-in-33-clause-tiled : goal.returns-in-33-clause-tiled
returns-in-33-clause-tiled c = viewed_tiled c.args.sapi c.args.information.now _ (search rules)

pub returns-in-87-clause-tiled : goal.returns-in-87-clause-tiled
returns-in-87-clause-tiled c = viewed_tiled c.args.sapi c.args.information.now _ (search rules)
