use Rattle.std.proofs.Common.{arith, sym, ◌∙◌, ◌≡◌, slice_get}
use Rattle.std.proofs.lemmas.Grind.{common_steps}
use Rattle.std.proofs.lemmas.Option.{gets}
use Rattle.std.specs.FinMap.{entries}
use Rattle.sva_endpoint.proofs.Facts.{entry_at}
use Rattle.sva_endpoint.proofs.cached.Cache.at.Goals as goal

pub returns-in-Some : goal.returns-in-Some
returns-in-Some c = rw (entry_at c.self.inside.entries.items c.args.self.now c.self.invariant.0 c.self.view_is c.args.place) (grind (arith, common_steps, gets))

pub returns-in-None : goal.returns-in-None
returns-in-None c = rw (entry_at c.self.inside.entries.items c.args.self.now c.self.invariant.0 c.self.view_is c.args.place) (grind (arith, common_steps, gets))
