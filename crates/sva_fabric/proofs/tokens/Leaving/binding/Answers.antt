use Rattle.sva_fabric.proofs.tokens.Leaving.binding.Goals as goal

pub returns : goal.returns
returns g c = c.self.view_is
