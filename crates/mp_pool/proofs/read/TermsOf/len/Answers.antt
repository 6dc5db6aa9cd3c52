use Rattle.std.proofs.Common.{length, sym, ap, ◌∙◌}
use Rattle.mp_pool.proofs.Seen.{length-terms}
use Rattle.mp_pool.proofs.read.TermsOf.len.Goals as goal

pub returns : goal.returns
returns c = sym (length-terms c.self.inside.cells.now c.self.inside.left c.self.inside.at) ∙ ap length c.self.view_is
