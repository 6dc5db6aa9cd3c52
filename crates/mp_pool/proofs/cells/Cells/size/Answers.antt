use Rattle.std.proofs.Common.{List, length, sym, ap, ◌∙◌}
use Rattle.std.specs.List.{sum_by}
use Rattle.mp_pool.specs.declared.Term.{Term}
use Rattle.mp_pool.proofs.Growing.{total_seen}
use Rattle.mp_pool.proofs.cells.Cells.size.Goals as goal

pub returns : goal.returns
returns c =
    c.len.ensures ∙ c.self.inside.cells.ok.0 ∙ sym c.self.invariant.total ∙ sym (total_seen c.self.inside.cells.items c.self.inside.chains.items)
    ∙ ap (λ (v : List (List Term)). sum_by (λ (ts : List Term). length ts) v) c.self.view_is
