use Rattle.std.proofs.Common.{sym, ◌∙◌}
use Rattle.mp_pool.proofs.SlotLemmas.{count-slots_from}
use Rattle.mp_pool.proofs.pool.Pool.spare_lists.Goals as goal

pub returns : goal.returns
returns c =
    let free = count-slots_from c.self.inside.cells 3 c.self.inside.taken.items in
    rw (← c.self.view_is) (c.len.ensures ∙ c.self.inside.vacant.ok.0 ∙ c.self.invariant.vacancies.count ∙ sym free)
