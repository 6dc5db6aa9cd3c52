use Rattle.std.proofs.Common.{Result, Ok, Err}
use Rattle.std.specs.Result.{OnErr}
use Rattle.mp_pool.proofs.RoomLemmas.{view-more, view-same}
use Rattle.mp_pool.proofs.pool.Pool.add_cell.Goals as goal

pub returns-clause-ok : goal.returns-clause-ok
returns-clause-ok c =
    view-more c.self.inside.cells c.add_cell.new.cells c.self.inside.taken.items c.self.inside.vacant.items _ c.self.invariant c.add_cell.ensures.longer c.add_cell.ensures.shorter c.add_cell.ensures.same c.args.self.now c.self.view_is (c.in_ok-add_cell.ensures {u = tt}).ok

on_err : {A E : Type 0} (r : Result A E) (P : Type 0) → P → OnErr r P
on_err (Ok a) P p = tt
on_err (Err e) P p = p

pub returns-in_err-add_cell-clause-err : goal.returns-in_err-add_cell-clause-err
returns-in_err-add_cell-clause-err c =
    on_err c.from_residual.result _
    (view-same c.self.inside.cells c.add_cell.new.cells c.self.inside.taken.items c.self.inside.vacant.items _ c.self.invariant c.add_cell.ensures.longer c.add_cell.ensures.shorter c.add_cell.ensures.same c.args.self.now c.self.view_is (c.in_err-add_cell.ensures {u = tt}).err)
