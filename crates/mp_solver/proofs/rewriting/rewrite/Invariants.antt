use Rattle.std.proofs.Common.{◌≡◌, ◌+◌, drop}
use Rattle.mp_solver.specs.Elimination.{term_count}
use Rattle.mp_solver.proofs.RewriteLemmas.{IsRewritten}
use Rattle.mp_solver.proofs.rewriting.rewrite.Given as goal

abbrev pub invariant-rows : goal.invariant-rows
invariant-rows l = record {
  rewritten : IsRewritten l.fn.forms.states l.serial l.new l.fn.holders.items l.forms.states l.holders.items (drop l.row-index l.rows) l.all;
  lists : l.forms.lists ≡ l.fn.forms.lists;
  cells : l.forms.spare + term_count l.forms.states ≡ l.fn.forms.spare + term_count l.fn.forms.states;
}
