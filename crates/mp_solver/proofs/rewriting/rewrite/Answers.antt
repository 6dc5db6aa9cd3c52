use Rattle.std.proofs.Common.{◌+◌, get_or, drop, sym, ◌∙◌, arith}
use Rattle.std.proofs.lemmas.List.{drop_more, drop_all}
use Rattle.mp_solver.proofs.RewriteLemmas.{IsRewritten-next, now-at, now-enough, stays-at, rewritten-all}
use Rattle.mp_solver.proofs.rewriting.rewrite.Goals as goal

pub replace-requires-clause-fits : goal.replace-requires-clause-fits
replace-requires-clause-fits c =
    let rows = c.args.rows.now in
    let k = c.rows.row-index in
    let states = c.args.forms.now.states in
    let so_far = rw (drop_more rows k 0 (omega arith)) at c.rows.invariant.rewritten in
    let at = now-at states c.args.serial c.args.new.now c.args.holders.now.items c.rows.forms.states c.rows.holders.items (get_or rows k 0) (drop (k + 1) rows) c.rows.all so_far in
    λ p some.
    stays-at states c.args.serial c.args.new.now c.requires.solved c.requires.coefficients c.requires.constants (get_or rows k 0) p (sym at ∙ some)

pub replace-requires-clause-spare : goal.replace-requires-clause-spare
replace-requires-clause-spare c =
    let rows = c.args.rows.now in
    let k = c.rows.row-index in
    let states = c.args.forms.now.states in
    let so_far = rw (drop_more rows k 0 (omega arith)) at c.rows.invariant.rewritten in
    let few = now-enough states c.args.serial c.args.new.now c.args.holders.now.items c.rows.forms.states c.rows.holders.items (get_or rows k 0) (drop (k + 1) rows)
    c.rows.all so_far _ c.requires.spare in
    omega (arith, few, c.rows.invariant.cells)

pub rows-preserved : goal.rows-preserved
rows-preserved c =
    let rows = c.args.rows.now in
    let k = c.rows.row-index in
    let states = c.args.forms.now.states in
    let so_far = rw (drop_more rows k 0 (omega arith)) at c.rows.invariant.rewritten in
    let added = rw (c.terms.ensures.same) at c.add_terms-all.ensures.added in
    record {
      rewritten =
          rw (c.replace.ensures.states)
          (IsRewritten-next states c.args.serial c.args.new.now c.args.holders.now.items c.rows.forms.states c.rows.holders.items (get_or rows k 0) (drop (k + 1) rows) c.rows.all so_far
          c.add_terms-all.new.holders.items c.add_terms-all.result c.add_terms-all.ensures.stays added);
      lists = c.replace.ensures.lists ∙ c.rows.invariant.lists;
      cells = c.replace.ensures.cells ∙ c.rows.invariant.cells;
    }

pub returns-clause-states : goal.returns-clause-states
returns-clause-states c =
    let states = c.args.forms.now.states in
    let so_far = rw (drop_all c.rows.row-index c.args.rows.now (omega arith)) at c.rows.invariant.rewritten in
    rewritten-all states c.args.serial c.args.new.now c.args.holders.now.items c.rows.forms.states c.rows.holders.items c.rows.all so_far
