use Rattle.std.proofs.Common.{◌≡◌, ◌+◌, ◌<◌, length, ◌∙◌, arith}
use Rattle.std.proofs.lemmas.List.{get_or_default}
use Rattle.mp_solver.proofs.rows.all_rows.Goals as goal

pub returns : goal.returns
returns c =
    let xs = c.rows.rows.items in
    let count = c.rows.invariant.count in
    let n : c.rows.row ≡ c.args.count = omega arith in
    record {
      rises = λ k lt.
          let one = c.rows.invariant.each k (omega (arith, lt, count)) in
          let two = c.rows.invariant.each (k + 1) (omega (arith, lt, count)) in
          omega (arith, one, two);
      all = λ row below.
          let within : row < length xs = omega (arith, below, count, n) in
          (row, within, get_or_default xs row row 0 within ∙ c.rows.invariant.each row (omega (arith, below, n)));
    }
