use Rattle.std.proofs.Common.{◌≡◌, Ok, take}
use Rattle.std.specs.List.{fold}
use Rattle.mp_solver.specs.Reduction.{independent_part, with_term_of}
use Rattle.mp_solver.proofs.system.System.up_to_date.Given as goal

abbrev pub invariant-terms : goal.invariant-terms
invariant-terms l =
    fold (with_term_of l.self.unknowns.states) (Ok (independent_part l.self.unknowns.states l.form)) (take l.term-index l.terms) ≡ Ok l.sum
