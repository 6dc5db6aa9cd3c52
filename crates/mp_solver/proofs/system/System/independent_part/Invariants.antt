use Rattle.std.proofs.Common.{◌≡◌, take}
use Rattle.std.specs.List.{filter}
use Rattle.std.specs.Option.{is_none}
use Rattle.mp_solver.specs.States.{form_of}
use Rattle.mp_solver.proofs.system.System.independent_part.Given as goal

abbrev pub invariant-terms : goal.invariant-terms
invariant-terms l = l.independent.items ≡ filter (λ t. is_none (form_of l.self.unknowns.states t.serial)) (take l.term-index l.terms)
