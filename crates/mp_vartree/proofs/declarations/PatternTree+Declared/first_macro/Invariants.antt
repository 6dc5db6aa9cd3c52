use Rattle.std.proofs.Common.{◌≡◌, drop}
use Rattle.std.specs.FinMap.{get}
use Rattle.mp_vartree.specs.Names.{pattern_of}
use Rattle.mp_vartree.specs.Declarations.{macro_in, first_macro}
use Rattle.mp_vartree.proofs.declarations.PatternTree+Declared.first_macro.Given as goal

abbrev pub invariant-walk : goal.invariant-walk
invariant-walk l =
    first_macro (λ pattern. macro_in (get l.node.paths pattern)) (pattern_of (drop l.count l.name)) l.count
    ≡ first_macro (λ pattern. macro_in (get l.fn.self.paths pattern)) (pattern_of l.fn.name) 0
