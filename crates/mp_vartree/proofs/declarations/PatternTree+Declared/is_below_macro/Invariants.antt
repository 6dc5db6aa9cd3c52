use Rattle.std.proofs.Common.{◌≡◌, drop}
use Rattle.std.specs.FinMap.{get}
use Rattle.mp_vartree.specs.Declarations.{macro_in, is_below_macro}
use Rattle.mp_vartree.proofs.declarations.PatternTree+Declared.is_below_macro.Given as goal

abbrev pub invariant-walk : goal.invariant-walk
invariant-walk l =
    is_below_macro (λ pattern. macro_in (get l.node.paths pattern)) (drop l.shape-index l.pattern)
    ≡ is_below_macro (λ pattern. macro_in (get l.fn.self.paths pattern)) l.fn.pattern
