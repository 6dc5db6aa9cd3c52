use Rattle.std.proofs.Common.{ap, sym, ◌∙◌}
use Rattle.std.specs.Option.{option_and_then}
use Rattle.std.specs.FinMap.{get}
use Rattle.mp_vartree.specs.Declarations.{macro_in}
use Rattle.mp_vartree.specs.declared.names.Shape.TheVariants.{Sym}
use Rattle.mp_vartree.proofs.DeclarationLemmas.{shape_here, shape_past, shape_none, is_some_map}
use Rattle.mp_vartree.proofs.declarations.PatternTree+Declared.is_below_macro.Goals as goal

pub returns-then-is_some : goal.returns-then-is_some
returns-then-is_some c =
    shape_here (λ pattern. macro_in (get c.walk.node.now.paths pattern)) c.args.pattern.now c.walk.shape-index (Sym 0) c.walk-test.true
    (is_some_map (λ m. m.now) c.macro_here.result _ _ c.macro_here.ensures (sym c.if-is_some.true ∙ c.is_some.ensures)) ∙ c.walk.invariant

pub returns-in-None : goal.returns-in-None
returns-in-None c =
    shape_none (λ pattern. macro_in (get c.walk.node.now.paths pattern)) c.args.pattern.now c.walk.shape-index (Sym 0) c.walk-test.true
    (is_some_map (λ m. m.now) c.macro_here.result _ _ c.macro_here.ensures (sym c.if-is_some.false ∙ c.is_some.ensures))
    (λ rest. ap macro_in (c.child.ensures rest ∙ ap (option_and_then (λ child. get child.now.paths rest)) c.in-None.is)) ∙ c.walk.invariant

pub walk-preserved : goal.walk-preserved
walk-preserved c =
    shape_past (λ pattern. macro_in (get c.walk.node.now.paths pattern)) (λ pattern. macro_in (get c.in-Some.child.now.paths pattern)) c.args.pattern.now c.walk.shape-index (Sym 0) c.walk-test.true
    (is_some_map (λ m. m.now) c.macro_here.result _ _ c.macro_here.ensures (sym c.if-is_some.false ∙ c.is_some.ensures))
    (λ rest. ap macro_in (c.child.ensures rest ∙ ap (option_and_then (λ child. get child.now.paths rest)) c.in-Some.is)) ∙ c.walk.invariant
