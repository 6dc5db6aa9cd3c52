use Rattle.std.proofs.Common.{drop, ap, sym, ◌∙◌}
use Rattle.std.specs.Option.{option_map, option_and_then}
use Rattle.std.specs.FinMap.{get}
use Rattle.mp_vartree.specs.Names.{pattern_of}
use Rattle.mp_vartree.specs.Declarations.{macro_in}
use Rattle.mp_vartree.specs.declared.names.Part.TheVariants.{Sym}
use Rattle.mp_vartree.proofs.DeclarationLemmas.{met_here, part_past, part_none}
use Rattle.mp_vartree.proofs.declarations.PatternTree+Declared.first_macro.Goals as goal

pub returns-in-Some : goal.returns-in-Some
returns-in-Some c =
    sym (met_here (λ pattern. macro_in (get c.walk.node.now.paths pattern)) (pattern_of (drop c.walk.count c.args.name.now)) c.walk.count c.in-Some.m.now
    (sym c.macro_here.ensures ∙ ap (option_map (λ m. m.now)) c.in-Some.is)) ∙ c.walk.invariant

pub returns-in-None : goal.returns-in-None
returns-in-None c =
    part_none (λ pattern. macro_in (get c.walk.node.now.paths pattern)) c.args.name.now c.walk.count (Sym 0) c.of.result c.walk-test.true c.of.ensures
    (sym c.macro_here.ensures ∙ ap (option_map (λ m. m.now)) c.in_default.is)
    (λ rest. ap macro_in (c.child.ensures rest ∙ ap (option_and_then (λ child. get child.now.paths rest)) c.in-None.is)) ∙ c.walk.invariant

pub walk-preserved : goal.walk-preserved
walk-preserved c =
    part_past (λ pattern. macro_in (get c.walk.node.now.paths pattern)) (λ pattern. macro_in (get c.in-Some-child.child.now.paths pattern)) c.args.name.now c.walk.count (Sym 0) c.of.result
    c.walk-test.true c.of.ensures (sym c.macro_here.ensures ∙ ap (option_map (λ m. m.now)) c.in_default.is)
    (λ rest. ap macro_in (c.child.ensures rest ∙ ap (option_and_then (λ child. get child.now.paths rest)) c.in-Some-child.is)) ∙ c.walk.invariant
