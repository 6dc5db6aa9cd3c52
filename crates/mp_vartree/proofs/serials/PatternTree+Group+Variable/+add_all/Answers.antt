use Rattle.std.proofs.Common.{◌≡◌, suc, true, List, [], ◌∷◌, length, refl, ap, sym, ◌∙◌, subst, arith}
use Rattle.std.specs.Option.{option_and_then}
use Rattle.std.specs.Ordering.{is_eq}
use Rattle.std.specs.Map.{lookup, keys_of}
use Rattle.std.specs.List.Sorted.{IsStrictlySortedBy}
use Rattle.std.specs.FinMap.{get}
use Rattle.std.specs.Map.Iter.{deref_pair}
use Rattle.std.proofs.lemmas.List.{length_push}
use Rattle.std.proofs.lemmas.Map.Iter.{iter_turn, iter_end}
use Rattle.mp_vartree.specs.Names.{shape_cmp}
use Rattle.mp_vartree.specs.Layout.Groups.{covers}
use Rattle.mp_vartree.specs.Layout.Gathered.{Gathers, InGroup}
use Rattle.mp_vartree.specs.Layout.Tree.{nodes_in}
use Rattle.mp_vartree.specs.declared.names.Shape.{Shape}
use Rattle.mp_vartree.proofs.OrderLemmas.{by_shape}
use Rattle.mp_vartree.proofs.GatherLemmas.{GathersBefore, next_child, gathers_all, distinct_shapes, child_at_falls}
use Rattle.mp_vartree.proofs.serials.PatternTree+Group+Variable.+add_all.Goals as goal

pub add_all-requires : goal.add_all-requires
add_all-requires t c =
    let es = c.into_iter-child-iterator.result in
    let turn =
    iter_turn deref_pair es c.children.yielded es c.children.child-iterator c.next.new.self c.next.result refl c.children.yielded_by (c.in-Some.field-0-0, c.in-Some.child) c.in-Some.is
    c.next.ensures.steps in
    let falls = child_at_falls es (length c.children.yielded) c.in-Some.field-0-0.now c.in-Some.child.now turn.1 in
    let listed = c.into_iter-child-iterator.ensures.into_iter_gives ∙ c.iter-child-items.ensures.rest in
    let nodes : suc (nodes_in es) ≡ c.args.self.now.nodes = ap (λ xs. suc (nodes_in xs)) listed ∙ sym c.children-children.ensures.nodes in
    (omega (arith, falls, nodes, ap (λ tree. tree.nodes) c.deref.ensures, c.decreases), tt)

pub children-preserved : goal.children-preserved
children-preserved t c =
    let es = c.into_iter-child-iterator.result in
    let turn =
    iter_turn deref_pair es c.children.yielded es c.children.child-iterator c.next.new.self c.next.result refl c.children.yielded_by (c.in-Some.field-0-0, c.in-Some.child) c.in-Some.is
    c.next.ensures.steps in (
      tt,
      tt,
      rw (length_push c.children.yielded (c.in-Some.field-0-0, c.in-Some.child))
          (next_child (length c.children.yielded) c.add_held.new.into.keys c.children.into.keys c.add_all.new.into.keys es c.in-Some.field-0-0.now c.in-Some.child.now turn.1 c.children.invariant.2
          (subst (λ tree. Gathers InGroup c.children.into.keys c.add_all.new.into.keys tree.paths (covers true [])) c.deref.ensures c.in_ok-add_all.ensures)),
    )

pub returns : goal.returns
returns t c =
    let es = c.into_iter-child-iterator.result in
    let listed = c.into_iter-child-iterator.ensures.into_iter_gives ∙ c.iter-child-items.ensures.rest in
    let end = iter_end deref_pair es c.children.yielded es c.children.child-iterator c.next.new.self c.next.result refl c.children.yielded_by c.in-None.is c.next.ensures.steps in
    gathers_all c.args.self.now.paths es (subst (λ xs. (s : Shape) → (rest : List Shape) → get c.args.self.now.paths (s ∷ rest) ≡ option_and_then (λ child. get child.value.paths rest) (lookup (λ k. is_eq (shape_cmp s k)) xs)) (sym listed) c.children-children.ensures.paths)
    (distinct_shapes es (subst (λ xs. IsStrictlySortedBy by_shape.derived (keys_of xs)) (sym listed) c.iter-child-items.ensures.ordered))
    c.args.into.now.keys c.add_held.new.into.keys c.children.into.keys c.in_ok-add_held.ensures
    (subst (λ n. GathersBefore n c.add_held.new.into.keys c.children.into.keys es) end.1 c.children.invariant.2)
