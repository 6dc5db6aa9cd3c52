use Rattle.std.proofs.Common.{◌<◌, ◌++◌, ◌∷◌, [], List, pos, FitsSigned, w64, length, length-append, get_or, take, sym, ap, ◌∙◌, arith, rules}
use Rattle.std.proofs.lemmas.List.{append_assoc, take_more, take_all, length-take-le}
use Rattle.mp_pool.specs.declared.Term.{Term}
use Rattle.mp_pool.specs.Storage.Chains.{chain_of}
use Rattle.mp_pool.proofs.Twos.{only_two-trans}
use Rattle.mp_pool.proofs.lists.push_all.Goals as goal

abbrev none : Term
none = record { serial = 0; coefficient = pos 0 }

pub push-requires-clause-is : goal.push-requires-clause-is
push-requires-clause-is c = omega (arith, c.pushing.invariant.rest.count, c.requires.is)

pub push-requires-clause-spare : goal.push-requires-clause-spare
push-requires-clause-spare c =
    let i = c.pushing.term-index in
    let within : i < length c.args.terms.now = omega arith in
    let long = ap length c.pushing.invariant.list ∙ length-append (chain_of c.args.cells.now c.args.chain) (take i c.args.terms.now) in
    let taken = length-take-le i c.args.terms.now (omega (arith, within)) in
    omega (arith, long, taken, c.pushing.invariant.cells, c.requires.spare, within)

pub pushing-preserved : goal.pushing-preserved
pushing-preserved c =
    let terms = c.args.terms.now in
    let i = c.pushing.term-index in
    let within : i < length terms = omega arith in
    let small = (c.requires.terms.coefficients i none within).1 in
    let fits : FitsSigned w64 (get_or terms i none).coefficient = search rules in
    let before = c.pushing.invariant in
    record {
      rest = only_two-trans _ _ _ _ _ before.rest c.push.ensures.rest;
      list =
          c.push.ensures.list
          ∙ ap (λ (ts : List Term). ts ++ get_or terms i none ∷ []) before.list
          ∙ append_assoc (chain_of c.args.cells.now c.args.chain) (take i terms) (get_or terms i none ∷ [])
          ∙ ap (λ (ts : List Term). chain_of c.args.cells.now c.args.chain ++ ts) (sym (take_more terms i none within));
      cells = omega (arith, c.push.ensures.cells, before.cells);
    }

pub returns-clause-list : goal.returns-clause-list
returns-clause-list c =
    c.pushing.invariant.list ∙ ap (λ (ts : List Term). chain_of c.args.cells.now c.args.chain ++ ts) (take_all c.pushing.term-index c.args.terms.now (omega arith))
