use Rattle.std.proofs.Common.{◌≡◌, ◌≢◌, ◌++◌, List, Option, length, length-append, ap, ◌∙◌, arith}
use Rattle.std.specs.Option.{option_map}
use Rattle.mp_pool.specs.declared.Term.{Term}
use Rattle.mp_pool.specs.Terms.{without}
use Rattle.mp_pool.specs.Storage.Chains.{chain_of}
use Rattle.mp_pool.proofs.lists.remove.Goals as goal

apart : (c : goal.After-exchange) → 1 ≢ c.args.chain
apart c = λ e. omega (arith, e, c.requires.from)

-- what was moved, and what was left of the list
list : (c : goal.After-exchange) → chain_of c.exchange.new.self c.args.chain ≡ chain_of c.skip.new.cells 1 ++ chain_of c.take_first-found.new.cells c.args.chain
list c =
    c.exchange.ensures.a ∙ c.move_rest.ensures.done
    ∙ ap (λ (ts : List Term). ts ++ chain_of c.take_first-found.new.cells c.args.chain) (c.take_first-found.ensures.rest.others 1 (apart c) (λ e. omega (arith, e)))

pub returns-clause-list : goal.returns-clause-list
returns-clause-list c =
    list c
    ∙ ap (λ (ts : List Term). chain_of c.skip.new.cells 1 ++ ts) c.take_first-found.ensures.list
    ∙ c.skip.ensures.others
    ∙ ap (λ (ts : List Term). ts ++ without c.args.serial (chain_of c.args.cells.now c.args.chain)) c.requires.done

pub returns-clause-found : goal.returns-clause-found
returns-clause-found c = c.take_first-found.ensures.found ∙ ap (λ (t : Option Term). option_map (λ (u : Term). u.coefficient) t) c.skip.ensures.same

pub returns-clause-cells : goal.returns-clause-cells
returns-clause-cells c =
    let long = ap length (list c) ∙ length-append (chain_of c.skip.new.cells 1) (chain_of c.take_first-found.new.cells c.args.chain) in
    let one = ap length c.requires.done in
    let skipped : chain_of c.skip.new.cells 0 ≡ chain_of c.args.cells.now 0 = c.skip.ensures.rest.others 0 (λ e. omega (arith, e, c.requires.from)) (λ e. omega (arith, e)) in
    let moved : chain_of c.exchange.new.self 0 ≡ chain_of c.take_first-found.new.cells 0 =
    c.exchange.ensures.rest.others 0 (λ e. omega (arith, e, c.requires.from)) (λ e. omega (arith, e)) ∙ c.move_rest.ensures.rest.others 0 (λ e. omega (arith, e, c.requires.from)) (λ e. omega (arith, e)) in
    omega (arith, long, one, ap length skipped, ap length moved, c.take_first-found.ensures.cells, c.skip.ensures.cells)
