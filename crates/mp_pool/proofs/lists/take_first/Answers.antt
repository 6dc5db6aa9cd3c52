use Rattle.std.proofs.Common.{◌^◌, FitsSigned, w64, rules, sym, ◌∙◌, refl}
use Rattle.std.proofs.lemmas.Int.{to_z-of_z}
use Rattle.mp_pool.specs.Storage.Chains.{chain_of}
use Rattle.mp_pool.proofs.ListLemmas.{none_at_front, one_at_front}
use Rattle.mp_pool.proofs.lists.take_first.Goals as goal

pub returns-in-Some-clause-list : goal.returns-in-Some-clause-list
returns-in-Some-clause-list c =
    let one = one_at_front c.args.serial (2 ^ 32) c.in-Some.coefficient (chain_of c.args.cells.now c.args.chain) c.in-Some.ensures.some c.requires.ordered in
    c.step.ensures.from ∙ sym one.0

pub returns-in-Some-clause-found : goal.returns-in-Some-clause-found
returns-in-Some-clause-found c =
    let one = one_at_front c.args.serial (2 ^ 32) c.in-Some.coefficient (chain_of c.args.cells.now c.args.chain) c.in-Some.ensures.some c.requires.ordered in
    let fits : FitsSigned w64 c.in-Some.coefficient = search rules in
    rw (one.1, to_z-of_z w64 c.in-Some.coefficient fits) refl

pub returns-in-None-clause-list : goal.returns-in-None-clause-list
returns-in-None-clause-list c =
    sym (none_at_front c.args.serial (2 ^ 32) (chain_of c.args.cells.now c.args.chain) (c.in-None.ensures.none refl) c.requires.ordered).0

pub returns-in-None-clause-found : goal.returns-in-None-clause-found
returns-in-None-clause-found c =
    rw (none_at_front c.args.serial (2 ^ 32) (chain_of c.args.cells.now c.args.chain) (c.in-None.ensures.none refl) c.requires.ordered).1 refl
