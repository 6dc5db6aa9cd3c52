use Rattle.std.proofs.Common.{rules, SFits, w32, w64}
use Rattle.std.proofs.lemmas.Int.{to_z-of_z}
use Rattle.std.proofs.lemmas.List.Elements.{All-tail}
use Rattle.mp_pool.specs.Terms.{IsCoefficient}
use Rattle.mp_acts.specs.Texts.{first_sign, unsigned_term, more_terms, last_constant}
use Rattle.mp_acts.proofs.TextLemmas.{sum_of_parts}
use Rattle.mp_acts.proofs.state.State.push_sum.Goals as goal

pub push_terms-requires-clause-coefficients : goal.push_terms-requires-clause-coefficients
push_terms-requires-clause-coefficients c = All-tail (λ t. IsCoefficient t.coefficient) c.args.first.now c.args.more.now c.requires.coefficients

pub returns : goal.returns
returns c =
    let fits : SFits w64 c.args.first.now.coefficient = search rules in
    let first = simp (c.first_sign.ensures, to_z-of_z) at c.in_ok-push_term.ensures in
    let fits_constant : SFits w32 c.args.constant = search rules in
    let last = simp to_z-of_z at c.in_ok-push_last.ensures in
    sum_of_parts c.args.text.now c.push_term.new.text c.push_terms.new.text c.push_last.new.text
    (first_sign c.args.first.now.coefficient) (unsigned_term c.args.self.now.unknowns c.args.first.now) (more_terms c.args.self.now.unknowns c.args.more.now) (last_constant c.args.constant)
    first c.in_ok-push_terms.ensures last
