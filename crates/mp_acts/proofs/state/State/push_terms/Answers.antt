use Rattle.std.proofs.Common.{pos, get_or, SFits, w64, sym, ◌∙◌, arith, rules}
use Rattle.std.proofs.lemmas.Int.{to_z-of_z}
use Rattle.mp_ops.proofs.ReachLemmas.{reach_each}
use Rattle.mp_acts.proofs.TextLemmas.{terms_step, terms_end}
use Rattle.mp_acts.proofs.state.State.push_terms.Goals as goal

pub push_term-requires-clause-over : goal.push_term-requires-clause-over
push_term-requires-clause-over c =
    omega (arith, reach_each c.args.terms.now c.terms.term-index (record { serial = 0; coefficient = pos 0 }) c.terms-test.true, c.requires.over)

pub terms-preserved : goal.terms-preserved
terms-preserved c =
    let fits : SFits w64 (get_or c.args.terms.now c.terms.term-index (record { serial = 0; coefficient = pos 0 })).coefficient = search rules in
    let added = simp (c.sign.ensures, to_z-of_z) at c.in_ok-push_term.ensures in
    terms_step c.args.self.now.unknowns c.args.terms.now c.terms.term-index (record { serial = 0; coefficient = pos 0 }) c.terms.text c.push_term.new.text c.terms-test.true added
    ∙ c.terms.invariant

pub returns : goal.returns
returns c = sym (terms_end c.args.self.now.unknowns c.args.terms.now c.terms.term-index c.terms.text c.terms-test.false) ∙ c.terms.invariant
