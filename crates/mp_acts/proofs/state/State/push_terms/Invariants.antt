use Rattle.std.proofs.Common.{◌≡◌, ◌++◌, drop}
use Rattle.mp_acts.specs.Texts.{more_terms}
use Rattle.mp_acts.proofs.state.State.push_terms.Given as goal

abbrev pub invariant-terms : goal.invariant-terms
invariant-terms l = l.text ++ more_terms l.self.unknowns (drop l.term-index l.terms) ≡ l.fn.text ++ more_terms l.self.unknowns l.terms
