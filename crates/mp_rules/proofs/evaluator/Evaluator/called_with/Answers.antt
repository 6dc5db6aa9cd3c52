use Rattle.mp_rules.specs.Machine.{things}
use Rattle.mp_rules.proofs.NameLemmas.{called_within}
use Rattle.mp_rules.proofs.evaluator.Evaluator.called_with.Goals as goal

pub returns-clause-within : goal.returns-clause-within
returns-clause-within c =
    called_within (things c.args.self.now) c.args.symbol c.args.parts.now c.args.behind.now c.in_ok-call_arguments.field-0
    (rw (c.as_slice.ensures, c.as_slice-2.ensures) at c.in_ok-call_arguments.ensures) c.requires.symbol c.requires.parts c.requires.behind
