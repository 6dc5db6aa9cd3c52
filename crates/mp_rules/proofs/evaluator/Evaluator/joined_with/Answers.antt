use Rattle.mp_rules.specs.Machine.{things}
use Rattle.mp_rules.proofs.NameLemmas.{operands_within}
use Rattle.mp_rules.proofs.evaluator.Evaluator.joined_with.Goals as goal

pub returns-clause-within : goal.returns-clause-within
returns-clause-within c =
    operands_within (things c.args.self.now) c.args.left c.args.right c.in_ok-operand_arguments.field-0 c.in_ok-operand_arguments.ensures c.requires.left
    c.requires.right
