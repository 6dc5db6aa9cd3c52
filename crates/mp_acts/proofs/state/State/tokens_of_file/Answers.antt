use Rattle.mp_tokens.specs.Items.{file_items}
use Rattle.mp_acts.proofs.MeaningLemmas.{names_gained}
use Rattle.mp_acts.proofs.state.State.tokens_of_file.Goals as goal

pub invariant_of-self : goal.invariant_of-self
invariant_of-self c =
    names_gained _ _ _ _ _ c.self.inside.symbols c.items_of_file.new.names c.self.invariant c.in_err-tokens.ensures.err.done c.in_err-tokens.ensures.err.names

pub invariant_of-self-2 : goal.invariant_of-self-2
invariant_of-self-2 c = names_gained _ _ _ _ _ c.self.inside.symbols c.items_of_file.new.names c.self.invariant (file_items c.args.bytes.now) c.in_ok-tokens.ensures.names
