use Rattle.mp_acts.specs.Start.{drawing_words, control_words, operand_words, operator_words, other_words}
use Rattle.mp_acts.proofs.TableLemmas.{names_of_five}
use Rattle.mp_acts.proofs.start.add_all_unbuilt_words.Goals as goal

pub returns : goal.returns
returns c =
    names_of_five c.args.symbols.now _ _ _ _ _ drawing_words control_words operand_words operator_words other_words
    c.in_ok-add_unbuilt_words.ensures c.in_ok-add_unbuilt_words-2.ensures c.in_ok-add_unbuilt_words-3.ensures c.in_ok-add_unbuilt_words-4.ensures c.in_ok-add_unbuilt_words-5.ensures
