use Rattle.std.proofs.Common.{sym, ◌∙◌}
use Rattle.mp_acts.specs.Start.{word_entry}
use Rattle.mp_acts.proofs.TableLemmas.{names_step, names_end}
use Rattle.mp_acts.proofs.start.add_words.Goals as goal

pub words-preserved : goal.words-preserved
words-preserved c =
    let added = rw c.name.ensures at c.in_ok-number_of.ensures.table in
    names_step word_entry c.args.words.now c.words.symbols c.number_of.new.self c.words.word-index _ c.words-test.true added
    ∙ c.words.invariant

pub returns : goal.returns
returns c = sym (names_end word_entry c.args.words.now c.words.symbols c.words.word-index c.words-test.false) ∙ c.words.invariant
