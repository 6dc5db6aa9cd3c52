use Rattle.std.proofs.Common.{List, [], arith, subst}
use Rattle.mp_tokens.specs.Items.{line_items}
use Rattle.mp_tokens.specs.Reading.{Took}
use Rattle.mp_tokens.specs.declared.token.Token.{Token}
use Rattle.mp_tokens.proofs.ItemLemmas.{length-Took, AllNumbered}
use Rattle.mp_tokens.proofs.LexemeLemmas.{length-line_items}
use Rattle.mp_tokens.proofs.items.items_of_string.Goals as goal

took : (g : _) (c : goal.In_ok-add_line g) → Took g.M.FreshMeaning.first c.args.names.now c.add_line.new.names [] c.add_line.new.tokens (line_items c.args.bytes.now)
took g c =
    subst (λ (l : List Token). Took g.M.FreshMeaning.first c.args.names.now c.add_line.new.names l c.add_line.new.tokens (line_items c.args.bytes.now))
    c.new-tokens.ensures c.in_ok-add_line.ensures.ok

pub returns-clause-symbols : goal.returns-clause-symbols
returns-clause-symbols g c =
    AllNumbered c.numbers_are_for_good.ensures.given c.numbers_are_for_good.ensures.for_good g.M.FreshMeaning.first c.args.names.now c.add_line.new.names c.add_line.new.tokens (line_items c.args.bytes.now) (took g c).names (took g c).tokens

pub returns-clause-length : goal.returns-clause-length
returns-clause-length g c =
    omega (
      arith,
      length-Took g.M.FreshMeaning.first c.args.names.now c.add_line.new.names c.add_line.new.tokens (line_items c.args.bytes.now) (took g c),
      length-line_items c.args.bytes.now,
    )
