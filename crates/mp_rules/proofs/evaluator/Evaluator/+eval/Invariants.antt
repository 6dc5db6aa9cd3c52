use Rattle.std.proofs.Common.{◌≡◌, ◌≤◌, ◌+◌, ◌*◌, [], reverse}
use Rattle.mp_acts.specs.Counts.{greatest, IsWithin}
use Rattle.mp_acts.specs.Reach.{reach, reach_of_part}
use Rattle.mp_rules.specs.Machine.{coming, left, things}
use Rattle.mp_rules.specs.Chains.{reach_of_side, reach_of_sides}
use Rattle.mp_rules.specs.Promises.{used_by_side}
use Rattle.mp_rules.specs.Rules.{NextFront, Asked, NumberThen, Factor, VariableName, NameFrom, Suffix, SuffixBehind, Group, PrimaryInside, Primary, LeadingInside, Leading, SecondaryRest, Secondary, TertiaryRest, Tertiary, ExpressionRest, ExpressionFrom, Expression, ChainSide, ChainRest, Chain, ShowList, SymbolList, DeclaredName, TypeList, CommandRest, Statement, GroupStatements}
use Rattle.mp_rules.specs.Meaning.{the}
use Rattle.mp_rules.proofs.Ranks.{measure}
use Rattle.mp_rules.proofs.evaluator.Evaluator.+eval.Given as goal

-- twice the measure of what is asked; a function between two rules has an odd one

abbrev pub decreases-next_front : goal.decreases-next_front
decreases-next_front l = 2 * measure NextFront l.self.now

abbrev pub decreases-asked : goal.decreases-asked
decreases-asked l = 2 * measure (Asked l.first) l.self.now

abbrev pub decreases-symbol_list : goal.decreases-symbol_list
decreases-symbol_list l = 2 * measure (SymbolList l.command) l.self.now

abbrev pub decreases-declared_name : goal.decreases-declared_name
decreases-declared_name l = 2 * measure (DeclaredName []) l.self.now

abbrev pub decreases-type_list : goal.decreases-type_list
decreases-type_list l = 2 * measure (TypeList l.kind) l.self.now

abbrev pub decreases-leading_inside : goal.decreases-leading_inside
decreases-leading_inside l = 2 * measure LeadingInside l.self.now

abbrev pub decreases-number_then : goal.decreases-number_then
decreases-number_then l = 2 * measure (NumberThen l.value) l.self.now

abbrev pub decreases-factor : goal.decreases-factor
decreases-factor l = 2 * measure (Factor l.value) l.self.now

abbrev pub decreases-variable_name : goal.decreases-variable_name
decreases-variable_name l = 2 * measure (VariableName l.symbol) l.self.now

abbrev pub decreases-suffix : goal.decreases-suffix
decreases-suffix l = 2 * measure (Suffix []) l.self.now

abbrev pub decreases-suffix_behind : goal.decreases-suffix_behind
decreases-suffix_behind l = 2 * measure (SuffixBehind l.count []) l.self.now

abbrev pub decreases-group : goal.decreases-group
decreases-group l = 2 * measure Group l.self.now

abbrev pub decreases-primary_inside : goal.decreases-primary_inside
decreases-primary_inside l = 2 * measure PrimaryInside l.self.now

abbrev pub decreases-primary : goal.decreases-primary
decreases-primary l = 2 * measure Primary l.self.now

abbrev pub decreases-leading : goal.decreases-leading
decreases-leading l = 2 * measure Leading l.self.now

abbrev pub decreases-secondary_rest : goal.decreases-secondary_rest
decreases-secondary_rest l = 2 * measure (SecondaryRest l.left) l.self.now

abbrev pub decreases-secondary : goal.decreases-secondary
decreases-secondary l = 2 * measure Secondary l.self.now

abbrev pub decreases-tertiary_rest : goal.decreases-tertiary_rest
decreases-tertiary_rest l = 2 * measure (TertiaryRest l.left) l.self.now

abbrev pub decreases-tertiary : goal.decreases-tertiary
decreases-tertiary l = 2 * measure Tertiary l.self.now

abbrev pub decreases-expression_rest : goal.decreases-expression_rest
decreases-expression_rest l = 2 * measure (ExpressionRest l.left l.equals) l.self.now

abbrev pub decreases-expression_from : goal.decreases-expression_from
decreases-expression_from l = 2 * measure (ExpressionFrom l.first l.equals) l.self.now

abbrev pub decreases-expression : goal.decreases-expression
decreases-expression l = 2 * measure Expression l.self.now

abbrev pub decreases-chain_side : goal.decreases-chain_side
decreases-chain_side l = 2 * measure ChainSide l.self.now

abbrev pub decreases-chain : goal.decreases-chain
decreases-chain l = 2 * measure Chain l.self.now

abbrev pub decreases-show_list : goal.decreases-show_list
decreases-show_list l = 2 * measure ShowList l.self.now

abbrev pub decreases-command_rest : goal.decreases-command_rest
decreases-command_rest l = 2 * measure (CommandRest l.command) l.self.now

abbrev pub decreases-statement : goal.decreases-statement
decreases-statement l = 2 * measure Statement l.self.now

abbrev pub decreases-group_statements : goal.decreases-group_statements
decreases-group_statements l = 2 * measure GroupStatements l.self.now

abbrev pub decreases-next_primary : goal.decreases-next_primary
decreases-next_primary l = 2 * (64 * coming l.self.now + 4) + 1

abbrev pub decreases-next_expression : goal.decreases-next_expression
decreases-next_expression l = 2 * (64 * coming l.self.now + 11) + 1

abbrev pub decreases-next_secondary : goal.decreases-next_secondary
decreases-next_secondary l = 2 * (64 * coming l.self.now + 6) + 1

abbrev pub decreases-next_tertiary : goal.decreases-next_tertiary
decreases-next_tertiary l = 2 * (64 * coming l.self.now + 8) + 1

abbrev pub decreases-number : goal.decreases-number
decreases-number l = 2 * (64 * coming l.self.now + 6) + 1

abbrev pub decreases-variable : goal.decreases-variable
decreases-variable l = 2 * (64 * coming l.self.now + 15) + 1

abbrev pub decreases-parenthesis : goal.decreases-parenthesis
decreases-parenthesis l = 2 * (64 * coming l.self.now + 11) + 2

abbrev pub decreases-operand : goal.decreases-operand
decreases-operand l = 2 * (64 * left l.self.now + 11) + 1

abbrev pub decreases-answer_to : goal.decreases-answer_to
decreases-answer_to l = 2 * (64 * left l.self.now + 11) + 2

abbrev pub decreases-call_on : goal.decreases-call_on
decreases-call_on l = 2 * (64 * coming l.self.now + 13) + 1

abbrev pub decreases-joined : goal.decreases-joined
decreases-joined l = 2 * (64 * left l.self.now + 13) + 2

abbrev pub decreases-part_here : goal.decreases-part_here
decreases-part_here l = 2 * (64 * left l.self.now) + 1

abbrev pub decreases-part_behind : goal.decreases-part_behind
decreases-part_behind l = 2 * (64 * left l.self.now) + 1

abbrev pub decreases-call_with : goal.decreases-call_with
decreases-call_with l = 2 * (64 * coming l.self.now + 13) + 2

abbrev pub decreases-call_named : goal.decreases-call_named
decreases-call_named l = 2 * (64 * coming l.self.now + 14) + 1

abbrev pub decreases-string_primary : goal.decreases-string_primary
decreases-string_primary l = 2 * (64 * coming l.self.now) + 1

abbrev pub decreases-value_primary : goal.decreases-value_primary
decreases-value_primary l = 2 * (64 * coming l.self.now) + 1

abbrev pub decreases-constant : goal.decreases-constant
decreases-constant l = 2 * (64 * coming l.self.now) + 1

abbrev pub decreases-internal : goal.decreases-internal
decreases-internal l = 2 * (64 * coming l.self.now) + 1

abbrev pub decreases-str_primary : goal.decreases-str_primary
decreases-str_primary l = 2 * (64 * coming l.self.now + 1) + 1

abbrev pub decreases-applied : goal.decreases-applied
decreases-applied l = 2 * (64 * coming l.self.now + 4) + 2

abbrev pub decreases-word_primary : goal.decreases-word_primary
decreases-word_primary l = 2 * (64 * left l.self.now + 2) + 1

abbrev pub decreases-bracketed : goal.decreases-bracketed
decreases-bracketed l = 2 * (64 * coming l.self.now + 11) + 2

abbrev pub decreases-side_from : goal.decreases-side_from
decreases-side_from l = 2 * (64 * left l.self.now + 10) + 1

abbrev pub decreases-interim_value : goal.decreases-interim_value
decreases-interim_value l = 2 * (64 * coming l.self.now + 11) + 2

abbrev pub decreases-spoken : goal.decreases-spoken
decreases-spoken l = 2 * (64 * coming l.self.now + 11) + 2

abbrev pub invariant-secondary_rest-primaries : goal.invariant-secondary_rest-primaries
invariant-secondary_rest-primaries l = record {
  leads : the (SecondaryRest l.fn.left) l.fn.self ≡ the (SecondaryRest l.so_far) l.self;
  went : left l.self ≤ left l.fn.self;
  kept : l.self.expander.budget ≡ l.fn.self.expander.budget;
  files : l.self.sources ≡ l.fn.self.sources;
  grown : IsWithin (things l.fn.self) (things l.self);
  within : IsWithin (reach l.so_far) (things l.self);
}

abbrev pub decreases-secondary_rest-primaries : goal.decreases-secondary_rest-primaries
decreases-secondary_rest-primaries l = left l.self

abbrev pub invariant-tertiary_rest-secondaries : goal.invariant-tertiary_rest-secondaries
invariant-tertiary_rest-secondaries l = record {
  leads : the (TertiaryRest l.fn.left) l.fn.self ≡ the (TertiaryRest l.so_far) l.self;
  went : left l.self ≤ left l.fn.self;
  kept : l.self.expander.budget ≡ l.fn.self.expander.budget;
  files : l.self.sources ≡ l.fn.self.sources;
  grown : IsWithin (things l.fn.self) (things l.self);
  within : IsWithin (reach l.so_far) (things l.self);
}

abbrev pub decreases-tertiary_rest-secondaries : goal.decreases-tertiary_rest-secondaries
decreases-tertiary_rest-secondaries l = left l.self

abbrev pub invariant-expression_rest-tertiaries : goal.invariant-expression_rest-tertiaries
invariant-expression_rest-tertiaries l = record {
  leads : the (ExpressionRest l.fn.left l.fn.equals) l.fn.self ≡ the (ExpressionRest l.so_far l.fn.equals) l.self;
  went : left l.self ≤ left l.fn.self;
  kept : l.self.expander.budget ≡ l.fn.self.expander.budget;
  files : l.self.sources ≡ l.fn.self.sources;
  grown : IsWithin (things l.fn.self) (things l.self);
  within : IsWithin (reach l.so_far) (things l.self);
}

abbrev pub decreases-expression_rest-tertiaries : goal.decreases-expression_rest-tertiaries
decreases-expression_rest-tertiaries l = left l.self

abbrev pub invariant-chain-sides : goal.invariant-chain-sides
invariant-chain-sides l = record {
  leads : the Chain l.fn.self ≡ the (ChainRest (reverse l.before.items) l.last) l.self;
  went : left l.self + used_by_side l.last ≤ left l.fn.self;
  kept : l.self.expander.budget ≡ l.fn.self.expander.budget;
  files : l.self.sources ≡ l.fn.self.sources;
  grown : IsWithin (things l.fn.self) (things l.self);
  within : IsWithin (reach_of_side l.last) (things l.self);
  before : IsWithin (reach_of_sides (reverse l.before.items)) (things l.self);
}

abbrev pub decreases-chain-sides : goal.decreases-chain-sides
decreases-chain-sides l = left l.self + used_by_side l.last

abbrev pub invariant-show_list-expressions : goal.invariant-show_list-expressions
invariant-show_list-expressions l = record {
  leads : the ShowList l.fn.self ≡ the ShowList l.self;
  went : coming l.self ≤ coming l.fn.self;
  kept : l.self.expander.budget ≡ l.fn.self.expander.budget;
  files : l.self.sources ≡ l.fn.self.sources;
  grown : IsWithin (things l.fn.self) (things l.self);
}

abbrev pub decreases-show_list-expressions : goal.decreases-show_list-expressions
decreases-show_list-expressions l = coming l.self

abbrev pub invariant-group_statements-statements : goal.invariant-group_statements-statements
invariant-group_statements-statements l = record {
  leads : the GroupStatements l.fn.self ≡ the GroupStatements l.self;
  went : left l.self ≤ left l.fn.self;
  kept : l.self.expander.budget ≡ l.fn.self.expander.budget;
  files : l.self.sources ≡ l.fn.self.sources;
  grown : IsWithin (things l.fn.self) (things l.self);
}

abbrev pub decreases-group_statements-statements : goal.decreases-group_statements-statements
decreases-group_statements-statements l = left l.self

abbrev pub invariant-suffix-parts : goal.invariant-suffix-parts
invariant-suffix-parts l = record {
  leads : the (Suffix []) l.fn.self ≡ the (Suffix l.parts) l.self;
  went : left l.self ≤ left l.fn.self;
  kept : l.self.expander.budget ≡ l.fn.self.expander.budget;
  files : l.self.sources ≡ l.fn.self.sources;
  grown : IsWithin (things l.fn.self) (things l.self);
  within : IsWithin (greatest reach_of_part l.parts) (things l.self);
}

abbrev pub decreases-suffix-parts : goal.decreases-suffix-parts
decreases-suffix-parts l = left l.self

abbrev pub invariant-suffix_behind-parts : goal.invariant-suffix_behind-parts
invariant-suffix_behind-parts l = record {
  leads : the (SuffixBehind l.count []) l.fn.self ≡ the (SuffixBehind l.count l.parts) l.self;
  went : left l.self ≤ left l.fn.self;
  kept : l.self.expander.budget ≡ l.fn.self.expander.budget;
  files : l.self.sources ≡ l.fn.self.sources;
  grown : IsWithin (things l.fn.self) (things l.self);
  within : IsWithin (greatest reach_of_part l.parts) (things l.self);
}

abbrev pub decreases-suffix_behind-parts : goal.decreases-suffix_behind-parts
decreases-suffix_behind-parts l = left l.self

abbrev pub invariant-next_front-items : goal.invariant-next_front-items
invariant-next_front-items l = record {
  leads : the NextFront l.fn.self ≡ the NextFront l.self;
  went : coming l.self ≤ coming l.fn.self;
  kept : l.self.expander.budget ≡ l.fn.self.expander.budget;
  files : l.self.sources ≡ l.fn.self.sources;
  grown : IsWithin (things l.fn.self) (things l.self);
}

abbrev pub decreases-next_front-items : goal.decreases-next_front-items
decreases-next_front-items l = coming l.self

abbrev pub invariant-asked-operands : goal.invariant-asked-operands
invariant-asked-operands l = record {
  leads : the (Asked l.fn.first) l.fn.self ≡ the (Asked l.want) l.self;
  went : coming l.self ≤ coming l.fn.self;
  kept : l.self.expander.budget ≡ l.fn.self.expander.budget;
  files : l.self.sources ≡ l.fn.self.sources;
  grown : IsWithin (things l.fn.self) (things l.self);
}

abbrev pub decreases-asked-operands : goal.decreases-asked-operands
decreases-asked-operands l = coming l.self

abbrev pub invariant-variable_name-parts : goal.invariant-variable_name-parts
invariant-variable_name-parts l = record {
  leads : the (VariableName l.fn.symbol) l.fn.self ≡ the (NameFrom l.symbol l.root l.parts) l.self;
  went : coming l.self ≤ coming l.fn.self;
  kept : l.self.expander.budget ≡ l.fn.self.expander.budget;
  files : l.self.sources ≡ l.fn.self.sources;
  grown : IsWithin (things l.fn.self) (things l.self);
  within : IsWithin (greatest reach_of_part l.parts) (things l.self);
}

abbrev pub decreases-variable_name-parts : goal.decreases-variable_name-parts
decreases-variable_name-parts l = coming l.self

abbrev pub invariant-primary_inside-calls : goal.invariant-primary_inside-calls
invariant-primary_inside-calls l = record {
  leads : the PrimaryInside l.fn.self ≡ the PrimaryInside l.self;
  went : left l.self ≤ left l.fn.self;
  kept : l.self.expander.budget ≡ l.fn.self.expander.budget;
  files : l.self.sources ≡ l.fn.self.sources;
  grown : IsWithin (things l.fn.self) (things l.self);
}

abbrev pub decreases-primary_inside-calls : goal.decreases-primary_inside-calls
decreases-primary_inside-calls l = left l.self

abbrev pub invariant-leading_inside-calls : goal.invariant-leading_inside-calls
invariant-leading_inside-calls l = record {
  leads : the LeadingInside l.fn.self ≡ the LeadingInside l.self;
  went : left l.self ≤ left l.fn.self;
  kept : l.self.expander.budget ≡ l.fn.self.expander.budget;
  files : l.self.sources ≡ l.fn.self.sources;
  grown : IsWithin (things l.fn.self) (things l.self);
}

abbrev pub decreases-leading_inside-calls : goal.decreases-leading_inside-calls
decreases-leading_inside-calls l = left l.self

abbrev pub invariant-symbol_list-symbols : goal.invariant-symbol_list-symbols
invariant-symbol_list-symbols l = record {
  leads : the (SymbolList l.fn.command) l.fn.self ≡ the (SymbolList l.command) l.self;
  went : coming l.self ≤ coming l.fn.self;
  kept : l.self.expander.budget ≡ l.fn.self.expander.budget;
  files : l.self.sources ≡ l.fn.self.sources;
  grown : IsWithin (things l.fn.self) (things l.self);
}

abbrev pub decreases-symbol_list-symbols : goal.decreases-symbol_list-symbols
decreases-symbol_list-symbols l = coming l.self

abbrev pub invariant-type_list-names : goal.invariant-type_list-names
invariant-type_list-names l = record {
  leads : the (TypeList l.fn.kind) l.fn.self ≡ the (TypeList l.kind) l.self;
  went : coming l.self ≤ coming l.fn.self;
  kept : l.self.expander.budget ≡ l.fn.self.expander.budget;
  files : l.self.sources ≡ l.fn.self.sources;
  grown : IsWithin (things l.fn.self) (things l.self);
}

abbrev pub decreases-type_list-names : goal.decreases-type_list-names
decreases-type_list-names l = coming l.self

abbrev pub invariant-declared_name-parts : goal.invariant-declared_name-parts
invariant-declared_name-parts l = record {
  leads : the (DeclaredName []) l.fn.self ≡ the (DeclaredName l.parts) l.self;
  went : left l.self ≤ left l.fn.self;
  kept : l.self.expander.budget ≡ l.fn.self.expander.budget;
  files : l.self.sources ≡ l.fn.self.sources;
  grown : IsWithin (things l.fn.self) (things l.self);
}

abbrev pub decreases-declared_name-parts : goal.decreases-declared_name-parts
decreases-declared_name-parts l = left l.self
