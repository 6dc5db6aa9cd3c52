-- On the meaning: each rule is its case.
use Rattle.std.proofs.Common.{◌≡◌, ℕ, ℤ, List}
use Rattle.mp_values.specs.declared.value.Kind.{Kind}
use Rattle.mp_values.specs.declared.value.Value.{Value}
use Rattle.mp_values.specs.declared.word.Command.{Command}
use Rattle.mp_values.specs.declared.word.SymbolCommand.{SymbolCommand}
use Rattle.mp_vartree.specs.declared.names.Part.{Part}
use Rattle.mp_vartree.specs.declared.names.Shape.{Shape}
use Rattle.mp_expand.specs.declared.front.Equals.{Equals}
use Rattle.mp_expand.specs.declared.step.Want.{Want}
use Rattle.mp_rules.specs.Machine.{Machine}
use Rattle.mp_rules.specs.declared.chain_side.ChainSide.{ChainSide as Side}
use Rattle.mp_rules.specs.Rules.{case, NextFront, next_front, NextRaw, next_raw, Asked, asked, NumberThen, number_then, Factor, factor, VariableName, variable_name, NameFrom, name_from, Suffix, suffix, SuffixBehind, suffix_behind, Group, group, PrimaryInside, primary_inside, Primary, primary, LeadingInside, leading_inside, Leading, leading, SecondaryRest, secondary_rest, Secondary, secondary, TertiaryRest, tertiary_rest, Tertiary, tertiary, ExpressionRest, expression_rest, ExpressionFrom, expression_from, Expression, expression, ChainSide, chain_side, ChainRest, chain_rest, Chain, chain, ShowList, show_list, SymbolList, symbol_list, DeclaredName, declared_name, TypeList, type_list, CommandRest, command_rest, Statement, statement, GroupStatements, group_statements, Statements, statements}
use Rattle.mp_rules.specs.Meaning.{the}
use Rattle.mp_rules.proofs.Enough.{the_is}

pub next_front_is : (s : Machine) → the NextFront s ≡ next_front the s
unfolding case
next_front_is s = the_is NextFront s

pub next_raw_is : (s : Machine) → the NextRaw s ≡ next_raw the s
unfolding case
next_raw_is s = the_is NextRaw s

pub asked_is : (w : Want) (s : Machine) → the (Asked w) s ≡ asked the w s
unfolding case
asked_is w s = the_is (Asked w) s

pub number_then_is : (n : ℤ) (s : Machine) → the (NumberThen n) s ≡ number_then the n s
unfolding case
number_then_is n s = the_is (NumberThen n) s

pub factor_is : (v : Value) (s : Machine) → the (Factor v) s ≡ factor the v s
unfolding case
factor_is v s = the_is (Factor v) s

pub variable_name_is : (symbol : ℕ) (s : Machine) → the (VariableName symbol) s ≡ variable_name the symbol s
unfolding case
variable_name_is symbol s = the_is (VariableName symbol) s

pub name_from_is : (symbol root : ℕ) (parts : List Part) (s : Machine) → the (NameFrom symbol root parts) s ≡ name_from the symbol root parts s
unfolding case
name_from_is symbol root parts s = the_is (NameFrom symbol root parts) s

pub suffix_is : (parts : List Part) (s : Machine) → the (Suffix parts) s ≡ suffix the parts s
unfolding case
suffix_is parts s = the_is (Suffix parts) s

pub suffix_behind_is : (count : ℕ) (parts : List Part) (s : Machine) → the (SuffixBehind count parts) s ≡ suffix_behind the count parts s
unfolding case
suffix_behind_is count parts s = the_is (SuffixBehind count parts) s

pub group_is : (s : Machine) → the Group s ≡ group the s
unfolding case
group_is s = the_is Group s

pub primary_inside_is : (s : Machine) → the PrimaryInside s ≡ primary_inside the s
unfolding case
primary_inside_is s = the_is PrimaryInside s

pub primary_is : (s : Machine) → the Primary s ≡ primary the s
unfolding case
primary_is s = the_is Primary s

pub leading_inside_is : (s : Machine) → the LeadingInside s ≡ leading_inside the s
unfolding case
leading_inside_is s = the_is LeadingInside s

pub leading_is : (s : Machine) → the Leading s ≡ leading the s
unfolding case
leading_is s = the_is Leading s

pub secondary_rest_is : (v : Value) (s : Machine) → the (SecondaryRest v) s ≡ secondary_rest the v s
unfolding case
secondary_rest_is v s = the_is (SecondaryRest v) s

pub secondary_is : (s : Machine) → the Secondary s ≡ secondary the s
unfolding case
secondary_is s = the_is Secondary s

pub tertiary_rest_is : (v : Value) (s : Machine) → the (TertiaryRest v) s ≡ tertiary_rest the v s
unfolding case
tertiary_rest_is v s = the_is (TertiaryRest v) s

pub tertiary_is : (s : Machine) → the Tertiary s ≡ tertiary the s
unfolding case
tertiary_is s = the_is Tertiary s

pub expression_rest_is : (v : Value) (e : Equals) (s : Machine) → the (ExpressionRest v e) s ≡ expression_rest the v e s
unfolding case
expression_rest_is v e s = the_is (ExpressionRest v e) s

pub expression_from_is : (v : Value) (e : Equals) (s : Machine) → the (ExpressionFrom v e) s ≡ expression_from the v e s
unfolding case
expression_from_is v e s = the_is (ExpressionFrom v e) s

pub expression_is : (s : Machine) → the Expression s ≡ expression the s
unfolding case
expression_is s = the_is Expression s

pub chain_side_is : (s : Machine) → the ChainSide s ≡ chain_side the s
unfolding case
chain_side_is s = the_is ChainSide s

pub chain_rest_is : (before : List Side) (last : Side) (s : Machine) → the (ChainRest before last) s ≡ chain_rest the before last s
unfolding case
chain_rest_is before last s = the_is (ChainRest before last) s

pub chain_is : (s : Machine) → the Chain s ≡ chain the s
unfolding case
chain_is s = the_is Chain s

pub show_list_is : (s : Machine) → the ShowList s ≡ show_list the s
unfolding case
show_list_is s = the_is ShowList s

pub symbol_list_is : (c : SymbolCommand) (s : Machine) → the (SymbolList c) s ≡ symbol_list the c s
unfolding case
symbol_list_is c s = the_is (SymbolList c) s

pub declared_name_is : (parts : List Shape) (s : Machine) → the (DeclaredName parts) s ≡ declared_name the parts s
unfolding case
declared_name_is parts s = the_is (DeclaredName parts) s

pub type_list_is : (kind : Kind) (s : Machine) → the (TypeList kind) s ≡ type_list the kind s
unfolding case
type_list_is kind s = the_is (TypeList kind) s

pub command_rest_is : (c : Command) (s : Machine) → the (CommandRest c) s ≡ command_rest the c s
unfolding case
command_rest_is c s = the_is (CommandRest c) s

pub statement_is : (s : Machine) → the Statement s ≡ statement the s
unfolding case
statement_is s = the_is Statement s

pub group_statements_is : (s : Machine) → the GroupStatements s ≡ group_statements the s
unfolding case
group_statements_is s = the_is GroupStatements s

pub statements_is : (s : Machine) → the Statements s ≡ statements the s
unfolding case
statements_is s = the_is Statements s
