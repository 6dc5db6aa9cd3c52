-- On what is asked: a rule asks others of a lower rank, or after a front was used.
use Rattle.std.proofs.Common.{◌<◌, ◌+◌, ◌*◌, ℕ, arith}
use Rattle.mp_rules.specs.Machine.{Machine}
use Rattle.mp_rules.specs.Promises.{from}
use Rattle.mp_rules.specs.Meaning.{depth}
use Rattle.mp_rules.specs.declared.chain_side.ChainSide.TheVariants as side
use Rattle.mp_rules.specs.Rules.{What, NextFront, NextRaw, Asked, NumberThen, Factor, VariableName, NameFrom, Suffix, SuffixBehind, Group, PrimaryInside, Primary, LeadingInside, Leading, SecondaryRest, Secondary, TertiaryRest, Tertiary, ExpressionRest, ExpressionFrom, Expression, ChainSide, ChainRest, Chain, ShowList, SymbolList, DeclaredName, TypeList, CommandRest, Statement, GroupStatements, Statements}

-- there is room for 64
abbrev pub rank : What → ℕ
rank NextFront = 0
rank NextRaw = 0
rank (Suffix parts) = 1
rank (SuffixBehind count parts) = 1
rank (DeclaredName parts) = 1
rank (NameFrom symbol root parts) = 14
rank (VariableName symbol) = 15
rank PrimaryInside = 3
rank Primary = 4
rank LeadingInside = 4
rank Leading = 5
rank (Factor v) = 5
rank (NumberThen n) = 6
rank (SecondaryRest v) = 5
rank Secondary = 6
rank (TertiaryRest v) = 7
rank Tertiary = 8
rank (ExpressionRest v e) = 9
rank (ExpressionFrom v e) = 10
rank Expression = 11
rank ChainSide = 11
rank (ChainRest before last) = 12
rank Chain = 13
rank (Asked w) = 13
rank ShowList = 12
rank (SymbolList c) = 1
rank (TypeList kind) = 2
rank (CommandRest c) = 13
rank Statement = 14
rank GroupStatements = 15
rank Group = 16
rank Statements = 15

abbrev pub measure : What → Machine → ℕ
measure what s = 64 * from what s + rank what

-- the meaning is deep enough for all that is asked
pub deep : (what : What) (s : Machine) → measure what s < depth s
deep NextFront s = omega arith
deep NextRaw s = omega arith
deep (NumberThen n) s = omega arith
deep (Factor v) s = omega arith
deep (Asked w) s = omega arith
deep (VariableName symbol) s = omega arith
deep (NameFrom symbol root parts) s = omega arith
deep (Suffix parts) s = omega arith
deep (SuffixBehind count parts) s = omega arith
deep Group s = omega arith
deep PrimaryInside s = omega arith
deep Primary s = omega arith
deep LeadingInside s = omega arith
deep Leading s = omega arith
deep (SecondaryRest v) s = omega arith
deep Secondary s = omega arith
deep (TertiaryRest v) s = omega arith
deep Tertiary s = omega arith
deep (ExpressionRest v e) s = omega arith
deep (ExpressionFrom v e) s = omega arith
deep Expression s = omega arith
deep ChainSide s = omega arith
deep (ChainRest before (side.Value v)) s = omega arith
deep (ChainRest before (side.Target t)) s = omega arith
deep Chain s = omega arith
deep ShowList s = omega arith
deep (SymbolList c) s = omega arith
deep (DeclaredName parts) s = omega arith
deep (TypeList kind) s = omega arith
deep (CommandRest c) s = omega arith
deep Statement s = omega arith
deep GroupStatements s = omega arith
deep Statements s = omega arith
