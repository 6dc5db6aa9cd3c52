-- On the meaning: how far each rule goes, and that more rules inside one another than enough change nothing.
use Rattle.std.proofs.Common.{◌≡◌, ◌<◌, ◌≤◌, ◌+◌, ◌*◌, ℕ, ℤ, List, [], ◌∷◌, ◌++◌, length, map, zero, suc, refl, ap, ◌∙◌, arith, Option, Some, None, Ok, Err, Bool, true, false}
use Rattle.std.specs.Prelude.{codes, nat_lt}
use Rattle.mp_report.specs.declared.error.Cap.TheVariants as cap
use Rattle.mp_report.specs.declared.error.SourceError.TheVariants as error
use Rattle.mp_values.specs.Outcome.{◌>>=◌, lift, Refused}
use Rattle.mp_values.specs.Outcome as outcomes
use Rattle.mp_values.specs.Refusals.{bad_token}
use Rattle.mp_values.specs.Words.{name_of_condition, unary_of}
use Rattle.mp_values.specs.declared.item.Item.{Item}
use Rattle.mp_values.specs.declared.item.Item.TheVariants as item
use Rattle.mp_values.specs.declared.meaning.Delimiters.{Delimiters}
use Rattle.mp_values.specs.declared.macros.Level.{Level}
use Rattle.mp_values.specs.declared.macros.Level.TheVariants as level
use Rattle.mp_values.specs.declared.macros.Macro.{Macro}
use Rattle.mp_values.specs.declared.turn.Pending.{Pending}
use Rattle.mp_values.specs.declared.turn.Pending.TheVariants as pending
use Rattle.mp_values.specs.declared.value.Kind.{Kind}
use Rattle.mp_values.specs.declared.value.Kind.TheVariants as kind
use Rattle.mp_values.specs.declared.value.Value.{Value}
use Rattle.mp_values.specs.declared.value.Value.TheVariants as value
use Rattle.mp_values.specs.declared.word.Command.{Command}
use Rattle.mp_values.specs.declared.word.Command.TheVariants as command
use Rattle.mp_values.specs.declared.word.Condition.{Condition}
use Rattle.mp_values.specs.declared.word.Definition.{Definition}
use Rattle.mp_values.specs.declared.word.Expression.{Expression as ExpressionOperator}
use Rattle.mp_values.specs.declared.word.Nullary.{Nullary}
use Rattle.mp_values.specs.declared.word.Secondary.{Secondary as SecondaryOperator}
use Rattle.mp_values.specs.declared.word.Secondary.TheVariants as operator
use Rattle.mp_values.specs.declared.word.Speech.{Speech}
use Rattle.mp_values.specs.declared.word.SymbolCommand.{SymbolCommand}
use Rattle.mp_values.specs.declared.word.Tertiary.{Tertiary as TertiaryOperator}
use Rattle.mp_values.specs.declared.word.Unary.{Unary as UnaryOperator}
use Rattle.mp_values.specs.declared.word.Word.{Word}
use Rattle.mp_values.specs.declared.word.Word.TheVariants as word
use Rattle.mp_vartree.specs.declared.names.Part.{Part}
use Rattle.mp_vartree.specs.declared.names.Part.TheVariants as part
use Rattle.mp_vartree.specs.declared.names.Shape.{Shape}
use Rattle.mp_vartree.specs.declared.names.Shape.TheVariants as shape
use Rattle.mp_acts.specs.State.{symbol_name, symbol_meaning, internal_value}
use Rattle.mp_acts.specs.Numbers.{known_number, fraction}
use Rattle.mp_acts.specs.Operators as act
use Rattle.mp_acts.specs.Suffixes.{suffix_string, string_token, subscript}
use Rattle.mp_acts.specs.Variables.{root_of, macro_named, read, declare, define}
use Rattle.mp_acts.specs.Definitions.{group_symbols}
use Rattle.mp_macro.specs.Headings.{Reading}
use Rattle.mp_macro.specs.Definitions.{start, is_whole, defined}
use Rattle.mp_macro.specs.Definitions.{read as read_item}
use Rattle.mp_acts.specs.Lines.{show, speak}
use Rattle.mp_acts.specs.Groups.{begin_group, end_group, with_each, let_symbol, delimiters, interim}
use Rattle.mp_acts.specs.declared.target.Target.TheVariants as target
use Rattle.mp_rules.specs.Machine.{Machine, Rule, weight, held_weight, coming, left}
use Rattle.mp_expand.specs.Fronts.{Table, begins_primary, begins_factor, secondary_in, tertiary_in, joining_in, operator_in}
use Rattle.mp_expand.specs.Advance.{capsule}
use Rattle.mp_expand.specs.Calls.{are_pair}
use Rattle.mp_expand.specs.declared.front.Front.{Front}
use Rattle.mp_expand.specs.declared.front.Front.TheVariants as front
use Rattle.mp_expand.specs.declared.front.Equals.{Equals}
use Rattle.mp_expand.specs.declared.front.Equals.TheVariants as equals
use Rattle.mp_expand.specs.declared.step.Answer.TheVariants as answer
use Rattle.mp_expand.specs.declared.step.Operand.{Operand}
use Rattle.mp_expand.specs.declared.step.Operand.TheVariants as operand
use Rattle.mp_expand.specs.declared.step.Step.{Step}
use Rattle.mp_expand.specs.declared.step.Step.TheVariants as step
use Rattle.mp_expand.specs.declared.step.Want.{Want}
use Rattle.mp_expand.specs.declared.step.Want.TheVariants as want
use Rattle.mp_rules.specs.Fronts.{taken_item, taken_as, refused_front, refused_raw}
use Rattle.mp_rules.specs.Steps.{leave, see, see_string, see_value, hold, item_in_hand, item_held, put_back, put_held_back, put_front_back, put_hand_back, put_bracket_back}
use Rattle.mp_rules.specs.Chains.{settle}
use Rattle.mp_rules.specs.Definitions.{read_in, taken_read, unless_whole, read_on}
use Rattle.mp_rules.specs.declared.front.Taken.{Taken}
use Rattle.mp_rules.specs.declared.front.Taken.TheVariants as taken
use Rattle.mp_vartree.specs.declared.names.TheConstants.{PART_LIMIT}
use Rattle.mp_rules.specs.declared.front.Raw.{Raw}
use Rattle.mp_rules.specs.declared.front.Raw.TheVariants as raw
use Rattle.mp_rules.specs.declared.chain_side.ChainSide.{ChainSide as Side}
use Rattle.mp_rules.specs.declared.chain_side.ChainSide.TheVariants as side
use Rattle.mp_rules.specs.declared.named.Named.{Named}
use Rattle.mp_rules.specs.declared.named.Named.TheVariants as named
use Rattle.mp_rules.specs.Rules.{Rules, What, NextFront, NextRaw, Asked, NumberThen, Factor, VariableName, NameFrom, Suffix, SuffixBehind, Group, PrimaryInside, Primary, LeadingInside, Leading, SecondaryRest, Secondary, TertiaryRest, Tertiary, ExpressionRest, ExpressionFrom, Expression, ChainSide, ChainRest, Chain, ShowList, SymbolList, DeclaredName, TypeList, CommandRest, Statement, GroupStatements, Statements}
use Rattle.mp_rules.specs.Rules.{shape_of, step_by, held_or_taken, next_front, item_of_part, value_answer, truth_of, truth_answer, operand_of, answer_to, wanted_by, asked, raw_of, next_raw, symbol_in, raw_symbol, next_primary, next_expression, factor_by, over_by, then_by, number, room_by, room_for_part, part_on, bracket_by, bracketed, part_used, part_by, suffix_by, suffix, subscript_part, bracket_behind_by, part_behind_by, behind_on, suffix_behind, called_with, call_on, called_named, called_by, name_on, name_from_by, variable_name, variable_named, or_begun_anew, variable, closed_if, closed_by, parenthesis, group, string_primary, value_primary, internal, constant, str_primary, applied, applied_by, primary_by, primary, variable_side_by, internal_side_by, leading_named, leading_by, leading, operator_here, joined, secondary_by, secondary, next_secondary, tertiary_by, tertiary, next_tertiary, expression_by, expression_from, expression, side_from, chain_side, chain_on, lone_or_vacuous, chain_end, chain_by, chain, show_by, show_list, symbols_by, symbol_list, shape_on, empty_by, name_by, type_by, type_list, is_equals, equals_by, equals_in, raw_equals, let_equal, delimiter_pair, then_next, internal_in, assign_in, internal_name, assign_sign, interim_value, spoken, command_rest, definition, chain_if, statement_by, may_stand_alone, more_by, group_more, group_by, group_statements, end_by, statements, case}
use Rattle.mp_expand.specs.Laws.{cost, cost_of_first}
use Rattle.mp_rules.specs.Promises.{from, used_by, used_by_side, used_by_part, used_by_step}
use Rattle.mp_rules.specs.Meaning.{rule, the, depth}
use Rattle.mp_rules.proofs.Agreement.{After, Agree, AsMany, agree-then, weaker, stopped, given, acted}
use Rattle.mp_rules.proofs.Ranks.{measure, deep}
use Rattle.mp_rules.proofs.TextLemmas.{TookOne, took, advanced, answers, calls, entered}

-- so many fronts may still be used at most, and so many were used for certain
pub record FewerBy (bound used : ℕ) (t : Machine) : Type 0 where
  pub went : left t + used ≤ bound

abbrev pub Fewer : ℕ → Machine → Type 0
Fewer bound t = FewerBy bound 0 t

-- two meanings of the rules are one below a measure
pub record Below (r1 r2 : Rules) (m : ℕ) : Type 0 where
  pub at : (w : What) (t : Machine) → measure w t < m → Agree (r1 w t) (r2 w t) (λ answer. FewerBy (from w t) (used_by (shape_of w) answer))

-- ONE STEP

-- what was taken took a step, but for nothing
abbrev taken_cost : Taken → ℕ
taken_cost (taken.Raw raw.EndOfText) = 0
taken_cost x = 1

cost_of_item : (x : Item) → taken_cost (taken_item x) ≤ 1
cost_of_item (item.Symbol symbol) = omega arith
cost_of_item (item.Number n) = omega arith
cost_of_item (item.Text bytes) = omega arith
cost_of_item (item.Bad cause) = omega arith
cost_of_item (item.Capsule v) = omega arith
cost_of_item (item.Param number) = omega arith
cost_of_item (item.LineEnd place) = omega arith
cost_of_item item.FileEnd = omega arith
cost_of_item item.EndOfText = omega arith

cost_of_taken : (x : Option Pending) → taken_cost (taken_as x) ≤ cost_of_first x
cost_of_taken (Some (pending.Item x)) = cost_of_item x
cost_of_taken (Some (pending.Turn turn)) = omega arith
cost_of_taken None = omega arith

-- FRONTS AND RAW ITEMS

-- a front comes to hand in place of the last one
seen : (x : Front) (b : ℕ) (t : Machine) → coming t + weight x ≤ b → Agree {A = Unit {0}} (Ok (tt, see x t)) (Ok (tt, see x t)) (λ next. Fewer b)
seen x b t p = given tt (see x t) (λ next. Fewer b) (record { went = omega arith })

front_cost : (x : Front) → weight x ≤ cost (step.Front x)
front_cost (front.Number n) = omega arith
front_cost front.Text = omega arith
front_cost front.Capsule = omega arith
front_cost (front.Word symbol w) = omega arith
front_cost (front.Tag symbol) = omega arith
front_cost (front.Internal symbol k) = omega arith
front_cost (front.Operator symbol) = omega arith
front_cost (front.Left symbol pair) = omega arith
front_cost (front.Right symbol pair) = omega arith
front_cost front.EndOfText = omega arith

step_by-agrees : (r1 r2 : Rules) (x : Step) (b : ℕ) (t : Machine) → coming t + cost x ≤ b → Below r1 r2 (64 * b)
    → Agree (step_by r1 x t) (step_by r2 x t) (λ next. Fewer b)
step_by-agrees r1 r2 step.More b t p h = weaker (h.at NextFront t (omega arith)) (λ next u q. record { went = omega arith })
step_by-agrees r1 r2 (step.Front x) b t p h = let small : weight x ≤ cost (step.Front x) = front_cost x in seen x b t (omega arith)
step_by-agrees r1 r2 (step.Text bytes) b t p h = given tt (see_string bytes t) (λ next. Fewer b) (record { went = omega arith })
step_by-agrees r1 r2 (step.Capsule v) b t p h = given tt (see_value v t) (λ next. Fewer b) (record { went = omega arith })
step_by-agrees r1 r2 (step.Want w) b t p h =
    agree-then (h.at (Asked w) t (omega arith)) (λ served u q.
    weaker (h.at NextFront u (omega arith)) (λ next y a. record { went = omega arith }))

held-agrees : (r1 r2 : Rules) (held : Option Front) (s : Machine) → held_weight held ≤ held_weight s.held → Below r1 r2 (64 * coming s)
    → Agree (held_or_taken r1 held s) (held_or_taken r2 held s) (λ next. Fewer (coming s))
held-agrees r1 r2 (Some x) s p h = given tt (record s { front = x; held = None }) (λ next. Fewer (coming s)) (record { went = omega arith })
held-agrees r1 r2 None s p h = agree-then (advanced s) (λ x t q. step_by-agrees r1 r2 x (coming s) t q.went h)

next_front-agrees : (r1 r2 : Rules) (s : Machine) → Below r1 r2 (64 * coming s) → Agree (next_front r1 s) (next_front r2 s) (λ next. Fewer (coming s))
next_front-agrees r1 r2 s h = held-agrees r1 r2 s.held s (omega arith) h

-- what is in hand is put back: no step is given back for it
back_coming : (x : Option Item) (s : Machine) → coming (put_back x s) ≡ coming s
back_coming (Some x) s = refl
back_coming None s = refl

back_hand : (x : Option Item) (s : Machine) → (put_back x s).front ≡ s.front
back_hand (Some x) s = refl
back_hand None s = refl

front_back : (s : Machine) → left (put_front_back s) ≤ coming s
front_back s =
    let gone : Machine = see front.EndOfText s in
    let none = ap weight (back_hand (item_in_hand s.string s.value s.front) gone) in
    omega (arith, back_coming (item_in_hand s.string s.value s.front) gone, none)

hand_back : (s : Machine) → left (put_hand_back s) ≤ coming s
hand_back s =
    let gone : Machine = record s { held = None } in
    omega (arith, front_back (put_held_back s), back_coming (item_held s.string s.value s.held) gone)

put_back-agrees : (s : Machine) → Agree {A = Unit {0}} (Ok (tt, put_hand_back s)) (Ok (tt, put_hand_back s)) (λ x. Fewer (coming s))
put_back-agrees s = given tt (put_hand_back s) (λ x. Fewer (coming s)) (record { went = omega (arith, hand_back s) })

value_answer-agrees : (r1 r2 : Rules) (does other : Rule Value) (s : Machine) → Agree (does s) (other s) (λ v. Fewer (left s))
    → Agree (value_answer does s) (value_answer other s) (λ answer. Fewer (left s))
value_answer-agrees r1 r2 does other s a = agree-then a (λ v t p. given (answer.Value v) t (λ answer. Fewer (left s)) (record { went = p.went }))

truth_of-agrees : (w : Condition) (v : Value) (s : Machine) → Agree (truth_of w v s) (truth_of w v s) (λ answer. Fewer (left s))
truth_of-agrees w v s =
    agree-then (acted (act.truth (name_of_condition w) v s.acts) s) (λ truth t e.
    given (answer.Truth truth) t (λ answer. Fewer (left s)) (record { went = omega (arith, e.went) }))

truth_answer-agrees : (r1 r2 : Rules) (w : Condition) (m : ℕ) (s : Machine) → 64 * left s + 11 < m → Below r1 r2 m
    → Agree (truth_answer r1 w s) (truth_answer r2 w s) (λ answer. Fewer (left s))
truth_answer-agrees r1 r2 w m s c h =
    agree-then (h.at Expression s (omega arith)) (λ v t p.
    weaker (truth_of-agrees w v t) (λ answer u q. record { went = omega (arith, p.went, q.went) }))

operand_of-agrees : (r1 r2 : Rules) (o : Operand) (m : ℕ) (s : Machine) → 64 * left s + 11 < m → Below r1 r2 m
    → Agree (operand_of r1 o s) (operand_of r2 o s) (λ answer. Fewer (left s))
operand_of-agrees r1 r2 operand.Primary m s c h = value_answer-agrees r1 r2 (r1 Primary) (r2 Primary) s (h.at Primary s (omega arith))
operand_of-agrees r1 r2 operand.Secondary m s c h = value_answer-agrees r1 r2 (r1 Secondary) (r2 Secondary) s (h.at Secondary s (omega arith))
operand_of-agrees r1 r2 operand.Tertiary m s c h = value_answer-agrees r1 r2 (r1 Tertiary) (r2 Tertiary) s (h.at Tertiary s (omega arith))
operand_of-agrees r1 r2 operand.Expression m s c h = value_answer-agrees r1 r2 (r1 Expression) (r2 Expression) s (h.at Expression s (omega arith))
operand_of-agrees r1 r2 operand.Suffix m s c h =
    agree-then (h.at (Suffix []) s (omega arith)) (λ parts t p. given (answer.Suffix (map item_of_part parts)) t (λ answer. Fewer (left s)) (record { went = p.went }))
operand_of-agrees r1 r2 (operand.Condition w) m s c h = truth_answer-agrees r1 r2 w m s c h

answer_to-agrees : (r1 r2 : Rules) (w : Want) (m : ℕ) (s : Machine) → 64 * left s + 11 < m → Below r1 r2 m
    → Agree (answer_to r1 w s) (answer_to r2 w s) (λ answer. Fewer (left s))
answer_to-agrees r1 r2 (want.Followed o) m s c h = operand_of-agrees r1 r2 o m s c h
answer_to-agrees r1 r2 (want.Last o) m s c h =
    agree-then (operand_of-agrees r1 r2 o m s c h) (λ a t p.
    agree-then (put_back-agrees t) (λ back u q.
    given a u (λ answer. Fewer (left s)) (record { went = omega (arith, p.went, q.went) })))

-- what a call asked for was answered, with no more fronts than there were
record Served (b : ℕ) (t u : Machine) : Type 0 where
  went : left u ≤ b
  on : coming u ≤ coming t

-- a call that asks for more used a front, or may use what is behind it
wanted_by-agrees : (r1 r2 : Rules) (x : Step) (b m : ℕ) (t : Machine) → left t ≤ b → 64 * (coming t + used_by_step x) + 13 < m + 64 → Below r1 r2 m
    → Agree (wanted_by r1 x t) (wanted_by r2 x t) (λ next. Served b t)
wanted_by-agrees r1 r2 (step.Want w) b m t p c h =
    weaker (h.at (Asked w) t (omega arith)) (λ next u q. record { went = omega (arith, p, q.went); on = omega (arith, q.went) })
wanted_by-agrees r1 r2 step.More b m t p c h = given tt t (λ next. Served b t) (record { went = p; on = omega arith })
wanted_by-agrees r1 r2 (step.Front x) b m t p c h = given tt t (λ next. Served b t) (record { went = p; on = omega arith })
wanted_by-agrees r1 r2 (step.Text bytes) b m t p c h = given tt t (λ next. Served b t) (record { went = p; on = omega arith })
wanted_by-agrees r1 r2 (step.Capsule v) b m t p c h = given tt t (λ next. Served b t) (record { went = p; on = omega arith })

used_step_small : (x : Step) → used_by_step x ≤ 1
used_step_small (step.Want w) = omega arith
used_step_small step.More = omega arith
used_step_small (step.Front x) = omega arith
used_step_small (step.Text bytes) = omega arith
used_step_small (step.Capsule v) = omega arith

asked-agrees : (r1 r2 : Rules) (w : Want) (s : Machine) → Below r1 r2 (measure (Asked w) s)
    → Agree (asked r1 w s) (asked r2 w s) (λ next. Fewer (coming s))
asked-agrees r1 r2 w s h =
    agree-then (h.at NextFront s (omega arith)) (λ first t p.
    agree-then (answer_to-agrees r1 r2 w _ t (omega (arith, p.went)) h) (λ a u q.
    agree-then (answers a u) (λ x y e.
    weaker (wanted_by-agrees r1 r2 x (coming s) _ y (omega (arith, p.went, q.went, e.went)) (omega (arith, p.went, q.went, e.went)) h) (λ next z i. record { went = omega (arith, i.went) }))))

-- a macro is called, and the front behind it is got
call_on-agrees : (r1 r2 : Rules) (k : Macro) (got : List (List Item)) (m : ℕ) (s : Machine) → 64 * coming s + 13 < m → Below r1 r2 m
    → Agree (call_on r1 k got s) (call_on r2 k got s) (λ next. Fewer (coming s))
call_on-agrees r1 r2 k got m s c h =
    agree-then (calls k got s) (λ x t p.
    agree-then (wanted_by-agrees r1 r2 x (left t) m t (omega arith) (omega (arith, p.went, p.hand, used_step_small x)) h) (λ served u q.
    weaker (h.at NextFront u (omega (arith, p.went, p.hand, q.on))) (λ next y e. record { went = omega (arith, p.went, p.hand, q.on, e.went) })))

raw_of-agrees : (r1 r2 : Rules) (x : Taken) (s t : Machine) (k : ℕ) → coming t + k ≤ coming s → taken_cost x ≤ k → t.front ≡ front.EndOfText
    → Below r1 r2 (64 * coming s) → Agree (raw_of r1 x t) (raw_of r2 x t) (λ next. Fewer (coming s))
raw_of-agrees r1 r2 (taken.Raw x) s t k p c e h = let none : weight t.front ≡ 0 = ap weight e in given x t (λ next. Fewer (coming s)) (record { went = omega arith })
raw_of-agrees r1 r2 (taken.Bad cause) s t k p c e h = stopped (bad_token cause) t (λ next. Fewer (coming s)) tt
raw_of-agrees r1 r2 taken.Passed s t k p c e h = weaker (h.at NextRaw t (omega arith)) (λ next u q. record { went = omega arith })

next_raw-agrees : (r1 r2 : Rules) (s : Machine) → Below r1 r2 (64 * coming s) → Agree (next_raw r1 s) (next_raw r2 s) (λ next. Fewer (coming s))
next_raw-agrees r1 r2 s h =
    let used : Machine = see front.EndOfText s in
    agree-then (took used) (λ x t p. raw_of-agrees r1 r2 (taken_as x) used t (cost_of_first x) p.went (cost_of_taken x) p.hand h)

symbol_in-agrees : (x : Raw) (s : Machine) → Agree (symbol_in x s) (symbol_in x s) (λ symbol. AsMany s)
symbol_in-agrees (raw.Symbol symbol) s = given symbol s (λ x. AsMany s) (record { went = refl; hand = refl })
symbol_in-agrees raw.Number s = stopped (refused_raw (codes "symbol") raw.Number s) s (λ x. AsMany s) tt
symbol_in-agrees raw.Text s = stopped (refused_raw (codes "symbol") raw.Text s) s (λ x. AsMany s) tt
symbol_in-agrees raw.Value s = stopped (refused_raw (codes "symbol") raw.Value s) s (λ x. AsMany s) tt
symbol_in-agrees raw.EndOfText s = stopped (refused_raw (codes "symbol") raw.EndOfText s) s (λ x. AsMany s) tt

-- from here on: rules may be asked below m, and the front that a case is of weighs no more than the one in hand
raw_symbol-agrees : (r1 r2 : Rules) (m : ℕ) (s : Machine) → 64 * coming s < m → Below r1 r2 m
    → Agree (raw_symbol r1 s) (raw_symbol r2 s) (λ symbol. Fewer (coming s))
raw_symbol-agrees r1 r2 m s p h =
    agree-then (h.at NextRaw s (omega arith)) (λ x t q.
    weaker (symbol_in-agrees x t) (λ symbol u e. record { went = omega arith }))

-- PRIMARIES

next_primary-agrees : (r1 r2 : Rules) (m : ℕ) (s : Machine) → 64 * coming s + 4 < m → Below r1 r2 m
    → Agree (next_primary r1 s) (next_primary r2 s) (λ answer. Fewer (coming s))
next_primary-agrees r1 r2 m s c h =
    agree-then (h.at NextFront s (omega arith)) (λ first t p.
    weaker (h.at Primary t (omega arith)) (λ v u q. record { went = omega arith }))

next_expression-agrees : (r1 r2 : Rules) (m : ℕ) (s : Machine) → 64 * coming s + 11 < m → Below r1 r2 m
    → Agree (next_expression r1 s) (next_expression r2 s) (λ answer. Fewer (coming s))
next_expression-agrees r1 r2 m s c h =
    agree-then (h.at NextFront s (omega arith)) (λ first t p.
    weaker (h.at Expression t (omega arith)) (λ v u q. record { went = omega arith }))

factor_by-agrees : (r1 r2 : Rules) (v : Value) (begins : Bool) (m : ℕ) (s : Machine) → 64 * left s + 4 < m → Below r1 r2 m
    → Agree (factor_by r1 v begins s) (factor_by r2 v begins s) (λ answer. Fewer (left s))
factor_by-agrees r1 r2 v true m s c h =
    agree-then (h.at Primary s (omega arith)) (λ right t p.
    weaker (acted (act.secondary operator.Times v right t.acts) t) (λ both u e. record { went = omega arith }))
factor_by-agrees r1 r2 v false m s c h = given v s (λ answer. Fewer (left s)) (record { went = omega arith })

over-agrees : (r1 r2 : Rules) (n : ℤ) (slash : ℕ) (x : Front) (b m : ℕ) (t : Machine) → weight x ≤ weight t.front → left t + 1 ≤ b → 64 * b ≤ m → Below r1 r2 m
    → Agree (over_by r1 n slash x t) (over_by r2 n slash x t) (λ answer. Fewer b)
over-agrees r1 r2 n slash (front.Number d) b m t e p c h =
    agree-then (h.at NextFront t (omega arith)) (λ next u q.
    agree-then (acted (lift (fraction n d) u.acts) u) (λ v w a.
    weaker (h.at (Factor v) w (omega arith)) (λ answer y d. record { went = omega arith })))
over-agrees r1 r2 n slash x b m t e p c h = given (known_number n) (hold slash t) (λ answer. Fewer b) (record { went = omega arith })

then_secondary-agrees : (r1 r2 : Rules) (n : ℤ) (symbol : ℕ) (op : SecondaryOperator) (m : ℕ) (s : Machine) → 1 ≤ weight s.front → 64 * left s + 6 ≤ m
    → Below r1 r2 m
    → Agree (then_by r1 n (front.Word symbol (word.Secondary op)) s) (then_by r2 n (front.Word symbol (word.Secondary op)) s) (λ answer. Fewer (left s))
then_secondary-agrees r1 r2 n symbol operator.Over m s e c h =
    agree-then (h.at NextFront s (omega arith)) (λ next t p.
    over-agrees r1 r2 n symbol t.front (left s) m t (omega arith) (omega arith) (omega arith) h)
then_secondary-agrees r1 r2 n symbol op m s e c h = h.at (Factor (known_number n)) s (omega arith)

then_word-agrees : (r1 r2 : Rules) (n : ℤ) (symbol : ℕ) (w : Word) (m : ℕ) (s : Machine) → 1 ≤ weight s.front → 64 * left s + 6 ≤ m → Below r1 r2 m
    → Agree (then_by r1 n (front.Word symbol w) s) (then_by r2 n (front.Word symbol w) s) (λ answer. Fewer (left s))
then_word-agrees r1 r2 n symbol (word.Secondary op) m s e c h = then_secondary-agrees r1 r2 n symbol op m s e c h
then_word-agrees r1 r2 n symbol w m s e c h = h.at (Factor (known_number n)) s (omega arith)

then_by-agrees : (r1 r2 : Rules) (n : ℤ) (x : Front) (m : ℕ) (s : Machine) → weight x ≤ weight s.front → 64 * left s + 6 ≤ m → Below r1 r2 m
    → Agree (then_by r1 n x s) (then_by r2 n x s) (λ answer. Fewer (left s))
then_by-agrees r1 r2 n (front.Word symbol w) m s e c h = then_word-agrees r1 r2 n symbol w m s e c h
then_by-agrees r1 r2 n x m s e c h = h.at (Factor (known_number n)) s (omega arith)

number-agrees : (r1 r2 : Rules) (n : ℤ) (m : ℕ) (s : Machine) → 64 * coming s + 6 < m → Below r1 r2 m
    → Agree (number r1 n s) (number r2 n s) (λ answer. Fewer (coming s))
number-agrees r1 r2 n m s c h =
    agree-then (h.at NextFront s (omega arith)) (λ next t p.
    weaker (h.at (NumberThen n) t (omega arith)) (λ answer u q. record { went = omega arith }))

room_by-agrees : (b : Bool) (s : Machine) → Agree (room_by b s) (room_by b s) (λ x. AsMany s)
room_by-agrees true s = given tt s (λ x. AsMany s) (record { went = refl; hand = refl })
room_by-agrees false s = stopped (Refused (error.Limit cap.Suffix PART_LIMIT)) s (λ x. AsMany s) tt

room-agrees : (count : ℕ) (s : Machine) → Agree (room_for_part count s) (room_for_part count s) (λ x. AsMany s)
room-agrees count s = room_by-agrees (nat_lt count PART_LIMIT) s

-- where a front was used
part_on-agrees : (r1 r2 : Rules) (parts : List Part) (p : Part) (b m : ℕ) (s : Machine) → coming s + 1 ≤ b → 64 * b + 1 ≤ m → Below r1 r2 m
    → Agree (part_on r1 parts p s) (part_on r2 parts p s) (λ answer. Fewer b)
part_on-agrees r1 r2 parts p b m s q c h =
    agree-then (room-agrees (length parts) s) (λ room t a.
    agree-then (h.at NextFront t (omega arith)) (λ next u e.
    weaker (h.at (Suffix (parts ++ p ∷ [])) u (omega arith)) (λ answer w d. record { went = omega arith })))

bracket-agrees : (x : Front) (s : Machine) → Agree (bracket_by x s) (bracket_by x s) (λ y. AsMany s)
bracket-agrees (front.Word symbol word.RightBracket) s = given tt s (λ y. AsMany s) (record { went = refl; hand = refl })
bracket-agrees x s = stopped (refused_front (codes "]") s) s (λ y. AsMany s) tt

bracketed-agrees : (r1 r2 : Rules) (m : ℕ) (s : Machine) → 64 * coming s + 11 < m → Below r1 r2 m
    → Agree (bracketed r1 s) (bracketed r2 s) (λ value. Fewer (coming s))
bracketed-agrees r1 r2 m s c h =
    agree-then (next_expression-agrees r1 r2 m s c h) (λ v u q.
    agree-then (bracket-agrees u.front u) (λ closed w a.
    weaker (acted (subscript v w.acts) w) (λ value y e. record { went = omega arith })))

-- a part used its front
part_used-agrees : (p : Part) (b : ℕ) (t : Machine) → coming t + 1 ≤ b
    → Agree (part_used p t) (part_used p t) (λ answer. FewerBy b (used_by_part answer))
part_used-agrees p b t c = given (Some p) (see front.EndOfText t) (λ answer. FewerBy b (used_by_part answer)) (record { went = omega (arith, c) })

part_word-agrees : (r1 r2 : Rules) (symbol : ℕ) (w : Word) (m : ℕ) (s : Machine) → 1 ≤ weight s.front → 64 * left s + 1 ≤ m → Below r1 r2 m
    → Agree (part_by r1 (front.Word symbol w) s) (part_by r2 (front.Word symbol w) s) (λ answer. FewerBy (left s) (used_by_part answer))
part_word-agrees r1 r2 symbol word.LeftBracket m s e c h =
    agree-then (bracketed-agrees r1 r2 m s (omega arith) h) (λ value t p.
    part_used-agrees (part.Sub value) (left s) t (omega arith))
part_word-agrees r1 r2 symbol w m s e c h = given None s (λ answer. FewerBy (left s) (used_by_part answer)) (record { went = omega arith })

part_by-agrees : (r1 r2 : Rules) (x : Front) (m : ℕ) (s : Machine) → weight x ≤ weight s.front → 64 * left s + 1 ≤ m → Below r1 r2 m
    → Agree (part_by r1 x s) (part_by r2 x s) (λ answer. FewerBy (left s) (used_by_part answer))
part_by-agrees r1 r2 (front.Tag symbol) m s e c h = part_used-agrees (part.Sym symbol) (left s) s (omega arith)
part_by-agrees r1 r2 (front.Internal symbol k) m s e c h = part_used-agrees (part.Sym symbol) (left s) s (omega arith)
part_by-agrees r1 r2 (front.Number n) m s e c h = part_used-agrees (part.Sub n) (left s) s (omega arith)
part_by-agrees r1 r2 (front.Word symbol w) m s e c h = part_word-agrees r1 r2 symbol w m s e c h
part_by-agrees r1 r2 x m s e c h = given None s (λ answer. FewerBy (left s) (used_by_part answer)) (record { went = omega arith })

suffix_by-agrees : (r1 r2 : Rules) (parts : List Part) (p : Option Part) (b m : ℕ) (t : Machine) → left t + used_by_part p ≤ b → 64 * b + 1 ≤ m → Below r1 r2 m
    → Agree (suffix_by r1 parts p t) (suffix_by r2 parts p t) (λ answer. Fewer b)
suffix_by-agrees r1 r2 parts None b m t q c h = given parts t (λ answer. Fewer b) (record { went = omega arith })
suffix_by-agrees r1 r2 parts (Some p) b m t q c h = part_on-agrees r1 r2 parts p b m t (omega arith) c h

suffix-agrees : (r1 r2 : Rules) (parts : List Part) (s : Machine) → Below r1 r2 (measure (Suffix parts) s)
    → Agree (suffix r1 parts s) (suffix r2 parts s) (λ answer. Fewer (left s))
suffix-agrees r1 r2 parts s h =
    agree-then (part_by-agrees r1 r2 s.front _ s (omega arith) (omega arith) h) (λ p t q.
    suffix_by-agrees r1 r2 parts p (left s) _ t q.went (omega arith) h)

name_on-agrees : (r1 r2 : Rules) (symbol root : ℕ) (parts : List Part) (p : Option Part) (b m : ℕ) (t : Machine) → left t + used_by_part p ≤ b → 64 * b + 14 ≤ m
    → Below r1 r2 m → Agree (name_on r1 symbol root parts p t) (name_on r2 symbol root parts p t) (λ answer. Fewer b)
name_on-agrees r1 r2 symbol root parts None b m t q c h = given (named.Variable root parts) t (λ answer. Fewer b) (record { went = omega arith })
name_on-agrees r1 r2 symbol root parts (Some p) b m t q c h =
    agree-then (room-agrees (length parts) t) (λ room u a.
    weaker (h.at (NameFrom symbol root (parts ++ p ∷ [])) u (omega arith)) (λ answer w e. record { went = omega arith }))

subscript_part-agrees : (v : Value) (b : ℕ) (s : Machine) → left s + 1 ≤ b
    → Agree (subscript_part v s) (subscript_part v s) (λ answer. FewerBy b (used_by_part answer))
subscript_part-agrees v b s c =
    agree-then (bracket-agrees s.front s) (λ closed t p.
    agree-then (acted (subscript v t.acts) t) (λ units u q.
    part_used-agrees (part.Sub units) b u (omega (arith, p.went, q.went))))

bracket_back : (bracket : ℕ) (v : Value) (s : Machine) → left (put_bracket_back bracket v s) ≤ coming s
bracket_back bracket v s = hand_back s

bracket_word-agrees : (bracket : ℕ) (v : Value) (symbol : ℕ) (w : Word) (b : ℕ) (s : Machine) → left s + 1 ≤ b
    → Agree (bracket_behind_by bracket v (front.Word symbol w) s) (bracket_behind_by bracket v (front.Word symbol w) s) (λ answer. FewerBy b (used_by_part answer))
bracket_word-agrees bracket v symbol word.Comma b s c =
    given None (put_bracket_back bracket v s) (λ answer. FewerBy b (used_by_part answer)) (record { went = omega (arith, bracket_back bracket v s) })
bracket_word-agrees bracket v symbol w b s c = subscript_part-agrees v b s c

bracket_behind-agrees : (bracket : ℕ) (v : Value) (x : Front) (b : ℕ) (s : Machine) → left s + 1 ≤ b
    → Agree (bracket_behind_by bracket v x s) (bracket_behind_by bracket v x s) (λ answer. FewerBy b (used_by_part answer))
bracket_behind-agrees bracket v (front.Word symbol w) b s c = bracket_word-agrees bracket v symbol w b s c
bracket_behind-agrees bracket v x b s c = subscript_part-agrees v b s c

ends_behind-agrees : (s : Machine)
    → Agree {A = Option Part} (Ok (None, put_hand_back s)) (Ok (None, put_hand_back s)) (λ answer. FewerBy (left s) (used_by_part answer))
ends_behind-agrees s = given None (put_hand_back s) (λ answer. FewerBy (left s) (used_by_part answer)) (record { went = omega (arith, hand_back s) })

behind_word-agrees : (r1 r2 : Rules) (symbol : ℕ) (w : Word) (m : ℕ) (s : Machine) → 1 ≤ weight s.front → 64 * left s + 1 ≤ m → Below r1 r2 m
    → Agree (part_behind_by r1 (front.Word symbol w) s) (part_behind_by r2 (front.Word symbol w) s) (λ answer. FewerBy (left s) (used_by_part answer))
behind_word-agrees r1 r2 symbol word.LeftBracket m s e c h =
    agree-then (next_expression-agrees r1 r2 m s (omega arith) h) (λ v t p.
    bracket_behind-agrees symbol v t.front (left s) t (omega (arith, p.went)))
behind_word-agrees r1 r2 symbol w m s e c h = ends_behind-agrees s

part_behind-agrees : (r1 r2 : Rules) (x : Front) (m : ℕ) (s : Machine) → weight x ≤ weight s.front → 64 * left s + 1 ≤ m → Below r1 r2 m
    → Agree (part_behind_by r1 x s) (part_behind_by r2 x s) (λ answer. FewerBy (left s) (used_by_part answer))
part_behind-agrees r1 r2 (front.Tag symbol) m s e c h = part_used-agrees (part.Sym symbol) (left s) s (omega arith)
part_behind-agrees r1 r2 (front.Internal symbol k) m s e c h = part_used-agrees (part.Sym symbol) (left s) s (omega arith)
part_behind-agrees r1 r2 (front.Number n) m s e c h = part_used-agrees (part.Sub n) (left s) s (omega arith)
part_behind-agrees r1 r2 (front.Word symbol w) m s e c h = behind_word-agrees r1 r2 symbol w m s e c h
part_behind-agrees r1 r2 x m s e c h = ends_behind-agrees s

behind_on-agrees : (r1 r2 : Rules) (count : ℕ) (parts : List Part) (p : Option Part) (b m : ℕ) (t : Machine) → left t + used_by_part p ≤ b → 64 * b + 1 ≤ m
    → Below r1 r2 m → Agree (behind_on r1 count parts p t) (behind_on r2 count parts p t) (λ answer. Fewer b)
behind_on-agrees r1 r2 count parts None b m t q c h = given parts t (λ answer. Fewer b) (record { went = omega arith })
behind_on-agrees r1 r2 count parts (Some p) b m t q c h =
    agree-then (room-agrees (count + length parts) t) (λ room u a.
    agree-then (h.at NextFront u (omega arith)) (λ next w e.
    weaker (h.at (SuffixBehind count (parts ++ p ∷ [])) w (omega arith)) (λ answer y d. record { went = omega arith })))

suffix_behind-agrees : (r1 r2 : Rules) (count : ℕ) (parts : List Part) (s : Machine) → Below r1 r2 (measure (SuffixBehind count parts) s)
    → Agree (suffix_behind r1 count parts s) (suffix_behind r2 count parts s) (λ answer. Fewer (left s))
suffix_behind-agrees r1 r2 count parts s h =
    agree-then (part_behind-agrees r1 r2 s.front _ s (omega arith) (omega arith) h) (λ p t q.
    behind_on-agrees r1 r2 count parts p (left s) _ t q.went (omega arith) h)

called_named-agrees : (r1 r2 : Rules) (symbol : ℕ) (parts behind : List Part) (k : Macro) (m : ℕ) (s : Machine) → 64 * coming s + 13 < m → Below r1 r2 m
    → Agree (called_named r1 symbol parts behind k s) (called_named r2 symbol parts behind k s) (λ answer. Fewer (coming s))
called_named-agrees r1 r2 symbol parts behind k m s c h =
    agree-then (call_on-agrees r1 r2 k (called_with symbol parts behind) m s c h) (λ on t p. given named.Called t (λ answer. Fewer (coming s)) (record { went = p.went }))

called_by-agrees : (r1 r2 : Rules) (symbol : ℕ) (parts : List Part) (k : Macro) (l : Level) (m : ℕ) (s : Machine) → 64 * coming s + 13 < m → Below r1 r2 m
    → Agree (called_by r1 symbol parts k l s) (called_by r2 symbol parts k l s) (λ answer. Fewer (coming s))
called_by-agrees r1 r2 symbol parts k level.Suffixed m s c h =
    agree-then (h.at NextFront s (omega arith)) (λ next t p.
    agree-then (h.at (SuffixBehind (length parts) []) t (omega (arith, p.went))) (λ behind u q.
    weaker (called_named-agrees r1 r2 symbol parts behind k m u (omega (arith, p.went, q.went)) h) (λ answer w e. record { went = omega (arith, p.went, q.went, e.went) })))
called_by-agrees r1 r2 symbol parts k l m s c h = called_named-agrees r1 r2 symbol parts [] k m s c h

name_from_by-agrees : (r1 r2 : Rules) (symbol root : ℕ) (parts : List Part) (k : Option Macro) (m : ℕ) (s : Machine) → 64 * coming s + 14 ≤ m → Below r1 r2 m
    → Agree (name_from_by r1 symbol root parts k s) (name_from_by r2 symbol root parts k s) (λ answer. Fewer (coming s))
name_from_by-agrees r1 r2 symbol root parts (Some k) m s c h = called_by-agrees r1 r2 symbol parts k k.level m s (omega arith) h
name_from_by-agrees r1 r2 symbol root parts None m s c h =
    agree-then (h.at NextFront s (omega arith)) (λ next t p.
    agree-then (part_by-agrees r1 r2 t.front m t (omega arith) (omega arith) h) (λ part u q.
    name_on-agrees r1 r2 symbol root parts part (coming s) m u (omega (arith, p.went, q.went)) c h))

variable_name-agrees : (r1 r2 : Rules) (symbol : ℕ) (s : Machine) → Below r1 r2 (measure (VariableName symbol) s)
    → Agree (variable_name r1 symbol s) (variable_name r2 symbol s) (λ answer. Fewer (coming s))
variable_name-agrees r1 r2 symbol s h =
    agree-then (acted (root_of symbol s.acts) s) (λ root t a.
    weaker (h.at (NameFrom symbol root []) t (omega arith)) (λ name u p. record { went = omega arith }))

variable_named-agrees : (symbol : ℕ) (name : Named) (s : Machine)
    → Agree (variable_named symbol name s) (variable_named symbol name s) (λ answer. Fewer (left s))
variable_named-agrees symbol (named.Variable root parts) s =
    agree-then (acted (read symbol root parts s.acts) s) (λ v t e. given (Some v) t (λ answer. Fewer (left s)) (record { went = omega arith }))
variable_named-agrees symbol named.Called s = given None s (λ answer. Fewer (left s)) (record { went = omega arith })

begun_anew-agrees : (r1 r2 : Rules) (v : Option Value) (m : ℕ) (s : Machine) → 64 * left s + 3 < m → Below r1 r2 m
    → Agree (or_begun_anew r1 v s) (or_begun_anew r2 v s) (λ answer. Fewer (left s))
begun_anew-agrees r1 r2 (Some v) m s c h = given v s (λ answer. Fewer (left s)) (record { went = omega arith })
begun_anew-agrees r1 r2 None m s c h = h.at PrimaryInside s (omega arith)

variable-agrees : (r1 r2 : Rules) (symbol : ℕ) (m : ℕ) (s : Machine) → 64 * coming s + 15 < m → Below r1 r2 m
    → Agree (variable r1 symbol s) (variable r2 symbol s) (λ answer. Fewer (coming s))
variable-agrees r1 r2 symbol m s c h =
    agree-then {P = λ v. Fewer (coming s)} (agree-then (h.at (VariableName symbol) s (omega arith)) (λ name t p.
    weaker (variable_named-agrees symbol name t) (λ v u e. record { went = omega (arith, p.went, e.went) }))) (λ v t p.
    weaker (begun_anew-agrees r1 r2 v m t (omega (arith, p.went)) h) (λ answer u q. record { went = omega (arith, p.went, q.went) }))

closed_if-agrees : (ok : Bool) (pair : Delimiters) (s : Machine) → Agree (closed_if ok pair s) (closed_if ok pair s) (λ answer. AsMany s)
closed_if-agrees true pair s = given tt s (λ answer. AsMany s) (record { went = refl; hand = refl })
closed_if-agrees false pair s = stopped (refused_front (symbol_name s.acts pair.right) s) s (λ answer. AsMany s) tt

closed_by-agrees : (pair : Delimiters) (x : Front) (s : Machine) → Agree (closed_by pair x s) (closed_by pair x s) (λ answer. AsMany s)
closed_by-agrees pair (front.Right symbol other) s = closed_if-agrees (are_pair pair other) pair s
closed_by-agrees pair x s = stopped (refused_front (symbol_name s.acts pair.right) s) s (λ answer. AsMany s) tt

parenthesis-agrees : (r1 r2 : Rules) (pair : Delimiters) (m : ℕ) (s : Machine) → 64 * coming s + 11 < m → Below r1 r2 m
    → Agree (parenthesis r1 pair s) (parenthesis r2 pair s) (λ answer. Fewer (coming s))
parenthesis-agrees r1 r2 pair m s c h =
    agree-then (next_expression-agrees r1 r2 m s c h) (λ v u q.
    agree-then (closed_by-agrees pair u.front u) (λ end t e.
    agree-then (h.at NextFront t (omega arith)) (λ next w a.
    given v w (λ answer. Fewer (coming s)) (record { went = omega arith }))))

group-agrees : (r1 r2 : Rules) (s : Machine) → Below r1 r2 (measure Group s) → Agree (group r1 s) (group r2 s) (λ answer. Fewer (coming s))
group-agrees r1 r2 s h =
    let begun : Machine = record s { acts = begin_group s.acts } in
    agree-then (h.at NextFront begun (omega arith)) (λ first t p.
    agree-then (h.at GroupStatements t (omega arith)) (λ v u q.
    let ended : Machine = record u { acts = end_group u.acts } in
    agree-then (h.at NextFront ended (omega arith)) (λ next w a.
    given v w (λ answer. Fewer (coming s)) (record { went = omega arith }))))

internal-agrees : (r1 r2 : Rules) (k : ℕ) (m : ℕ) (s : Machine) → 64 * coming s < m → Below r1 r2 m
    → Agree (internal r1 k s) (internal r2 k s) (λ answer. Fewer (coming s))
internal-agrees r1 r2 k m s c h =
    agree-then (h.at NextFront s (omega arith)) (λ next t p.
    given (known_number (internal_value t.acts k)) t (λ answer. Fewer (coming s)) (record { went = omega (arith, p.went) }))

constant-agrees : (r1 r2 : Rules) (w : Nullary) (m : ℕ) (s : Machine) → 64 * coming s < m → Below r1 r2 m
    → Agree (constant r1 w s) (constant r2 w s) (λ answer. Fewer (coming s))
constant-agrees r1 r2 w m s c h =
    agree-then (h.at NextFront s (omega arith)) (λ next t p.
    weaker (acted (act.nullary w t.acts) t) (λ v u e. record { went = omega (arith, p.went, e.went) }))

str-agrees : (r1 r2 : Rules) (m : ℕ) (s : Machine) → 64 * coming s + 1 < m → Below r1 r2 m
    → Agree (str_primary r1 s) (str_primary r2 s) (λ answer. Fewer (coming s))
str-agrees r1 r2 m s c h =
    agree-then (h.at NextFront s (omega arith)) (λ first t p.
    agree-then (h.at (Suffix []) t (omega arith)) (λ name u q.
    weaker (acted (suffix_string name u.acts) u) (λ text w e. record { went = omega arith })))

string_primary-agrees : (r1 r2 : Rules) (m : ℕ) (s : Machine) → 64 * coming s < m → Below r1 r2 m
    → Agree (string_primary r1 s) (string_primary r2 s) (λ answer. Fewer (coming s))
string_primary-agrees r1 r2 m s c h =
    let read : Machine = record s { string = [] } in
    agree-then (h.at NextFront read (omega arith)) (λ next t p.
    weaker (acted (string_token s.string t.acts) t) (λ v u e. record { went = omega arith }))

value_primary-agrees : (r1 r2 : Rules) (m : ℕ) (s : Machine) → 64 * coming s < m → Below r1 r2 m
    → Agree (value_primary r1 s) (value_primary r2 s) (λ answer. Fewer (coming s))
value_primary-agrees r1 r2 m s c h =
    let read : Machine = record s { value = value.Vacuous } in
    agree-then (h.at NextFront read (omega arith)) (λ next t p.
    given s.value t (λ answer. Fewer (coming s)) (record { went = omega arith }))

applied-agrees : (r1 r2 : Rules) (op : UnaryOperator) (m : ℕ) (s : Machine) → 64 * coming s + 4 < m → Below r1 r2 m
    → Agree (applied r1 op s) (applied r2 op s) (λ answer. Fewer (coming s))
applied-agrees r1 r2 op m s c h =
    agree-then (next_primary-agrees r1 r2 m s c h) (λ right t p.
    weaker (acted (act.unary op right t.acts) t) (λ v u e. record { went = omega arith }))

applied_by-agrees : (r1 r2 : Rules) (op : Option UnaryOperator) (m : ℕ) (s : Machine) → 1 ≤ weight s.front → 64 * left s + 3 ≤ m → Below r1 r2 m
    → Agree (applied_by r1 op s) (applied_by r2 op s) (λ answer. Fewer (left s))
applied_by-agrees r1 r2 (Some op) m s e c h = weaker (applied-agrees r1 r2 op m s (omega arith) h) (λ v t p. record { went = omega arith })
applied_by-agrees r1 r2 None m s e c h = stopped (refused_front (codes "primary") s) s (λ answer. Fewer (left s)) tt

primary_word-agrees : (r1 r2 : Rules) (symbol : ℕ) (w : Word) (m : ℕ) (s : Machine) → 1 ≤ weight s.front → 64 * left s + 3 ≤ m → Below r1 r2 m
    → Agree (primary_by r1 (front.Word symbol w) s) (primary_by r2 (front.Word symbol w) s) (λ answer. Fewer (left s))
primary_word-agrees r1 r2 symbol word.Begingroup m s e c h = weaker (h.at Group s (omega arith)) (λ v t p. record { went = omega arith })
primary_word-agrees r1 r2 symbol word.Str m s e c h = weaker (str-agrees r1 r2 m s (omega arith) h) (λ v t p. record { went = omega arith })
primary_word-agrees r1 r2 symbol (word.Nullary w) m s e c h = weaker (constant-agrees r1 r2 w m s (omega arith) h) (λ v t p. record { went = omega (arith, p.went) })
primary_word-agrees r1 r2 symbol w m s e c h = applied_by-agrees r1 r2 (unary_of w) m s e c h

primary_by-agrees : (r1 r2 : Rules) (x : Front) (m : ℕ) (s : Machine) → weight x ≤ weight s.front → 64 * left s + 3 ≤ m → Below r1 r2 m
    → Agree (primary_by r1 x s) (primary_by r2 x s) (λ answer. Fewer (left s))
primary_by-agrees r1 r2 (front.Number n) m s e c h = weaker (number-agrees r1 r2 n m s (omega arith) h) (λ v t p. record { went = omega arith })
primary_by-agrees r1 r2 front.Text m s e c h = weaker (string_primary-agrees r1 r2 m s (omega arith) h) (λ v t p. record { went = omega arith })
primary_by-agrees r1 r2 front.Capsule m s e c h = weaker (value_primary-agrees r1 r2 m s (omega arith) h) (λ v t p. record { went = omega arith })
primary_by-agrees r1 r2 (front.Word symbol w) m s e c h = primary_word-agrees r1 r2 symbol w m s e c h
primary_by-agrees r1 r2 (front.Tag symbol) m s e c h = weaker (variable-agrees r1 r2 symbol m s (omega arith) h) (λ v t p. record { went = omega arith })
primary_by-agrees r1 r2 (front.Internal symbol k) m s e c h = weaker (internal-agrees r1 r2 k m s (omega arith) h) (λ v t p. record { went = omega arith })
primary_by-agrees r1 r2 (front.Left symbol pair) m s e c h = weaker (parenthesis-agrees r1 r2 pair m s (omega arith) h) (λ v t p. record { went = omega arith })
primary_by-agrees r1 r2 x m s e c h = stopped (refused_front (codes "primary") s) s (λ answer. Fewer (left s)) tt

primary-agrees : (r1 r2 : Rules) (s : Machine) → Below r1 r2 (measure Primary s) → Agree (primary r1 s) (primary r2 s) (λ answer. Fewer (left s))
primary-agrees r1 r2 s h =
    agree-then (entered s) (λ one t p.
    agree-then (h.at PrimaryInside t (omega arith)) (λ v u q.
    given v (leave u) (λ answer. Fewer (left s)) (record { went = omega arith })))

variable_word-agrees : (symbol root : ℕ) (parts : List Part) (k : ℕ) (w : Word) (s : Machine)
    → Agree (variable_side_by symbol root parts (front.Word k w) s) (variable_side_by symbol root parts (front.Word k w) s) (λ answer. Fewer (left s))
variable_word-agrees symbol root parts k word.Assign s = given (side.Target (target.Variable root parts)) s (λ answer. Fewer (left s)) (record { went = omega arith })
variable_word-agrees symbol root parts k w s =
    agree-then (acted (read symbol root parts s.acts) s) (λ v t e.
    given (side.Value v) t (λ answer. Fewer (left s)) (record { went = omega arith }))

variable_by-agrees : (symbol root : ℕ) (parts : List Part) (x : Front) (s : Machine)
    → Agree (variable_side_by symbol root parts x s) (variable_side_by symbol root parts x s) (λ answer. Fewer (left s))
variable_by-agrees symbol root parts (front.Word k w) s = variable_word-agrees symbol root parts k w s
variable_by-agrees symbol root parts x s =
    agree-then (acted (read symbol root parts s.acts) s) (λ v t e.
    given (side.Value v) t (λ answer. Fewer (left s)) (record { went = omega arith }))

internal_word-agrees : (k symbol : ℕ) (w : Word) (s : Machine)
    → Agree (internal_side_by k (front.Word symbol w) s) (internal_side_by k (front.Word symbol w) s) (λ answer. Fewer (left s))
internal_word-agrees k symbol word.Assign s = given (side.Target (target.Internal k)) s (λ answer. Fewer (left s)) (record { went = omega arith })
internal_word-agrees k symbol w s = given (side.Value (known_number (internal_value s.acts k))) s (λ answer. Fewer (left s)) (record { went = omega arith })

internal_by-agrees : (k : ℕ) (x : Front) (s : Machine) → Agree (internal_side_by k x s) (internal_side_by k x s) (λ answer. Fewer (left s))
internal_by-agrees k (front.Word symbol w) s = internal_word-agrees k symbol w s
internal_by-agrees k x s = given (side.Value (known_number (internal_value s.acts k))) s (λ answer. Fewer (left s)) (record { went = omega arith })

used_small : (x : Side) → used_by_side x ≤ 1
used_small (side.Target t) = omega arith
used_small (side.Value v) = omega arith

leading_named-agrees : (r1 r2 : Rules) (symbol : ℕ) (name : Named) (m : ℕ) (s : Machine) → 64 * left s + 4 < m → Below r1 r2 m
    → Agree (leading_named r1 symbol name s) (leading_named r2 symbol name s) (λ answer. FewerBy (left s + 1) (used_by_side answer))
leading_named-agrees r1 r2 symbol (named.Variable root parts) m s c h =
    weaker (variable_by-agrees symbol root parts s.front s) (λ answer u q. record { went = omega (arith, q.went, used_small answer) })
leading_named-agrees r1 r2 symbol named.Called m s c h = weaker (h.at LeadingInside s (omega arith)) (λ answer u q. record { went = omega (arith, q.went) })

leading_by-agrees : (r1 r2 : Rules) (x : Front) (m : ℕ) (s : Machine) → weight x ≤ weight s.front → 64 * left s + 4 ≤ m → Below r1 r2 m
    → Agree (leading_by r1 x s) (leading_by r2 x s) (λ answer. FewerBy (left s) (used_by_side answer))
leading_by-agrees r1 r2 (front.Tag symbol) m s e c h =
    agree-then (h.at (VariableName symbol) s (omega arith)) (λ name t p.
    weaker (leading_named-agrees r1 r2 symbol name m t (omega (arith, p.went)) h) (λ answer u q. record { went = omega (arith, p.went, q.went) }))
leading_by-agrees r1 r2 (front.Internal symbol k) m s e c h =
    agree-then (h.at NextFront s (omega arith)) (λ next t p.
    weaker (internal_by-agrees k t.front t) (λ answer u q. record { went = omega (arith, used_small answer) }))
leading_by-agrees r1 r2 x m s e c h =
    agree-then (h.at PrimaryInside s (omega arith)) (λ v t p.
    given (side.Value v) t (λ answer. FewerBy (left s) (used_by_side answer)) (record { went = omega (arith, p.went) }))

leading-agrees : (r1 r2 : Rules) (s : Machine) → Below r1 r2 (measure Leading s)
    → Agree (leading r1 s) (leading r2 s) (λ answer. FewerBy (left s) (used_by_side answer))
leading-agrees r1 r2 s h =
    agree-then (entered s) (λ one t p.
    agree-then (h.at LeadingInside t (omega arith)) (λ answer u q.
    given answer (leave u) (λ answer. FewerBy (left s) (used_by_side answer)) (record { went = omega (arith, p.went, q.went) })))

-- SECONDARIES, TERTIARIES, EXPRESSIONS

-- an operator took a step
secondary_weight : (x : Front) (op : SecondaryOperator) → secondary_in x ≡ Some op → 1 ≤ weight x
secondary_weight (front.Number n) op e = omega arith
secondary_weight front.Text op e = omega arith
secondary_weight front.Capsule op e = omega arith
secondary_weight (front.Word symbol w) op e = omega arith
secondary_weight (front.Tag symbol) op e = omega arith
secondary_weight (front.Internal symbol k) op e = omega arith
secondary_weight (front.Operator symbol) op e = omega arith
secondary_weight (front.Left symbol pair) op e = omega arith
secondary_weight (front.Right symbol pair) op e = omega arith
secondary_weight front.EndOfText op e = cc

tertiary_weight : (x : Front) (op : TertiaryOperator) → tertiary_in x ≡ Some op → 1 ≤ weight x
tertiary_weight (front.Number n) op e = omega arith
tertiary_weight front.Text op e = omega arith
tertiary_weight front.Capsule op e = omega arith
tertiary_weight (front.Word symbol w) op e = omega arith
tertiary_weight (front.Tag symbol) op e = omega arith
tertiary_weight (front.Internal symbol k) op e = omega arith
tertiary_weight (front.Operator symbol) op e = omega arith
tertiary_weight (front.Left symbol pair) op e = omega arith
tertiary_weight (front.Right symbol pair) op e = omega arith
tertiary_weight front.EndOfText op e = cc

joining_weight : (e : Equals) (x : Front) (op : ExpressionOperator) → joining_in e x ≡ Some op → 1 ≤ weight x
joining_weight e (front.Number n) op p = omega arith
joining_weight e front.Text op p = omega arith
joining_weight e front.Capsule op p = omega arith
joining_weight e (front.Word symbol w) op p = omega arith
joining_weight e (front.Tag symbol) op p = omega arith
joining_weight e (front.Internal symbol k) op p = omega arith
joining_weight e (front.Operator symbol) op p = omega arith
joining_weight e (front.Left symbol pair) op p = omega arith
joining_weight e (front.Right symbol pair) op p = omega arith
joining_weight e front.EndOfText op p = cc

operator_weight : (table : Table) (l : Level) (x : Front) (k : Macro) → operator_in table l x ≡ Some k → 1 ≤ weight x
operator_weight table l (front.Number n) k e = omega arith
operator_weight table l front.Text k e = omega arith
operator_weight table l front.Capsule k e = omega arith
operator_weight table l (front.Word symbol w) k e = omega arith
operator_weight table l (front.Tag symbol) k e = omega arith
operator_weight table l (front.Internal symbol i) k e = omega arith
operator_weight table l (front.Operator symbol) k e = omega arith
operator_weight table l (front.Left symbol pair) k e = omega arith
operator_weight table l (front.Right symbol pair) k e = omega arith
operator_weight table l front.EndOfText k e = cc

joined-agrees : (r1 r2 : Rules) (k : Macro) (a b : Value) (m : ℕ) (s : Machine) → 64 * left s + 13 < m → Below r1 r2 m
    → Agree (joined r1 k a b s) (joined r2 k a b s) (λ next. Fewer (left s))
joined-agrees r1 r2 k a b m s c h =
    agree-then (put_back-agrees s) (λ back t p.
    weaker (call_on-agrees r1 r2 k (capsule a ∷ capsule b ∷ []) m t (omega (arith, p.went)) h) (λ next u q. record { went = omega (arith, p.went, q.went) }))

secondary_by-agrees : (r1 r2 : Rules) (v : Value) (op : Option SecondaryOperator) (k : Option Macro) (m : ℕ) (s : Machine) → secondary_in s.front ≡ op
    → operator_here level.Primary s ≡ k → 64 * left s + 5 ≤ m → Below r1 r2 m
    → Agree (secondary_by r1 v op k s) (secondary_by r2 v op k s) (λ answer. Fewer (left s))
secondary_by-agrees r1 r2 v (Some op) k m s e f c h =
    let used : 1 ≤ weight s.front = secondary_weight s.front op e in
    agree-then (next_primary-agrees r1 r2 m s (omega arith) h) (λ right t p.
    agree-then (acted (act.secondary op v right t.acts) t) (λ both u q.
    weaker (h.at (SecondaryRest both) u (omega arith)) (λ answer w a. record { went = omega arith })))
secondary_by-agrees r1 r2 v None (Some k) m s e f c h =
    let used : 1 ≤ weight s.front = operator_weight s.acts.symbols.names level.Primary s.front k f in
    agree-then (next_primary-agrees r1 r2 m s (omega arith) h) (λ right t p.
    agree-then (joined-agrees r1 r2 k v right m t (omega (arith, p.went)) h) (λ on u q.
    agree-then (h.at Primary u (omega (arith, p.went, q.went))) (λ first w a.
    weaker (h.at (SecondaryRest first) w (omega (arith, p.went, q.went, a.went))) (λ answer y d. record { went = omega (arith, p.went, q.went, a.went, d.went) }))))
secondary_by-agrees r1 r2 v None None m s e f c h = given v s (λ answer. Fewer (left s)) (record { went = omega arith })

secondary-agrees : (r1 r2 : Rules) (s : Machine) → Below r1 r2 (measure Secondary s) → Agree (secondary r1 s) (secondary r2 s) (λ answer. Fewer (left s))
secondary-agrees r1 r2 s h =
    agree-then (h.at Primary s (omega arith)) (λ v t p.
    weaker (h.at (SecondaryRest v) t (omega arith)) (λ answer u q. record { went = omega arith }))

next_secondary-agrees : (r1 r2 : Rules) (m : ℕ) (s : Machine) → 64 * coming s + 6 < m → Below r1 r2 m
    → Agree (next_secondary r1 s) (next_secondary r2 s) (λ answer. Fewer (coming s))
next_secondary-agrees r1 r2 m s c h =
    agree-then (h.at NextFront s (omega arith)) (λ first t p.
    weaker (h.at Secondary t (omega arith)) (λ v u q. record { went = omega arith }))

tertiary_by-agrees : (r1 r2 : Rules) (v : Value) (op : Option TertiaryOperator) (k : Option Macro) (m : ℕ) (s : Machine) → tertiary_in s.front ≡ op
    → operator_here level.Secondary s ≡ k → 64 * left s + 7 ≤ m → Below r1 r2 m
    → Agree (tertiary_by r1 v op k s) (tertiary_by r2 v op k s) (λ answer. Fewer (left s))
tertiary_by-agrees r1 r2 v (Some op) k m s e f c h =
    let used : 1 ≤ weight s.front = tertiary_weight s.front op e in
    agree-then (next_secondary-agrees r1 r2 m s (omega arith) h) (λ right t p.
    agree-then (acted (act.tertiary op v right t.acts) t) (λ both u q.
    weaker (h.at (TertiaryRest both) u (omega arith)) (λ answer w a. record { went = omega arith })))
tertiary_by-agrees r1 r2 v None (Some k) m s e f c h =
    let used : 1 ≤ weight s.front = operator_weight s.acts.symbols.names level.Secondary s.front k f in
    agree-then (next_secondary-agrees r1 r2 m s (omega arith) h) (λ right t p.
    agree-then (joined-agrees r1 r2 k v right m t (omega (arith, p.went)) h) (λ on u q.
    agree-then (h.at Secondary u (omega (arith, p.went, q.went))) (λ first w a.
    weaker (h.at (TertiaryRest first) w (omega (arith, p.went, q.went, a.went))) (λ answer y d. record { went = omega (arith, p.went, q.went, a.went, d.went) }))))
tertiary_by-agrees r1 r2 v None None m s e f c h = given v s (λ answer. Fewer (left s)) (record { went = omega arith })

tertiary-agrees : (r1 r2 : Rules) (s : Machine) → Below r1 r2 (measure Tertiary s) → Agree (tertiary r1 s) (tertiary r2 s) (λ answer. Fewer (left s))
tertiary-agrees r1 r2 s h =
    agree-then (h.at Secondary s (omega arith)) (λ v t p.
    weaker (h.at (TertiaryRest v) t (omega arith)) (λ answer u q. record { went = omega arith }))

next_tertiary-agrees : (r1 r2 : Rules) (m : ℕ) (s : Machine) → 64 * coming s + 8 < m → Below r1 r2 m
    → Agree (next_tertiary r1 s) (next_tertiary r2 s) (λ answer. Fewer (coming s))
next_tertiary-agrees r1 r2 m s c h =
    agree-then (h.at NextFront s (omega arith)) (λ first t p.
    weaker (h.at Tertiary t (omega (arith, p.went))) (λ v u q. record { went = omega (arith, p.went, q.went) }))

expression_by-agrees : (r1 r2 : Rules) (e : Equals) (v : Value) (op : Option ExpressionOperator) (k : Option Macro) (m : ℕ) (s : Machine)
    → joining_in e s.front ≡ op → operator_here level.Tertiary s ≡ k → 64 * left s + 9 ≤ m → Below r1 r2 m
    → Agree (expression_by r1 e v op k s) (expression_by r2 e v op k s) (λ answer. Fewer (left s))
expression_by-agrees r1 r2 e v (Some op) k m s d f c h =
    let used : 1 ≤ weight s.front = joining_weight e s.front op d in
    agree-then (next_tertiary-agrees r1 r2 m s (omega arith) h) (λ right t p.
    agree-then (acted (act.expression op v right t.acts) t) (λ both u q.
    weaker (h.at (ExpressionRest both e) u (omega arith)) (λ answer w a. record { went = omega arith })))
expression_by-agrees r1 r2 e v None (Some k) m s d f c h =
    let used : 1 ≤ weight s.front = operator_weight s.acts.symbols.names level.Tertiary s.front k f in
    agree-then (next_tertiary-agrees r1 r2 m s (omega arith) h) (λ right t p.
    agree-then (joined-agrees r1 r2 k v right m t (omega (arith, p.went)) h) (λ on u q.
    agree-then (h.at Tertiary u (omega (arith, p.went, q.went))) (λ first w a.
    weaker (h.at (ExpressionRest first e) w (omega (arith, p.went, q.went, a.went))) (λ answer y i. record { went = omega (arith, p.went, q.went, a.went, i.went) }))))
expression_by-agrees r1 r2 e v None None m s d f c h = given v s (λ answer. Fewer (left s)) (record { went = omega arith })

expression_from-agrees : (r1 r2 : Rules) (v : Value) (e : Equals) (s : Machine) → Below r1 r2 (measure (ExpressionFrom v e) s)
    → Agree (expression_from r1 v e s) (expression_from r2 v e s) (λ answer. Fewer (left s))
expression_from-agrees r1 r2 v e s h =
    agree-then (h.at (SecondaryRest v) s (omega arith)) (λ second t p.
    agree-then (h.at (TertiaryRest second) t (omega arith)) (λ third u q.
    weaker (h.at (ExpressionRest third e) u (omega arith)) (λ answer w a. record { went = omega arith })))

expression-agrees : (r1 r2 : Rules) (s : Machine) → Below r1 r2 (measure Expression s) → Agree (expression r1 s) (expression r2 s) (λ answer. Fewer (left s))
expression-agrees r1 r2 s h =
    agree-then (h.at Primary s (omega arith)) (λ v t p.
    weaker (h.at (ExpressionFrom v equals.Compares) t (omega arith)) (λ answer u q. record { went = omega arith }))

-- EQUATIONS AND ASSIGNMENTS

side_from-agrees : (r1 r2 : Rules) (begun : Side) (m : ℕ) (s : Machine) → 64 * left s + 10 < m → Below r1 r2 m
    → Agree (side_from r1 begun s) (side_from r2 begun s) (λ answer. FewerBy (left s + used_by_side begun) (used_by_side answer))
side_from-agrees r1 r2 (side.Target to) m s c h = given (side.Target to) s (λ answer. FewerBy (left s + 1) (used_by_side answer)) (record { went = omega arith })
side_from-agrees r1 r2 (side.Value v) m s c h =
    agree-then (h.at (ExpressionFrom v equals.Ends) s (omega arith)) (λ w t p.
    given (side.Value w) t (λ answer. FewerBy (left s + 0) (used_by_side answer)) (record { went = omega arith }))

chain_side-agrees : (r1 r2 : Rules) (s : Machine) → Below r1 r2 (measure ChainSide s)
    → Agree (chain_side r1 s) (chain_side r2 s) (λ answer. FewerBy (left s) (used_by_side answer))
chain_side-agrees r1 r2 s h =
    agree-then (h.at Leading s (omega arith)) (λ begun t p.
    weaker (side_from-agrees r1 r2 begun _ t (omega arith) h) (λ answer u q. record { went = omega arith }))

-- a front was used for the last side, or the sign behind it is one
chain_on-agrees : (r1 r2 : Rules) (before : List Side) (b m : ℕ) (s : Machine) → coming s + 1 ≤ b → 64 * b + 12 ≤ m → Below r1 r2 m
    → Agree (chain_on r1 before s) (chain_on r2 before s) (λ answer. Fewer b)
chain_on-agrees r1 r2 before b m s e c h =
    agree-then (h.at NextFront s (omega arith)) (λ next t q.
    agree-then (h.at ChainSide t (omega arith)) (λ last u a.
    weaker (h.at (ChainRest before last) u (omega arith)) (λ answer w d. record { went = omega arith })))

chain_end-agrees : (before : List Side) (v : Value) (s : Machine) → Agree (chain_end before v s) (chain_end before v s) (λ answer. Fewer (left s))
chain_end-agrees before v s =
    agree-then (acted (settle before v s.acts) s) (λ done t e.
    given (lone_or_vacuous before v) t (λ answer. Fewer (left s)) (record { went = omega arith }))

value_word-agrees : (r1 r2 : Rules) (before : List Side) (v : Value) (symbol : ℕ) (w : Word) (m : ℕ) (s : Machine) → 1 ≤ weight s.front → 64 * left s + 12 ≤ m
    → Below r1 r2 m
    → Agree (chain_by r1 before (side.Value v) (front.Word symbol w) s) (chain_by r2 before (side.Value v) (front.Word symbol w) s) (λ answer. Fewer (left s))
value_word-agrees r1 r2 before v symbol word.Equals m s e c h = chain_on-agrees r1 r2 (side.Value v ∷ before) (left s) m s (omega arith) c h
value_word-agrees r1 r2 before v symbol w m s e c h = chain_end-agrees before v s

chain_by-agrees : (r1 r2 : Rules) (before : List Side) (last : Side) (x : Front) (m : ℕ) (s : Machine) → weight x ≤ weight s.front
    → 64 * (left s + used_by_side last) + 12 ≤ m → Below r1 r2 m
    → Agree (chain_by r1 before last x s) (chain_by r2 before last x s) (λ answer. Fewer (left s + used_by_side last))
chain_by-agrees r1 r2 before (side.Target to) x m s e c h = chain_on-agrees r1 r2 (side.Target to ∷ before) (left s + 1) m s (omega arith) c h
chain_by-agrees r1 r2 before (side.Value v) (front.Word symbol w) m s e c h = weaker (value_word-agrees r1 r2 before v symbol w m s e (omega arith) h) (λ answer t p. record { went = omega arith })
chain_by-agrees r1 r2 before (side.Value v) x m s e c h = weaker (chain_end-agrees before v s) (λ answer t p. record { went = omega arith })

chain-agrees : (r1 r2 : Rules) (s : Machine) → Below r1 r2 (measure Chain s) → Agree (chain r1 s) (chain r2 s) (λ answer. Fewer (left s))
chain-agrees r1 r2 s h =
    agree-then (h.at ChainSide s (omega arith)) (λ first t p.
    weaker (h.at (ChainRest [] first) t (omega arith)) (λ answer u q. record { went = omega arith }))

-- COMMANDS

-- behind a phrase of a list: a comma and more, or the end
show_by-agrees : (r1 r2 : Rules) (x : Front) (m : ℕ) (s : Machine) → weight x ≤ weight s.front → 64 * left s ≤ m → Below r1 r2 m
    → Agree (show_by r1 x s) (show_by r2 x s) (λ answer. Fewer (left s))
show_by-agrees r1 r2 (front.Word symbol word.Comma) m s e c h = weaker (h.at ShowList s (omega arith)) (λ done t p. record { went = omega arith })
show_by-agrees r1 r2 x m s e c h = given tt s (λ answer. Fewer (left s)) (record { went = omega arith })

show_list-agrees : (r1 r2 : Rules) (s : Machine) → Below r1 r2 (measure ShowList s) → Agree (show_list r1 s) (show_list r2 s) (λ answer. Fewer (coming s))
show_list-agrees r1 r2 s h =
    agree-then (next_expression-agrees r1 r2 _ s (omega arith) h) (λ v t p.
    agree-then (acted (show v t.acts) t) (λ shown u e.
    weaker (show_by-agrees r1 r2 u.front _ u (omega arith) (omega arith) h) (λ done w q. record { went = omega arith })))

symbols_by-agrees : (r1 r2 : Rules) (k : SymbolCommand) (x : Front) (m : ℕ) (s : Machine) → weight x ≤ weight s.front → 64 * left s ≤ m → Below r1 r2 m
    → Agree (symbols_by r1 k x s) (symbols_by r2 k x s) (λ answer. Fewer (left s))
symbols_by-agrees r1 r2 k (front.Word symbol word.Comma) m s e c h = weaker (h.at (SymbolList k) s (omega arith)) (λ done t p. record { went = omega arith })
symbols_by-agrees r1 r2 k x m s e c h = given tt s (λ answer. Fewer (left s)) (record { went = omega arith })

symbol_list-agrees : (r1 r2 : Rules) (k : SymbolCommand) (s : Machine) → Below r1 r2 (measure (SymbolList k) s)
    → Agree (symbol_list r1 k s) (symbol_list r2 k s) (λ answer. Fewer (coming s))
symbol_list-agrees r1 r2 k s h =
    agree-then (raw_symbol-agrees r1 r2 _ s (omega arith) h) (λ symbol t p.
    let changed : Machine = record t { acts = with_each k symbol t.acts } in
    agree-then (h.at NextFront changed (omega arith)) (λ next u q.
    weaker (symbols_by-agrees r1 r2 k u.front _ u (omega arith) (omega arith) h) (λ done w a. record { went = omega arith })))

shape_on-agrees : (r1 r2 : Rules) (parts : List Shape) (p : Shape) (b m : ℕ) (s : Machine) → coming s + 1 ≤ b → 64 * b + 1 ≤ m → Below r1 r2 m
    → Agree (shape_on r1 parts p s) (shape_on r2 parts p s) (λ answer. Fewer b)
shape_on-agrees r1 r2 parts p b m s q c h =
    agree-then (room-agrees (length parts) s) (λ room t a.
    agree-then (h.at NextFront t (omega arith)) (λ next u e.
    weaker (h.at (DeclaredName (parts ++ p ∷ [])) u (omega arith)) (λ answer w d. record { went = omega arith })))

empty-agrees : (x : Front) (s : Machine) → Agree (empty_by x s) (empty_by x s) (λ y. AsMany s)
empty-agrees (front.Word symbol word.RightBracket) s = given tt s (λ y. AsMany s) (record { went = refl; hand = refl })
empty-agrees x s = stopped (Refused error.BadDeclaration) s (λ y. AsMany s) tt

name_word-agrees : (r1 r2 : Rules) (parts : List Shape) (symbol : ℕ) (w : Word) (m : ℕ) (s : Machine) → 1 ≤ weight s.front → 64 * left s + 1 ≤ m → Below r1 r2 m
    → Agree (name_by r1 parts (front.Word symbol w) s) (name_by r2 parts (front.Word symbol w) s) (λ answer. Fewer (left s))
name_word-agrees r1 r2 parts symbol word.LeftBracket m s e c h =
    agree-then (h.at NextFront s (omega arith)) (λ next t p.
    agree-then (empty-agrees t.front t) (λ closed u q.
    shape_on-agrees r1 r2 parts shape.Any (left s) m u (omega arith) c h))
name_word-agrees r1 r2 parts symbol w m s e c h = given parts s (λ answer. Fewer (left s)) (record { went = omega arith })

name_by-agrees : (r1 r2 : Rules) (parts : List Shape) (x : Front) (m : ℕ) (s : Machine) → weight x ≤ weight s.front → 64 * left s + 1 ≤ m → Below r1 r2 m
    → Agree (name_by r1 parts x s) (name_by r2 parts x s) (λ answer. Fewer (left s))
name_by-agrees r1 r2 parts (front.Tag symbol) m s e c h = shape_on-agrees r1 r2 parts (shape.Sym symbol) (left s) m s (omega arith) c h
name_by-agrees r1 r2 parts (front.Internal symbol k) m s e c h = shape_on-agrees r1 r2 parts (shape.Sym symbol) (left s) m s (omega arith) c h
name_by-agrees r1 r2 parts (front.Number n) m s e c h = stopped (Refused error.BadDeclaration) s (λ answer. Fewer (left s)) tt
name_by-agrees r1 r2 parts (front.Word symbol w) m s e c h = name_word-agrees r1 r2 parts symbol w m s e c h
name_by-agrees r1 r2 parts x m s e c h = given parts s (λ answer. Fewer (left s)) (record { went = omega arith })

type_by-agrees : (r1 r2 : Rules) (k : Kind) (x : Front) (m : ℕ) (s : Machine) → weight x ≤ weight s.front → 64 * left s ≤ m → Below r1 r2 m
    → Agree (type_by r1 k x s) (type_by r2 k x s) (λ answer. Fewer (left s))
type_by-agrees r1 r2 k (front.Word symbol word.Comma) m s e c h = weaker (h.at (TypeList k) s (omega arith)) (λ done t p. record { went = omega arith })
type_by-agrees r1 r2 k x m s e c h = given tt s (λ answer. Fewer (left s)) (record { went = omega arith })

type_list-agrees : (r1 r2 : Rules) (k : Kind) (s : Machine) → Below r1 r2 (measure (TypeList k) s)
    → Agree (type_list r1 k s) (type_list r2 k s) (λ answer. Fewer (coming s))
type_list-agrees r1 r2 k s h =
    agree-then (raw_symbol-agrees r1 r2 _ s (omega arith) h) (λ symbol t p.
    agree-then (h.at NextFront t (omega arith)) (λ next u q.
    agree-then (h.at (DeclaredName []) u (omega arith)) (λ name w a.
    agree-then (acted (declare symbol name k w.acts) w) (λ declared y e.
    weaker (type_by-agrees r1 r2 k y.front _ y (omega arith) (omega arith) h) (λ done z d. record { went = omega arith })))))

equals_by-agrees : (b : Bool) (x : Raw) (s : Machine) → Agree (equals_by b x s) (equals_by b x s) (λ y. AsMany s)
equals_by-agrees true x s = given tt s (λ y. AsMany s) (record { went = refl; hand = refl })
equals_by-agrees false x s = stopped (refused_raw (codes "=") x s) s (λ y. AsMany s) tt

equals_in-agrees : (x : Raw) (s : Machine) → Agree (equals_in x s) (equals_in x s) (λ y. AsMany s)
equals_in-agrees (raw.Symbol symbol) s = equals_by-agrees (is_equals (symbol_meaning s.acts symbol)) (raw.Symbol symbol) s
equals_in-agrees raw.EndOfText s = stopped (refused_raw (codes "symbol") raw.EndOfText s) s (λ y. AsMany s) tt
equals_in-agrees raw.Number s = stopped (refused_raw (codes "=") raw.Number s) s (λ y. AsMany s) tt
equals_in-agrees raw.Value s = stopped (refused_raw (codes "=") raw.Value s) s (λ y. AsMany s) tt
equals_in-agrees raw.Text s = stopped (refused_raw (codes "=") raw.Text s) s (λ y. AsMany s) tt

raw_equals-agrees : (r1 r2 : Rules) (m : ℕ) (s : Machine) → 64 * coming s < m → Below r1 r2 m
    → Agree (raw_equals r1 s) (raw_equals r2 s) (λ symbol. Fewer (coming s))
raw_equals-agrees r1 r2 m s p h =
    agree-then (h.at NextRaw s (omega arith)) (λ x t q.
    weaker (equals_in-agrees x t) (λ y u e. record { went = omega arith }))

let_equal-agrees : (r1 r2 : Rules) (m : ℕ) (s : Machine) → 64 * coming s < m → Below r1 r2 m
    → Agree (let_equal r1 s) (let_equal r2 s) (λ answer. Fewer (coming s))
let_equal-agrees r1 r2 m s c h =
    agree-then (raw_symbol-agrees r1 r2 _ s (omega arith) h) (λ symbol t p.
    agree-then (raw_equals-agrees r1 r2 _ t (omega arith) h) (λ sign u q.
    agree-then (raw_symbol-agrees r1 r2 _ u (omega arith) h) (λ other w a.
    let done : Machine = record w { acts = let_symbol symbol other w.acts } in
    given tt done (λ answer. Fewer (coming s)) (record { went = omega arith }))))

delimiter_pair-agrees : (r1 r2 : Rules) (m : ℕ) (s : Machine) → 64 * coming s < m → Below r1 r2 m
    → Agree (delimiter_pair r1 s) (delimiter_pair r2 s) (λ answer. Fewer (coming s))
delimiter_pair-agrees r1 r2 m s c h =
    agree-then (raw_symbol-agrees r1 r2 _ s (omega arith) h) (λ begin t p.
    agree-then (raw_symbol-agrees r1 r2 _ t (omega arith) h) (λ end u q.
    let done : Machine = record u { acts = delimiters begin end u.acts } in
    given tt done (λ answer. Fewer (coming s)) (record { went = omega arith })))

-- the next front, behind what used the fronts before it
then_next-agrees : (r1 r2 : Rules) (a1 a2 : Rule (Unit {0})) (m : ℕ) (s : Machine) → 64 * coming s < m → Below r1 r2 m
    → Agree (a1 s) (a2 s) (λ done. Fewer (coming s)) → Agree (then_next r1 a1 s) (then_next r2 a2 s) (λ answer. Fewer (coming s))
then_next-agrees r1 r2 a1 a2 m s c h a =
    agree-then a (λ done t p. weaker (h.at NextFront t (omega (arith, p.went))) (λ next u q. record { went = omega (arith, p.went, q.went) }))

internal_in-agrees : (x : Front) (s : Machine) → Agree (internal_in x s) (internal_in x s) (λ k. AsMany s)
internal_in-agrees (front.Internal symbol k) s = given k s (λ y. AsMany s) (record { went = refl; hand = refl })
internal_in-agrees x s = stopped (refused_front (codes "symbol") s) s (λ y. AsMany s) tt

internal_name-agrees : (r1 r2 : Rules) (m : ℕ) (s : Machine) → 64 * coming s < m → Below r1 r2 m
    → Agree (internal_name r1 s) (internal_name r2 s) (λ k. Fewer (coming s))
internal_name-agrees r1 r2 m s p h =
    agree-then (h.at NextFront s (omega arith)) (λ next t q.
    weaker (internal_in-agrees t.front t) (λ k u e. record { went = omega arith }))

assign_in-agrees : (x : Front) (s : Machine) → Agree (assign_in x s) (assign_in x s) (λ k. AsMany s)
assign_in-agrees (front.Word symbol word.Assign) s = given tt s (λ y. AsMany s) (record { went = refl; hand = refl })
assign_in-agrees x s = stopped (refused_front (codes ":=") s) s (λ y. AsMany s) tt

assign_sign-agrees : (r1 r2 : Rules) (m : ℕ) (s : Machine) → 64 * coming s < m → Below r1 r2 m
    → Agree (assign_sign r1 s) (assign_sign r2 s) (λ y. Fewer (coming s))
assign_sign-agrees r1 r2 m s p h =
    agree-then (h.at NextFront s (omega arith)) (λ next t q.
    weaker (assign_in-agrees t.front t) (λ y u e. record { went = omega arith }))

interim-agrees : (r1 r2 : Rules) (m : ℕ) (s : Machine) → 64 * coming s + 11 < m → Below r1 r2 m
    → Agree (interim_value r1 s) (interim_value r2 s) (λ answer. Fewer (coming s))
interim-agrees r1 r2 m s c h =
    agree-then (internal_name-agrees r1 r2 m s (omega arith) h) (λ k t p.
    agree-then (assign_sign-agrees r1 r2 m t (omega arith) h) (λ sign u q.
    agree-then (next_expression-agrees r1 r2 m u (omega arith) h) (λ v y b.
    weaker (acted (interim k v y.acts) y) (λ done z e. record { went = omega arith }))))

spoken-agrees : (r1 r2 : Rules) (speech : Speech) (m : ℕ) (s : Machine) → 64 * coming s + 11 < m → Below r1 r2 m
    → Agree (spoken r1 speech s) (spoken r2 speech s) (λ answer. Fewer (coming s))
spoken-agrees r1 r2 speech m s c h =
    agree-then (next_expression-agrees r1 r2 m s c h) (λ v u q.
    weaker (acted (speak speech v u.acts) u) (λ done w e. record { went = omega arith }))

command-agrees : (r1 r2 : Rules) (c : Command) (s : Machine) → Below r1 r2 (measure (CommandRest c) s)
    → Agree (command_rest r1 c s) (command_rest r2 c s) (λ answer. Fewer (coming s))
command-agrees r1 r2 command.Show s h = h.at ShowList s (omega arith)
command-agrees r1 r2 (command.Symbols k) s h = h.at (SymbolList k) s (omega arith)
command-agrees r1 r2 command.Interim s h = interim-agrees r1 r2 _ s (omega arith) h
command-agrees r1 r2 command.Let s h = then_next-agrees r1 r2 (let_equal r1) (let_equal r2) _ s (omega arith) h (let_equal-agrees r1 r2 _ s (omega arith) h)
command-agrees r1 r2 command.Delimiters s h = then_next-agrees r1 r2 (delimiter_pair r1) (delimiter_pair r2) _ s (omega arith) h (delimiter_pair-agrees r1 r2 _ s (omega arith) h)
command-agrees r1 r2 (command.Speech speech) s h = spoken-agrees r1 r2 speech _ s (omega arith) h
command-agrees r1 r2 (command.Mode m) s h = h.at NextFront s (omega arith)
command-agrees r1 r2 (command.Type k) s h = h.at (TypeList k) s (omega arith)

-- DEFINITIONS

-- items were taken, and no front
pub record Later (s t : Machine) : Type 0 where
  pub went : left t ≤ left s
  pub hand : weight t.front ≡ weight s.front

read_in-agrees : (s : Machine) (o : outcomes.Outcome Reading (Unit {0})) → Agree (read_in s o) (read_in s o) (λ r. AsMany s)
read_in-agrees s (Ok done) = record { same = refl; went = record { went = refl; hand = refl } }
read_in-agrees s (Err refused) = record { same = refl; went = tt }

taken_read-agrees : (r : Reading) (x : Option Pending) (s : Machine) → Agree (taken_read r x s) (taken_read r x s) (λ now. AsMany s)
taken_read-agrees r None s = stopped (Refused error.FileEndedInText) s (λ now. AsMany s) tt
taken_read-agrees r (Some (pending.Item x)) s = read_in-agrees s (read_item s.acts.symbols.names x r)
taken_read-agrees r (Some (pending.Turn turn)) s = given r s (λ now. AsMany s) (record { went = refl; hand = refl })

one_read : (x : Option Pending) (s t u : Machine) → TookOne x s t → AsMany t u → Later s u
one_read x s t u p e = let same = ap weight p.hand in record { went = omega (arith, p.went, e.went, same); hand = e.hand ∙ same }

read_on-agrees : (text : List Pending) (r : Reading) (s : Machine) → Agree (read_on text r s) (read_on text r s) (λ now. Later s)
unfolding read_on
read_on-agrees [] r s = agree-then (took s) (λ x t p. weaker (taken_read-agrees r x t) (λ now u e. one_read x s t u p e))
read_on-agrees (x ∷ text) r s =
    agree-then (took s) (λ y t p.
    agree-then (taken_read-agrees r y t) (λ now u e.
    let later = one_read y s t u p e in
    elim (is_whole now) as (λ b. Agree (unless_whole b now (read_on text now) u) (unless_whole b now (read_on text now) u) (λ last. Later s)) [
      | true ↦ given now u (λ last. Later s) later
      | false ↦ weaker (read_on-agrees text now u) (λ last v q. record { went = omega (arith, later.went, q.went); hand = q.hand ∙ later.hand })
    ]))

definition-agrees : (w : Definition) (s : Machine) → Agree (definition w s) (definition w s) (λ answer. Fewer (coming s))
definition-agrees w s =
    let used : Machine = see front.EndOfText s in
    agree-then (read_on-agrees used.expander.text (start w group_symbols) used) (λ r t p.
    weaker (acted (define (defined r) t.acts) t) (λ done u e. record { went = omega (arith, p.went, e.went) }))

-- STATEMENTS

chain_if-agrees : (r1 r2 : Rules) (begins : Bool) (m : ℕ) (s : Machine) → 64 * left s + 14 ≤ m → Below r1 r2 m
    → Agree (chain_if r1 begins s) (chain_if r2 begins s) (λ answer. Fewer (left s))
chain_if-agrees r1 r2 true m s c h = h.at Chain s (omega arith)
chain_if-agrees r1 r2 false m s c h = stopped (refused_front (codes "statement") s) s (λ answer. Fewer (left s)) tt

statement_word-agrees : (r1 r2 : Rules) (symbol : ℕ) (w : Word) (m : ℕ) (s : Machine) → 1 ≤ weight s.front → 64 * left s + 14 ≤ m → Below r1 r2 m
    → Agree (statement_by r1 (front.Word symbol w) s) (statement_by r2 (front.Word symbol w) s) (λ answer. Fewer (left s))
statement_word-agrees r1 r2 symbol word.Semicolon m s e c h = given value.Vacuous s (λ answer. Fewer (left s)) (record { went = omega arith })
statement_word-agrees r1 r2 symbol word.Endgroup m s e c h = given value.Vacuous s (λ answer. Fewer (left s)) (record { went = omega arith })
statement_word-agrees r1 r2 symbol word.End m s e c h = given value.Vacuous s (λ answer. Fewer (left s)) (record { went = omega arith })
statement_word-agrees r1 r2 symbol (word.Command k) m s e c h =
    agree-then (h.at (CommandRest k) s (omega arith)) (λ done t p.
    given value.Vacuous t (λ answer. Fewer (left s)) (record { went = omega arith }))
statement_word-agrees r1 r2 symbol (word.Definition w) m s e c h =
    agree-then (then_next-agrees r1 r2 (definition w) (definition w) m s (omega arith) h (definition-agrees w s)) (λ done t p.
    given value.Vacuous t (λ answer. Fewer (left s)) (record { went = omega arith }))
statement_word-agrees r1 r2 symbol w m s e c h = chain_if-agrees r1 r2 (begins_primary (front.Word symbol w)) m s c h

statement_by-agrees : (r1 r2 : Rules) (x : Front) (m : ℕ) (s : Machine) → weight x ≤ weight s.front → 64 * left s + 14 ≤ m → Below r1 r2 m
    → Agree (statement_by r1 x s) (statement_by r2 x s) (λ answer. Fewer (left s))
statement_by-agrees r1 r2 (front.Word symbol w) m s e c h = statement_word-agrees r1 r2 symbol w m s e c h
statement_by-agrees r1 r2 front.EndOfText m s e c h = given value.Vacuous s (λ answer. Fewer (left s)) (record { went = omega arith })
statement_by-agrees r1 r2 x m s e c h = chain_if-agrees r1 r2 (begins_primary x) m s c h

alone-agrees : (v : Value) (s : Machine) → Agree (may_stand_alone v s) (may_stand_alone v s) (λ y. AsMany s)
alone-agrees value.Vacuous s = given tt s (λ y. AsMany s) (record { went = refl; hand = refl })
alone-agrees (value.Text bytes) s = given tt s (λ y. AsMany s) (record { went = refl; hand = refl })
alone-agrees (value.Unset kind.Text slot) s = given tt s (λ y. AsMany s) (record { went = refl; hand = refl })
alone-agrees (value.Unset k slot) s = stopped (refused_front (codes "=") s) s (λ y. AsMany s) tt
alone-agrees (value.Numeric p) s = stopped (refused_front (codes "=") s) s (λ y. AsMany s) tt
alone-agrees (value.Boolean b) s = stopped (refused_front (codes "=") s) s (λ y. AsMany s) tt

more_word-agrees : (r1 r2 : Rules) (symbol : ℕ) (w : Word) (m : ℕ) (s : Machine) → 1 ≤ weight s.front → 64 * left s + 13 ≤ m → Below r1 r2 m
    → Agree (more_by r1 (front.Word symbol w) s) (more_by r2 (front.Word symbol w) s) (λ answer. Fewer (left s))
more_word-agrees r1 r2 symbol word.Semicolon m s e c h =
    agree-then (h.at NextFront s (omega arith)) (λ next t q.
    weaker (h.at GroupStatements t (omega arith)) (λ v u a. record { went = omega arith }))
more_word-agrees r1 r2 symbol word.End m s e c h = stopped (refused_front (codes "endgroup") s) s (λ answer. Fewer (left s)) tt
more_word-agrees r1 r2 symbol w m s e c h = stopped (refused_front (codes ";") s) s (λ answer. Fewer (left s)) tt

more_by-agrees : (r1 r2 : Rules) (x : Front) (m : ℕ) (s : Machine) → weight x ≤ weight s.front → 64 * left s + 13 ≤ m → Below r1 r2 m
    → Agree (more_by r1 x s) (more_by r2 x s) (λ answer. Fewer (left s))
more_by-agrees r1 r2 (front.Word symbol w) m s e c h = more_word-agrees r1 r2 symbol w m s e c h
more_by-agrees r1 r2 front.EndOfText m s e c h = stopped (refused_front (codes "endgroup") s) s (λ answer. Fewer (left s)) tt
more_by-agrees r1 r2 x m s e c h = stopped (refused_front (codes ";") s) s (λ answer. Fewer (left s)) tt

-- where the statement is no end of the group
group_on-agrees : (r1 r2 : Rules) (v : Value) (m : ℕ) (s : Machine) → 64 * left s + 13 ≤ m → Below r1 r2 m
    → Agree ((may_stand_alone v >>= (λ alone. group_more r1)) s) ((may_stand_alone v >>= (λ alone. group_more r2)) s) (λ answer. Fewer (left s))
group_on-agrees r1 r2 v m s c h =
    agree-then (alone-agrees v s) (λ alone t q.
    weaker (more_by-agrees r1 r2 t.front m t (omega arith) (omega arith) h) (λ v u a. record { went = omega arith }))

group_word-agrees : (r1 r2 : Rules) (v : Value) (symbol : ℕ) (w : Word) (m : ℕ) (s : Machine) → 64 * left s + 13 ≤ m → Below r1 r2 m
    → Agree (group_by r1 v (front.Word symbol w) s) (group_by r2 v (front.Word symbol w) s) (λ answer. Fewer (left s))
group_word-agrees r1 r2 v symbol word.Endgroup m s c h = given v s (λ answer. Fewer (left s)) (record { went = omega arith })
group_word-agrees r1 r2 v symbol w m s c h = group_on-agrees r1 r2 v m s c h

group_by-agrees : (r1 r2 : Rules) (v : Value) (x : Front) (m : ℕ) (s : Machine) → 64 * left s + 13 ≤ m → Below r1 r2 m
    → Agree (group_by r1 v x s) (group_by r2 v x s) (λ answer. Fewer (left s))
group_by-agrees r1 r2 v (front.Word symbol w) m s c h = group_word-agrees r1 r2 v symbol w m s c h
group_by-agrees r1 r2 v x m s c h = group_on-agrees r1 r2 v m s c h

group_statements-agrees : (r1 r2 : Rules) (s : Machine) → Below r1 r2 (measure GroupStatements s)
    → Agree (group_statements r1 s) (group_statements r2 s) (λ answer. Fewer (left s))
group_statements-agrees r1 r2 s h =
    agree-then (h.at Statement s (omega arith)) (λ v t p.
    weaker (group_by-agrees r1 r2 v t.front _ t (omega arith) h) (λ answer u q. record { went = omega arith }))

end_word-agrees : (r1 r2 : Rules) (symbol : ℕ) (w : Word) (m : ℕ) (s : Machine) → 1 ≤ weight s.front → 64 * left s + 13 ≤ m → Below r1 r2 m
    → Agree (end_by r1 (front.Word symbol w) s) (end_by r2 (front.Word symbol w) s) (λ y. Fewer (left s))
end_word-agrees r1 r2 symbol word.Semicolon m s e c h =
    agree-then (h.at NextFront s (omega arith)) (λ next t q.
    weaker (h.at Statements t (omega arith)) (λ y u a. record { went = omega arith }))
end_word-agrees r1 r2 symbol word.End m s e c h = given tt s (λ y. Fewer (left s)) (record { went = omega arith })
end_word-agrees r1 r2 symbol word.Endgroup m s e c h = stopped (Refused error.LoneEndgroup) s (λ y. Fewer (left s)) tt
end_word-agrees r1 r2 symbol w m s e c h = stopped (refused_front (codes ";") s) s (λ y. Fewer (left s)) tt

end_by-agrees : (r1 r2 : Rules) (x : Front) (m : ℕ) (s : Machine) → weight x ≤ weight s.front → 64 * left s + 13 ≤ m → Below r1 r2 m
    → Agree (end_by r1 x s) (end_by r2 x s) (λ y. Fewer (left s))
end_by-agrees r1 r2 (front.Word symbol w) m s e c h = end_word-agrees r1 r2 symbol w m s e c h
end_by-agrees r1 r2 front.EndOfText m s e c h = given tt s (λ y. Fewer (left s)) (record { went = omega arith })
end_by-agrees r1 r2 x m s e c h = stopped (refused_front (codes ";") s) s (λ y. Fewer (left s)) tt

statements-agrees : (r1 r2 : Rules) (s : Machine) → Below r1 r2 (measure Statements s) → Agree (statements r1 s) (statements r2 s) (λ y. Fewer (left s))
statements-agrees r1 r2 s h =
    agree-then (h.at Statement s (omega arith)) (λ v t p.
    agree-then (alone-agrees v t) (λ alone u q.
    weaker (end_by-agrees r1 r2 u.front _ u (omega arith) (omega arith) h) (λ y w a. record { went = omega arith })))

-- THE MEANING

-- a rule that speaks of others only where they are one, is one
pub case-agrees : (r1 r2 : Rules) (what : What) (s : Machine) → Below r1 r2 (measure what s)
    → Agree (case r1 what s) (case r2 what s) (λ answer. FewerBy (from what s) (used_by (shape_of what) answer))
unfolding case
case-agrees r1 r2 NextFront s h = next_front-agrees r1 r2 s (record { at = λ w t below. h.at w t (omega arith) })
case-agrees r1 r2 NextRaw s h = next_raw-agrees r1 r2 s (record { at = λ w t below. h.at w t (omega arith) })
case-agrees r1 r2 (Asked w) s h = asked-agrees r1 r2 w s h
case-agrees r1 r2 (NumberThen n) s h = then_by-agrees r1 r2 n s.front _ s (omega arith) (omega arith) h
case-agrees r1 r2 (Factor v) s h = factor_by-agrees r1 r2 v (begins_factor s.front) _ s (omega arith) h
case-agrees r1 r2 (VariableName symbol) s h = variable_name-agrees r1 r2 symbol s h
case-agrees r1 r2 (NameFrom symbol root parts) s h = name_from_by-agrees r1 r2 symbol root parts (macro_named s.acts root parts) _ s (omega arith) h
case-agrees r1 r2 (Suffix parts) s h = suffix-agrees r1 r2 parts s h
case-agrees r1 r2 (SuffixBehind count parts) s h = suffix_behind-agrees r1 r2 count parts s h
case-agrees r1 r2 Group s h = group-agrees r1 r2 s h
case-agrees r1 r2 PrimaryInside s h = primary_by-agrees r1 r2 s.front _ s (omega arith) (omega arith) h
case-agrees r1 r2 Primary s h = primary-agrees r1 r2 s h
case-agrees r1 r2 LeadingInside s h = leading_by-agrees r1 r2 s.front _ s (omega arith) (omega arith) h
case-agrees r1 r2 Leading s h = leading-agrees r1 r2 s h
case-agrees r1 r2 (SecondaryRest v) s h = secondary_by-agrees r1 r2 v (secondary_in s.front) (operator_here level.Primary s) _ s refl refl (omega arith) h
case-agrees r1 r2 Secondary s h = secondary-agrees r1 r2 s h
case-agrees r1 r2 (TertiaryRest v) s h = tertiary_by-agrees r1 r2 v (tertiary_in s.front) (operator_here level.Secondary s) _ s refl refl (omega arith) h
case-agrees r1 r2 Tertiary s h = tertiary-agrees r1 r2 s h
case-agrees r1 r2 (ExpressionRest v e) s h = expression_by-agrees r1 r2 e v (joining_in e s.front) (operator_here level.Tertiary s) _ s refl refl (omega arith) h
case-agrees r1 r2 (ExpressionFrom v e) s h = expression_from-agrees r1 r2 v e s h
case-agrees r1 r2 Expression s h = expression-agrees r1 r2 s h
case-agrees r1 r2 ChainSide s h = chain_side-agrees r1 r2 s h
case-agrees r1 r2 (ChainRest before last) s h = chain_by-agrees r1 r2 before last s.front _ s (omega arith) (omega arith) h
case-agrees r1 r2 Chain s h = chain-agrees r1 r2 s h
case-agrees r1 r2 ShowList s h = show_list-agrees r1 r2 s h
case-agrees r1 r2 (SymbolList k) s h = symbol_list-agrees r1 r2 k s h
case-agrees r1 r2 (DeclaredName parts) s h = name_by-agrees r1 r2 parts s.front _ s (omega arith) (omega arith) h
case-agrees r1 r2 (TypeList k) s h = type_list-agrees r1 r2 k s h
case-agrees r1 r2 (CommandRest c) s h = command-agrees r1 r2 c s h
case-agrees r1 r2 Statement s h = statement_by-agrees r1 r2 s.front _ s (omega arith) (omega arith) h
case-agrees r1 r2 GroupStatements s h = group_statements-agrees r1 r2 s h
case-agrees r1 r2 Statements s h = statements-agrees r1 r2 s h

-- more rules inside one another than enough change nothing
pub rule-agrees : (n m : ℕ) (what : What) (s : Machine) → measure what s < n → measure what s < m
    → Agree (rule n what s) (rule m what s) (λ answer. FewerBy (from what s) (used_by (shape_of what) answer))
unfolding rule
rule-agrees zero m what s a b = absurd (omega arith)
rule-agrees (suc n) zero what s a b = absurd (omega arith)
rule-agrees (suc n) (suc m) what s a b =
    case-agrees (rule n) (rule m) what s (record { at = λ w t below. rule-agrees n m w t (omega arith) (omega arith) })

pub the_is : (what : What) (s : Machine) → the what s ≡ case the what s
unfolding the rule
the_is what s =
    let enough : measure what s < depth s = deep what s in
    (case-agrees (rule (depth s)) the what s (record { at = λ w t below. let more : measure w t < depth t = deep w t in rule-agrees (depth s) (suc (depth t)) w t (omega arith) (omega arith) })).same

-- how far each goes; and where it is out of steps, the budget is used up
pub the_went : (what : What) (s : Machine) → After (the what s) (λ answer. FewerBy (from what s) (used_by (shape_of what) answer))
unfolding the
the_went what s =
    let enough : measure what s < depth s = deep what s in
    (rule-agrees (suc (depth s)) (suc (depth s)) what s (omega arith) (omega arith)).went
