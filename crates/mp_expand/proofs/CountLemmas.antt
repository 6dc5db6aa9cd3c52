-- On the count of items that were taken: each step but the end of the text is one of them.
use Rattle.std.proofs.Common.{◌≡◌, ◌≢◌, ◌≤◌, ◌+◌, ◌-◌, ◌∙◌, ℕ, zero, suc, List, [], ◌∷◌, Option, Some, None, Ok, Err, Bool, true, false, refl, arith}
use Rattle.std.specs.Prelude.{⊤, nat_lt, if◌then◌else◌}
use Rattle.std.proofs.lemmas.Bool.Decides.{nat_tests}
use Rattle.mp_report.specs.declared.error.Cap.TheVariants as cap
use Rattle.mp_report.specs.declared.error.SourceError.TheVariants as error
use Rattle.mp_values.specs.Outcome.{Cause, OutcomeBy, then, Refused, OutOfSteps, Unread}
use Rattle.mp_values.specs.declared.item.Item.{Item}
use Rattle.mp_values.specs.declared.item.Item.TheVariants as item
use Rattle.mp_values.specs.declared.macros.Level.{Level}
use Rattle.mp_values.specs.declared.macros.Level.TheVariants as level
use Rattle.mp_values.specs.declared.macros.Macro.{Macro}
use Rattle.mp_values.specs.declared.macros.ParamKind.{ParamKind}
use Rattle.mp_values.specs.declared.macros.ParamKind.TheVariants as kind
use Rattle.mp_values.specs.declared.meaning.Delimiters.{Delimiters}
use Rattle.mp_values.specs.declared.meaning.Meaning.{Meaning}
use Rattle.mp_values.specs.declared.meaning.Meaning.TheVariants as meaning
use Rattle.mp_values.specs.declared.turn.Pending.{Pending}
use Rattle.mp_values.specs.declared.turn.Pending.TheVariants as pending
use Rattle.mp_values.specs.declared.word.Condition.{Condition}
use Rattle.mp_values.specs.declared.word.Condition.TheVariants as condition
use Rattle.mp_values.specs.declared.word.Word.{Word}
use Rattle.mp_values.specs.declared.word.Word.TheVariants as word
use Rattle.mp_expand.specs.Expansion.{Expansion, Rule, NewestAs, with_requests, reading, opening, asking}
use Rattle.mp_expand.specs.Steps.{take_first, take_from, enter}
use Rattle.mp_expand.specs.Fronts.{Table, meaning_of}
use Rattle.mp_expand.specs.Calls.{are_pair, argument_next, parameter_next, ask_for, ask, ask_last, argument, with_argument, go_on, go_on_by, call}
use Rattle.mp_expand.specs.Texts.{mark_of, text_ends, symbol_in_text, item_in_text, taken_in_text}
use Rattle.mp_expand.specs.Conditions.{colon, branch_by, branch, else_branch, met_in, condition_in, condition_skipped, symbol_skipped, item_skipped, skipped}
use Rattle.mp_expand.specs.Advance.{opened, front_of, opened_by, reached, reached_by, macro_by, word_expanded, symbol_expanded, item_expanded, expanded, read_by, taken_by, advance, comma_by, unclosed, right_by, delimited, of_by, behind, items_of, is_true, answered, answered_to, answered_by}
use Rattle.mp_expand.specs.Laws.{cost, cost_of_first, unused, IsRefused, IsSpent, Pays, IsFree, GoesOn, MayFollow, StepsAreCounted}
use Rattle.mp_expand.specs.declared.front.Front.{Front}
use Rattle.mp_expand.specs.declared.front.Front.TheVariants as front
use Rattle.mp_expand.specs.declared.limits.TheConstants.{NESTING_LIMIT}
use Rattle.mp_expand.specs.declared.request.Behind.{Behind}
use Rattle.mp_expand.specs.declared.request.Behind.TheVariants as behind_it
use Rattle.mp_expand.specs.declared.request.Call.{Call}
use Rattle.mp_expand.specs.declared.request.Delimited.{Delimited}
use Rattle.mp_expand.specs.declared.request.Delimited.TheVariants as between
use Rattle.mp_expand.specs.declared.request.Asker.{Asker}
use Rattle.mp_expand.specs.declared.request.Asker.TheVariants as asker
use Rattle.mp_expand.specs.declared.request.Branch.{Branch}
use Rattle.mp_expand.specs.declared.request.Branch.TheVariants as branch_of
use Rattle.mp_expand.specs.declared.request.Need.TheVariants as need
use Rattle.mp_expand.specs.declared.request.Opener.{Opener}
use Rattle.mp_expand.specs.declared.request.Opener.TheVariants as opener
use Rattle.mp_expand.specs.declared.request.Reader.{Reader}
use Rattle.mp_expand.specs.declared.request.Reader.TheVariants as reader
use Rattle.mp_expand.specs.declared.request.Request.{Request}
use Rattle.mp_expand.specs.declared.request.Request.TheVariants as request
use Rattle.mp_expand.specs.declared.request.Skip.{Skip}
use Rattle.mp_expand.specs.declared.request.Skip.TheVariants as skip
use Rattle.mp_expand.specs.declared.request.Until.{Until}
use Rattle.mp_expand.specs.declared.request.Until.TheVariants as until
use Rattle.mp_expand.specs.declared.step.Answer.{Answer}
use Rattle.mp_expand.specs.declared.step.Operand.{Operand}
use Rattle.mp_expand.specs.declared.step.Operand.TheVariants as operand
use Rattle.mp_expand.specs.declared.step.Step.{Step}
use Rattle.mp_expand.specs.declared.step.Step.TheVariants as step
use Rattle.mp_expand.specs.declared.step.Want.{Want}
use Rattle.mp_expand.specs.declared.step.Want.TheVariants as want
use Rattle.mp_expand.specs.declared.texts.Mark.{Mark}
use Rattle.mp_expand.specs.declared.texts.Mark.TheVariants as mark

-- FREE OUTCOMES

abbrev Done : {A : Type 0} → A → Type 0
Done x = ⊤

free_then : {A B : Type 0} (Q : A → Type 0) (R : B → Type 0) (s : Expansion) (o : OutcomeBy Cause Expansion A) (f : A → Rule B) → IsFree Q s o
    → ((x : A) (t : Expansion) → t.budget ≡ s.budget → t.steps ≡ s.steps → Q x → IsFree R s (f x t)) → IsFree R s ((then) o f)
free_then Q R s (Ok x) f h more = more x.0 x.1 h.0 h.1 h.2
free_then Q R s (Err e) f h more = h

-- what begins where as many were taken
free_from : {A : Type 0} (Q : A → Type 0) (s t : Expansion) (o : OutcomeBy Cause Expansion A) → t.budget ≡ s.budget → t.steps ≡ s.steps → IsFree Q t o → IsFree Q s o
free_from Q s t (Ok x) eb es h = (h.0 ∙ eb, h.1 ∙ es, h.2)
free_from Q s t (Err e) eb es h = (h.0 ∙ eb, h.1 ∙ es, h.2)

weaker : {A : Type 0} (Q R : A → Type 0) (s : Expansion) (o : OutcomeBy Cause Expansion A) → ((x : A) → Q x → R x) → IsFree Q s o → IsFree R s o
weaker Q R s (Ok x) k h = (h.0, h.1, k x.0 h.2)
weaker Q R s (Err e) k h = h

-- CALLS

entered_by : (b : Bool) (s : Expansion)
    → IsFree {A = Unit {0}} Done s (if b then Ok (tt, record s { nesting = s.nesting + 1 }) else Err (Refused (error.Limit cap.Nesting NESTING_LIMIT), s))
entered_by true s = (refl, refl, tt)
entered_by false s = (refl, refl, tt)

enter_free : (s : Expansion) → IsFree Done s (enter s)
unfolding enter
enter_free s = entered_by (nat_lt s.nesting NESTING_LIMIT) s

ask_for_free : (r : Request) (w : Want) (s : Expansion) → IsFree GoesOn s (ask_for r w s)
ask_for_free r w s = free_then Done GoesOn s (enter s) _ (enter_free s) (λ entered t eb es q. (eb, es, tt))

ask_free : (c : Call) (b : Behind) (w : Want) (s : Expansion) → IsFree GoesOn s (ask c b w s)
ask_free c b w s = ask_for_free (request.Call c (need.Answer b)) w s

argument_free : (c : Call) (pair : Delimiters) (k : Delimited) (s : Expansion) → IsFree GoesOn s (argument c pair k s)
argument_free c pair between.Expr s = ask_free c (behind_it.Delimiter pair) (want.Followed operand.Expression) s
argument_free c pair between.Suffix s = ask_free c (behind_it.Delimiter pair) (want.Followed operand.Suffix) s
argument_free c pair between.Text s = (refl, refl, tt)

last_free : (c : Call) (o : Operand) (s : Expansion) → IsFree GoesOn s (ask_last c o s)
last_free c o s = ask_free c behind_it.Anything (want.Last o) s

go_on_free : (c : Call) (k : Option ParamKind) (s : Expansion) → IsFree GoesOn s (go_on_by c k s)
go_on_free c None s = (refl, refl, tt)
go_on_free c (Some kind.Expr) s = (refl, refl, tt)
go_on_free c (Some kind.Suffix) s = (refl, refl, tt)
go_on_free c (Some kind.Text) s = (refl, refl, tt)
go_on_free c (Some kind.Primary) s = last_free c operand.Primary s
go_on_free c (Some kind.Secondary) s = last_free c operand.Secondary s
go_on_free c (Some kind.Tertiary) s = last_free c operand.Tertiary s
go_on_free c (Some kind.BareExpr) s = last_free c operand.Expression s
go_on_free c (Some kind.ExprOf) s = ask_free c behind_it.Of (want.Followed operand.Expression) s
go_on_free c (Some kind.BareSuffix) s = last_free c operand.Suffix s
go_on_free c (Some kind.BareText) s = (refl, refl, tt)

goes_on_free : (c : Call) (s : Expansion) → IsFree GoesOn s (go_on c s)
goes_on_free c s = go_on_free c (parameter_next c) s

call_free : (m : Macro) (got : List (List Item)) (s : Expansion) → IsFree GoesOn s (call m got s)
call_free m got s = goes_on_free (record { called = m; got = got; next = 0; text = [] }) s

-- AN ANSWER

no_word : (symbol : ℕ) (w : Word) → front.Word symbol w ≢ front.EndOfText
no_word symbol w e = cc

no_right : (symbol : ℕ) (pair : Delimiters) → front.Right symbol pair ≢ front.EndOfText
no_right symbol pair e = cc

-- behind a front that is not the end of the text
follows : (x : Front) → (x ≢ front.EndOfText) → (y : Step) → GoesOn y → MayFollow x y
follows x used step.More h = tt
follows x used (step.Want asked) h = used
follows x used other h = absurd h

comma_free : (symbol : ℕ) (w : Word) (c : Call) (pair : Delimiters) (k : Option Delimited) (s : Expansion) → IsFree (MayFollow (front.Word symbol w)) s (comma_by c pair k s)
comma_free symbol w c pair (Some k) s =
    weaker GoesOn (MayFollow (front.Word symbol w)) s (argument c pair k s) (follows (front.Word symbol w) (no_word symbol w)) (argument_free c pair k s)
comma_free symbol w c pair None s = (refl, refl, tt)

unclosed_free : (table : Table) (pair : Delimiters) (x : Front) (k : Option Delimited) (s : Expansion) → IsFree (MayFollow x) s (unclosed table pair x k s)
unclosed_free table pair x (Some k) s = (refl, refl, tt)
unclosed_free table pair x None s = (refl, refl, tt)

right_free : (b : Bool) (table : Table) (c : Call) (pair : Delimiters) (symbol : ℕ) (other : Delimiters) (s : Expansion)
    → IsFree (MayFollow (front.Right symbol other)) s (right_by b table c pair (front.Right symbol other) s)
right_free true table c pair symbol other s =
    weaker GoesOn (MayFollow (front.Right symbol other)) s (go_on c s) (follows (front.Right symbol other) (no_right symbol other)) (goes_on_free c s)
right_free false table c pair symbol other s = unclosed_free table pair (front.Right symbol other) (argument_next c) s

word_free : (table : Table) (c : Call) (pair : Delimiters) (symbol : ℕ) (w : Word) (s : Expansion)
    → IsFree (MayFollow (front.Word symbol w)) s (delimited table c pair (front.Word symbol w) s)
word_free table c pair symbol word.Comma s = comma_free symbol word.Comma c pair (argument_next c) s
word_free table c pair symbol w s = unclosed_free table pair (front.Word symbol w) (argument_next c) s

delimited_free : (table : Table) (c : Call) (pair : Delimiters) (x : Front) (s : Expansion) → IsFree (MayFollow x) s (delimited table c pair x s)
delimited_free table c pair (front.Word symbol w) s = word_free table c pair symbol w s
delimited_free table c pair (front.Right symbol other) s = right_free (are_pair pair other) table c pair symbol other s
delimited_free table c pair x s = unclosed_free table pair x (argument_next c) s

of_word_free : (table : Table) (c : Call) (symbol : ℕ) (w : Word) (s : Expansion) → IsFree (MayFollow (front.Word symbol w)) s (of_by table c (front.Word symbol w) s)
of_word_free table c symbol word.Of s =
    weaker GoesOn (MayFollow (front.Word symbol word.Of)) s (ask_last c operand.Primary s) (follows (front.Word symbol word.Of) (no_word symbol word.Of))
    (last_free c operand.Primary s)
of_word_free table c symbol w s = (refl, refl, tt)

of_free : (table : Table) (c : Call) (x : Front) (s : Expansion) → IsFree (MayFollow x) s (of_by table c x s)
of_free table c (front.Word symbol w) s = of_word_free table c symbol w s
of_free table c x s = (refl, refl, tt)

behind_free : (table : Table) (c : Call) (b : Behind) (x : Front) (s : Expansion) → IsFree (MayFollow x) s (behind table c b x s)
behind_free table c (behind_it.Delimiter pair) x s = delimited_free table c pair x s
behind_free table c behind_it.Of x s = of_free table c x s
behind_free table c behind_it.Anything x s = (refl, refl, tt)

-- a branch asks for nothing
abbrev IsMore : Step → Type 0
IsMore step.More = ⊤
IsMore other = ⊥

more_follows : (x : Front) (y : Step) → IsMore y → MayFollow x y
more_follows x step.More h = tt
more_follows x other h = absurd h

more_goes_on : (y : Step) → IsMore y → GoesOn y
more_goes_on step.More h = tt
more_goes_on other h = absurd h

branch_by_free : (truth : Bool) (s : Expansion) → IsFree IsMore s (branch_by truth s)
branch_by_free true s = (refl, refl, tt)
branch_by_free false s = (refl, refl, tt)

colon_word_free : (table : Table) (symbol : ℕ) (w : Word) (s : Expansion) → IsFree Done s (colon table (front.Word symbol w) s)
colon_word_free table symbol word.Colon s = (refl, refl, tt)
colon_word_free table symbol w s = (refl, refl, tt)

colon_free : (table : Table) (x : Front) (s : Expansion) → IsFree Done s (colon table x s)
colon_free table (front.Word symbol w) s = colon_word_free table symbol w s
colon_free table x s = (refl, refl, tt)

branch_free : (table : Table) (truth : Bool) (x : Front) (s : Expansion) → IsFree IsMore s (branch table truth x s)
branch_free table truth x s =
    free_then Done IsMore s (colon table x s) _ (colon_free table x s)
    (λ stands t eb es q. free_from IsMore s t (branch_by truth t) eb es (branch_by_free truth t))

else_branch_free : (table : Table) (x : Front) (s : Expansion) → IsFree IsMore s (else_branch table x s)
else_branch_free table x s = free_then Done IsMore s (colon table x s) _ (colon_free table x s) (λ stands t eb es q. (eb, es, tt))

answered_to_free : (table : Table) (a : Answer) (x : Front) (q : Asker) (s : Expansion) → IsFree (MayFollow x) s (answered_to table a x q s)
answered_to_free table a x (asker.Argument c b) s = behind_free table (with_argument (items_of a) c) b x s
answered_to_free table a x asker.Branch s =
    weaker IsMore (MayFollow x) s (branch table (is_true a) x s) (more_follows x) (branch_free table (is_true a) x s)

answered_by_free : (table : Table) (a : Answer) (x : Front) (newest : NewestAs Asker) (s : Expansion) → IsFree (MayFollow x) s (answered_by table a x newest s)
answered_by_free table a x (Some (q, rs)) s =
    let t : Expansion = record s { nesting = s.nesting - 1; requests = rs } in
    free_from (MayFollow x) s t (answered_to table a x q t) refl refl (answered_to_free table a x q t)
answered_by_free table a x None s = (refl, refl, tt)

answered_free : (table : Table) (a : Answer) (x : Front) (s : Expansion) → IsFree (MayFollow x) s (answered table a x s)
unfolding answered
answered_free table a x s = answered_by_free table a x (asking s.requests) s

-- AN ITEM THAT WAS TAKEN

-- a step that costs so much at most
abbrev Costs : ℕ → Step → Type 0
Costs n x = cost x ≤ n

cost_small : (x : Step) → cost x ≤ 1
cost_small step.More = omega arith
cost_small (step.Front (front.Number n)) = omega arith
cost_small (step.Front front.Text) = omega arith
cost_small (step.Front front.Capsule) = omega arith
cost_small (step.Front (front.Word symbol w)) = omega arith
cost_small (step.Front (front.Tag symbol)) = omega arith
cost_small (step.Front (front.Internal symbol k)) = omega arith
cost_small (step.Front (front.Operator symbol)) = omega arith
cost_small (step.Front (front.Left symbol pair)) = omega arith
cost_small (step.Front (front.Right symbol pair)) = omega arith
cost_small (step.Front front.EndOfText) = omega arith
cost_small (step.Text bytes) = omega arith
cost_small (step.Capsule v) = omega arith
cost_small (step.Want w) = omega arith

on_costs : (x : Step) → GoesOn x → Costs 1 x
on_costs x h = cost_small x

go_on_costs : (c : Call) (s : Expansion) → IsFree (Costs 1) s (go_on c s)
go_on_costs c s = weaker GoesOn (Costs 1) s (go_on c s) on_costs (goes_on_free c s)

text_ends_costs : (c : Call) (u : Until) (symbol : ℕ) (s : Expansion) → IsFree (Costs 1) s (text_ends c u symbol s)
text_ends_costs c (until.Delimiter pair) symbol s = go_on_costs (with_argument c.text c) s
text_ends_costs c until.Statement symbol s = (refl, refl, omega arith)

symbol_in_text_costs : (c : Call) (u : Until) (depth symbol : ℕ) (m : Mark) (s : Expansion) → IsFree (Costs 1) s (symbol_in_text c u depth symbol m s)
symbol_in_text_costs c u depth symbol mark.Begins s = (refl, refl, omega arith)
symbol_in_text_costs c u zero symbol mark.Ends s = text_ends_costs c u symbol s
symbol_in_text_costs c u (suc depth) symbol mark.Ends s = (refl, refl, omega arith)
symbol_in_text_costs c u zero symbol mark.Separates s = text_ends_costs c u symbol s
symbol_in_text_costs c u (suc depth) symbol mark.Separates s = (refl, refl, omega arith)
symbol_in_text_costs c u depth symbol mark.Stands s = (refl, refl, omega arith)

item_in_text_costs : (table : Table) (c : Call) (u : Until) (depth : ℕ) (x : Item) (s : Expansion) → IsFree (Costs 1) s (item_in_text table c u depth x s)
item_in_text_costs table c u depth (item.LineEnd place) s = (refl, refl, omega arith)
item_in_text_costs table c u depth item.FileEnd s = (refl, refl, tt)
item_in_text_costs table c u depth item.EndOfText s = (refl, refl, tt)
item_in_text_costs table c u depth (item.Bad cause) s = (refl, refl, tt)
item_in_text_costs table c u depth (item.Symbol symbol) s = symbol_in_text_costs c u depth symbol (mark_of u (meaning_of table symbol)) s
item_in_text_costs table c u depth x s = (refl, refl, omega arith)

taken_in_text_costs : (table : Table) (c : Call) (u : Until) (depth : ℕ) (x : Option Pending) (s : Expansion)
    → IsFree (Costs (cost_of_first x)) s (taken_in_text table c u depth x s)
taken_in_text_costs table c u depth (Some (pending.Item x)) s = item_in_text_costs table c u depth x s
taken_in_text_costs table c u depth (Some (pending.Turn turn)) s = (refl, refl, omega arith)
taken_in_text_costs table c u depth None s = (refl, refl, tt)

-- WORDS OF CONDITIONS

ask_costs : (r : Request) (w : Want) (s : Expansion) → IsFree (Costs 1) s (ask_for r w s)
ask_costs r w s = weaker GoesOn (Costs 1) s (ask_for r w s) on_costs (ask_for_free r w s)

met_costs : (w : Condition) (bs : List Branch) (s : Expansion) → IsFree (Costs 1) s (met_in w bs s)
met_costs condition.If bs s = ask_costs (request.Truth condition.If) (want.Followed (operand.Condition condition.If)) s
met_costs condition.Fi (b ∷ bs) s = (refl, refl, omega arith)
met_costs w (branch_of.BeforeElse ∷ bs) s = (refl, refl, omega arith)
met_costs w bs s = (refl, refl, tt)

condition_skipped_costs : (k : Skip) (depth : ℕ) (w : Condition) (s : Expansion) → IsFree (Costs 1) s (condition_skipped k depth w s)
condition_skipped_costs k depth condition.If s = (refl, refl, omega arith)
condition_skipped_costs k (suc depth) condition.Fi s = (refl, refl, omega arith)
condition_skipped_costs k zero condition.Fi s = (refl, refl, omega arith)
condition_skipped_costs skip.ToBranch zero condition.Elseif s =
    ask_costs (request.Truth condition.Elseif) (want.Followed (operand.Condition condition.Elseif)) s
condition_skipped_costs skip.ToBranch zero condition.Else s = (refl, refl, omega arith)
condition_skipped_costs k depth w s = (refl, refl, omega arith)

symbol_skipped_costs : (k : Skip) (depth : ℕ) (w : Option Condition) (s : Expansion) → IsFree (Costs 1) s (symbol_skipped k depth w s)
symbol_skipped_costs k depth (Some w) s = condition_skipped_costs k depth w s
symbol_skipped_costs k depth None s = (refl, refl, omega arith)

item_skipped_costs : (table : Table) (k : Skip) (depth : ℕ) (x : Item) (s : Expansion) → IsFree (Costs 1) s (item_skipped table k depth x s)
item_skipped_costs table k depth (item.Symbol symbol) s = symbol_skipped_costs k depth (condition_in (meaning_of table symbol)) s
item_skipped_costs table k depth item.FileEnd s = (refl, refl, tt)
item_skipped_costs table k depth item.EndOfText s = (refl, refl, tt)
item_skipped_costs table k depth (item.Bad cause) s = (refl, refl, tt)
item_skipped_costs table k depth x s = (refl, refl, omega arith)

skipped_costs : (table : Table) (k : Skip) (depth : ℕ) (x : Option Pending) (s : Expansion) → IsFree (Costs (cost_of_first x)) s (skipped table k depth x s)
skipped_costs table k depth (Some (pending.Item x)) s = item_skipped_costs table k depth x s
skipped_costs table k depth (Some (pending.Turn turn)) s = (refl, refl, omega arith)
skipped_costs table k depth None s = (refl, refl, tt)

-- what was reached costs what the item that it came of does, and what a left delimiter begins costs one
abbrev Affords : ℕ → Step → Type 0
Affords n (step.Front front.EndOfText) = ⊤
Affords n x = 1 ≤ n

affords_cost : (n : ℕ) (x : Step) → Affords n x → Costs n x
affords_cost n (step.Front front.EndOfText) h = omega arith
affords_cost n x h = h

opened_costs : (n : ℕ) (c : Call) (k : Delimited) (x : Step) (s : Expansion) → Affords n x → IsFree (Costs n) s (opened c k x s)
opened_costs n c k (step.Front (front.Left symbol pair)) s h =
    weaker GoesOn (Costs n) s (argument c pair k s) (λ y on. omega (arith, cost_small y, h)) (argument_free c pair k s)
opened_costs n c k x s h = (refl, refl, tt)

-- where an `else` meets the end of the text it is refused, and any other front is an item
else_branch_costs : (table : Table) (n : ℕ) (x : Step) (s : Expansion) → Affords n x → IsFree (Costs n) s (else_branch table (front_of x) s)
else_branch_costs table n (step.Front front.EndOfText) s h = (refl, refl, tt)
else_branch_costs table n x s h =
    weaker IsMore (Costs n) s (else_branch table (front_of x) s) (λ y more. omega (arith, cost_small y, h)) (else_branch_free table (front_of x) s)

opened_by_costs : (table : Table) (n : ℕ) (x : Step) (o : Opener) (s : Expansion) → Affords n x → IsFree (Costs n) s (opened_by table x o s)
opened_by_costs table n x (opener.Argument c k) s h = opened_costs n c k x s h
opened_by_costs table n x opener.Branch s h = else_branch_costs table n x s h

reached_by_costs : (table : Table) (n : ℕ) (x : Step) (newest : NewestAs Opener) (s : Expansion) → Affords n x → IsFree (Costs n) s (reached_by table x newest s)
reached_by_costs table n x (Some (o, rs)) s h =
    let t : Expansion = with_requests rs s in
    free_from (Costs n) s t (opened_by table x o t) refl refl (opened_by_costs table n x o t h)
reached_by_costs table n x None s h = (refl, refl, affords_cost n x h)

reached_costs : (table : Table) (n : ℕ) (x : Step) (s : Expansion) → Affords n x → IsFree (Costs n) s (reached table x s)
reached_costs table n x s h = reached_by_costs table n x (opening s.requests) s h

macro_costs : (table : Table) (symbol : ℕ) (m : Macro) (l : Level) (s : Expansion) → IsFree (Costs 1) s (macro_by table symbol m l s)
macro_costs table symbol m level.Plain s = weaker GoesOn (Costs 1) s (call m [] s) on_costs (call_free m [] s)
macro_costs table symbol m other s = reached_costs table 1 (step.Front (front.Operator symbol)) s (omega arith)

word_costs : (table : Table) (symbol : ℕ) (w : Word) (s : Expansion) → IsFree (Costs 1) s (word_expanded table symbol w s)
word_costs table symbol word.Backslash s = (refl, refl, omega arith)
word_costs table symbol (word.Condition w) s = met_costs w s.conditions s
word_costs table symbol w s = reached_costs table 1 (step.Front (front.Word symbol w)) s (omega arith)

symbol_costs : (table : Table) (symbol : ℕ) (m : Meaning) (s : Expansion) → IsFree (Costs 1) s (symbol_expanded table symbol m s)
symbol_costs table symbol (meaning.Word w) s = word_costs table symbol w s
symbol_costs table symbol (meaning.Unbuilt name) s = (refl, refl, tt)
symbol_costs table symbol meaning.NewTag s = reached_costs table 1 (step.Front (front.Tag symbol)) s (omega arith)
symbol_costs table symbol (meaning.Tag root) s = reached_costs table 1 (step.Front (front.Tag symbol)) s (omega arith)
symbol_costs table symbol (meaning.Internal k) s = reached_costs table 1 (step.Front (front.Internal symbol k)) s (omega arith)
symbol_costs table symbol (meaning.Left pair) s = reached_costs table 1 (step.Front (front.Left symbol pair)) s (omega arith)
symbol_costs table symbol (meaning.Right pair) s = reached_costs table 1 (step.Front (front.Right symbol pair)) s (omega arith)
symbol_costs table symbol (meaning.Macro m) s = macro_costs table symbol m m.level s

item_costs : (table : Table) (x : Item) (s : Expansion) → IsFree (Costs 1) s (item_expanded table x s)
item_costs table (item.Symbol symbol) s = symbol_costs table symbol (meaning_of table symbol) s
item_costs table (item.Number n) s = reached_costs table 1 (step.Front (front.Number n)) s (omega arith)
item_costs table (item.Text bytes) s = reached_costs table 1 (step.Text bytes) s (omega arith)
item_costs table (item.Bad cause) s = (refl, refl, tt)
item_costs table (item.Capsule v) s = reached_costs table 1 (step.Capsule v) s (omega arith)
item_costs table (item.Param n) s = (refl, refl, omega arith)
item_costs table (item.LineEnd place) s = (refl, refl, omega arith)
item_costs table item.FileEnd s = (refl, refl, omega arith)
item_costs table item.EndOfText s = (refl, refl, omega arith)

expanded_costs : (table : Table) (x : Option Pending) (s : Expansion) → IsFree (Costs (cost_of_first x)) s (expanded table x s)
expanded_costs table (Some (pending.Item x)) s = item_costs table x s
expanded_costs table (Some (pending.Turn turn)) s = (refl, refl, omega arith)
expanded_costs table None s = reached_costs table 0 (step.Front front.EndOfText) s tt

read_costs : (table : Table) (x : Option Pending) (r : Reader) (s : Expansion) → IsFree (Costs (cost_of_first x)) s (read_by table x r s)
read_costs table x (reader.Text c u depth) s = taken_in_text_costs table c u depth x s
read_costs table x (reader.Skip k depth) s = skipped_costs table k depth x s

taken_costs : (table : Table) (x : Option Pending) (newest : NewestAs Reader) (s : Expansion) → IsFree (Costs (cost_of_first x)) s (taken_by table x newest s)
taken_costs table x (Some (r, rs)) s =
    let t : Expansion = with_requests rs s in
    free_from (Costs (cost_of_first x)) s t (read_by table x r t) refl refl (read_costs table x r t)
taken_costs table x None s = expanded_costs table x s

-- THE NEXT ITEM

take_from_took : (text : List Pending) (s : Expansion) → Pays cost_of_first s (take_from text s)
take_from_took [] s = (refl, omega arith)
take_from_took (x ∷ text) s = grind (arith, nat_tests)

take_first_took : (s : Expansion) → Pays cost_of_first s (take_first s)
unfolding take_first
take_first_took s = take_from_took s.text s

refused_spent : (cause : Cause) (t : Expansion) → IsRefused cause → IsSpent cause t
refused_spent (Refused error) t h = tt
refused_spent OutOfSteps t h = absurd h
refused_spent (Unread name) t h = absurd h

paid : (n : ℕ) (s t : Expansion) (o : OutcomeBy Cause Expansion Step) → t.budget ≡ s.budget → unused t + n ≤ unused s → IsFree (Costs n) t o → Pays cost s o
paid n s t (Ok x) eb h free =
    let same : x.1.budget ≡ t.budget = free.0 in
    let steps : x.1.steps ≡ t.steps = free.1 in
    let small : cost x.0 ≤ n = free.2 in
    (same ∙ eb, omega arith)
paid n s t (Err e) eb h free =
    let same : e.1.budget ≡ t.budget = free.0 in
    let steps : e.1.steps ≡ t.steps = free.1 in
    (same ∙ eb, omega arith, refused_spent e.0 e.1 free.2)

pays_then : (s : Expansion) (o : OutcomeBy Cause Expansion (Option Pending)) (f : Option Pending → Rule Step) → Pays cost_of_first s o
    → ((x : Option Pending) (t : Expansion) → IsFree (Costs (cost_of_first x)) t (f x t)) → Pays cost s ((then) o f)
pays_then s (Ok x) f took free = paid (cost_of_first x.0) s x.1 (f x.0 x.1) took.0 took.1 (free x.0 x.1)
pays_then s (Err e) f took free = took

advance_pays : (table : Table) (s : Expansion) → Pays cost s (advance table s)
unfolding advance
advance_pays table s = pays_then s (take_first s) _ (take_first_took s) (λ x t. taken_costs table x (reading t.requests) t)

pub counted : StepsAreCounted
counted = record {
  taken = take_first_took;
  advanced = advance_pays;
  answered = answered_free;
  called = call_free;
  entered = enter_free;
}
