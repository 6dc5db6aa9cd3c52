-- On what an expansion holds: no step of it invents an item.
use Rattle.std.proofs.Common.{inl, inr, ◌+◌, ◌-◌, ℕ, zero, suc, List, [], ◌∷◌, ◌++◌, Option, Some, None, Ok, Err, Bool, true, false}
use Rattle.std.specs.Prelude.{⊤, drop, nat_lt, if◌then◌else◌, slice_get, unwrap_or}
use Rattle.std.specs.List.{All}
use Rattle.std.proofs.lemmas.List.Elements.{All-nil, All-cons, All-head, All-tail, All-push, All-append, All-map, All-same, All-drop}
use Rattle.mp_report.specs.declared.error.Cap.TheVariants as cap
use Rattle.mp_report.specs.declared.error.SourceError.TheVariants as error
use Rattle.mp_tokens.specs.declared.token.Token.{Token}
use Rattle.mp_values.specs.Items.{file_items}
use Rattle.mp_values.specs.Outcome.{Cause, OutcomeBy, then, Refused, OutOfSteps}
use Rattle.mp_values.specs.Substitution.{stands_for, substitute}
use Rattle.mp_values.specs.declared.item.Item.{Item}
use Rattle.mp_values.specs.declared.item.Item.TheVariants as item
use Rattle.mp_values.specs.declared.macros.Level.{Level}
use Rattle.mp_values.specs.declared.macros.Level.TheVariants as level
use Rattle.mp_values.specs.declared.macros.Macro.{Macro}
use Rattle.mp_values.specs.declared.macros.ParamKind.{ParamKind}
use Rattle.mp_values.specs.declared.macros.ParamKind.TheVariants as kind
use Rattle.mp_values.specs.declared.meaning.Delimiters.{Delimiters}
use Rattle.mp_values.specs.declared.meaning.Meaning.{Meaning}
use Rattle.mp_values.specs.declared.meaning.Meaning.TheVariants as meaning
use Rattle.mp_values.specs.declared.turn.Pending.{Pending}
use Rattle.mp_values.specs.declared.turn.Pending.TheVariants as pending
use Rattle.mp_values.specs.declared.word.Condition.{Condition}
use Rattle.mp_values.specs.declared.word.Condition.TheVariants as condition
use Rattle.mp_values.specs.declared.word.Word.{Word}
use Rattle.mp_values.specs.declared.word.Word.TheVariants as word
use Rattle.mp_input.specs.Lines.{items_pending, last_after}
use Rattle.mp_expand.specs.Expansion.{Expansion, Rule, IsRest, IsLeft, NewestAs, with_requests, reading, opening, asking}
use Rattle.mp_expand.specs.Steps.{take_first, take_from, enter, put_back, start}
use Rattle.mp_expand.specs.Fronts.{Table, meaning_of}
use Rattle.mp_expand.specs.Calls.{are_pair, argument_next, parameter_next, with_request, opens, ask_for, ask, ask_last, argument, with_argument, whole, go_on, go_on_by, call}
use Rattle.mp_expand.specs.Texts.{mark_of, with_item, text_ends, symbol_in_text, item_in_text, taken_in_text}
use Rattle.mp_expand.specs.Conditions.{with_conditions, pass, colon, branch_by, branch, else_branch, met_in, condition_in, condition_skipped, symbol_skipped, item_skipped, skipped}
use Rattle.mp_expand.specs.Advance.{opened, front_of, opened_by, reached, reached_by, macro_by, word_expanded, symbol_expanded, item_expanded, expanded, read_by, taken_by, advance, comma_by, unclosed, right_by, delimited, of_by, behind, items_of, is_true, answered, answered_to, answered_by}
use Rattle.mp_expand.specs.Holds.{HoldsPending, HoldsFirst, HoldsPair, HoldsBehind, HoldsUntil, HoldsNeed, HoldsCall, HoldsRequest, Holds, HoldsMeaning, HoldsTable, HoldsStep, HoldsAfter}
use Rattle.mp_expand.specs.Laws.{InventsNothingOf}
use Rattle.mp_expand.specs.declared.front.Front.{Front}
use Rattle.mp_expand.specs.declared.front.Front.TheVariants as front
use Rattle.mp_expand.specs.declared.limits.TheConstants.{NESTING_LIMIT}
use Rattle.mp_expand.specs.declared.request.Behind.{Behind}
use Rattle.mp_expand.specs.declared.request.Behind.TheVariants as behind_it
use Rattle.mp_expand.specs.declared.request.Call.{Call}
use Rattle.mp_expand.specs.declared.request.Delimited.{Delimited}
use Rattle.mp_expand.specs.declared.request.Delimited.TheVariants as between
use Rattle.mp_expand.specs.declared.request.Asker.{Asker}
use Rattle.mp_expand.specs.declared.request.Asker.TheVariants as asker
use Rattle.mp_expand.specs.declared.request.Branch.{Branch}
use Rattle.mp_expand.specs.declared.request.Branch.TheVariants as branch_of
use Rattle.mp_expand.specs.declared.request.Need.{Need}
use Rattle.mp_expand.specs.declared.request.Need.TheVariants as need
use Rattle.mp_expand.specs.declared.request.Opener.{Opener}
use Rattle.mp_expand.specs.declared.request.Opener.TheVariants as opener
use Rattle.mp_expand.specs.declared.request.Reader.{Reader}
use Rattle.mp_expand.specs.declared.request.Reader.TheVariants as reader
use Rattle.mp_expand.specs.declared.request.Request.{Request}
use Rattle.mp_expand.specs.declared.request.Request.TheVariants as request
use Rattle.mp_expand.specs.declared.request.Skip.{Skip}
use Rattle.mp_expand.specs.declared.request.Skip.TheVariants as skip
use Rattle.mp_expand.specs.declared.request.Until.{Until}
use Rattle.mp_expand.specs.declared.request.Until.TheVariants as until
use Rattle.mp_expand.specs.declared.step.Answer.{Answer}
use Rattle.mp_expand.specs.declared.step.Operand.{Operand}
use Rattle.mp_expand.specs.declared.step.Operand.TheVariants as operand
use Rattle.mp_expand.specs.declared.step.Step.{Step}
use Rattle.mp_expand.specs.declared.step.Step.TheVariants as step
use Rattle.mp_expand.specs.declared.step.Want.{Want}
use Rattle.mp_expand.specs.declared.step.Want.TheVariants as want
use Rattle.mp_expand.specs.declared.texts.Mark.{Mark}
use Rattle.mp_expand.specs.declared.texts.Mark.TheVariants as mark

module _ (P : Item → Type 0) (N : ℕ → Type 0) where
  abbrev Gives : OutcomeBy Cause Expansion Step → Type 0
  Gives o = HoldsAfter P N (HoldsStep P N) o

  abbrev Does : OutcomeBy Cause Expansion (Unit {0}) → Type 0
  Does o = HoldsAfter P N (λ done. ⊤) o

  one_after_another : {A B : Type 0} (Q : A → Type 0) (R : B → Type 0) (o : OutcomeBy Cause Expansion A) (f : A → Rule B) → HoldsAfter P N Q o
      → ((x : A) (t : Expansion) → Q x → Holds P N t → HoldsAfter P N R (f x t)) → HoldsAfter P N R ((then) o f)
  one_after_another Q R (Ok x) f h more = more x.0 x.1 h.0 h.1
  one_after_another Q R (Err e) f h more = h

  -- SUBSTITUTION

  argument_holds : (arguments : List (List Item)) (n : ℕ) → All (All P) arguments → All P (unwrap_or (slice_get arguments n) [])
  argument_holds [] n got = All-nil P
  argument_holds (a ∷ more) zero got = All-head (All P) a more got
  argument_holds (a ∷ more) (suc n) got = argument_holds more n (All-tail (All P) a more got)

  stands_for_holds : (arguments : List (List Item)) (x : Item) → P x → All (All P) arguments → All P (stands_for arguments x)
  stands_for_holds arguments (item.Param n) h got = argument_holds arguments n got
  stands_for_holds arguments x h got = All-cons P x [] h (All-nil P)

  substitute_holds : (body : List Item) (arguments : List (List Item)) → All P body → All (All P) arguments → All P (substitute body arguments)
  substitute_holds [] arguments h got = All-nil P
  substitute_holds (x ∷ more) arguments h got =
      All-append P (stands_for arguments x) (substitute more arguments) (stands_for_holds arguments x (All-head P x more h) got)
      (substitute_holds more arguments (All-tail P x more h) got)

  in_front : (items : List Item) (text : List Pending) → All P items → All (HoldsPending P N) text → All (HoldsPending P N) (items_pending items ++ text)
  in_front items text h ht = All-append (HoldsPending P N) (items_pending items) text (All-map (HoldsPending P N) pending.Item items h) ht

  -- CALLS

  waits : (r : Request) (s : Expansion) → HoldsRequest P N r → Holds P N s → Holds P N (with_request r s)
  waits r s hr hs = record { text = hs.text; requests = All-cons (HoldsRequest P N) r s.requests hr hs.requests }

  with_request_holds : (c : Call) (n : Need) (s : Expansion) → HoldsCall P N c → HoldsNeed P N n → Holds P N s → Holds P N (with_request (request.Call c n) s)
  with_request_holds c n s hc hn hs = waits (request.Call c n) s (hc, hn) hs

  with_argument_holds : (items : List Item) (c : Call) → All P items → HoldsCall P N c → HoldsCall P N (with_argument items c)
  with_argument_holds items c hi hc = record { body = hc.body; got = All-push (All P) c.got items hc.got hi; text = All-nil P }

  whole_holds : (c : Call) (s : Expansion) → HoldsCall P N c → Holds P N s → Gives (whole c s)
  whole_holds c s hc hs =
      (tt, record { text = in_front (substitute c.called.body c.got) s.text (substitute_holds c.called.body c.got hc.body hc.got) hs.text; requests = hs.requests })

  entered_by : (b : Bool) (s : Expansion) → Holds P N s
      → Does (if b then Ok (tt, record s { nesting = s.nesting + 1 }) else Err (Refused (error.Limit cap.Nesting NESTING_LIMIT), s))
  entered_by true s hs = (tt, record { text = hs.text; requests = hs.requests })
  entered_by false s hs = hs

  enter_holds : (s : Expansion) → Holds P N s → Does (enter s)
  unfolding enter
  enter_holds s hs = entered_by (nat_lt s.nesting NESTING_LIMIT) s hs

  ask_for_holds : (r : Request) (w : Want) (s : Expansion) → HoldsRequest P N r → Holds P N s → Gives (ask_for r w s)
  ask_for_holds r w s hr hs =
      one_after_another (λ entered. ⊤) (HoldsStep P N) (enter s) _ (enter_holds s hs) (λ entered t q ht. (tt, waits r t hr ht))

  ask_holds : (c : Call) (b : Behind) (w : Want) (s : Expansion) → HoldsBehind P N b → HoldsCall P N c → Holds P N s → Gives (ask c b w s)
  ask_holds c b w s hb hc hs = ask_for_holds (request.Call c (need.Answer b)) w s (hc, hb) hs

  last_holds : (c : Call) (o : Operand) (s : Expansion) → HoldsCall P N c → Holds P N s → Gives (ask_last c o s)
  last_holds c o s hc hs = ask_holds c behind_it.Anything (want.Last o) s tt hc hs

  open_holds : (c : Call) (k : Delimited) (s : Expansion) → HoldsCall P N c → Holds P N s → Gives (opens c k s)
  open_holds c k s hc hs = (tt, with_request_holds c (need.Opening k) s hc tt hs)

  next_argument_holds : (c : Call) (pair : Delimiters) (k : Delimited) (s : Expansion) → HoldsPair P N pair → HoldsCall P N c → Holds P N s
      → Gives (argument c pair k s)
  next_argument_holds c pair between.Expr s hp hc hs = ask_holds c (behind_it.Delimiter pair) (want.Followed operand.Expression) s hp hc hs
  next_argument_holds c pair between.Suffix s hp hc hs = ask_holds c (behind_it.Delimiter pair) (want.Followed operand.Suffix) s hp hc hs
  next_argument_holds c pair between.Text s hp hc hs = (tt, with_request_holds c (need.Text (until.Delimiter pair) 0) s hc hp hs)

  go_on_by_holds : (c : Call) (k : Option ParamKind) (s : Expansion) → HoldsCall P N c → Holds P N s → Gives (go_on_by c k s)
  go_on_by_holds c None s hc hs = whole_holds c s hc hs
  go_on_by_holds c (Some kind.Expr) s hc hs = open_holds c between.Expr s hc hs
  go_on_by_holds c (Some kind.Suffix) s hc hs = open_holds c between.Suffix s hc hs
  go_on_by_holds c (Some kind.Text) s hc hs = open_holds c between.Text s hc hs
  go_on_by_holds c (Some kind.Primary) s hc hs = last_holds c operand.Primary s hc hs
  go_on_by_holds c (Some kind.Secondary) s hc hs = last_holds c operand.Secondary s hc hs
  go_on_by_holds c (Some kind.Tertiary) s hc hs = last_holds c operand.Tertiary s hc hs
  go_on_by_holds c (Some kind.BareExpr) s hc hs = last_holds c operand.Expression s hc hs
  go_on_by_holds c (Some kind.ExprOf) s hc hs = ask_holds c behind_it.Of (want.Followed operand.Expression) s tt hc hs
  go_on_by_holds c (Some kind.BareSuffix) s hc hs = last_holds c operand.Suffix s hc hs
  go_on_by_holds c (Some kind.BareText) s hc hs = (tt, with_request_holds c (need.Text until.Statement 0) s hc tt hs)

  go_on_holds : (c : Call) (s : Expansion) → HoldsCall P N c → Holds P N s → Gives (go_on c s)
  go_on_holds c s hc hs = go_on_by_holds c (parameter_next c) s hc hs

  call_holds : (m : Macro) (got : List (List Item)) (s : Expansion) → All P m.body → All (All P) got → Holds P N s → Gives (call m got s)
  call_holds m got s hm hg hs = go_on_holds (record { called = m; got = got; next = 0; text = [] }) s (record { body = hm; got = hg; text = All-nil P }) hs

  put_back_holds : (x : Item) (s : Expansion) → P x → Holds P N s → Holds P N (put_back x s)
  put_back_holds x s hx hs = record { text = All-cons (HoldsPending P N) (pending.Item x) s.text hx hs.text; requests = hs.requests }

  -- A TEXT ARGUMENT

  with_item_holds : (c : Call) (u : Until) (x : Item) (depth : ℕ) (s : Expansion) → HoldsUntil P N u → P x → HoldsCall P N c → Holds P N s
      → Gives (with_item c u x depth s)
  with_item_holds c u x depth s hu hx hc hs =
      let more : Call = record c { text = c.text ++ x ∷ [] } in
      (tt, with_request_holds more (need.Text u depth) s (record { body = hc.body; got = hc.got; text = All-push P c.text x hc.text hx }) hu hs)

  text_ends_holds : (c : Call) (u : Until) (symbol : ℕ) (s : Expansion) → P (item.Symbol symbol) → HoldsCall P N c → Holds P N s → Gives (text_ends c u symbol s)
  text_ends_holds c (until.Delimiter pair) symbol s hx hc hs = go_on_holds (with_argument c.text c) s (with_argument_holds c.text c hc.text hc) hs
  text_ends_holds c until.Statement symbol s hx hc hs =
      whole_holds (with_argument c.text c) (put_back (item.Symbol symbol) s) (with_argument_holds c.text c hc.text hc) (put_back_holds (item.Symbol symbol) s hx hs)

  symbol_in_text_holds : (c : Call) (u : Until) (depth symbol : ℕ) (m : Mark) (s : Expansion) → HoldsUntil P N u → P (item.Symbol symbol) → HoldsCall P N c → Holds P N s
      → Gives (symbol_in_text c u depth symbol m s)
  symbol_in_text_holds c u depth symbol mark.Begins s hu hx hc hs = with_item_holds c u (item.Symbol symbol) (suc depth) s hu hx hc hs
  symbol_in_text_holds c u zero symbol mark.Ends s hu hx hc hs = text_ends_holds c u symbol s hx hc hs
  symbol_in_text_holds c u (suc depth) symbol mark.Ends s hu hx hc hs = with_item_holds c u (item.Symbol symbol) depth s hu hx hc hs
  symbol_in_text_holds c u zero symbol mark.Separates s hu hx hc hs = text_ends_holds c u symbol s hx hc hs
  symbol_in_text_holds c u (suc depth) symbol mark.Separates s hu hx hc hs = with_item_holds c u (item.Symbol symbol) (suc depth) s hu hx hc hs
  symbol_in_text_holds c u depth symbol mark.Stands s hu hx hc hs = with_item_holds c u (item.Symbol symbol) depth s hu hx hc hs

  item_in_text_holds : (table : Table) (c : Call) (u : Until) (depth : ℕ) (x : Item) (s : Expansion) → HoldsUntil P N u → P x → HoldsCall P N c → Holds P N s
      → Gives (item_in_text table c u depth x s)
  item_in_text_holds table c u depth (item.LineEnd place) s hu hx hc hs = (tt, with_request_holds c (need.Text u depth) s hc hu hs)
  item_in_text_holds table c u depth item.FileEnd s hu hx hc hs = hs
  item_in_text_holds table c u depth item.EndOfText s hu hx hc hs = hs
  item_in_text_holds table c u depth (item.Bad cause) s hu hx hc hs = hs
  item_in_text_holds table c u depth (item.Symbol symbol) s hu hx hc hs = symbol_in_text_holds c u depth symbol (mark_of u (meaning_of table symbol)) s hu hx hc hs
  item_in_text_holds table c u depth x s hu hx hc hs = with_item_holds c u x depth s hu hx hc hs

  taken_in_text_holds : (table : Table) (c : Call) (u : Until) (depth : ℕ) (x : Option Pending) (s : Expansion) → HoldsUntil P N u → HoldsFirst P N x
      → HoldsCall P N c → Holds P N s → Gives (taken_in_text table c u depth x s)
  taken_in_text_holds table c u depth (Some (pending.Item x)) s hu hx hc hs = item_in_text_holds table c u depth x s hu hx hc hs
  taken_in_text_holds table c u depth (Some (pending.Turn turn)) s hu hx hc hs = (tt, with_request_holds c (need.Text u depth) s hc hu hs)
  taken_in_text_holds table c u depth None s hu hx hc hs = hs

  -- CONDITIONS

  pass_holds : (k : Skip) (depth : ℕ) (s : Expansion) → Holds P N s → Gives (pass k depth s)
  pass_holds k depth s hs = (tt, waits (request.Skip k depth) s tt hs)

  branches_hold : (bs : List Branch) (s : Expansion) → Holds P N s → Holds P N (with_conditions bs s)
  branches_hold bs s hs = record { text = hs.text; requests = hs.requests }

  colon_word_holds : (table : Table) (symbol : ℕ) (w : Word) (s : Expansion) → Holds P N s → Does (colon table (front.Word symbol w) s)
  colon_word_holds table symbol word.Colon s hs = (tt, hs)
  colon_word_holds table symbol w s hs = hs

  colon_holds : (table : Table) (x : Front) (s : Expansion) → Holds P N s → Does (colon table x s)
  colon_holds table (front.Word symbol w) s hs = colon_word_holds table symbol w s hs
  colon_holds table x s hs = hs

  branch_by_holds : (truth : Bool) (s : Expansion) → Holds P N s → Gives (branch_by truth s)
  branch_by_holds true s hs = (tt, branches_hold (branch_of.BeforeElse ∷ s.conditions) s hs)
  branch_by_holds false s hs = pass_holds skip.ToBranch 0 s hs

  branch_holds : (table : Table) (truth : Bool) (x : Front) (s : Expansion) → Holds P N s → Gives (branch table truth x s)
  branch_holds table truth x s hs =
      one_after_another (λ stands. ⊤) (HoldsStep P N) (colon table x s) _ (colon_holds table x s hs) (λ stands t q ht. branch_by_holds truth t ht)

  else_branch_holds : (table : Table) (x : Front) (s : Expansion) → Holds P N s → Gives (else_branch table x s)
  else_branch_holds table x s hs =
      one_after_another (λ stands. ⊤) (HoldsStep P N) (colon table x s) _ (colon_holds table x s hs)
      (λ stands t q ht. (tt, branches_hold (branch_of.BehindElse ∷ t.conditions) t ht))

  truth_holds : (w : Condition) (s : Expansion) → Holds P N s → Gives (ask_for (request.Truth w) (want.Followed (operand.Condition w)) s)
  truth_holds w s hs = ask_for_holds (request.Truth w) (want.Followed (operand.Condition w)) s tt hs

  met_holds : (w : Condition) (bs : List Branch) (s : Expansion) → Holds P N s → Gives (met_in w bs s)
  met_holds condition.If bs s hs = truth_holds condition.If s hs
  met_holds condition.Fi (b ∷ bs) s hs = (tt, branches_hold bs s hs)
  met_holds w (branch_of.BeforeElse ∷ bs) s hs = pass_holds skip.ToEnd 0 (with_conditions bs s) (branches_hold bs s hs)
  met_holds w bs s hs = hs

  condition_skipped_holds : (k : Skip) (depth : ℕ) (w : Condition) (s : Expansion) → Holds P N s → Gives (condition_skipped k depth w s)
  condition_skipped_holds k depth condition.If s hs = pass_holds k (suc depth) s hs
  condition_skipped_holds k (suc depth) condition.Fi s hs = pass_holds k depth s hs
  condition_skipped_holds k zero condition.Fi s hs = (tt, hs)
  condition_skipped_holds skip.ToBranch zero condition.Elseif s hs = truth_holds condition.Elseif s hs
  condition_skipped_holds skip.ToBranch zero condition.Else s hs = (tt, waits request.Colon s tt hs)
  condition_skipped_holds k depth w s hs = pass_holds k depth s hs

  symbol_skipped_holds : (k : Skip) (depth : ℕ) (w : Option Condition) (s : Expansion) → Holds P N s → Gives (symbol_skipped k depth w s)
  symbol_skipped_holds k depth (Some w) s hs = condition_skipped_holds k depth w s hs
  symbol_skipped_holds k depth None s hs = pass_holds k depth s hs

  item_skipped_holds : (table : Table) (k : Skip) (depth : ℕ) (x : Item) (s : Expansion) → Holds P N s → Gives (item_skipped table k depth x s)
  item_skipped_holds table k depth (item.Symbol symbol) s hs = symbol_skipped_holds k depth (condition_in (meaning_of table symbol)) s hs
  item_skipped_holds table k depth item.FileEnd s hs = hs
  item_skipped_holds table k depth item.EndOfText s hs = hs
  item_skipped_holds table k depth (item.Bad cause) s hs = hs
  item_skipped_holds table k depth x s hs = pass_holds k depth s hs

  skipped_holds : (table : Table) (k : Skip) (depth : ℕ) (x : Option Pending) (s : Expansion) → Holds P N s → Gives (skipped table k depth x s)
  skipped_holds table k depth (Some (pending.Item x)) s hs = item_skipped_holds table k depth x s hs
  skipped_holds table k depth (Some (pending.Turn turn)) s hs = pass_holds k depth s hs
  skipped_holds table k depth None s hs = hs

  -- THE NEWEST REQUEST

  -- what it is made of, and the others
  abbrev HoldsNewest : {A : Type 0} → (A → Type 0) → NewestAs A → Type 0
  HoldsNewest Q (Some x) = Q x.0 × All (HoldsRequest P N) x.1
  HoldsNewest Q None = ⊤

  abbrev HoldsReader : Reader → Type 0
  HoldsReader (reader.Text c u depth) = HoldsCall P N c × HoldsUntil P N u
  HoldsReader (reader.Skip k depth) = ⊤

  abbrev HoldsOpener : Opener → Type 0
  HoldsOpener (opener.Argument c k) = HoldsCall P N c
  HoldsOpener opener.Branch = ⊤

  abbrev HoldsAsker : Asker → Type 0
  HoldsAsker (asker.Argument c b) = HoldsCall P N c × HoldsBehind P N b
  HoldsAsker asker.Branch = ⊤

  reading_holds : (rs : List Request) → All (HoldsRequest P N) rs → HoldsNewest HoldsReader (reading rs)
  reading_holds (request.Call c (need.Text u depth) ∷ rs) h =
      let hr : HoldsRequest P N (request.Call c (need.Text u depth)) = All-head (HoldsRequest P N) (request.Call c (need.Text u depth)) rs h in
      (hr, All-tail (HoldsRequest P N) (request.Call c (need.Text u depth)) rs h)
  reading_holds (request.Skip k depth ∷ rs) h = (tt, All-tail (HoldsRequest P N) (request.Skip k depth) rs h)
  reading_holds rs h = tt

  opening_holds : (rs : List Request) → All (HoldsRequest P N) rs → HoldsNewest HoldsOpener (opening rs)
  opening_holds (request.Call c (need.Opening k) ∷ rs) h =
      let hr : HoldsRequest P N (request.Call c (need.Opening k)) = All-head (HoldsRequest P N) (request.Call c (need.Opening k)) rs h in
      (hr.0, All-tail (HoldsRequest P N) (request.Call c (need.Opening k)) rs h)
  opening_holds (request.Colon ∷ rs) h = (tt, All-tail (HoldsRequest P N) request.Colon rs h)
  opening_holds rs h = tt

  asking_holds : (rs : List Request) → All (HoldsRequest P N) rs → HoldsNewest HoldsAsker (asking rs)
  asking_holds (request.Call c (need.Answer b) ∷ rs) h =
      let hr : HoldsRequest P N (request.Call c (need.Answer b)) = All-head (HoldsRequest P N) (request.Call c (need.Answer b)) rs h in
      (hr, All-tail (HoldsRequest P N) (request.Call c (need.Answer b)) rs h)
  asking_holds (request.Truth w ∷ rs) h = (tt, All-tail (HoldsRequest P N) (request.Truth w) rs h)
  asking_holds rs h = tt

  -- WHAT NOTHING TAKES AS IT STANDS

  opened_holds : (c : Call) (k : Delimited) (x : Step) (s : Expansion) → HoldsStep P N x → HoldsCall P N c → Holds P N s → Gives (opened c k x s)
  opened_holds c k (step.Front (front.Left symbol pair)) s hx hc hs = next_argument_holds c pair k s hx.1 hc hs
  opened_holds c k x s hx hc hs = hs

  others_hold : (rs : List Request) (s : Expansion) → All (HoldsRequest P N) rs → Holds P N s → Holds P N (with_requests rs s)
  others_hold rs s h hs = record { text = hs.text; requests = h }

  opened_by_holds : (table : Table) (x : Step) (o : Opener) (s : Expansion) → HoldsStep P N x → HoldsOpener o → Holds P N s → Gives (opened_by table x o s)
  opened_by_holds table x (opener.Argument c k) s hx ho hs = opened_holds c k x s hx ho hs
  opened_by_holds table x opener.Branch s hx ho hs = else_branch_holds table (front_of x) s hs

  reached_by_holds : (table : Table) (x : Step) (newest : NewestAs Opener) (s : Expansion) → HoldsStep P N x → HoldsNewest HoldsOpener newest → Holds P N s
      → Gives (reached_by table x newest s)
  reached_by_holds table x (Some (o, rs)) s hx h hs = opened_by_holds table x o (with_requests rs s) hx h.0 (others_hold rs s h.1 hs)
  reached_by_holds table x None s hx h hs = (hx, hs)

  reached_holds : (table : Table) (x : Step) (s : Expansion) → HoldsStep P N x → Holds P N s → Gives (reached table x s)
  reached_holds table x s hx hs = reached_by_holds table x (opening s.requests) s hx (opening_holds s.requests hs.requests) hs

  macro_holds : (table : Table) (symbol : ℕ) (m : Macro) (l : Level) (s : Expansion) → P (item.Symbol symbol) → All P m.body → Holds P N s → Gives (macro_by table symbol m l s)
  macro_holds table symbol m level.Plain s hx hm hs = call_holds m [] s hm (All-nil (All P)) hs
  macro_holds table symbol m other s hx hm hs = reached_holds table (step.Front (front.Operator symbol)) s hx hs

  word_holds : (table : Table) (symbol : ℕ) (w : Word) (s : Expansion) → P (item.Symbol symbol) → Holds P N s → Gives (word_expanded table symbol w s)
  word_holds table symbol word.Backslash s hx hs = (tt, hs)
  word_holds table symbol (word.Condition w) s hx hs = met_holds w s.conditions s hs
  word_holds table symbol w s hx hs = reached_holds table (step.Front (front.Word symbol w)) s hx hs

  symbol_holds : (table : Table) (symbol : ℕ) (m : Meaning) (s : Expansion) → P (item.Symbol symbol) → HoldsMeaning P N m → Holds P N s → Gives (symbol_expanded table symbol m s)
  symbol_holds table symbol (meaning.Word w) s hx hm hs = word_holds table symbol w s hx hs
  symbol_holds table symbol (meaning.Unbuilt name) s hx hm hs = hs
  symbol_holds table symbol meaning.NewTag s hx hm hs = reached_holds table (step.Front (front.Tag symbol)) s hx hs
  symbol_holds table symbol (meaning.Tag root) s hx hm hs = reached_holds table (step.Front (front.Tag symbol)) s hx hs
  symbol_holds table symbol (meaning.Internal k) s hx hm hs = reached_holds table (step.Front (front.Internal symbol k)) s (hx, hm) hs
  symbol_holds table symbol (meaning.Left pair) s hx hm hs = reached_holds table (step.Front (front.Left symbol pair)) s (hx, hm) hs
  symbol_holds table symbol (meaning.Right pair) s hx hm hs = reached_holds table (step.Front (front.Right symbol pair)) s (hx, hm) hs
  symbol_holds table symbol (meaning.Macro m) s hx hm hs = macro_holds table symbol m m.level s hx hm hs

  meaning_holds : (table : Table) (symbol : ℕ) → HoldsTable P N table → HoldsMeaning P N (meaning_of table symbol)
  meaning_holds [] symbol h = tt
  meaning_holds (entry ∷ more) zero h = All-head (λ entry. HoldsMeaning P N entry.1) entry more h
  meaning_holds (entry ∷ more) (suc symbol) h = meaning_holds more symbol (All-tail (λ entry. HoldsMeaning P N entry.1) entry more h)

  item_holds : (table : Table) (x : Item) (s : Expansion) → HoldsTable P N table → P x → Holds P N s → Gives (item_expanded table x s)
  item_holds table (item.Symbol symbol) s h hx hs = symbol_holds table symbol (meaning_of table symbol) s hx (meaning_holds table symbol h) hs
  item_holds table (item.Number n) s h hx hs = reached_holds table (step.Front (front.Number n)) s tt hs
  item_holds table (item.Text bytes) s h hx hs = reached_holds table (step.Text bytes) s tt hs
  item_holds table (item.Bad cause) s h hx hs = hs
  item_holds table (item.Capsule v) s h hx hs = reached_holds table (step.Capsule v) s hx hs
  item_holds table (item.Param n) s h hx hs = (tt, hs)
  item_holds table (item.LineEnd place) s h hx hs = (tt, hs)
  item_holds table item.FileEnd s h hx hs = (tt, hs)
  item_holds table item.EndOfText s h hx hs = (tt, hs)

  expanded_holds : (table : Table) (x : Option Pending) (s : Expansion) → HoldsTable P N table → HoldsFirst P N x → Holds P N s → Gives (expanded table x s)
  expanded_holds table (Some (pending.Item x)) s h hx hs = item_holds table x s h hx hs
  expanded_holds table (Some (pending.Turn turn)) s h hx hs = (tt, hs)
  expanded_holds table None s h hx hs = reached_holds table (step.Front front.EndOfText) s tt hs

  -- THE NEXT ITEM

  read_holds : (table : Table) (x : Option Pending) (r : Reader) (s : Expansion) → HoldsFirst P N x → HoldsReader r → Holds P N s → Gives (read_by table x r s)
  read_holds table x (reader.Text c u depth) s hx hr hs = taken_in_text_holds table c u depth x s hr.1 hx hr.0 hs
  read_holds table x (reader.Skip k depth) s hx hr hs = skipped_holds table k depth x s hs

  taken_holds : (table : Table) (x : Option Pending) (newest : NewestAs Reader) (s : Expansion) → HoldsTable P N table → HoldsFirst P N x → HoldsNewest HoldsReader newest
      → Holds P N s → Gives (taken_by table x newest s)
  taken_holds table x (Some (r, rs)) s h hx hn hs = read_holds table x r (with_requests rs s) hx hn.0 (others_hold rs s hn.1 hs)
  taken_holds table x None s h hx hn hs = expanded_holds table x s h hx hs

  first_by : (b : Bool) (x : Pending) (text : List Pending) (s : Expansion) → All (HoldsPending P N) (x ∷ text) → Holds P N s
      → HoldsAfter P N (HoldsFirst P N) (if b then Ok (Some x, record s { text = text; last = last_after x s.last; steps = s.steps + 1 }) else Err (OutOfSteps, s))
  first_by true x text s h hs = (All-head (HoldsPending P N) x text h, record { text = All-tail (HoldsPending P N) x text h; requests = hs.requests })
  first_by false x text s h hs = hs

  take_from_holds : (text : List Pending) (s : Expansion) → All (HoldsPending P N) text → Holds P N s → HoldsAfter P N (HoldsFirst P N) (take_from text s)
  take_from_holds [] s h hs = (tt, hs)
  take_from_holds (x ∷ text) s h hs = first_by (nat_lt s.steps s.budget) x text s h hs

  take_first_holds : (s : Expansion) → Holds P N s → HoldsAfter P N (HoldsFirst P N) (take_first s)
  unfolding take_first
  take_first_holds s hs = take_from_holds s.text s hs.text hs

  advance_holds : (table : Table) (s : Expansion) → HoldsTable P N table → Holds P N s → Gives (advance table s)
  unfolding advance
  advance_holds table s h hs =
      one_after_another (HoldsFirst P N) (HoldsStep P N) (take_first s) _ (take_first_holds s hs) (λ x t hx ht. taken_holds table x (reading t.requests) t h hx (reading_holds t.requests ht.requests) ht)

  -- AN ANSWER

  comma_holds : (c : Call) (pair : Delimiters) (k : Option Delimited) (s : Expansion) → HoldsPair P N pair → HoldsCall P N c → Holds P N s → Gives (comma_by c pair k s)
  comma_holds c pair (Some k) s hp hc hs = next_argument_holds c pair k s hp hc hs
  comma_holds c pair None s hp hc hs = hs

  unclosed_holds : (table : Table) (pair : Delimiters) (x : Front) (k : Option Delimited) (s : Expansion) → Holds P N s → Gives (unclosed table pair x k s)
  unclosed_holds table pair x (Some k) s hs = hs
  unclosed_holds table pair x None s hs = hs

  right_holds : (b : Bool) (table : Table) (c : Call) (pair : Delimiters) (x : Front) (s : Expansion) → HoldsCall P N c → Holds P N s → Gives (right_by b table c pair x s)
  right_holds true table c pair x s hc hs = go_on_holds c s hc hs
  right_holds false table c pair x s hc hs = unclosed_holds table pair x (argument_next c) s hs

  delimited_word_holds : (table : Table) (c : Call) (pair : Delimiters) (symbol : ℕ) (w : Word) (s : Expansion) → HoldsPair P N pair → HoldsCall P N c → Holds P N s
      → Gives (delimited table c pair (front.Word symbol w) s)
  delimited_word_holds table c pair symbol word.Comma s hp hc hs = comma_holds c pair (argument_next c) s hp hc hs
  delimited_word_holds table c pair symbol w s hp hc hs = unclosed_holds table pair (front.Word symbol w) (argument_next c) s hs

  delimited_holds : (table : Table) (c : Call) (pair : Delimiters) (x : Front) (s : Expansion) → HoldsPair P N pair → HoldsCall P N c → Holds P N s
      → Gives (delimited table c pair x s)
  delimited_holds table c pair (front.Word symbol w) s hp hc hs = delimited_word_holds table c pair symbol w s hp hc hs
  delimited_holds table c pair (front.Right symbol other) s hp hc hs = right_holds (are_pair pair other) table c pair (front.Right symbol other) s hc hs
  delimited_holds table c pair x s hp hc hs = unclosed_holds table pair x (argument_next c) s hs

  of_word_holds : (table : Table) (c : Call) (symbol : ℕ) (w : Word) (s : Expansion) → HoldsCall P N c → Holds P N s → Gives (of_by table c (front.Word symbol w) s)
  of_word_holds table c symbol word.Of s hc hs = last_holds c operand.Primary s hc hs
  of_word_holds table c symbol w s hc hs = hs

  of_holds : (table : Table) (c : Call) (x : Front) (s : Expansion) → HoldsCall P N c → Holds P N s → Gives (of_by table c x s)
  of_holds table c (front.Word symbol w) s hc hs = of_word_holds table c symbol w s hc hs
  of_holds table c x s hc hs = hs

  behind_holds : (table : Table) (c : Call) (b : Behind) (x : Front) (s : Expansion) → HoldsBehind P N b → HoldsCall P N c → Holds P N s → Gives (behind table c b x s)
  behind_holds table c (behind_it.Delimiter pair) x s hb hc hs = delimited_holds table c pair x s hb hc hs
  behind_holds table c behind_it.Of x s hb hc hs = of_holds table c x s hc hs
  behind_holds table c behind_it.Anything x s hb hc hs = whole_holds c s hc hs

  answered_to_holds : (table : Table) (a : Answer) (x : Front) (q : Asker) (s : Expansion) → All P (items_of a) → HoldsAsker q → Holds P N s
      → Gives (answered_to table a x q s)
  answered_to_holds table a x (asker.Argument c b) s hi hq hs = behind_holds table (with_argument (items_of a) c) b x s hq.1 (with_argument_holds (items_of a) c hi hq.0) hs
  answered_to_holds table a x asker.Branch s hi hq hs = branch_holds table (is_true a) x s hs

  answered_by_holds : (table : Table) (a : Answer) (x : Front) (newest : NewestAs Asker) (s : Expansion) → All P (items_of a) → HoldsNewest HoldsAsker newest → Holds P N s
      → Gives (answered_by table a x newest s)
  answered_by_holds table a x (Some (q, rs)) s hi hn hs =
      let t : Expansion = record s { nesting = s.nesting - 1; requests = rs } in
      answered_to_holds table a x q t hi hn.0 (record { text = hs.text; requests = hn.1 })
  answered_by_holds table a x None s hi hn hs = (tt, hs)

  answered_holds : (table : Table) (a : Answer) (x : Front) (s : Expansion) → All P (items_of a) → Holds P N s → Gives (answered table a x s)
  unfolding answered
  answered_holds table a x s hi hs = answered_by_holds table a x (asking s.requests) s hi (asking_holds s.requests hs.requests) hs

  start_holds : (file : ℕ) (tokens : List Token) (s : Expansion) → All P (file_items file tokens) → Holds P N s → Holds P N (start file tokens s)
  start_holds file tokens s h hs = record { text = in_front (file_items file tokens) s.text h hs.text; requests = hs.requests }

  rest_is : {A : Type 0} (Q : A → Type 0) (old new : List A) → IsRest old new → All Q old → All Q new
  rest_is Q old new (inl e) h = All-same Q new old e h
  rest_is Q old new (inr e) h = All-same Q new (drop 1 old) e (All-drop Q 1 old h)

  left_holds : (s t : Expansion) → IsLeft s t → Holds P N s → Holds P N t
  left_holds s t is hs = record { text = rest_is (HoldsPending P N) s.text t.text is.0 hs.text; requests = rest_is (HoldsRequest P N) s.requests t.requests is.1 hs.requests }

pub invents_nothing : (P : Item → Type 0) (N : ℕ → Type 0) → InventsNothingOf P N
invents_nothing P N = record {
  taken = take_first_holds P N;
  advanced = advance_holds P N;
  answered = answered_holds P N;
  called = call_holds P N;
  entered = enter_holds P N;
  put_back = put_back_holds P N;
  started = start_holds P N;
  lost = left_holds P N;
  substituted = substitute_holds P N;
}
