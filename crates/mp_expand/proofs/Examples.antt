-- What the definitions give at some texts.
use Rattle.std.proofs.Common.{◌≡◌, refl, ℕ, zero, suc, Bool, true, false, List, [], ◌∷◌, Ok, Err}
use Rattle.std.specs.Prelude.{codes}
use Rattle.mp_report.specs.declared.error.SourceError.TheVariants as error
use Rattle.mp_values.specs.Outcome.{◌>>=◌, give, Refused}
use Rattle.mp_values.specs.declared.item.Item.{Item}
use Rattle.mp_values.specs.declared.item.Item.TheVariants.{Symbol, Param}
use Rattle.mp_values.specs.declared.macros.Level.TheVariants as level
use Rattle.mp_values.specs.declared.macros.Macro.{Macro}
use Rattle.mp_values.specs.declared.macros.ParamKind.TheVariants as kind
use Rattle.mp_values.specs.declared.meaning.Delimiters.{Delimiters}
use Rattle.mp_values.specs.declared.meaning.Meaning.TheVariants as meaning
use Rattle.mp_values.specs.declared.word.Condition.TheVariants as condition
use Rattle.mp_values.specs.declared.word.Word.TheVariants as word
use Rattle.mp_input.specs.Lines.{items_pending}
use Rattle.mp_expand.specs.Expansion.{Expansion, Rule}
use Rattle.mp_expand.specs.Steps.{take_first, enter}
use Rattle.mp_expand.specs.Fronts.{Table}
use Rattle.mp_expand.specs.Advance.{advance, answered}
use Rattle.mp_expand.specs.declared.front.Front.TheVariants as front
use Rattle.mp_expand.specs.declared.request.Behind.TheVariants as behind
use Rattle.mp_expand.specs.declared.request.Branch.TheVariants as branch
use Rattle.mp_expand.specs.declared.request.Call.{Call}
use Rattle.mp_expand.specs.declared.request.Need.TheVariants as need
use Rattle.mp_expand.specs.declared.request.Request.{Request}
use Rattle.mp_expand.specs.declared.request.Request.TheVariants as request
use Rattle.mp_expand.specs.declared.request.Until.TheVariants as until
use Rattle.mp_expand.specs.declared.step.Answer.TheVariants as answer
use Rattle.mp_expand.specs.declared.step.Operand.TheVariants as operand
use Rattle.mp_expand.specs.declared.step.Step.{Step}
use Rattle.mp_expand.specs.declared.step.Step.TheVariants as step
use Rattle.mp_expand.specs.declared.step.Want.TheVariants as want

abbrev parentheses : Delimiters
parentheses = record { left = 0; right = 1 }

abbrev table : Table
table =
    (codes "(", meaning.Left parentheses) ∷ (codes ")", meaning.Right parentheses) ∷ (codes ",", meaning.Word word.Comma)
    ∷ (codes "\\", meaning.Word word.Backslash) ∷ (codes "a", meaning.NewTag) ∷ (codes ";", meaning.Word word.Semicolon)
    ∷ (codes "if", meaning.Word (word.Condition condition.If)) ∷ (codes ":", meaning.Word word.Colon)
    ∷ (codes "else", meaning.Word (word.Condition condition.Else)) ∷ (codes "fi", meaning.Word (word.Condition condition.Fi)) ∷ []

abbrev a : Item
a = Symbol 4

-- a macro whose text argument stands twice, one after the other
abbrev twice : Macro
twice = record { params = kind.Text ∷ []; body = Param 0 ∷ Param 0 ∷ []; level = level.Plain }

-- so many items were taken, and that is left
abbrev left : ℕ → List Item → List Request → Expansion
left taken items calls = record { text = items_pending items; last = record { file = 0; line = 0 }; steps = taken; budget = 9; nesting = 1; requests = calls; conditions = [] }

-- a call of a macro that has read these items
abbrev call_of : Macro → List Item → Call
call_of m items = record { called = m; got = []; next = 0; text = items }

-- its call
abbrev reading : ℕ → List Item → Request
reading depth items = request.Call (call_of twice items) (need.Text (until.Delimiter parentheses) depth)

backslash : advance table (left 0 (Symbol 3 ∷ a ∷ []) []) ≡ Ok (step.More, left 1 (a ∷ []) [])
unfolding advance take_first
backslash = refl

-- an inner right delimiter belongs to the text
inner : advance table (left 0 (Symbol 1 ∷ []) (reading 1 (Symbol 0 ∷ []) ∷ [])) ≡ Ok (step.More, left 1 [] (reading 0 (Symbol 0 ∷ Symbol 1 ∷ []) ∷ []))
unfolding advance take_first
inner = refl

-- the outer one ends it
outer : advance table (left 0 (Symbol 1 ∷ a ∷ []) (reading 0 (a ∷ []) ∷ [])) ≡ Ok (step.More, left 1 (a ∷ a ∷ a ∷ []) [])
unfolding advance take_first
outer = refl

-- a call of a macro with one argument, which waits for it
abbrev waiting : Request
waiting = request.Call (call_of (record twice { params = kind.Suffix ∷ [] }) []) (need.Answer (behind.Delimiter parentheses))

closed : answered table (answer.Suffix (a ∷ [])) (front.Right 1 parentheses) (left 1 [] (waiting ∷ [])) ≡ Ok (step.More, record (left 1 (a ∷ a ∷ []) []) { nesting = 0 })
unfolding answered
closed = refl

-- and a comma behind it
excess : answered table (answer.Suffix (a ∷ [])) (front.Word 2 word.Comma) (left 1 [] (waiting ∷ [])) ≡ Err (Refused error.BadArguments, record (left 1 [] []) { nesting = 0 })
unfolding answered
excess = refl

-- a text without delimiters: what ends the statement stands behind the body again
abbrev statement : Request
statement = request.Call (call_of (record twice { params = kind.BareText ∷ [] }) (a ∷ [])) (need.Text until.Statement 0)

ends : advance table (left 0 (Symbol 5 ∷ a ∷ []) (statement ∷ [])) ≡ Ok (step.More, left 1 (a ∷ a ∷ Symbol 5 ∷ a ∷ []) [])
unfolding advance take_first
ends = refl

-- the last argument without delimiters: the front behind it was put back
abbrev last : Request
last = request.Call (call_of (record twice { params = kind.BareSuffix ∷ [] }) []) (need.Answer behind.Anything)

stands_before : answered table (answer.Suffix (a ∷ [])) front.EndOfText (left 1 (Symbol 2 ∷ []) (last ∷ []))
    ≡ Ok (step.More, record (left 1 (a ∷ a ∷ Symbol 2 ∷ []) []) { nesting = 0 })
unfolding answered
stands_before = refl

-- a condition waits for its truth
abbrev asking : Request
asking = request.Truth condition.If

asks : advance table (left 0 (Symbol 6 ∷ a ∷ []) [])
    ≡ Ok (step.Want (want.Followed (operand.Condition condition.If)), record (left 1 (a ∷ []) (asking ∷ [])) { nesting = 2 })
unfolding advance take_first enter
asks = refl

-- so many more items are taken, and that comes of the last one
abbrev more : ℕ → Step → Rule Step
more zero x = give x
more (suc n) x = do
  y ← advance table
  more n y

-- it gets its truth, with the colon behind it, and so many items are taken
abbrev after : Bool → ℕ → Rule Step
after truth n = do
  x ← answered table (answer.Truth truth) (front.Word 7 word.Colon)
  more n x

-- its branch is read, and the one behind `else` is passed over
true_is_read : after true 5 (left 1 (a ∷ Symbol 8 ∷ Symbol 7 ∷ a ∷ Symbol 9 ∷ a ∷ []) (asking ∷ []))
    ≡ Ok (step.More, record (left 6 (a ∷ []) []) { nesting = 0 })
unfolding answered advance take_first
true_is_read = refl

-- its branch is passed over, with a condition inside it, and the one behind `else` is read
false_is_passed_over : after false 5 (left 1 (Symbol 6 ∷ Symbol 9 ∷ a ∷ Symbol 8 ∷ Symbol 7 ∷ a ∷ []) (asking ∷ []))
    ≡ Ok (step.More, record (left 6 (a ∷ []) []) { nesting = 0; conditions = branch.BehindElse ∷ [] })
unfolding answered advance take_first
false_is_passed_over = refl
