-- Worked examples: the definitions compute.
use Rattle.std.proofs.Common.{◌≡◌, ℕ, ℤ, pos, neg_ℤ, true, false, List, [], ◌∷◌, Some, None, Ok, Err, refl}
use Rattle.std.specs.Prelude.{codes}
use Rattle.std.specs.Fmt.{digits}
use Rattle.mp_scaled.specs.Print.{digits_within}
use Rattle.mp_pool.specs.declared.Term.{Term}
use Rattle.mp_forms.specs.Forms.{LinearForm}
use Rattle.mp_pool.specs.Terms.{with_term, sum_terms}
use Rattle.mp_report.specs.declared.error.SourceError.TheVariants as error
use Rattle.mp_symbols.specs.Names.{number_in}
use Rattle.mp_solver.specs.States.{Unknowns}
use Rattle.mp_solver.specs.Replay.{Fresh, Equation, replay}
use Rattle.mp_values.specs.Outcome.{Outcome, then, change}
use Rattle.mp_values.specs.Refusals.{wrong_type, not_known}
use Rattle.mp_values.specs.declared.meaning.Meaning.TheVariants.{NewTag, Tag}
use Rattle.mp_values.specs.declared.value.Value.{Value}
use Rattle.mp_values.specs.declared.word.Secondary.TheVariants as factor
use Rattle.mp_values.specs.declared.word.Speech.TheVariants as speech
use Rattle.mp_values.specs.declared.word.SymbolCommand.TheVariants as word
use Rattle.mp_values.specs.declared.word.Tertiary.TheVariants as summand
use Rattle.mp_values.specs.declared.word.Nullary.TheVariants as nullary_word
use Rattle.mp_values.specs.declared.value.Kind.TheVariants as kind
use Rattle.mp_values.specs.declared.value.Value.TheVariants.{Numeric, Text, Unset}
use Rattle.mp_vartree.specs.Variables.{Variables}
use Rattle.mp_vartree.specs.declared.entry.Declared.TheVariants as declared
use Rattle.mp_vartree.specs.declared.entry.Variable.{Variable}
use Rattle.mp_vartree.specs.declared.names.Part.{Part}
use Rattle.mp_vartree.specs.declared.names.Part.TheVariants as part
use Rattle.mp_vartree.specs.declared.names.Shape.TheVariants as shape
use Rattle.mp_acts.specs.State.{State, made_unknowns, accepted_equations}
use Rattle.mp_ops.specs.Arithmetic.{difference_by}
use Rattle.mp_ops.specs.Operands.{operand as number_operand, text as text_operand}
use Rattle.mp_ops.specs.Operators.{secondary as secondary_of, tertiary as tertiary_of}
use Rattle.mp_acts.specs.Numbers.{known_number}
use Rattle.mp_acts.specs.Operators.{secondary, tertiary, nullary}
use Rattle.mp_acts.specs.Texts.{form_text, more_terms, value_text}
use Rattle.mp_acts.specs.Lines.{line, show, errmessage, speak}
use Rattle.mp_acts.specs.Suffixes.{parts_text, suffix_text, variable_name, subscript}
use Rattle.mp_acts.specs.Variables.{root_of, read, declare, assign, without_root, without_names}
use Rattle.mp_acts.specs.Equations.{vanish, equate_numbers, equation}
use Rattle.mp_acts.specs.Groups.{begin_group, end_group, undo_group, save, with_each, let_symbol, interim}
use Rattle.mp_acts.specs.Start.{with_entries, first_symbols}
use Rattle.mp_acts.specs.Definitions.{group_symbols}
use Rattle.mp_acts.specs.declared.target.Target.TheVariants as target

abbrev term : ℕ → ℤ → Term
term serial coefficient = record { serial = serial; coefficient = coefficient }

-- 1 as a coefficient
abbrev one : ℤ
one = pos 268435456

abbrev form : ℤ → List Term → LinearForm
form constant terms = record { constant = constant; terms = terms }

-- the unknowns x and y, of the serials 1 and 2
abbrev x_and_y : Unknowns
x_and_y = record { states = None ∷ None ∷ []; names = Some (codes "x") ∷ Some (codes "y") ∷ [] }

abbrev X : Value
X = Numeric (form (pos 0) (term 1 one ∷ []))

abbrev Y : Value
Y = Numeric (form (pos 0) (term 2 one ∷ []))

-- a variable without a suffix
abbrev plain : ℕ → Value → List Part × Variable
plain root v = (part.Sym root ∷ [], record { value = v; made = true })

abbrev with_values : List (List Part × Variable) → Variables
with_values values = record { roots = 2; declarations = []; variables = values }

-- the symbols x and y, their variables as given, and an internal of value 1
abbrev state : Variables → Unknowns → State
state variables unknowns = record {
  symbols = record { names = (codes "x", Tag 0) ∷ (codes "y", Tag 1) ∷ (codes "z", NewTag) ∷ []; internals = pos 65536 ∷ []; saved = [] };
  variables = variables;
  slots = [];
  unknowns = unknowns;
  events = Fresh (codes "x") ∷ Fresh (codes "y") ∷ [];
  lines = [];
  job = codes "a";
}

abbrev start : State
start = state (with_values (plain 0 X ∷ plain 1 Y ∷ [])) x_and_y

-- texts of forms
half_and_more : form_text x_and_y (form (pos 98304) (term 2 (neg_ℤ (pos 134217728)) ∷ [])) ≡ codes "-0.5y+1.5"
unfolding form_text more_terms digits_within digits
half_and_more = refl

two_terms : form_text x_and_y (form (pos 65536) (term 2 (pos 536870912) ∷ term 1 one ∷ [])) ≡ codes "2y+x+1"
unfolding form_text more_terms digits_within digits
two_terms = refl

minus_terms : form_text x_and_y (form (neg_ℤ (pos 65536)) (term 2 (neg_ℤ one) ∷ term 1 (neg_ℤ one) ∷ [])) ≡ codes "-y-x-1"
unfolding form_text more_terms digits_within digits
minus_terms = refl

no_terms : form_text x_and_y (form (neg_ℤ (pos 32768)) []) ≡ codes "-0.5"
unfolding form_text more_terms digits_within digits
no_terms = refl

no_name : form_text (record { states = None ∷ []; names = None ∷ [] }) (form (pos 0) (term 1 one ∷ [])) ≡ codes "?1"
unfolding form_text more_terms digits_within digits
no_name = refl

-- the types of operands are tested first
types_first : secondary factor.Times (Text []) X start ≡ Err (wrong_type (codes "*"), start)
unfolding secondary secondary_of
types_first = refl

unknown_factors : secondary factor.Times X Y start ≡ Err (not_known (codes "*"), start)
unfolding secondary secondary_of
unknown_factors = refl

difference_of_unknowns : tertiary summand.Minus Y X start ≡ Ok (Numeric (form (pos 0) (term 2 one ∷ term 1 (neg_ℤ one) ∷ [])), start)
unfolding tertiary tertiary_of sum_terms with_term
difference_of_unknowns = refl

named_job : nullary nullary_word.Jobname start ≡ Ok (Text (codes "a"), start)
unfolding nullary
named_job = refl

-- the right side is what is taken away from the left one
abbrev x_minus_y : LinearForm
x_minus_y = form (pos 0) (term 2 (neg_ℤ one) ∷ term 1 one ∷ [])

-- x=y is an event, and then y is shown as x
abbrev equal : State
equal = record start {
  unknowns = record x_and_y { states = None ∷ Some (form (pos 0) (term 1 one ∷ [])) ∷ [] };
  events = Fresh (codes "x") ∷ Fresh (codes "y") ∷ Equation x_minus_y ∷ [];
}

equated : equation X Y start ≡ Ok (tt, equal)
unfolding equation equate_numbers difference_by vanish sum_terms with_term
equated = refl

shown_up_to_date : show Y equal ≡ Ok (tt, record equal { lines = codes ">> x\n" })
unfolding show value_text form_text more_terms line digits_within digits sum_terms with_term
shown_up_to_date = refl

-- the replay of the events leaves what is known of the unknowns
replayed : replay equal.events ≡ equal.unknowns
unfolding sum_terms with_term
replayed = refl

counted : ◌≡◌ {A = ℕ × ℕ} (made_unknowns equal, accepted_equations equal) (2, 1)
counted = refl

-- an equation that holds already is no event
redundant : equation Y X equal ≡ Ok (tt, record equal { lines = codes "## redundant 0\n" })
unfolding equation equate_numbers difference_by vanish line sum_terms with_term digits_within digits
redundant = refl

inconsistent : equation (known_number (pos 65536)) (known_number (pos 65601)) start ≡ Err (error.Inconsistent (neg_ℤ (pos 65)), start)
unfolding equation equate_numbers difference_by vanish sum_terms
inconsistent = refl

-- an unknown that is assigned a number has no name any more
assigned : assign (target.Variable 0 []) (known_number (pos 65536)) start
    ≡ Ok (
      tt,
      state (with_values ((part.Sym 0 ∷ [], record { value = Numeric (form (pos 65536) []); made = false }) ∷ plain 1 Y ∷ []))
          (record x_and_y { names = None ∷ Some (codes "y") ∷ [] }),
    )
unfolding assign without_names
assigned = refl

-- a value of another type than the variable is refused
wrongly_assigned : assign (target.Variable 0 []) (Text []) start ≡ Err (wrong_type (codes ":="), start)
unfolding assign
wrongly_assigned = refl

-- a new root
rooted : root_of 2 start ≡ Ok (
  2,
  record start {
    variables = record start.variables { roots = 3 };
    symbols = record start.symbols { names = (codes "x", Tag 0) ∷ (codes "y", Tag 1) ∷ (codes "z", Tag 2) ∷ [] };
  },
)
unfolding root_of
rooted = refl

-- x is declared a string: it has lost its value, and its unknown has no name
abbrev declared_string : State
declared_string = record start {
  variables = record { roots = 2; declarations = (shape.Sym 0 ∷ [], declared.Typed kind.Text) ∷ []; variables = plain 1 Y ∷ [] };
  unknowns = record x_and_y { names = None ∷ Some (codes "y") ∷ [] };
}

declared_anew : declare 0 [] kind.Text start ≡ Ok (tt, declared_string)
unfolding declare without_names
declared_anew = refl

-- a symbol without a root becomes the tag of one where its declaration is accepted
new_tag : ◌≡◌ {A = Outcome State (Unit {0})} (declare 2 [] kind.Boolean start) (Ok (
  tt,
  record start {
    variables = record start.variables { roots = 3; declarations = (shape.Sym 2 ∷ [], declared.Typed kind.Boolean) ∷ [] };
    symbols = record start.symbols { names = (codes "x", Tag 0) ∷ (codes "y", Tag 1) ∷ (codes "z", Tag 2) ∷ [] };
  },
))
unfolding declare without_names
new_tag = refl

-- then it is read as a slot, which an equation fills
abbrev read_as_slot : State
read_as_slot = record declared_string {
  variables = record declared_string.variables { variables = plain 0 (Unset kind.Text 0) ∷ plain 1 Y ∷ [] };
  slots = None ∷ [];
}

slot_made : read 0 0 [] declared_string ≡ Ok (Unset kind.Text 0, read_as_slot)
unfolding read
slot_made = refl

slot_filled : equation (Unset kind.Text 0) (Text (codes "q")) read_as_slot ≡ Ok (tt, record read_as_slot { slots = Some (Text (codes "q")) ∷ [] })
unfolding equation
slot_filled = refl

nothing_known : equation (Unset kind.Text 0) (Unset kind.Text 0) read_as_slot ≡ Err (not_known (codes "="), read_as_slot)
unfolding equation
nothing_known = refl

-- how parts are written: x3y, x.y, x[-0.5], x3[4]y
symbol_behind_subscript : variable_name start 0 (part.Sub (pos 196608) ∷ part.Sym 1 ∷ []) ≡ codes "x3y"
unfolding parts_text digits_within digits
symbol_behind_subscript = refl

symbol_behind_symbol : suffix_text start (part.Sym 0 ∷ part.Sym 1 ∷ []) ≡ codes "x.y"
unfolding parts_text
symbol_behind_symbol = refl

negative_subscript : variable_name start 0 (part.Sub (neg_ℤ (pos 32768)) ∷ []) ≡ codes "x[-0.5]"
unfolding parts_text digits_within digits
negative_subscript = refl

subscript_behind_subscript : variable_name start 0 (part.Sub (pos 196608) ∷ part.Sub (pos 262144) ∷ part.Sym 1 ∷ []) ≡ codes "x3[4]y"
unfolding parts_text digits_within digits
subscript_behind_subscript = refl

-- an unknown is no subscript
unknown_subscript : subscript X start ≡ Err (error.BadSubscript, start)
unfolding subscript
unknown_subscript = refl

-- what is saved in a group is forgotten at its end, and its unknown has no name
saved_and_forgotten : end_group (with_each word.Save 0 (begin_group start)) ≡ start
unfolding end_group undo_group save without_root without_names
saved_and_forgotten = refl

-- a tag's copy is a new tag
copied_tag : (let_symbol 1 0 start).symbols.names ≡ (codes "x", Tag 0) ∷ (codes "y", NewTag) ∷ (codes "z", NewTag) ∷ []
unfolding let_symbol
copied_tag = refl

-- an internal has its old value again
interim_undone : ◌≡◌ {A = Outcome State (Unit {0})} (then (interim 0 (known_number (pos 0)) (begin_group start)) (λ _. change end_group)) (Ok (tt, start))
unfolding interim number_operand end_group undo_group
interim_undone = refl

user_error : speak speech.Errmessage (Text (codes "no")) start ≡ Err (error.UserError (codes "no"), start)
unfolding speak errmessage text_operand
user_error = refl

-- the words of groups are the symbols behind the parentheses
begins_groups : number_in first_symbols.names (codes "begingroup") ≡ Some group_symbols.begin
unfolding first_symbols with_entries
begins_groups = refl

ends_groups : number_in first_symbols.names (codes "endgroup") ≡ Some group_symbols.end
unfolding first_symbols with_entries
ends_groups = refl
