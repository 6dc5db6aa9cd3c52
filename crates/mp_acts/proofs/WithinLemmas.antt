-- Variables, slots, unknowns and symbols that change, and all still speaks of what there is.
use Rattle.std.proofs.Common.{◌≡◌, ℕ, ◌+◌, ◌≤◌, ◌<◌, Bool, true, false, cond, List, [], ◌∷◌, ◌++◌, Option, Some, None, Result, Ok, Err, length, get_or, zero, suc, map, refl, sym, ap, subst, ◌∙◌, arith}
use Rattle.std.specs.List.{All}
use Rattle.std.specs.FinMap.Entries.{put, by_order, find}
use Rattle.std.specs.Option.{IfSome, option_map}
use Rattle.std.specs.Ordering.{eq_by_cmp}
use Rattle.std.specs.declared.cmp.Ordering.{Ordering}
use Rattle.std.specs.declared.cmp.Ordering.TheVariants.{Less, Equal, Greater}
use Rattle.std.specs.Prelude.{not, nat_lt, slice_set}
use Rattle.std.proofs.Common.{length-append}
use Rattle.std.proofs.lemmas.Bool.Decides.{nat_tests}
use Rattle.std.proofs.lemmas.List.Elements.{All-cons, All-head, All-tail, All-push, All-set, All-filter, All-weaker}
use Rattle.mp_forms.specs.Forms.{LinearForm}
use Rattle.mp_solver.specs.States.{States, Unknowns, with_fresh, fresh_of}
use Rattle.mp_solver.specs.declared.fresh.Fresh.{Fresh}
use Rattle.mp_solver.specs.declared.fresh.Fresh.TheVariants.{Made, Limit}
use Rattle.mp_values.specs.declared.macros.Macro.{Macro}
use Rattle.mp_values.specs.declared.value.Value.{Value}
use Rattle.mp_values.specs.Kinds.{kind_of, is_kind}
use Rattle.mp_vartree.specs.Names.{name_cmp, pattern_cmp, pattern_of, full_name, full_pattern, begins, is_meant, is_of_root}
use Rattle.mp_vartree.specs.Declarations.{macro_in, or_else, first_macro, is_below_macro}
use Rattle.mp_vartree.specs.Laws.{held, PutsOne, TakesThose}
use Rattle.mp_vartree.specs.Variables as variables
use Rattle.mp_vartree.specs.Variables.{Variables, with_variable, without, with_declared, declared_at, macro_at, macro_of, wanted_kind}
use Rattle.mp_vartree.specs.declared.answers.BadDeclaration.{BadDeclaration}
use Rattle.mp_vartree.specs.declared.answers.WrongType.{WrongType}
use Rattle.mp_vartree.specs.declared.entry.Declared.{Declared}
use Rattle.mp_vartree.specs.declared.entry.Declared.TheVariants as declared
use Rattle.mp_vartree.specs.declared.entry.Variable.{Variable}
use Rattle.mp_vartree.specs.declared.names.Part.{Part}
use Rattle.mp_vartree.specs.declared.names.Shape.{Shape}
use Rattle.mp_solver.specs.Replay as event
use Rattle.mp_solver.specs.Replay.{Event}
use Rattle.mp_values.specs.declared.meaning.Meaning.{Meaning}
use Rattle.mp_acts.specs.Counts.{Counts, nothing, greatest, IsWithin}
use Rattle.mp_acts.specs.Reach.{reach, reach_of_fresh, reach_of_variable, reach_of_macro, reach_of_declared, reach_of_slot, reach_of_meaning, reach_of_saved, AreWithin}
use Rattle.mp_ops.specs.Store.{reach_of_form, reach_of_known}
use Rattle.std.proofs.lemmas.List.{length-set}
use Rattle.mp_symbols.specs.Names.{Names}
use Rattle.mp_symbols.specs.Tables.{Table}
use Rattle.mp_symbols.specs.declared.saved.Saved.{Saved}
use Rattle.mp_acts.specs.State.{State, counts_of}
use Rattle.mp_acts.specs.Events.{event_of}
use Rattle.mp_acts.specs.Kept.{IsKept}
use Rattle.mp_acts.specs.Variables.{without_names}
use Rattle.mp_acts.specs.declared.event.Event.{Event as Kept}
use Rattle.mp_solver.specs.declared.limits.TheConstants.{UNKNOWN_LIMIT}
use Rattle.mp_acts.proofs.EventLemmas.{map_push, events_fresh, states_without_names, events_without_names}
use Rattle.mp_ops.proofs.ReachLemmas.{reach_of_counted}

pub nothing_within : (n : Counts) → IsWithin nothing n
nothing_within n = record { unknowns = omega arith; slots = omega arith; symbols = omega arith; internals = omega arith }

pub within_more : (a b c : Counts) → IsWithin a b → IsWithin b c → IsWithin a c
within_more a b c h k = record {
  unknowns = omega (arith, h.unknowns, k.unknowns);
  slots = omega (arith, h.slots, k.slots);
  symbols = omega (arith, h.symbols, k.symbols);
  internals = omega (arith, h.internals, k.internals);
}

pub form_within : (n : Counts) (p : LinearForm) → reach_of_form p ≤ n.unknowns → IsWithin (record nothing { unknowns = reach_of_form p }) n
form_within n p h = record { unknowns = h; slots = omega arith; symbols = omega arith; internals = omega arith }

-- unknowns that are as many
pub as_many_within : (before after : States) (slots : List (Option Value)) (symbols : Table Meaning) → length after ≡ length before
    → IsWithin (counts_of before slots symbols) (counts_of after slots symbols)
as_many_within before after slots symbols same = record { unknowns = omega (arith, same); slots = omega arith; symbols = omega arith; internals = omega arith }

-- one of a list asks for no more than the whole of it
pub greatest_each : {A : Type 0} (f : A → Counts) (xs : List A) (i : ℕ) (d : A) → i < length xs → IsWithin (f (get_or xs i d)) (greatest f xs)
unfolding greatest
greatest_each f [] i d h = absurd (omega arith)
greatest_each f (x ∷ xs) zero d h = record { unknowns = omega arith; slots = omega arith; symbols = omega arith; internals = omega arith }
greatest_each f (x ∷ xs) (suc i) d h =
    let rest = greatest_each f xs i d (omega arith) in
    record { unknowns = omega (arith, rest.unknowns); slots = omega (arith, rest.slots); symbols = omega (arith, rest.symbols); internals = omega (arith, rest.internals) }

-- where each of a list asks for no more than there is, all of them do
pub greatest_within : {A : Type 0} (f : A → Counts) (n : Counts) (xs : List A) → All (λ x. IsWithin (f x) n) xs → IsWithin (greatest f xs) n
unfolding greatest
greatest_within f n [] is = nothing_within n
greatest_within f n (x ∷ xs) is =
    let one = All-head (λ x. IsWithin (f x) n) x xs is in
    let rest = greatest_within f n xs (All-tail (λ x. IsWithin (f x) n) x xs is) in
    record {
      unknowns = omega (arith, one.unknowns, rest.unknowns);
      slots = omega (arith, one.slots, rest.slots);
      symbols = omega (arith, one.symbols, rest.symbols);
      internals = omega (arith, one.internals, rest.internals);
    }

-- and the other way round
pub all_within : {A : Type 0} (f : A → Counts) (n : Counts) (xs : List A) → IsWithin (greatest f xs) n → All (λ x. IsWithin (f x) n) xs
all_within f n xs is = λ i d h. within_more (f (get_or xs i d)) (greatest f xs) n (greatest_each f xs i d h) is

-- what was within is so where there is more
pub all_more : {A : Type 0} (f : A → Counts) (xs : List A) (a b : Counts) → IsWithin a b → All (λ x. IsWithin (f x) a) xs → All (λ x. IsWithin (f x) b) xs
all_more f xs a b more is = All-weaker (λ x. IsWithin (f x) a) (λ x. IsWithin (f x) b) (λ x h. within_more (f x) a b h more) xs is

-- each macro that was declared of variables reaches so far at most
abbrev pub DeclareWithin : Counts → List (List Shape × Declared) → Type 0
DeclareWithin n declarations = All (λ entry. IsWithin (reach_of_declared entry.1) n) declarations

-- each variable does, and each macro that was declared of variables
pub record HoldWithin (n : Counts) (v : Variables) : Type 0 where
  pub held : (name : List Part) → IsWithin (reach_of_variable (held v name)) n
  pub macros : DeclareWithin n v.declarations

pub holding : {count : ℕ} {unknowns : Unknowns} {v : Variables} {slots : List (Option Value)} {symbols : Table Meaning} {events : List Event}
    → IsKept count unknowns v slots symbols events → HoldWithin (counts_of unknowns.states slots symbols) v
holding is = record { held = is.within.held; macros = is.within.macros }

-- what is kept of a state, with other variables
pub with_variables : {count : ℕ} {unknowns : Unknowns} {old new : Variables} {slots : List (Option Value)} {symbols : Table Meaning} {events : List Event}
    → IsKept count unknowns old slots symbols events → HoldWithin (counts_of unknowns.states slots symbols) new → IsKept count unknowns new slots symbols events
with_variables is h = record {
  counted = is.counted;
  within = record { few = is.within.few; words = is.within.words; forms = is.within.forms; held = h.held; macros = h.macros; filled = is.within.filled; meanings = is.within.meanings; saved = is.within.saved };
  history = is.history;
}

-- a new root changes no variable
pub rooted_within : (n : Counts) (old new : Variables) → new ≡ variables.with_new_root old → HoldWithin n old → HoldWithin n new
rooted_within n old new e h = subst (λ (w : Variables). HoldWithin n w) (sym e) (record { held = h.held; macros = h.macros })

-- an entry that is put into a list, and one that is found in it
put_within : {K X : Type 0} (R : K → K → Ordering) (P : X → Type 0) (k : K) (x : X) (es : List (K × X)) → P x → All (λ e. P e.1) es → All (λ e. P e.1) (put R k x es)
put_within R P k x [] h is = All-cons (λ e. P e.1) (k, x) [] h is
put_within R P k x (e ∷ es) h is =
    let left = All-tail (λ e. P e.1) e es is in
    elim (R k e.0) as (λ o. All (λ e. P e.1) (by_order o ((k, x) ∷ e ∷ es) ((e.0, x) ∷ es) (e ∷ put R k x es))) [
      | Less ↦ All-cons (λ e. P e.1) (k, x) (e ∷ es) h is
      | Equal ↦ All-cons (λ e. P e.1) (e.0, x) es h left
      | Greater ↦ All-cons (λ e. P e.1) e (put R k x es) (All-head (λ e. P e.1) e es is) (put_within R P k x es h left)
    ]

find_within : {K X : Type 0} (R : K → K → Ordering) (P : X → Type 0) (k : K) (es : List (K × X)) → All (λ e. P e.1) es → IfSome (find R k es) P
find_within R P k [] is = tt
find_within R P k (e ∷ es) is =
    elim (eq_by_cmp R k e.0) as (λ b. IfSome (cond b (Some e.1) (find R k es)) P) [
      | true ↦ All-head (λ e. P e.1) e es is
      | false ↦ find_within R P k es (All-tail (λ e. P e.1) e es is)
    ]

-- the macro that a name begins with
module _ (n : Counts) where
  abbrev MacroWithin : Option Macro → Type 0
  MacroWithin o = IfSome o (λ m. IsWithin (reach_of_macro m) n)

  abbrev named : Option (Macro × ℕ) → Option Macro
  named o = option_map (λ m. m.0) o

  declared_within : (d : Option Declared) → IfSome d (λ d. IsWithin (reach_of_declared d) n) → MacroWithin (macro_in d)
  declared_within None h = tt
  declared_within (Some (declared.Typed kind)) h = tt
  declared_within (Some (declared.Macro m)) h = h

  or_else_within : (m : Option Macro) (count : ℕ) (other : Option (Macro × ℕ)) → MacroWithin m → MacroWithin (named other) → MacroWithin (named (or_else m count other))
  or_else_within (Some m) count other h k = h
  or_else_within None count other h k = k

  first_macro_within : (at : List Shape → Option Macro) (ss : List Shape) (count : ℕ) → ((pattern : List Shape) → MacroWithin (at pattern)) → MacroWithin (named (first_macro at ss count))
  first_macro_within at [] count every = or_else_within (at []) count None (every []) tt
  first_macro_within at (s ∷ ss) count every =
      or_else_within (at []) count (first_macro (λ rest. at (s ∷ rest)) ss (suc count)) (every [])
      (first_macro_within (λ rest. at (s ∷ rest)) ss (suc count) (λ rest. every (s ∷ rest)))

  pub macro_within : (v : Variables) (root : ℕ) (name : List Part) → DeclareWithin n v.declarations → IfSome (option_map (λ m. m.0) (macro_of v root name)) (λ m. IsWithin (reach_of_macro m) n)
  macro_within v root name is =
      first_macro_within (macro_at v root) (pattern_of name) 0
      (λ pattern. declared_within (declared_at v (full_pattern root pattern)) (find_within pattern_cmp (λ d. IsWithin (reach_of_declared d) n) (full_pattern root pattern) v.declarations is))

-- the same of what the code answers, which sees the macro in another
pub macro_lent : {M : Type 0} (seen : M → Macro) (n : Counts) (v : Variables) (root : ℕ) (name : List Part) (answer : Option (M × ℕ)) → DeclareWithin n v.declarations
    → option_map (λ (m : M × ℕ). (seen m.0, m.1)) answer ≡ macro_of v root name → IfSome answer (λ (m : M × ℕ). IsWithin (reach_of_macro (seen m.0)) n)
macro_lent seen n v root name answer is e =
    by_answer seen n answer
    (subst (λ (o : Option (Macro × ℕ)). IfSome (option_map (λ (m : Macro × ℕ). m.0) o) (λ (m : Macro). IsWithin (reach_of_macro m) n)) (sym e) (macro_within n v root name is))
  where
    by_answer : {M : Type 0} (seen : M → Macro) (n : Counts) (answer : Option (M × ℕ))
        → IfSome (option_map (λ (m : Macro × ℕ). m.0) (option_map (λ (m : M × ℕ). (seen m.0, m.1)) answer)) (λ (m : Macro). IsWithin (reach_of_macro m) n)
        → IfSome answer (λ (m : M × ℕ). IsWithin (reach_of_macro (seen m.0)) n)
    by_answer seen n None h = tt
    by_answer seen n (Some m) h = h

module _ (n : Counts) (v : Variables) (within : HoldWithin n v) where
  held_with : PutsOne → (root : ℕ) (name : List Part) (x : Variable) → IsWithin (reach x.value) n → (other : List Part) → IsWithin (reach_of_variable (held (with_variable v root name x) other)) n
  held_with puts root name x h other =
      rw (puts v root name x other)
      (elim (eq_by_cmp name_cmp other (full_name root name)) as (λ b. IsWithin (reach_of_variable (cond b (Some x) (held v other))) n) [
        | true ↦ h
        | false ↦ within.held other
      ])

  held_without : TakesThose → (test : List Part → Bool) (other : List Part) → IsWithin (reach_of_variable (held (without v test) other)) n
  held_without takes test other =
      rw (takes v test other)
      (elim (test other) as (λ b. IsWithin (reach_of_variable (cond b None (held v other))) n) [
        | true ↦ nothing_within n
        | false ↦ within.held other
      ])

  pub forget_within : TakesThose → (root : ℕ) → HoldWithin n (variables.forget v root)
  forget_within takes root = record {
    held = held_without takes (begins (full_pattern root []));
    macros = All-filter (λ entry. not (is_of_root root entry.0)) (λ entry. IsWithin (reach_of_declared entry.1) n) v.declarations within.macros;
  }

  pub define_within : TakesThose → (root : ℕ) (name : List Shape) (d : Declared) (below : Bool) (answer : Result (Unit {0}) BadDeclaration) (new : Variables)
      → (answer, new) ≡ variables.define v root name d below → IsWithin (reach_of_declared d) n → HoldWithin n new
  define_within takes root name d below answer new e h =
      let after = without (with_declared v (full_pattern root name) d) (is_meant below (full_pattern root name)) in
      let by : (b : Bool) → HoldWithin n (cond {A = Result (Unit {0}) BadDeclaration × Variables} b (Err (record {}), v) (Ok tt, after)).1 =
      λ b. elim b as (λ b. HoldWithin n (cond {A = Result (Unit {0}) BadDeclaration × Variables} b (Err (record {}), v) (Ok tt, after)).1) [
        | true ↦ within
        | false ↦ record {
          held = held_without takes (is_meant below (full_pattern root name));
          macros = put_within pattern_cmp (λ d. IsWithin (reach_of_declared d) n) (full_pattern root name) d v.declarations h within.macros;
        }
      ] in
      subst (λ (w : Variables). HoldWithin n w) (sym (ap (λ pair. pair.1) e)) (by (is_below_macro (macro_at v root) name))

  pub store_within : PutsOne → (made : Bool) (root : ℕ) (name : List Part) (value : Value) (answer : Result (Unit {0}) WrongType) (new : Variables)
      → (answer, new) ≡ variables.store_as made v root name value → IsWithin (reach value) n → HoldWithin n new
  store_within puts made root name value answer new e h =
      let after = with_variable v root name (record { value = value; made = made }) in
      let by : (b : Bool) → HoldWithin n (cond {A = Result (Unit {0}) WrongType × Variables} b (Ok tt, after) (Err (record {}), v)).1 =
      λ b. elim b as (λ b. HoldWithin n (cond {A = Result (Unit {0}) WrongType × Variables} b (Ok tt, after) (Err (record {}), v)).1) [
        | true ↦ record { held = held_with puts root name (record { value = value; made = made }) h; macros = within.macros }
        | false ↦ within
      ] in
      subst (λ (w : Variables). HoldWithin n w) (sym (ap (λ pair. pair.1) e)) (by (is_kind (wanted_kind v root name) (kind_of value)))

-- and with fewer names of unknowns
pub with_fewer_names : {count : ℕ} {variables : Variables} {slots : List (Option Value)} {symbols : Table Meaning} {events : List Event} (serials : List ℕ) (old new : Unknowns)
    → new ≡ without_names old serials → IsKept count old variables slots symbols events → IsKept count new variables slots symbols events
with_fewer_names {count = count} {variables = variables} {slots = slots} {symbols = symbols} {events = events} serials old new taken is =
    let same = states_without_names serials old in
    subst (λ (u : Unknowns). IsKept count u variables slots symbols events) (sym taken) (record {
      counted = is.counted ∙ sym (ap length same);
      within = subst (λ (states : States). AreWithin states variables slots symbols) (sym same) is.within;
      history = events_without_names serials old is.history;
    })

-- unknowns with the same states differ by their names
pub with_states : (symbols : Table Meaning) (variables : Variables) (slots : List (Option Value)) (events : List Event) (lines job : List ℕ) (now before : Unknowns) → now.states ≡ before.states
    → ◌≡◌ {A = State} (record { symbols = symbols; variables = variables; slots = slots; unknowns = now; events = events; lines = lines; job = job })
    (record { symbols = symbols; variables = variables; slots = slots; unknowns = record before { names = now.names }; events = events; lines = lines; job = job })
with_states symbols variables slots events lines job now before same =
    ap (λ (states : States). record { symbols = symbols; variables = variables; slots = slots; unknowns = record now { states = states }; events = events; lines = lines; job = job }) same

-- an unknown that was made: the unknowns before and after it
module _ (before : Unknowns) (name : List ℕ) (serial : ℕ) (after : Unknowns) (exact : (Made serial, after) ≡ fresh_of before name) where
  made_by : (b : Bool) → nat_lt (length before.states) UNKNOWN_LIMIT ≡ b
      → (Made serial, after) ≡ cond {A = Fresh × Unknowns} b (Made (length before.states + 1), record { states = with_fresh before.states; names = before.names ++ Some name ∷ [] }) (Limit, before)
      → (length before.states < UNKNOWN_LIMIT) × (serial ≡ length before.states + 1) × (after.states ≡ with_fresh before.states)
  made_by true test e = (grind (arith, nat_tests), serial_is (ap (λ pair. pair.0) e), ap (λ pair. pair.1.states) e)
    where
      serial_is : {a b : ℕ} → Made a ≡ Made b → a ≡ b
      serial_is e = cc
  made_by false test e = absurd (other (ap (λ pair. pair.0) e))
    where
      other : {a : ℕ} → Made a ≡ Limit → ⊥
      other e = cc

  pub made_is : (length before.states < UNKNOWN_LIMIT) × (serial ≡ length before.states + 1) × (after.states ≡ with_fresh before.states)
  made_is = made_by (nat_lt (length before.states) UNKNOWN_LIMIT) refl exact

  pub length_made : length after.states ≡ length before.states + 1
  length_made = ap length made_is.2 ∙ length-append before.states (None ∷ [])

  pub made_reached : reach_of_fresh (Made serial) ≤ length after.states
  made_reached = omega (arith, length_made, reach_of_counted (length before.states) serial made_is.1)

  more_made : (slots : List (Option Value)) (symbols : Table Meaning) → IsWithin (counts_of before.states slots symbols) (counts_of after.states slots symbols)
  more_made slots symbols = record { unknowns = omega (arith, length_made); slots = omega arith; symbols = omega arith; internals = omega arith }

  within_made : {v : Variables} {slots : List (Option Value)} {symbols : Table Meaning} → AreWithin before.states v slots symbols → AreWithin after.states v slots symbols
  within_made {v = v} {slots = slots} {symbols = symbols} is =
      let n = length before.states in
      let m = length after.states in
      let old = counts_of before.states slots symbols in
      let new = counts_of after.states slots symbols in
      let more = more_made slots symbols in
      let forms : All (λ known. reach_of_known known ≤ m) (with_fresh before.states) =
      All-push (λ known. reach_of_known known ≤ m) before.states None
      (All-weaker (λ known. reach_of_known known ≤ n) (λ known. reach_of_known known ≤ m) (λ known h. omega (arith, length_made, h)) before.states is.forms) (omega arith) in
      record {
        few = omega (arith, length_made, made_is.0);
        words = is.words;
        forms = subst (λ (states : States). All (λ known. reach_of_known known ≤ m) states) (sym made_is.2) forms;
        held = λ name. within_more (reach_of_variable (held v name)) old new (is.held name) more;
        macros = all_more (λ entry. reach_of_declared entry.1) v.declarations old new more is.macros;
        filled = all_more reach_of_slot slots old new more is.filled;
        meanings = all_more (λ entry. reach_of_meaning entry.1) symbols.names old new more is.meanings;
        saved = all_more reach_of_saved symbols.saved old new more is.saved;
      }

  pub with_unknown : {count : ℕ} {v : Variables} {slots : List (Option Value)} {symbols : Table Meaning} {events : List Event}
      → IsKept count before v slots symbols events → IsKept (count + 1) after v slots symbols (events ++ event.Fresh name ∷ [])
  with_unknown is = record {
    counted = omega (arith, length_made, is.counted);
    within = within_made is.within;
    history = events_fresh before name serial after exact made_is.2 is.history;
  }

-- what is kept of a state with a new event, as the code adds it
pub with_event : {count : ℕ} {unknowns : Unknowns} {variables : Variables} {slots : List (Option Value)} {symbols : Table Meaning} (old new : List Kept) (e : Kept)
    → new ≡ old ++ e ∷ [] → IsKept count unknowns variables slots symbols (map event_of old ++ event_of e ∷ []) → IsKept count unknowns variables slots symbols (map event_of new)
with_event {count = count} {unknowns = unknowns} {variables = variables} {slots = slots} {symbols = symbols} old new e pushed is =
    subst (λ (events : List Event). IsKept count unknowns variables slots symbols events) (sym (map_push old new e pushed)) is

-- one more slot, which is open
more_slots : (unknowns : States) (slots : List (Option Value)) (symbols : Table Meaning) → IsWithin (counts_of unknowns slots symbols) (counts_of unknowns (slots ++ None ∷ []) symbols)
more_slots unknowns slots symbols =
    record { unknowns = omega arith; slots = omega (arith, length-append slots (None ∷ [])); symbols = omega arith; internals = omega arith }

pub with_slot : {count : ℕ} {unknowns : Unknowns} {v : Variables} {slots : List (Option Value)} {symbols : Table Meaning} {events : List Event}
    → IsKept count unknowns v slots symbols events → IsKept count unknowns v (slots ++ None ∷ []) symbols events
with_slot {unknowns = unknowns} {v = v} {slots = slots} {symbols = symbols} is =
    let old = counts_of unknowns.states slots symbols in
    let new = counts_of unknowns.states (slots ++ None ∷ []) symbols in
    let more = more_slots unknowns.states slots symbols in
    record {
      counted = is.counted;
      within = record {
        few = is.within.few;
        words = is.within.words;
        forms = is.within.forms;
        held = λ name. within_more (reach_of_variable (held v name)) old new (is.within.held name) more;
        macros = all_more (λ entry. reach_of_declared entry.1) v.declarations old new more is.within.macros;
        filled = All-push (λ slot. IsWithin (reach_of_slot slot) new) slots None (all_more reach_of_slot slots old new more is.within.filled) (nothing_within new);
        meanings = all_more (λ entry. reach_of_meaning entry.1) symbols.names old new more is.within.meanings;
        saved = all_more reach_of_saved symbols.saved old new more is.within.saved;
      };
      history = is.history;
    }

-- a slot that is filled
pub with_filled : {count : ℕ} {unknowns : Unknowns} {v : Variables} {slots : List (Option Value)} {symbols : Table Meaning} {events : List Event} (slot : ℕ) (value : Value)
    → IsWithin (reach value) (counts_of unknowns.states slots symbols) → IsKept count unknowns v slots symbols events → IsKept count unknowns v (slice_set slots slot (Some value)) symbols events
with_filled {unknowns = unknowns} {v = v} {slots = slots} {symbols = symbols} slot value h is =
    let old = counts_of unknowns.states slots symbols in
    let new = counts_of unknowns.states (slice_set slots slot (Some value)) symbols in
    let same = length-set slots slot (Some value) in
    let more : IsWithin old new = record { unknowns = omega arith; slots = omega (arith, same); symbols = omega arith; internals = omega arith } in
    record {
      counted = is.counted;
      within = record {
        few = is.within.few;
        words = is.within.words;
        forms = is.within.forms;
        held = λ name. within_more (reach_of_variable (held v name)) old new (is.within.held name) more;
        macros = all_more (λ entry. reach_of_declared entry.1) v.declarations old new more is.within.macros;
        filled = All-set (λ entry. IsWithin (reach_of_slot entry) new) slots slot (Some value) (within_more (reach value) old new h more) (all_more reach_of_slot slots old new more is.within.filled);
        meanings = all_more (λ entry. reach_of_meaning entry.1) symbols.names old new more is.within.meanings;
        saved = all_more reach_of_saved symbols.saved old new more is.within.saved;
      };
      history = is.history;
    }

-- another table of names, with as much at least, whose meanings are within it
pub with_table : {count : ℕ} {unknowns : Unknowns} {v : Variables} {slots : List (Option Value)} {old new : Table Meaning} {events : List Event}
    → IsWithin (counts_of unknowns.states slots old) (counts_of unknowns.states slots new)
    → All (λ entry. IsWithin (reach_of_meaning entry.1) (counts_of unknowns.states slots new)) new.names → All (λ entry. IsWithin (reach_of_saved entry) (counts_of unknowns.states slots new)) new.saved
    → IsKept count unknowns v slots old events → IsKept count unknowns v slots new events
with_table {unknowns = unknowns} {v = v} {slots = slots} {old = old} {new = new} more meanings saved is =
    let before = counts_of unknowns.states slots old in
    let after = counts_of unknowns.states slots new in
    record {
      counted = is.counted;
      within = record {
        few = is.within.few;
        words = omega (arith, is.within.words, more.symbols);
        forms = is.within.forms;
        held = λ name. within_more (reach_of_variable (held v name)) before after (is.within.held name) more;
        macros = all_more (λ entry. reach_of_declared entry.1) v.declarations before after more is.within.macros;
        filled = all_more reach_of_slot slots before after more is.within.filled;
        meanings = meanings;
        saved = saved;
      };
      history = is.history;
    }

-- the names and what is kept for ends of groups, with as much at least
pub meanings_more : (names : Names Meaning) (a b : Counts) → IsWithin a b → All (λ entry. IsWithin (reach_of_meaning entry.1) a) names → All (λ entry. IsWithin (reach_of_meaning entry.1) b) names
meanings_more names a b more is = all_more (λ entry. reach_of_meaning entry.1) names a b more is

pub saved_more : (saved : List (Saved Meaning)) (a b : Counts) → IsWithin a b → All (λ entry. IsWithin (reach_of_saved entry) a) saved → All (λ entry. IsWithin (reach_of_saved entry) b) saved
saved_more saved a b more is = all_more reach_of_saved saved a b more is
