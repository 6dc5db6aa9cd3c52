-- What is true of all names and of all lists of variables.
use Rattle.std.specs.Prelude.{◌≡◌, ◌↔◌, ℕ, Bool, true, cond, List, Option, Some, None, IsTrue}
use Rattle.std.specs.Ordering.{eq_by_cmp}
use Rattle.std.specs.FinMap.{find, is_sorted}
use Rattle.mp_vartree.specs.Names.{name_cmp, pattern_cmp, full_name, matches, pattern_of}
use Rattle.mp_vartree.specs.Variables.{Variables, with_variable, without}
use Rattle.mp_vartree.specs.declared.names.Part.{Part}
use Rattle.mp_vartree.specs.declared.names.Shape.{Shape}
use Rattle.mp_vartree.specs.declared.entry.Variable.{Variable}

-- a name matches one pattern, and no other
abbrev pub MatchesOne : Type 0
MatchesOne = (pattern : List Shape) → (name : List Part) → (matches pattern name ≡ true) ↔ (pattern ≡ pattern_of name)

abbrev pub held : Variables → List Part → Option Variable
held v name = find name_cmp name v.variables

-- a variable that is put in stands at its name, and all others stand where they were
abbrev pub PutsOne : Type 0
PutsOne = (v : Variables) → (root : ℕ) → (name : List Part) → (x : Variable) → (other : List Part)
    → held (with_variable v root name x) other ≡ cond (eq_by_cmp name_cmp other (full_name root name)) (Some x) (held v other)

-- what passes a test is gone, and all others stand where they were
abbrev pub TakesThose : Type 0
TakesThose = (v : Variables) → (test : List Part → Bool) → (name : List Part) → held (without v test) name ≡ cond (test name) None (held v name)

-- only equal names tie
abbrev pub TellsApart : Type 0
TellsApart = (a b : List Part) → (IsTrue (eq_by_cmp name_cmp a b)) ↔ (a ≡ b)

-- each pattern and each full name stands once
pub record AreOnce (v : Variables) : Type 0 where
  pub declarations : IsTrue (is_sorted pattern_cmp v.declarations)
  pub variables : IsTrue (is_sorted name_cmp v.variables)
