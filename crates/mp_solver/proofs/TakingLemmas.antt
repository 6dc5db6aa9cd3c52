-- What an accepted equation needs to be taken, and what it leaves.
use Rattle.std.proofs.Common.{◌≡◌, ◌≢◌, ℕ, ◌+◌, ◌-◌, ◌<◌, Bool, true, false, ◌||◌, ◌&&◌, List, [], Option, Some, None, map, length, get_or, set, sym, ap, ◌∙◌, subst, arith, get_or-set_same}
use Rattle.std.specs.List.{All, list_any}
use Rattle.std.specs.Option.{option_map}
use Rattle.mp_pool.specs.declared.Term.{Term}
use Rattle.mp_pool.specs.Terms.{StayInOrder}
use Rattle.mp_forms.specs.Forms.{LinearForm}
use Rattle.mp_solver.specs.declared.equated.Equated.{Equated}
use Rattle.mp_solver.specs.declared.equated.Equated.TheVariants.{Accepted}
use Rattle.mp_solver.specs.declared.rewriting.Solved.{Solved}
use Rattle.mp_solver.specs.States.{States}
use Rattle.mp_solver.specs.Elimination.{solved_for, replaced, solved_states, forms_in, has_large_coefficient, has_large_constant, term_count, over_negative, without, eliminate}
use Rattle.mp_solver.specs.Ready.{IsResidual}
use Rattle.mp_solver.specs.Storage.Taking.{IsSolving, IsReady}
use Rattle.mp_solver.specs.Storage.Tally.{IsEnough}
use Rattle.mp_solver.specs.Storage.Counts.{IsSystem}
use Rattle.mp_solver.specs.Storage.Rows.{Holders, AreListed, IsIndexed}
use Rattle.mp_solver.proofs.RowLemmas.{both_true, IsIndexed-forget}
use Rattle.mp_solver.proofs.OutcomeLemmas.{IsTaken, taken, IsSystem-taken}
use Rattle.mp_solver.proofs.EliminationLemmas.{list_any-set, slot_within, slot_empty, length_after}
use Rattle.mp_solver.proofs.TermLists.{Each-changed_terms, Each-without}

or_right : (a b : Bool) → (a || b) ≡ false → b ≡ false
or_right true b e = absurd cc
or_right false b e = e

module _ (states : States) (residual : LinearForm) (answer : Equated) (cells lists : ℕ) (solved : Solved) (is : IsResidual states residual) (solving : IsSolving states residual answer cells lists solved) where
  abbrev pivot : Term
  pivot = solving.pivot

  abbrev new : LinearForm
  new = solved_for pivot residual

  abbrev before : States
  before = map (option_map (replaced pivot.serial new)) states

  abbrev pub mapped : States
  mapped = map (option_map (replaced solved.serial solved.form)) states

  mapped_is : mapped ≡ before
  mapped_is = ap (λ s. map (option_map (replaced s solved.form)) states) solving.serial ∙ ap (λ p. map (option_map (replaced pivot.serial p)) states) solving.form

  whole : IsTaken states residual (solved_states states pivot new)
  whole = taken states residual pivot solving.outcome

  none_of : (test : LinearForm → Bool) → list_any test (forms_in (solved_states states pivot new)) ≡ false → list_any test (forms_in mapped) ≡ false
  none_of test none =
      ap (λ ss. list_any test (forms_in ss)) mapped_is
      ∙ or_right (test new) _ (sym (list_any-set test before (pivot.serial - 1) new (slot_within states residual is pivot solving.found) (slot_empty states residual is pivot solving.found)) ∙ none)

  pub solving-coefficients : list_any has_large_coefficient (forms_in mapped) ≡ false
  solving-coefficients = none_of has_large_coefficient whole.coefficients

  pub solving-constants : list_any has_large_constant (forms_in mapped) ≡ false
  solving-constants = none_of has_large_constant whole.constants

  -- the room that the replacements need
  pub solving-room : IsEnough states solved.serial solved.form (cells + term_count states)
  solving-room = rw (solving.form, solving.serial) solving.enough_cells

  -- the pivot is not in its new form
  pub solving-others : All (λ t. t.serial ≢ solved.serial) solved.form.terms
  solving-others =
      rw (solving.form, solving.serial)
      (Each-changed_terms (λ s. s ≢ pivot.serial) (over_negative pivot.coefficient) (without pivot.serial residual.terms) (Each-without pivot.serial residual.terms))

  -- the states after it
  pub solving-after : set mapped (solved.serial - 1) (Some solved.form) ≡ solved_states states pivot new
  solving-after =
      ap (λ ss. set ss (solved.serial - 1) (Some solved.form)) mapped_is
      ∙ ap (λ s. set before (s - 1) (Some solved.form)) solving.serial
      ∙ ap (λ p. set before (pivot.serial - 1) (Some p)) solving.form

  pub solving-row : solved.serial - 1 < length mapped
  solving-row =
      let inside = slot_within states residual is pivot solving.found in
      let same = ap length mapped_is in
      omega (arith, inside, same, solving.serial)

  pub solving-empty : get_or mapped (solved.serial - 1) None ≡ None
  solving-empty =
      ap (λ ss. get_or ss (solved.serial - 1) None) mapped_is ∙ ap (λ s. get_or before (s - 1) None) solving.serial ∙ slot_empty states residual is pivot solving.found

  -- the system after it
  pub IsIndexed-taken : (order : StayInOrder) {names : List (Option (List ℕ))} (dependent : ℕ) (holders after : Holders) (is_listed listed : Bool) (now : States) → now ≡ set mapped (solved.serial - 1) (Some solved.form) → length after ≡ length holders →
      (listed ≡ true → AreListed states holders → AreListed now after) → IsIndexed states names dependent (term_count states) holders is_listed →
      IsIndexed now names (dependent + 1) (term_count now) (set after (solved.serial - 1) []) (is_listed && listed)
  IsIndexed-taken order {names} dependent holders after is_listed listed now now_is same_holders lists indexed =
      let now_after : now ≡ solved_states states pivot new = now_is ∙ solving-after in
      let system = subst (λ ss. IsSystem ss names (dependent + 1) (term_count ss)) (sym now_after) (IsSystem-taken states residual pivot solving.outcome order is dependent (term_count states) indexed.system) in
      let long : length now ≡ length states = ap length now_after ∙ length_after states residual is pivot solving.found in
      let here : get_or now (solved.serial - 1) None ≡ Some solved.form = ap (λ ss. get_or ss (solved.serial - 1) None) now_is ∙ get_or-set_same mapped (solved.serial - 1) (Some solved.form) None solving-row in
      IsIndexed-forget now names (dependent + 1) (term_count now) after (is_listed && listed) (solved.serial - 1) (λ none. let both = sym here ∙ none in absurd cc)
      (record {
        system = system;
        lists = same_holders ∙ indexed.lists ∙ sym long;
        listed = λ both. let parts = both_true is_listed listed both in lists parts.1 (indexed.listed parts.0);
      })

-- what a prepared equation says of the system that it is taken for
pub solving-here : (before states : States) → before ≡ states → (residual : LinearForm) (answer : Equated) (solved : Option Solved) (cells lists : ℕ) → IsReady before residual answer solved cells lists →
    (s : Solved) → solved ≡ Some s → IsResidual states residual × IsSolving states residual answer cells lists s
solving-here before states same residual answer solved cells lists ready s some =
    (subst (λ ss. IsResidual ss residual) same ready.is_residual, subst (λ ss. IsSolving ss residual answer cells lists s) same (ready.solving s some))

pub refused-here : (before states : States) → before ≡ states → (residual : LinearForm) (answer : Equated) (solved : Option Solved) (cells lists : ℕ) → IsReady before residual answer solved cells lists →
    solved ≡ None → ((answer, states) ≡ eliminate states residual) × (answer ≢ Accepted)
refused-here before states same residual answer solved cells lists ready none =
    subst (λ ss. ((answer, ss) ≡ eliminate ss residual) × (answer ≢ Accepted)) same (ready.refused none)
