-- What is known of one unknown.
use Rattle.std.specs.Prelude.{Option, Some, None}
use Rattle.mp_forms.specs.Forms.{LinearForm}
use Rattle.mp_solver.specs.declared.state.State.{State}
use Rattle.mp_solver.specs.declared.state.State.TheVariants.{Independent, Dependent}

-- the form that the unknown equals, where it is dependent
abbrev pub form_in : State → Option LinearForm
form_in Independent = None
form_in (Dependent form) = Some form
