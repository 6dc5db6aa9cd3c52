-- What an expander holds: the text that is left, what waits for more of it, and the conditions that are open.
use Rattle.std.specs.Prelude.{◌≡◌, ℕ, List, ◌∷◌, Option, Some, None, Result, Err, ◌⊎◌, drop}
use Rattle.mp_report.specs.declared.place.Place.{Place}
use Rattle.mp_values.specs.Outcome.{RuleBy, Cause}
use Rattle.mp_values.specs.declared.stop.Stop.{Stop}
use Rattle.mp_values.specs.declared.stop.Stop.TheVariants as stop
use Rattle.mp_values.specs.declared.turn.Pending.{Pending}
use Rattle.mp_expand.specs.declared.request.Asker.{Asker}
use Rattle.mp_expand.specs.declared.request.Asker.TheVariants as asker
use Rattle.mp_expand.specs.declared.request.Branch.{Branch}
use Rattle.mp_expand.specs.declared.request.Need.TheVariants as need
use Rattle.mp_expand.specs.declared.request.Opener.{Opener}
use Rattle.mp_expand.specs.declared.request.Opener.TheVariants as opener
use Rattle.mp_expand.specs.declared.request.Reader.{Reader}
use Rattle.mp_expand.specs.declared.request.Reader.TheVariants as reader
use Rattle.mp_expand.specs.declared.request.Request.{Request}
use Rattle.mp_expand.specs.declared.request.Request.TheVariants as request

pub record Expansion : Type 0 where
  -- the text that is left
  pub text : List Pending
  -- the last line end that was taken
  pub last : Place
  -- the items that were taken, of so many that may be
  pub steps : ℕ
  pub budget : ℕ
  -- the primaries that are being read, and the requests that wait for an answer
  pub nesting : ℕ
  -- the calls that have not got all their arguments, and the conditions that are not yet open, the newest first
  pub requests : List Request
  -- the open conditions, the newest first
  pub conditions : List Branch

abbrev pub Rule : Type 0 → Type 0
Rule A = RuleBy Cause Expansion A

-- THE NEWEST REQUEST, BY WHAT IT WAITS FOR

-- the newest request, as an A, and the others
abbrev pub NewestAs : Type 0 → Type 0
NewestAs A = Option (A × List Request)

-- where it takes the items of the text as they stand
abbrev pub reading : List Request → NewestAs Reader
reading (request.Call c (need.Text until depth) ∷ rs) = Some (reader.Text c until depth, rs)
reading (request.Skip skip depth ∷ rs) = Some (reader.Skip skip depth, rs)
reading rs = None

-- where it needs a front of one kind
abbrev pub opening : List Request → NewestAs Opener
opening (request.Call c (need.Opening k) ∷ rs) = Some (opener.Argument c k, rs)
opening (request.Colon ∷ rs) = Some (opener.Branch, rs)
opening rs = None

-- where it waits for an answer
abbrev pub asking : List Request → NewestAs Asker
asking (request.Call c (need.Answer b) ∷ rs) = Some (asker.Argument c b, rs)
asking (request.Truth w ∷ rs) = Some (asker.Branch, rs)
asking rs = None

-- these requests and no others
abbrev pub with_requests : List Request → Expansion → Expansion
with_requests rs s = record s { requests = rs }

-- that request is taken off the others; where there is none such, all is as before
abbrev pub TakesOff : {A : Type 0} → NewestAs A → Option A → Expansion → Expansion → Type 0
TakesOff newest (Some x) old new = (newest ≡ Some (x, new.requests)) × (new ≡ with_requests new.requests old)
TakesOff newest None old new = (newest ≡ None) × (new ≡ old)

-- WHERE MEMORY RAN OUT

-- a function that memory ran out in left the text and the requests as they were
abbrev pub IsWhole : {A : Type 0} → Result A Stop → Expansion → Expansion → Type 0
IsWhole result old new = result ≡ Err stop.NoMemory → (new.text ≡ old.text) × (new.requests ≡ old.requests)

-- a list, or what is behind its first
abbrev pub IsRest : {A : Type 0} → List A → List A → Type 0
IsRest old new = (new ≡ old) ⊎ (new ≡ drop 1 old)

-- it left the text as it was, and the requests, or all but the newest
abbrev pub LosesCall : {A : Type 0} → Result A Stop → Expansion → Expansion → Type 0
LosesCall result old new = result ≡ Err stop.NoMemory → (new.text ≡ old.text) × IsRest old.requests new.requests

-- of text and requests all is left, or all but the first
abbrev pub IsLeft : Expansion → Expansion → Type 0
IsLeft old new = IsRest old.text new.text × IsRest old.requests new.requests

-- it left that much
abbrev pub LosesFirst : {A : Type 0} → Result A Stop → Expansion → Expansion → Type 0
LosesFirst result old new = result ≡ Err stop.NoMemory → IsLeft old new
