-- On what a text comes to: a short one is read, and a long one is not built.
use Rattle.std.proofs.Common.{◌≡◌, ◌≤◌, ◌<◌, ◌∷◌, ◌∙◌, ℕ, List, [], length, Bool, true, false, refl, sym, ap, subst, arith, Ok, Err}
use Rattle.std.specs.Prelude.{nat_le, codes, Result, IfOk}
use Rattle.mp_scaled.specs.declared.no_memory.NoMemory.{NoMemory}
use Rattle.std.proofs.lemmas.Bool.Decides.{nat_tests}
use Rattle.mp_values.specs.Outcome.{◌>>=◌, change}
use Rattle.mp_values.specs.Refusals.{not_built}
use Rattle.mp_files.specs.declared.outside.Contents.TheVariants.{Here}
use Rattle.mp_report.specs.declared.error.SourceError.TheVariants as error
use Rattle.mp_expand.specs.Expansion.{Expansion}
use Rattle.mp_rules.specs.Machine.{Machine, Outcome}
use Rattle.mp_rules.specs.Meaning.{the}
use Rattle.mp_rules.specs.Starts.{start_on, whole}
use Rattle.mp_files.specs.declared.outside.Kept.{Kept}
use Rattle.mp_report.specs.declared.place.Place.{Place}
use Rattle.mp_values.specs.declared.turn.Pending.{Pending}
use Rattle.mp_acts.specs.Start.{first_state}
use Rattle.mp_acts.specs.State.{State}
use Rattle.mp_eval.specs.declared.outcome.Run.{Run}
use Rattle.mp_eval.specs.declared.outcome.RunEnd.TheVariants as ends
use Rattle.mp_eval.specs.declared.running.TheConstants.{LONGEST_TEXT}
use Rattle.mp_eval.specs.Gives.{IsSpent}
use Rattle.mp_eval.specs.Job.{job_of}
use Rattle.mp_eval.specs.Run.{room_by, read_to_end, unread, put_file, put_prelude, no_place}
use Rattle.mp_eval.specs.Readings.{RanAs, IsPut, IsPreluded, asked_on, begun_on, only, unbegun_run}

fits : (n : ℕ) → n ≤ LONGEST_TEXT → nat_le n LONGEST_TEXT ≡ true
fits n h = grind (arith, nat_tests)

passes : (n : ℕ) → LONGEST_TEXT < n → nat_le n LONGEST_TEXT ≡ false
passes n h = grind (arith, nat_tests)

-- a text of which it is known whether it is short
abbrev read_by : Bool → List ℕ → List ℕ → Machine → Outcome (Unit {0})
read_by short prelude bytes s = (room_by short >>= (λ room. change (λ t. put_prelude prelude (put_file 1 bytes t)) >>= (λ begun. whole the))) s

short_is : (prelude bytes : List ℕ) (s : Machine) → length bytes ≤ LONGEST_TEXT
    → read_to_end prelude bytes s ≡ whole the (put_prelude prelude (put_file 1 bytes s))
short_is prelude bytes s h = ap (λ b. read_by b prelude bytes s) (fits (length bytes) h)

long_is : (prelude bytes : List ℕ) (s : Machine) → LONGEST_TEXT < length bytes → read_to_end prelude bytes s ≡ Err (not_built (codes "long"), s)
long_is prelude bytes s h = ap (λ b. read_by b prelude bytes s) (passes (length bytes) h)

-- where a prelude and a file were put in front, the same sources were asked for
same_sources : (prelude bytes : List ℕ) (s : Machine) → (put_prelude prelude (put_file 1 bytes s)).sources ≡ s.sources
same_sources [] bytes s = refl
same_sources (b ∷ prelude) bytes s = refl

same_asked : (prelude bytes : List ℕ) (s : Machine) → (put_prelude prelude (put_file 1 bytes s)).asked ≡ s.asked
same_asked [] bytes s = refl
same_asked (b ∷ prelude) bytes s = refl

same_budget : (prelude bytes : List ℕ) (s : Machine) → (put_prelude prelude (put_file 1 bytes s)).expander.budget ≡ s.expander.budget
same_budget [] bytes s = refl
same_budget (b ∷ prelude) bytes s = refl

-- a text that is too long is not built
pub long_ran : (prelude name bytes : List ℕ) (budget : ℕ) (run : Run) → LONGEST_TEXT < length bytes
    → run ≡ unbegun_run (only name (Here bytes)) (ends.Source (error.NotBuilt (codes "long")) no_place)
    → RanAs run (read_to_end prelude bytes (asked_on (only name (Here bytes)) name budget)) (asked_on (only name (Here bytes)) name budget)
long_ran prelude name bytes budget run long is =
    let start : Machine = asked_on (only name (Here bytes)) name budget in
    let unbegun : Run = unbegun_run (only name (Here bytes)) (ends.Source (error.NotBuilt (codes "long")) no_place) in
    subst (λ (r : Run). RanAs r (read_to_end prelude bytes start) start) (sym is)
    (subst (λ (o : Outcome (Unit {0})). RanAs unbegun o start) (sym (long_is prelude bytes start long))
    (record { lines = refl; figures = refl; steps = refl; unknowns = refl; equations = refl; end = refl; sources = refl; asked = refl; read = tt; spent = λ e. cc }))

-- a text that is not is read to its end
pub short_ran : (prelude name bytes : List ℕ) (budget : ℕ) (run : Run) → length bytes ≤ LONGEST_TEXT
    → RanAs run (whole the (begun_on (only name (Here bytes)) prelude name bytes budget)) (begun_on (only name (Here bytes)) prelude name bytes budget)
    → RanAs run (read_to_end prelude bytes (asked_on (only name (Here bytes)) name budget)) (asked_on (only name (Here bytes)) name budget)
short_ran prelude name bytes budget run short ran =
    let start : Machine = asked_on (only name (Here bytes)) name budget in
    subst (λ (o : Outcome (Unit {0})). RanAs run o start) (sym (short_is prelude bytes start short)) (record {
      lines = ran.lines;
      figures = ran.figures;
      steps = ran.steps;
      unknowns = ran.unknowns;
      equations = ran.equations;
      end = ran.end;
      sources = ran.sources ∙ same_sources prelude bytes start;
      asked = ran.asked ∙ same_asked prelude bytes start;
      read = ran.read;
      spent = subst (λ (b : ℕ). IsSpent run.end run.steps b) (same_budget prelude bytes start) ran.spent;
    })

-- the start of a text, by what was put in front of nothing
pub begins : (kept : List Kept) (sources : List Kept) (prelude name bytes read : List ℕ) (budget : ℕ) (first middle last : State) (text more : List Pending) (none one both : Expansion) (m : Machine)
    → first ≡ first_state (job_of name) → none ≡ unread budget → read ≡ bytes → kept ≡ sources
    → IsPut 1 read first none.text middle text → one ≡ record none { text = text }
    → IsPreluded prelude middle one.text last more → both ≡ record one { text = more }
    → m ≡ start_on kept both last → m ≡ begun_on sources prelude name bytes budget
begins kept sources [] name bytes read budget first middle last text more none one both m a n r k b c d e f = rw (f, e, d.1, d.0, c, b.1, b.0, a, n, r, k) refl
begins kept sources (byte ∷ prelude) name bytes read budget first middle last text more none one both m a n r k b c d e f = rw (f, e, d.1, d.0, c, b.1, b.0, a, n, r, k) refl

-- what was read of a text, if memory was found
pub short_result : (prelude name bytes : List ℕ) (budget : ℕ) (result : Result Run NoMemory) (begun : Machine) → length bytes ≤ LONGEST_TEXT
    → begun ≡ begun_on (only name (Here bytes)) prelude name bytes budget
    → IfOk result (λ run. RanAs run (whole the begun) begun)
    → IfOk result (λ run. RanAs run (read_to_end prelude bytes (asked_on (only name (Here bytes)) name budget)) (asked_on (only name (Here bytes)) name budget))
short_result prelude name bytes budget (Ok run) begun short is ran = short_ran prelude name bytes budget run short (subst (λ (m : Machine). RanAs run (whole the m) m) is ran)
short_result prelude name bytes budget (Err e) begun short is ran = tt

pub within_result : (prelude name bytes : List ℕ) (budget : ℕ) (result : Result Run NoMemory) (begun : Machine)
    → begun ≡ begun_on (only name (Here bytes)) prelude name bytes budget
    → IfOk result (λ run. run.steps ≤ begun.expander.budget) → IfOk result (λ run. run.steps ≤ budget)
within_result prelude name bytes budget (Ok run) begun is within =
    let same : begun.expander.budget ≡ budget = ap (λ (m : Machine). m.expander.budget) is ∙ same_budget prelude bytes (asked_on (only name (Here bytes)) name budget) in
    subst (λ (b : ℕ). run.steps ≤ b) same within
within_result prelude name bytes budget (Err e) begun is within = tt
