-- Fetches from objects that tell what they hold.
use Rattle.std.proofs.Common.{ℕ, ◌≡◌, List, [], ◌∷◌, ◌++◌, Some, refl, sym, ap, subst, arith}
use Rattle.std.proofs.lemmas.List.{length-take}
use Rattle.mp_files.specs.declared.outside.Contents.{Contents}
use Rattle.mp_files.specs.declared.outside.Contents.TheVariants.{Absent, Here}
use Rattle.mp_files.specs.declared.outside.Fetched.{Fetched}
use Rattle.mp_files.specs.declared.outside.TheConstants.{MOST_FETCHED}
use Rattle.mp_files.specs.MemoryFiles.{answer_of}
use Rattle.mp_files.specs.Outside.{FetchGives, start_of}
use Rattle.mp_files.specs.Seen.{FilesSeen}

module _ (contents : List ℕ → Contents) (asked : List (List ℕ)) (faults : ℕ) (name : List ℕ) where
  abbrev telling : List (List ℕ) → FilesSeen
  telling names = record { faults = faults; told = Some (record { asked = names; contents = contents }) }

  -- the answer that gives the content of the name
  pub gives_content : (after : List (List ℕ)) (answer : Fetched) → after ≡ asked ++ name ∷ [] → answer ≡ answer_of (contents name)
      → FetchGives (record { faults = faults; told = Some (record { asked = asked; contents = contents }) }) (record { faults = faults; told = Some (record { asked = after; contents = contents }) }) name answer
  gives_content after answer more is = subst (λ a. FetchGives (telling asked) (telling after) name a) (sym is) (by (contents name) refl)
    where
      by : (content : Contents) → contents name ≡ content → FetchGives (telling asked) (telling after) name (answer_of content)
      by Absent e = (refl, record { same = refl; more = ap Some more }, e)
      by (Here bytes) e = (refl, record { same = refl; more = ap Some more }, ap start_of e, omega (arith, length-take MOST_FETCHED bytes))
