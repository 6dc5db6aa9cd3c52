-- The meaning of a text.
use Rattle.std.specs.Prelude.{◌+◌, ◌*◌, ℕ, zero, suc, Err}
use Rattle.mp_values.specs.Outcome.{OutOfSteps}
use Rattle.mp_rules.specs.Machine.{Machine, left}
use Rattle.mp_rules.specs.Rules.{Rules, case}

-- what is asked, with at most that many rules inside one another
unfoldable pub rule : ℕ → Rules
rule zero what s = Err (OutOfSteps, s)
rule (suc n) what s = case (rule n) what s

-- as many rules as can ever be inside one another: so many for each front that may still be used
abbrev pub depth : Machine → ℕ
depth s = 64 * (left s + 2)

-- the meaning: with so many rules inside one another that more change nothing
unfoldable pub the : Rules
the what s = rule (suc (depth s)) what s
