use Rattle.std.proofs.Common.{◌≡◌, ℕ, sym, ap, ◌∙◌}
use Rattle.mp_solver.specs.States.{Solver, Unknowns}
use Rattle.mp_acts.proofs.EventLemmas.{without_step, without_end}
use Rattle.mp_acts.proofs.variables.unname_all.Goals as goal

pub serials-preserved : goal.serials-preserved
serials-preserved c = (
  without_step c.args.serials.now c.serials.system.unknowns c.unname.new.system.unknowns c.serials.serial-index 0 c.serials-test.true (ap (λ (s : Solver). s.unknowns) c.unname.ensures)
      ∙ c.serials.invariant.0,
  ap (λ (s : Solver). s.spare) c.unname.ensures ∙ c.serials.invariant.1,
  ap (λ (s : Solver). s.spare_lists) c.unname.ensures ∙ c.serials.invariant.2,
)

-- a system, by what contracts see of it
abbrev solver : Unknowns → ℕ → ℕ → Solver
solver unknowns spare spare_lists = record { unknowns = unknowns; spare = spare; spare_lists = spare_lists }

same_solver : (a b : Unknowns) (i j m n : ℕ) → a ≡ b → i ≡ j → m ≡ n → solver a i m ≡ solver b j n
same_solver a b i j m n unknowns spare spare_lists = cc

pub returns : goal.returns
returns c =
    same_solver _ _ _ _ _ _ (sym (without_end c.args.serials.now c.serials.system.unknowns c.serials.serial-index c.serials-test.false) ∙ c.serials.invariant.0)
    c.serials.invariant.1 c.serials.invariant.2
