use Rattle.std.proofs.Common.{◌≡◌, drop}
use Rattle.mp_acts.specs.Variables.{without_names}
use Rattle.mp_acts.proofs.variables.unname_all.Given as goal

abbrev pub invariant-serials : goal.invariant-serials
invariant-serials l =
    (without_names l.system.unknowns (drop l.serial-index l.serials) ≡ without_names l.fn.system.unknowns l.serials)
    × (l.system.spare ≡ l.fn.system.spare) × (l.system.spare_lists ≡ l.fn.system.spare_lists)
