use Rattle.std.specs.FinMap.{entries_sorted}
use Rattle.mp_vartree.specs.Layout.Tags.{declarations_in, variables_in}
use Rattle.mp_vartree.proofs.MadeLemmas.{T_is}
use Rattle.mp_vartree.proofs.vars.Vars.stand_once.Goals as goal

pub returns : goal.returns
returns c =
    rw (← c.self.view_is) record {
      declarations = T_is _ (entries_sorted (declarations_in c.self.inside.tags.entries));
      variables = T_is _ (entries_sorted (variables_in c.self.inside.tags.entries));
    }
