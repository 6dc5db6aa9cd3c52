-- The end of a group, when memory runs out in it.
use Rattle.std.proofs.Common.{◌≡◌, suc, refl, ap, ◌∙◌}
use Rattle.mp_symbols.specs.Tables.{Table}
use Rattle.mp_symbols.specs.Groups.{close_group}
use Rattle.mp_values.specs.declared.meaning.Meaning.{Meaning}
use Rattle.mp_acts.specs.State.{State}
use Rattle.mp_acts.specs.Groups.{with_symbols, undone_times, IsUndoneInPart}
use Rattle.mp_acts.specs.Variables.{IsForgetting}

pub undone_none : (s : State) → IsUndoneInPart s s
unfolding undone_times
undone_none s = record { times = 0; undone = refl; rest = refl }

pub undone_more : (old now next : State) → IsUndoneInPart old now → next.symbols ≡ (close_group now.symbols).1 → IsForgetting (with_symbols now next.symbols) next → IsUndoneInPart old next
unfolding undone_times
undone_more old now next is closed forgets = record {
  times = suc is.times;
  undone = closed ∙ ap (λ (t : Table Meaning). (close_group t).1) is.undone;
  rest =
      forgets
      ∙ ap (λ (s : State). record {
        symbols = next.symbols;
        variables = next.variables;
        slots = s.slots;
        unknowns = record s.unknowns { names = next.unknowns.names };
        events = s.events;
        lines = s.lines;
        job = s.job;
      }) is.rest;
}
