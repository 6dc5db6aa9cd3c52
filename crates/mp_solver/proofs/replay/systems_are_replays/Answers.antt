use Rattle.mp_solver.proofs.ReplayLemmas.{replayed, solved, few, made_unknowns, accepted}
use Rattle.mp_solver.proofs.replay.systems_are_replays.Goals as goal

pub returns : goal.returns
returns c =
    let order = c.terms_stay_in_order.ensures in
    record {
      replayed = replayed order;
      solved = solved order;
      few = few order;
      unknowns = made_unknowns order;
      equations = accepted order;
    }
