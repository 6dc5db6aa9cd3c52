use Rattle.mp_solver.proofs.ReplayLemmas.{replay-next, unknowns_made-next, equations_accepted-next, length-replay, up_to_date, as_it_stood, refused}
use Rattle.mp_solver.proofs.replay.replays_go_on.Goals as goal

pub returns : goal.returns
returns c = record {
  next = replay-next;
  unknowns = unknowns_made-next;
  equations = equations_accepted-next;
  serials = length-replay;
  up_to_date = up_to_date;
  as_it_stood = λ unknowns difference residual solved over reduced. as_it_stood unknowns difference residual reduced solved over;
  refused = refused;
}
