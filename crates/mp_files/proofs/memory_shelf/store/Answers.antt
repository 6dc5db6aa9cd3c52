use Rattle.std.proofs.Common.{arith}
use Rattle.std.proofs.lemmas.Grind.{common_steps}
use Rattle.mp_files.proofs.Places.{Adds, pairs_added, fills_added}
use Rattle.mp_files.proofs.memory_shelf.store.Goals as goal

-- what the body does
adds : (c : goal.After-push) → Adds c.args.places.now.items c.push.new.to.items c.args.text.now.items c.append-2.new.to.items c.args.name.now c.args.bytes.now
adds c = record {
  place = record { start = c.len-start.result; middle = c.len-middle.result; end = c.len-end.result };
  places = c.push.ensures.items;
  text = cc;
  start = grind (arith, common_steps);
  middle = grind (arith, common_steps);
  end = grind (arith, common_steps);
}

pub returns-clause-pairs : goal.returns-clause-pairs
returns-clause-pairs c = pairs_added _ _ _ _ _ _ (adds c) c.requires.full

pub returns-clause-full : goal.returns-clause-full
returns-clause-full c = fills_added _ _ _ _ _ _ (adds c) c.requires.full
