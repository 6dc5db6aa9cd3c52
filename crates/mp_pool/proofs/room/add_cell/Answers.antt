use Rattle.std.proofs.Common.{◌≡◌, ◌+◌, length, length-append, ◌∙◌, arith}
use Rattle.std.proofs.lemmas.List.{length-drop, length-take}
use Rattle.mp_pool.specs.Storage.Chains.{chain_of}
use Rattle.mp_pool.proofs.RoomLemmas.{total_loaded}
use Rattle.mp_pool.proofs.Twos.{set_one-same}
use Rattle.mp_pool.proofs.room.add_cell.Goals as goal

pub returns-clause-ok : goal.returns-clause-ok
returns-clause-ok c =
    let old = c.add_scratch.new.cells in
    let mid = c.load.new.self in
    let three = (c.in_ok-add_scratch.ensures {u = tt}).ok in
    let loaded = (c.in_ok-load.ensures {u = tt}).ok in
    let one = set_one-same old mid 1 _ loaded (omega (arith, three)) in
    let cells : length (chain_of c.step.new.self 1) + length (chain_of c.step.new.self 0) ≡ length (chain_of mid 1) + length (chain_of mid 0) =
    rw (c.step.ensures.from, c.step.ensures.to, one) (simp (length-append, length-drop, length-take) (omega arith)) in
    let more = total_loaded old mid c.step.new.self three (c.add_scratch.ensures.same 1 ∙ c.requires.done) loaded c.step.ensures.rest cells in
    let same = c.add_scratch.ensures.total in
    omega (arith, more, same)
