use Rattle.std.proofs.Common.{◌≡◌, ◌<◌, ◌+◌, ◌^◌, List, length, sym, ap, ◌∙◌, arith}
use Rattle.std.specs.List.{sum_by}
use Rattle.mp_pool.specs.declared.Term.{Term}
use Rattle.mp_pool.specs.Storage.Chains.{ends_at}
use Rattle.mp_pool.proofs.Seen.{length_seen, count_seen}
use Rattle.mp_pool.proofs.Growing.{sound_loaded, chains_loaded, total_seen}
use Rattle.mp_pool.proofs.cells.Cells.load.Goals as goal

within : (c : goal.After-self-1) → c.args.chain < length c.self.inside.chains.items
within c =
    let n = count_seen c.self.inside.cells.items c.self.inside.chains.items c.args.self.now c.self.view_is in
    omega (arith, n, c.requires.is)

empty : (c : goal.After-self-1) → (ends_at c.self.inside.chains.items c.args.chain).length ≡ 0
empty c = sym (length_seen c.self.inside.cells.items c.self.inside.chains.items c.args.self.now c.args.chain c.self.view_is c.requires.is) ∙ c.requires.empty

few : (c : goal.After-self-1) → length c.self.inside.cells.items + 1 < 2 ^ 32
few c =
    let seen = ap (λ (v : List (List Term)). sum_by (λ (ts : List Term). length ts) v) c.self.view_is in
    omega (arith, seen, total_seen c.self.inside.cells.items c.self.inside.chains.items, c.self.invariant.total, c.requires.few)

pub invariant_of-self-2 : goal.invariant_of-self-2
invariant_of-self-2 c =
    let at = c.len-cell.ensures ∙ c.self.inside.cells.ok.0 in
    rw ((c.in_ok-push.ensures {u = tt}).items, at) (sound_loaded c.self.inside.cells.items c.self.inside.chains.items c.self.invariant c.args.chain (within c) (empty c) (few c))

pub returns-clause-ok : goal.returns-clause-ok
returns-clause-ok c =
    let at = c.len-cell.ensures ∙ c.self.inside.cells.ok.0 in
    rw ((c.in_ok-push.ensures {u = tt}).items, at, ← c.self.view_is) (chains_loaded c.self.inside.cells.items c.self.inside.chains.items c.self.invariant c.args.chain (within c) (empty c) (few c))
