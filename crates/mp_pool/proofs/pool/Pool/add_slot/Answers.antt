use Rattle.std.proofs.Common.{◌≡◌, ◌++◌, ◌∷◌, [], ℕ, List, Bool, false, length, ap, ◌∙◌, arith}
use Rattle.mp_pool.proofs.SlotLemmas.{length-slots_from}
use Rattle.mp_pool.proofs.RoomLemmas.{IsPool-listed, view-listed}
use Rattle.mp_pool.proofs.pool.Pool.add_slot.Goals as goal

pub overflow_cast-slot : goal.overflow_cast-slot
overflow_cast-slot c =
    let same = ap (λ p. length p.slots) c.self.view_is in
    let long = length-slots_from c.self.inside.cells 3 c.self.inside.taken.items in
    omega (arith, same, long, c.if-slot-ge-NUMBER_LIMIT.false, c.len-slot.ensures, c.self.inside.taken.ok.0)

pub invariant_of-self-2 : goal.invariant_of-self-2
invariant_of-self-2 c =
    let cells = c.self.inside.cells in
    let taken = c.self.inside.taken.items in
    let vacant = c.self.inside.vacant.items in
    let made = (c.in_ok-add_slot.ensures {u = tt}).ok in
    let seen = ap (λ p. length p.slots) c.self.view_is in
    let long = length-slots_from cells 3 taken in
    let slot : c.len-slot.result ≡ length taken = c.len-slot.ensures ∙ c.self.inside.taken.ok.0 in
    let taken_is : c.push_reserved.new.self.items ≡ taken ++ false ∷ [] = c.push_reserved.ensures.items ∙ ap (λ (bs : List Bool). bs ++ false ∷ []) c.reserve.ensures.items in
    let vacant_is : c.push_reserved-2.new.self.items ≡ vacant ++ length taken ∷ [] = c.push_reserved-2.ensures.items ∙ ap (λ (ks : List ℕ). ks ++ c.len-slot.result ∷ []) c.reserve-2.ensures.items ∙ ap (λ (k : ℕ). vacant ++ k ∷ []) slot in
    let now = IsPool-listed cells made.mid c.add_slot.new.cells taken vacant _ c.self.invariant made.three made.longer made.shorter made.same made.more in
    rw (taken_is, vacant_is) (now _ (omega (arith, slot, c.len.ensures, (c.in_ok-reserve-2.ensures {u = tt}).ok, c.push_reserved-2.ensures.capacity)) (omega (arith, slot, c.if-slot-ge-NUMBER_LIMIT.false)))

pub returns-clause-ok : goal.returns-clause-ok
returns-clause-ok c =
    let cells = c.self.inside.cells in
    let taken = c.self.inside.taken.items in
    let vacant = c.self.inside.vacant.items in
    let made = (c.in_ok-add_slot.ensures {u = tt}).ok in
    let seen = ap (λ p. length p.slots) c.self.view_is in
    let long = length-slots_from cells 3 taken in
    let slot : c.len-slot.result ≡ length taken = c.len-slot.ensures ∙ c.self.inside.taken.ok.0 in
    let taken_is : c.push_reserved.new.self.items ≡ taken ++ false ∷ [] = c.push_reserved.ensures.items ∙ ap (λ (bs : List Bool). bs ++ false ∷ []) c.reserve.ensures.items in
    let vacant_is : c.push_reserved-2.new.self.items ≡ vacant ++ length taken ∷ [] = c.push_reserved-2.ensures.items ∙ ap (λ (ks : List ℕ). ks ++ c.len-slot.result ∷ []) c.reserve-2.ensures.items ∙ ap (λ (k : ℕ). vacant ++ k ∷ []) slot in
    rw (taken_is) (view-listed cells made.mid c.add_slot.new.cells taken vacant _ c.self.invariant made.three made.longer made.shorter made.same made.more made.total c.args.self.now c.self.view_is)
