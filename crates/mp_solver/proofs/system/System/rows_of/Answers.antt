use Rattle.std.proofs.Common.{◌≡◌, ◌-◌, ◌<◌, [], length, get_or, sym, ap, ◌∙◌, subst, arith}
use Rattle.std.specs.List.{Contains}
use Rattle.std.proofs.lemmas.List.{get_or_default}
use Rattle.std.proofs.lemmas.Result.{IfOk-weaker}
use Rattle.mp_solver.specs.Storage.Rows.{AreHolders, IsInOrder}
use Rattle.mp_solver.proofs.RowLemmas.{AreHolders-listed, AreHolders-all}
use Rattle.mp_solver.proofs.system.System.rows_of.Goals as goal

pub returns-then-self : goal.returns-then-self
returns-then-self c =
    let states = ap (λ s. s.unknowns.states) c.self.view_is in
    let holders = c.self.inside.holders.items in
    let serial = c.args.serial in
    let same = ap length states in
    let within : serial - 1 < length holders = omega (arith, c.requires.0, c.requires.1, same, c.self.invariant.lists) in
    let list : c.index.result.now ≡ get_or holders (serial - 1) [] = sym (get_or_default holders (serial - 1) [] c.index.result.now within ∙ sym c.index.ensures) in
    IfOk-weaker c.in_order.result (λ rows. IsInOrder (Contains c.index.result.now) rows.items) (λ rows. AreHolders c.args.self.now.unknowns.states serial 0 rows.items)
    (λ rows order.
    subst (λ ss. AreHolders ss serial 0 rows.items) states
    (AreHolders-listed c.self.inside.forms.states holders serial rows.items (c.self.invariant.listed c.if-self.true) (subst (λ xs. IsInOrder (Contains xs) rows.items) list order)))
    c.in_order.ensures

pub returns-else-self : goal.returns-else-self
returns-else-self c =
    let states = ap (λ s. s.unknowns.states) c.self.view_is in
    let count = c.count.ensures ∙ ap length states in
    IfOk-weaker c.all_rows.result (λ rows. IsInOrder (λ row. row < c.count.result) rows.items) (λ rows. AreHolders c.args.self.now.unknowns.states c.args.serial 0 rows.items)
    (λ rows order. AreHolders-all c.args.self.now.unknowns.states c.args.serial rows.items (subst (λ n. IsInOrder (λ row. row < n) rows.items) count order)) c.all_rows.ensures
