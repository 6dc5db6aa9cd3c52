use Rattle.std.proofs.Common.{◌≤◌, subst}
use Rattle.mp_values.specs.Outcome.{Outcome}
use Rattle.mp_macro.specs.Headings.{Reading}
use Rattle.mp_macro.specs.Numbered.{KeepsBelow}
use Rattle.mp_acts.specs.State.{counts, counts_of, symbol_count}
use Rattle.mp_acts.proofs.DeclarationLemmas.{is_below, body_read, group_read}
use Rattle.mp_acts.proofs.state.State.read_item.Goals as goal

pub returns-clause-within : goal.returns-clause-within
returns-clause-within c =
    let n = symbol_count c.args.self.now in
    subst (λ (o : Outcome Reading (Unit {0})). KeepsBelow n o) c.in_ok-read.ensures
    (c.symbols_stay_numbered.ensures n c.self.inside.symbols.names c.args.item c.args.reader.now c.requires.symbol (is_below (counts c.args.self.now) c.args.item c.requires.item))

pub returns-clause-group : goal.returns-clause-group
returns-clause-group c =
    let enough : 4 ≤ symbol_count c.args.self.now = rw (← c.self.view_is) c.self.invariant.within.words in
    group_read c.bodies_hold_what_is_read.ensures (counts c.args.self.now) c.self.inside.symbols.names c.args.item c.args.reader.now c.read.new.self enough
    c.requires.group c.requires.body c.requires.item c.in_ok-read.ensures

pub returns-clause-body : goal.returns-clause-body
returns-clause-body c =
    let enough : 4 ≤ symbol_count c.args.self.now = rw (← c.self.view_is) c.self.invariant.within.words in
    body_read c.bodies_hold_what_is_read.ensures (counts c.args.self.now) c.self.inside.symbols.names c.args.item c.args.reader.now c.read.new.self enough
    c.requires.group c.requires.body c.requires.item c.in_ok-read.ensures

pub read-requires : goal.read-requires
read-requires c =
    is_below (counts_of c.self.inside.system.unknowns.states c.self.inside.slots.items c.self.inside.symbols) c.args.item (rw (← c.self.view_is) at c.requires.item)
