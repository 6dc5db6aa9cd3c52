use Rattle.std.proofs.Common.{Vec, Global, ℕ, ◌≡◌, Some, slice_get, sym}
use Rattle.mp_symbols.proofs.NameLemmas.{number_in-own}
use Rattle.mp_symbols.proofs.symbols.Symbols.name_of.Goals as goal

pub returns-in-Some-clause-number : goal.returns-in-Some-clause-number
returns-in-Some-clause-number g c =
    let entries = c.self.inside.entries.entries in
    let at : slice_get entries c.args.symbol ≡ Some (c.in-Some.name.now, c.in-Some.field-0-1.now) = sym c.in-Some.ensures.entry in
    rw (← c.self.view_is, c.as_slice.ensures.value) (number_in-own (λ (k : Vec ℕ Global). k.items) entries c.args.symbol _ _ c.self.invariant.0 at)
