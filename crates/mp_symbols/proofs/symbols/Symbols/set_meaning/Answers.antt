use Rattle.std.proofs.Common.{Vec, Global, ℕ, reverse, ap, sym, ◌∙◌, Some}
use Rattle.indexmap.proofs.CallerLemmas.{keys-with_value_at, index_map_len-with_value_at}
use Rattle.mp_symbols.proofs.NameLemmas.{meaning_in-names_of, names_of-set_value_at}
use Rattle.mp_symbols.proofs.symbols.Symbols.set_meaning.Goals as goal

pub returns-clause-old : goal.returns-clause-old
returns-clause-old g c =
    rw (← c.self.view_is)
    (meaning_in-names_of (λ (k : Vec ℕ Global). k.items) c.self.inside.entries.entries _ _ c.index_mut.ensures.value ∙ ap Some (sym c.replace.ensures.value))

pub returns-clause-table : goal.returns-clause-table
returns-clause-table g c =
    rw (← c.self.view_is, c.replace.ensures.after)
    (ap (λ names. record { names = names; internals = c.self.inside.internals.items; saved = reverse c.self.inside.saved.items })
    (names_of-set_value_at (λ (k : Vec ℕ Global). k.items) c.self.inside.entries.entries c.args.symbol c.args.new))

pub invariant_of-self : goal.invariant_of-self
invariant_of-self g c =
    rw (keys-with_value_at, index_map_len-with_value_at) c.self.invariant
