use Rattle.std.proofs.Common.{Vec, Global, ℕ, ◌<◌, length, arith}
use Rattle.mp_symbols.proofs.NameLemmas.{names_of, length-names_of, length-with_meaning}
use Rattle.mp_symbols.proofs.TableLemmas.{known_symbol}
use Rattle.mp_symbols.proofs.symbols.Symbols.close_group.Goals as goal

pub returns-in-Some-Meaning-clause-known : goal.returns-in-Some-Meaning-clause-known
returns-in-Some-Meaning-clause-known g c =
    let entries = c.self.inside.entries.entries in
    let known : c.in-Some-Meaning.symbol < length entries =
    known_symbol _ _ c.in-Some-Meaning.symbol c.in-Some-Meaning.old _ c.pop.new.self.items (rw c.in-Some-Meaning.field-0-is at c.in-Some-Meaning.ensures.items) c.self.invariant.2 in
    let names_length = length-with_meaning (names_of (λ (k : Vec ℕ Global). k.items) entries) c.in-Some-Meaning.symbol c.in-Some-Meaning.old in
    let entries_length = length-names_of (λ (k : Vec ℕ Global). k.items) entries in
    grind arith
