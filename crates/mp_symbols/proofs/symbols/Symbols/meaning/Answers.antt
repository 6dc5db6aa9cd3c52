use Rattle.std.proofs.Common.{Vec, Global, ℕ}
use Rattle.mp_symbols.proofs.NameLemmas.{meaning_in-names_of}
use Rattle.mp_symbols.proofs.symbols.Symbols.meaning.Goals as goal

pub returns : goal.returns
returns g c =
    rw (← c.self.view_is) (meaning_in-names_of (λ (k : Vec ℕ Global). k.items) c.self.inside.entries.entries _ _ c.index.ensures)
