use Rattle.std.proofs.Common.{reverse, arith}
use Rattle.mp_symbols.proofs.TableLemmas.{is_sound-more}
use Rattle.mp_symbols.proofs.symbols.Symbols.new_internal.Goals as goal

pub invariant_of-self-2 : goal.invariant_of-self-2
invariant_of-self-2 g c = (
  c.self.invariant.0,
  c.self.invariant.1,
  is_sound-more _ _ _ _ (reverse c.self.inside.saved.items) (omega arith) (omega (arith, c.in_ok-push.ensures.len)) c.self.invariant.2,
)
