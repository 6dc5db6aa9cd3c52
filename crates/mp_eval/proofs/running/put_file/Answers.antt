use Rattle.std.proofs.Common.{◌≡◌, arith, rules}
use Rattle.mp_expand.specs.Expansion.{Expansion}
use Rattle.mp_expand.specs.Steps.{start}
use Rattle.mp_acts.specs.State.{counts}
use Rattle.mp_eval.proofs.ReachLemmas.{put_within, within_more}
use Rattle.mp_eval.proofs.running.put_file.Goals as goal

pub returns-clause-within : goal.returns-clause-within
returns-clause-within c =
    let n = counts c.tokens_of_file.new.self in
    let put : c.start.new.self ≡ start c.args.number c.in_ok-tokens.tokens c.args.expander.now = search rules in
    rw put
    (put_within n c.tokens_of_file.new.self.symbols.names (omega arith) c.args.number c.in_ok-tokens.tokens c.args.expander.now c.in_ok-tokens.ensures.symbols
    (within_more _ (counts c.args.acts.now) n c.requires c.in_ok-tokens.ensures.counts))
