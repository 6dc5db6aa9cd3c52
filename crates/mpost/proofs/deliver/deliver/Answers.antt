use Rattle.std.proofs.Common.{rules}
use Rattle.mpost.proofs.Delivering.{tried_behind}
use Rattle.mpost.proofs.deliver.deliver.Goals as goal

pub returns-then-not-put_all : goal.returns-then-not-put_all
returns-then-not-put_all g c = record {
  counted = search rules;
  shelf = search rules;
  out = tried_behind c.args.lines.now _ _ _ _ (search rules) (search rules) c.try_write.ensures;
}
