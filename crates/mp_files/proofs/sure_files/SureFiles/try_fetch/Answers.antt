use Rattle.std.proofs.Common.{rules}
use Rattle.mp_files.specs.Contents.{contents_in}
use Rattle.mp_files.proofs.Fetches.{gives_content}
use Rattle.mp_files.proofs.sure_files.SureFiles.try_fetch.Goals as goal

pub returns-clause-gives : goal.returns-clause-gives
returns-clause-gives c =
    rw (← c.self.view_is)
    (gives_content (contents_in c.self.inside.contents) c.self.inside.asked 0 c.args.name.now _ _ (search rules) (search rules))
