use Rattle.std.proofs.Common.{ap, sym, ◌∙◌}
use Rattle.std.specs.Option.{option_copied_mut}
use Rattle.std.specs.FinMap.{insert}
use Rattle.mp_vartree.specs.Layout.Groups.{by_names}
use Rattle.mp_vartree.proofs.GroupLemmas.{put_by_name, written_by_name}
use Rattle.mp_vartree.proofs.group.Group.insert.Goals as goal

pub returns-in-Some-clause-ok : goal.returns-in-Some-clause-ok
returns-in-Some-clause-ok g c =
    rw (← c.self.view_is)
    (written_by_name c.self.inside.names.entries (c.get_mut.follows.lender c.args.x).entries c.args.name.now c.args.x c.in-Some.place.now (sym c.get_mut.ensures.value ∙ ap option_copied_mut c.in-Some.is)
    (c.get_mut.follows.holds c.args.x).0)

pub returns-clause-ok : goal.returns-clause-ok
returns-clause-ok g c =
    rw (← c.self.view_is)
    (put_by_name c.get_mut.follows.lender-at-none.entries c.insert.new.self.entries c.in_ok-name.name c.args.name.now c.args.x c.in_ok-name.ensures.items c.in_ok-insert.ensures.entries
    ∙ ap (λ names. insert (by_names names.entries) c.args.name.now c.args.x) c.get_mut.follows.holds-at-none)
