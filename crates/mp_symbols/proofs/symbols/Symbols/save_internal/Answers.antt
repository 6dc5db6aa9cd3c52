use Rattle.std.proofs.Common.{Vec, Global, ℕ, rules, length, reverse, ap, sym, ◌∙◌, slice_get, Some, ◌≡◌, SFits, w32}
use Rattle.std.proofs.lemmas.Int.{to_z-of_z}
use Rattle.indexmap.specs.IndexMap.{index_map_len}
use Rattle.mp_symbols.specs.Groups.{save_internal_by}
use Rattle.mp_symbols.specs.Tables.{Table}
use Rattle.mp_symbols.specs.declared.saved.Saved.TheVariants.{Number}
use Rattle.mp_symbols.proofs.NameLemmas.{names_of}
use Rattle.mp_symbols.proofs.TableLemmas.{Saves, Saves-internal, is_open-not}
use Rattle.mp_symbols.proofs.symbols.Symbols.save_internal.Goals as goal

saves : (g : _) (c : goal.In_ok-push g) → Saves (index_map_len c.self.inside.entries) (length c.self.inside.internals.items) c.self.inside.saved.items c.push.new.self.items (Number c.args.k c.internal-value.result)
saves g c =
    let fits : SFits w32 c.internal-value.result = search rules in
    let pushed = simp to_z-of_z at c.in_ok-push.ensures.items in
    Saves-internal _ _ c.args.k c.internal-value.result c.self.inside.saved.items c.push.new.self.items pushed
    (search rules) (search rules) c.self.invariant.2

pub invariant_of-self-2 : goal.invariant_of-self-2
invariant_of-self-2 g c = (c.self.invariant.0, c.self.invariant.1, (saves g c).kept)

pub returns-clause-ok : goal.returns-clause-ok
returns-clause-ok g c =
    let saved = reverse c.self.inside.saved.items in
    let at : slice_get c.self.inside.internals.items c.args.k ≡ Some c.internal-value.result =
    ap (λ t. slice_get t.internals c.args.k) c.self.view_is ∙ c.internal-value.ensures in
    let before : Table _ = record { names = names_of (λ (k : Vec ℕ Global). k.items) c.self.inside.entries.entries; internals = c.self.inside.internals.items; saved = saved } in
    rw (← c.self.view_is)
    (ap (λ after. record before { saved = after }) (saves g c).saved ∙ ap (λ o. save_internal_by o before c.args.k) (sym at))

pub returns-in_err-push-clause-outside : goal.returns-in_err-push-clause-outside
returns-in_err-push-clause-outside g c = rw (← c.self.view_is) (is_open-not _ _ c.self.inside.saved.items c.self.invariant.2 (search rules))
