use Rattle.std.proofs.Common.{rules, Vec, Global, ℕ, length, reverse, arith, ap, sym, ◌∙◌, ◌++◌, ◌∷◌, [], Some, ◌≡◌}
use Rattle.mp_symbols.specs.Names.{meaning_in}
use Rattle.mp_symbols.specs.Groups.{save_by}
use Rattle.mp_symbols.specs.Tables.{Table}
use Rattle.mp_symbols.specs.declared.saved.Saved.TheVariants.{Meaning}
use Rattle.indexmap.specs.IndexMap.{index_map_len}
use Rattle.indexmap.proofs.CallerLemmas.{keys-with_value_at, index_map_len-with_value_at}
use Rattle.mp_symbols.proofs.NameLemmas.{names_of, length-names_of, meaning_in-names_of, names_of-set_value_at}
use Rattle.mp_symbols.proofs.TableLemmas.{Saves, Saves-symbol, is_open-not}
use Rattle.mp_symbols.proofs.symbols.Symbols.save.Goals as goal

saves : (g : _) (c : goal.In_ok-push g) → Saves (index_map_len c.self.inside.entries) (length c.self.inside.internals.items) c.self.inside.saved.items c.push.new.self.items (Meaning c.args.symbol c.replace-old.result)
saves g c =
    Saves-symbol _ _ c.args.symbol c.replace-old.result c.self.inside.saved.items c.push.new.self.items
    (c.in_ok-push.ensures.items ∙ ap (λ l. l ++ Meaning c.args.symbol c.replace-old.result ∷ []) c.in_ok-reserve.ensures.items)
    (search rules)
    (omega (arith, c.requires, ap (λ t. length t.names) c.self.view_is, length-names_of (λ (k : Vec ℕ Global). k.items) c.self.inside.entries.entries))
    c.self.invariant.2

pub invariant_of-self-2 : goal.invariant_of-self-2
invariant_of-self-2 g c = rw (keys-with_value_at, index_map_len-with_value_at) (c.self.invariant.0, c.self.invariant.1, (saves g c).kept)

pub returns-clause-ok : goal.returns-clause-ok
returns-clause-ok g c =
    let entries = c.self.inside.entries.entries in
    let saved = reverse c.self.inside.saved.items in
    let names = names_of-set_value_at (λ (k : Vec ℕ Global). k.items) entries c.args.symbol c.args.fresh in
    let at : meaning_in (names_of (λ (k : Vec ℕ Global). k.items) entries) c.args.symbol ≡ Some c.replace-old.result =
    meaning_in-names_of (λ (k : Vec ℕ Global). k.items) entries _ _ c.index_mut.ensures.value ∙ ap Some (sym c.replace-old.ensures.value) in
    let before : Table _ = record { names = names_of (λ (k : Vec ℕ Global). k.items) entries; internals = c.self.inside.internals.items; saved = saved } in
    rw (← c.self.view_is, c.replace-old.ensures.after)
    ((λ j. record { names = names j; internals = c.self.inside.internals.items; saved = (saves g c).saved j })
    ∙ ap (λ o. save_by o before c.args.symbol c.args.fresh) (sym at))

pub returns-in_err-reserve-clause-outside : goal.returns-in_err-reserve-clause-outside
returns-in_err-reserve-clause-outside g c = rw (← c.self.view_is) (is_open-not _ _ c.self.inside.saved.items c.self.invariant.2 (search rules))
