use Rattle.std.proofs.Common.{Vec, Global, ℕ, Some, sym, ◌∙◌, ap, ◌≤◌, reverse, arith, Bool, true, false, if◌then◌else◌, is_some}
use Rattle.indexmap.specs.IndexMap.{index_map_len}
use Rattle.mp_symbols.proofs.NameLemmas.{number_in-within, names_of, number_in-names_of, number_in-not, with_name-present, Adds, Adds-insert}
use Rattle.mp_symbols.proofs.TableLemmas.{is_sound-more}
use Rattle.mp_symbols.proofs.symbols.Symbols.number_of.Goals as goal

pub returns-in-Some-clause-number : goal.returns-in-Some-clause-number
returns-in-Some-clause-number g c =
    rw (← c.self.view_is)
    (number_in-names_of (λ (k : Vec ℕ Global). k.items) c.args.name.now c.self.inside.entries.entries ∙ sym c.in-Some.ensures.index)

pub returns-in-Some-clause-table : goal.returns-in-Some-clause-table
returns-in-Some-clause-table g c =
    rw (← c.self.view_is)
    (ap (λ names. record { names = names; internals = c.self.inside.internals.items; saved = reverse c.self.inside.saved.items })
    (sym (with_name-present (names_of (λ (k : Vec ℕ Global). k.items) c.self.inside.entries.entries) c.args.name.now c.args.fresh c.in-Some.index
    (number_in-names_of (λ (k : Vec ℕ Global). k.items) c.args.name.now c.self.inside.entries.entries ∙ sym c.in-Some.ensures.index))))

added : (g : _) (c : goal.Joined-branch-4 g) → Adds (λ (k : Vec ℕ Global). k.items) c.self.inside.entries.entries c.insert.new.self.entries c.args.name.now c.args.fresh
added g c =
    Adds-insert (λ (k : Vec ℕ Global). k.items) c.self.inside.entries _ c.in_ok-name.name c.args.fresh c.args.name.now c.in_ok-name.ensures.items
    c.in_ok-insert.ensures.entries c.in_default.ensures.found c.in_default.ensures.index

pub returns-clause-number : goal.returns-clause-number
returns-clause-number g c = (added g c).number ∙ ap Some (sym c.len.ensures.len ∙ sym c.in_ok-symbol.ensures)

at_most_one : (b : Bool) → (if b then 0 else 1) ≤ 1
at_most_one true = omega arith
at_most_one false = omega arith

pub invariant_of-self-2 : goal.invariant_of-self-2
invariant_of-self-2 g c =
    let more = at_most_one (is_some c.in_ok-insert.field-0) in (
      c.in_ok-insert.ensures.unique,
      omega (arith, c.in_ok-insert.ensures.len),
      is_sound-more (index_map_len c.self.inside.entries) _ _ _ (reverse c.self.inside.saved.items) (omega (arith, c.in_ok-insert.ensures.len)) (omega arith) c.self.invariant.2,
    )

pub returns-clause-table : goal.returns-clause-table
returns-clause-table g c =
    rw (← c.self.view_is)
    (ap (λ names. record { names = names; internals = c.self.inside.internals.items; saved = reverse c.self.inside.saved.items }) (added g c).names)

pub returns-clause-within : goal.returns-clause-within
returns-clause-within g c = number_in-within _ c.args.name.now c.args.fresh _ (returns-clause-number g c)

pub returns-in_err-symbol-clause-present : goal.returns-in_err-symbol-clause-present
returns-in_err-symbol-clause-present g c =
    rw (← c.self.view_is) (λ there. absurd (number_in-not (λ (k : Vec ℕ Global). k.items) c.args.name.now c.self.inside.entries.entries c.in_default.ensures.index there))

pub returns-in_err-name-clause-present : goal.returns-in_err-name-clause-present
returns-in_err-name-clause-present g c =
    rw (← c.self.view_is) (λ there. absurd (number_in-not (λ (k : Vec ℕ Global). k.items) c.args.name.now c.self.inside.entries.entries c.in_default.ensures.index there))

pub returns-in_err-insert-clause-present : goal.returns-in_err-insert-clause-present
returns-in_err-insert-clause-present g c =
    rw (← c.self.view_is) (λ there. absurd (number_in-not (λ (k : Vec ℕ Global). k.items) c.args.name.now c.self.inside.entries.entries c.in_default.ensures.index there))
